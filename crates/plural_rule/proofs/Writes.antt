-- What the words say after a write of one of them.
use Rattle.std.proofs.Common.{◌≡◌, ◌≢◌, ℕ, zero, suc, ◌+◌, ◌<◌, ◌≤◌, ◌⊎◌, ⊎_elim, List, length, get_or, set, sym, ap, arith, get_or-set_other, get_or-set_same}
use mathlib.Core.Logic.{dite}
use native.Mathlib.Decide.{ℕ_discrete, dec_le}
use Rattle.plural_serial.specs.Program.{ProgramValue}
use Rattle.plural_order.specs.Sums.{sum_below}
use Rattle.plural_rule.specs.Opening.{IsInstance, task_count, quota_of}
use Rattle.plural_rule.specs.Layout.{instances_before, field_at, done_at, counters_at, alloc_at, clock_at, word_count}
use Rattle.plural_rule.specs.Content.{Content, content}
use Rattle.plural_rule.specs.Laws.{PlacesWithin}

-- ---- what stays as it is

-- The words of the memory.
abbrev pub SameMemory : ProgramValue → Content → Content → Type 0
SameMemory p c d = (a : ℕ) → a < p.map.words → d.mem a ≡ c.mem a

-- The alloc words.
abbrev pub SameAlloc : ProgramValue → Content → Content → Type 0
SameAlloc p c d = (t : ℕ) → t < task_count p → d.alloc t ≡ c.alloc t

-- The done words.
abbrev pub SameDone : ProgramValue → Content → Content → Type 0
SameDone p c d = (t k : ℕ) → IsInstance p t k → d.done t k ≡ c.done t k

-- The fields of all records.
abbrev pub SameFields : ProgramValue → Content → Content → Type 0
SameFields p c d = (t k f : ℕ) → IsInstance p t k → f < 7 → d.field t k f ≡ c.field t k f

-- ---- places

-- The sums of f below rising numbers rise by the parts between.
below_step : (f : ℕ → ℕ) (t u : ℕ) → t < u → sum_below f t + f t ≤ sum_below f u
below_step f t zero h = absurd (omega arith)
below_step f t (suc u) h = dite (ℕ_discrete t u)
    (λ e. omega (arith, ap (sum_below f) e, ap f e))
    (λ ne. omega (arith, below_step f t u (omega arith)))

-- The records end before the counters.
pub field_low : (p : ProgramValue) (t k f : ℕ) → IsInstance p t k → f < 8 → field_at p t k f < counters_at p
field_low p t k f i h = let few = i.1 in omega (arith, below_step (quota_of p) t (task_count p) i.0, few, h)

-- Two records lie apart.
records_apart : (p : ProgramValue) (t k u l : ℕ) → IsInstance p t k → IsInstance p u l → instances_before p t + k ≡ instances_before p u + l → (t ≡ u) × (k ≡ l)
records_apart p t k u l i j e =
    let few_k = i.1 in let few_l = j.1 in
    dite (ℕ_discrete t u)
    (λ same. (same, omega (arith, e, ap (sum_below (quota_of p)) same)))
    (λ ne. absurd (dite (dec_le t u)
    (λ le. omega (arith, e, few_k, below_step (quota_of p) t u (omega arith)))
    (λ gt. omega (arith, e, few_l, below_step (quota_of p) u t (omega arith)))))

-- Two fields lie apart.
pub fields_apart : (p : ProgramValue) (t k f u l g : ℕ) → IsInstance p t k → IsInstance p u l → f < 8 → g < 8 → field_at p u l g ≡ field_at p t k f → (t ≡ u) × (k ≡ l) × (f ≡ g)
fields_apart p t k f u l g i j h h' e =
    let same = records_apart p t k u l i j (omega (arith, h, h', e)) in
    (same.0, same.1, omega (arith, e, h, h'))

-- All places are within the words.
pub places_within : PlacesWithin
places_within o run = let p = o.program in record {
  few = omega (arith, run.few_words, run.few_tasks, run.few_instances);
  quotas = λ t h. omega (arith, below_step (quota_of p) t (task_count p) h, run.few_instances);
  mem = λ a h. omega arith;
  fields = λ t k f i h. omega (arith, field_low p t k f i h);
  alloc = λ t h. omega arith;
  flags = λ t h. omega arith;
  left = λ t h. omega arith;
  state = λ t h. omega arith;
  open_deps = λ t h. omega arith;
  clock = omega arith;
}

-- ---- writes

-- A write of a word of the memory.
module _ (p : ProgramValue) (ws : List ℕ) (x a : ℕ) (low : a < p.map.words) where
  -- The word is what was written.
  pub mem_here : length ws ≡ word_count p → (content p (set ws a x)).mem a ≡ x
  mem_here long = get_or-set_same ws a x 0 (omega arith)

  -- Other words of the memory stay.
  pub mem_else : (b : ℕ) → b ≢ a → (content p (set ws a x)).mem b ≡ (content p ws).mem b
  mem_else b n = get_or-set_other ws a b x 0 n

  -- The clock stays.
  pub mem_clock : (content p (set ws a x)).clock ≡ (content p ws).clock
  mem_clock = get_or-set_other ws a (clock_at p) x 0 (λ e. omega arith)

  -- The alloc words stay.
  pub mem_alloc : SameAlloc p (content p ws) (content p (set ws a x))
  mem_alloc u h = get_or-set_other ws a (alloc_at p u) x 0 (λ e. omega arith)

  -- The done words stay.
  pub mem_done : SameDone p (content p ws) (content p (set ws a x))
  mem_done u k i = get_or-set_other ws a (done_at p u k) x 0 (λ e. omega arith)

  -- The records stay.
  pub mem_fields : SameFields p (content p ws) (content p (set ws a x))
  mem_fields u k f i h = get_or-set_other ws a (field_at p u k f) x 0 (λ e. omega arith)

-- A write of a word of the counters or of the clock.
module _ (p : ProgramValue) (ws : List ℕ) (x i : ℕ) (high : counters_at p ≤ i) where
  -- The memory stays.
  pub high_mem : SameMemory p (content p ws) (content p (set ws i x))
  high_mem a h = get_or-set_other ws i a x 0 (λ e. omega arith)

  -- The done words stay.
  pub high_done : SameDone p (content p ws) (content p (set ws i x))
  high_done t k j = get_or-set_other ws i (done_at p t k) x 0 (λ e. omega (arith, e, high, field_low p t k 7 j (omega arith)))

  -- The records stay.
  pub high_fields : SameFields p (content p ws) (content p (set ws i x))
  high_fields t k f j h = get_or-set_other ws i (field_at p t k f) x 0 (λ e. omega (arith, e, high, field_low p t k f j (omega arith)))

-- A write of the clock.
module _ (p : ProgramValue) (ws : List ℕ) (x : ℕ) where
  -- The clock is what was written.
  pub clock_here : length ws ≡ word_count p → (content p (set ws (clock_at p) x)).clock ≡ x
  clock_here long = get_or-set_same ws (clock_at p) x 0 (omega arith)

  -- The alloc words stay.
  pub clock_alloc : SameAlloc p (content p ws) (content p (set ws (clock_at p) x))
  clock_alloc t h = get_or-set_other ws (clock_at p) (alloc_at p t) x 0 (λ e. omega arith)

-- A write of an alloc word.
module _ (p : ProgramValue) (ws : List ℕ) (x t : ℕ) (small : t < task_count p) where
  -- The word is what was written.
  pub alloc_here : length ws ≡ word_count p → (content p (set ws (alloc_at p t) x)).alloc t ≡ x
  alloc_here long = get_or-set_same ws (alloc_at p t) x 0 (omega arith)

  -- Those of other tasks stay.
  pub alloc_else : (u : ℕ) → u ≢ t → (content p (set ws (alloc_at p t) x)).alloc u ≡ (content p ws).alloc u
  alloc_else u n = get_or-set_other ws (alloc_at p t) (alloc_at p u) x 0 (λ e. n (omega arith))

  -- The clock stays.
  pub alloc_clock : (content p (set ws (alloc_at p t) x)).clock ≡ (content p ws).clock
  alloc_clock = get_or-set_other ws (alloc_at p t) (clock_at p) x 0 (λ e. omega arith)

-- A write of a word of a record.
module _ (p : ProgramValue) (ws : List ℕ) (x t k f : ℕ) (i : IsInstance p t k) (few : f < 8) where
  -- The clock stays.
  pub field_clock : (content p (set ws (field_at p t k f) x)).clock ≡ (content p ws).clock
  field_clock = get_or-set_other ws (field_at p t k f) (clock_at p) x 0 (λ e. omega (arith, e, field_low p t k f i few))

  -- The alloc words stay.
  pub field_alloc : SameAlloc p (content p ws) (content p (set ws (field_at p t k f) x))
  field_alloc u h = get_or-set_other ws (field_at p t k f) (alloc_at p u) x 0 (λ e. omega (arith, e, field_low p t k f i few))

  -- The memory stays.
  pub field_mem : SameMemory p (content p ws) (content p (set ws (field_at p t k f) x))
  field_mem a h = get_or-set_other ws (field_at p t k f) a x 0 (λ e. omega arith)

  -- Another word of a record.
  pub field_else : (u l g : ℕ) → IsInstance p u l → g < 8 → ((t ≡ u → k ≡ l → ⊥) ⊎ (g ≢ f)) → get_or (set ws (field_at p t k f) x) (field_at p u l g) 0 ≡ get_or ws (field_at p u l g) 0
  field_else u l g j h n = get_or-set_other ws (field_at p t k f) (field_at p u l g) x 0
      (λ e. let same = fields_apart p t k f u l g i j few h e in ⊎_elim (λ q. q same.0 same.1) (λ q. q (sym same.2)) n)

  -- The word is what was written.
  pub field_here : length ws ≡ word_count p → get_or (set ws (field_at p t k f) x) (field_at p t k f) 0 ≡ x
  field_here long = get_or-set_same ws (field_at p t k f) x 0 (omega (arith, long, field_low p t k f i few))
