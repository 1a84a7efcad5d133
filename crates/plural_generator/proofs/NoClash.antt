-- The map of the large filter bundle has no clash: chains of dependencies lead from each task to each later one, but for
-- the two branches, which exclude each other; and instances of one task write apart.
use Rattle.std.proofs.Common.{◌≡◌, ◌≢◌, ◌⊎◌, ℕ, zero, suc, ◌<◌, ◌≤◌, true, Some, None, List, [], ◌∷◌, get_or, refl, sym, subst, inl, inr, arith}
use Rattle.std.specs.Prelude.{slice_get}
use Rattle.std.proofs.lemmas.Bool.{cases_eq, cases_order}
use Rattle.std.proofs.lemmas.Bool.Decides.{nat_tests}
use Rattle.std.proofs.lemmas.Option.{slice_get_cases}
use Rattle.plural_regions.specs.Rights.{InReads, InWrites, may_read, may_write}
use Rattle.plural_regions.proofs.Regions.{reads_iff, writes_iff}
use Rattle.plural_map.specs.Value.{TaskValue}
use Rattle.plural_reach.specs.Chains.{DependsOn, Before}
use Rattle.plural_reach.specs.Branches.{NeedsCode, Exclusive}
use Rattle.plural_crew.proofs.ClashLemmas.{quota_past}
use Rattle.plural_crew.specs.Clashes.{regions_of, quota_of, MayOverlap, IsClash, IsAccepted}
use Rattle.plural_generator.specs.Tasks.{fir_task, top_task, loud_task, quiet_task, made_tasks, made_map}
use Rattle.plural_generator.specs.Laws.{MadeAccepted}

-- What holds of each number below six holds of all of them.
below_six : (P : ℕ → Type 0) → P 0 → P 1 → P 2 → P 3 → P 4 → P 5 → (t : ℕ) → t < 6 → P t
below_six P a b c d e f zero h = a
below_six P a b c d e f (suc zero) h = b
below_six P a b c d e f (suc (suc zero)) h = c
below_six P a b c d e f (suc (suc (suc zero))) h = d
below_six P a b c d e f (suc (suc (suc (suc zero)))) h = e
below_six P a b c d e f (suc (suc (suc (suc (suc zero))))) h = f
below_six P a b c d e f (suc (suc (suc (suc (suc (suc t)))))) h = absurd (omega (arith, h))

-- ---- which tasks come before which

-- What comes before a task that another depends on comes before that one.
through : (t w u : ℕ) → Before made_tasks t w → DependsOn made_tasks u w → Before made_tasks t u
through t w u b d = (w ∷ b.0, (d, b.1))

before_top : (t : ℕ) → t < 1 → Before made_tasks t 1
before_top t h = let e : t ≡ 0 = omega (arith, h) in rw e ([], refl)

before_best : (t : ℕ) → t < 2 → Before made_tasks t 2
before_best t h = by_last (cases_eq t 1)
  where
    by_last : (t ≡ 1) ⊎ (t ≡ 1 → ⊥) → Before made_tasks t 2
    by_last (inl e) = rw e ([], refl)
    by_last (inr n) = through t 1 2 (before_top t (grind arith)) refl

before_loud : (t : ℕ) → t < 3 → Before made_tasks t 3
before_loud t h = by_last (cases_eq t 2)
  where
    by_last : (t ≡ 2) ⊎ (t ≡ 2 → ⊥) → Before made_tasks t 3
    by_last (inl e) = rw e ([], refl)
    by_last (inr n) = through t 2 3 (before_best t (grind arith)) refl

before_quiet : (t : ℕ) → t < 3 → Before made_tasks t 4
before_quiet t h = by_last (cases_eq t 2)
  where
    by_last : (t ≡ 2) ⊎ (t ≡ 2 → ⊥) → Before made_tasks t 4
    by_last (inl e) = rw e ([], refl)
    by_last (inr n) = through t 2 4 (before_best t (grind arith)) refl

before_done : (t : ℕ) → t < 5 → Before made_tasks t 5
before_done t h = by_quiet (cases_eq t 4)
  where
    by_loud : (t ≡ 4 → ⊥) → (t ≡ 3) ⊎ (t ≡ 3 → ⊥) → Before made_tasks t 5
    by_loud m (inl e) = rw e ([], refl)
    by_loud m (inr n) = through t 3 5 (before_loud t (grind arith)) refl

    by_quiet : (t ≡ 4) ⊎ (t ≡ 4 → ⊥) → Before made_tasks t 5
    by_quiet (inl e) = rw e ([], refl)
    by_quiet (inr n) = by_loud n (cases_eq t 3)

-- ---- the two branches

loud_needs : NeedsCode made_tasks 3 2 1
loud_needs sets closed = closed.has_given 3 2 1 loud_task refl refl

quiet_needs : NeedsCode made_tasks 4 2 0
quiet_needs sets closed = closed.has_given 4 2 0 quiet_task refl refl

branches_exclude : Exclusive made_tasks 3 4
branches_exclude = (λ e. omega (arith, e), 2, inr (loud_needs, quiet_needs))

exclusive_swap : (tasks : List TaskValue) (t u : ℕ) → Exclusive tasks t u → Exclusive tasks u t
exclusive_swap tasks t u h = (λ e. h.0 (sym e), h.1, by_code h.2)
  where
    by_code : (NeedsCode tasks t h.1 0 × NeedsCode tasks u h.1 1) ⊎ (NeedsCode tasks t h.1 1 × NeedsCode tasks u h.1 0) → (NeedsCode tasks u h.1 0 × NeedsCode tasks t h.1 1) ⊎ (NeedsCode tasks u h.1 1 × NeedsCode tasks t h.1 0)
    by_code (inl n) = inr (n.1, n.0)
    by_code (inr n) = inl (n.1, n.0)

-- ---- different tasks

-- Of the second branch and an earlier task, the task comes before it, or is the first branch.
quiet_apart : (t : ℕ) → t < 4 → Before made_tasks t 4 ⊎ Exclusive made_tasks t 4
quiet_apart t h = by_branch (cases_eq t 3)
  where
    by_branch : (t ≡ 3) ⊎ (t ≡ 3 → ⊥) → Before made_tasks t 4 ⊎ Exclusive made_tasks t 4
    by_branch (inl e) = inr (rw e branches_exclude)
    by_branch (inr n) = inl (before_quiet t (grind arith))

-- Of two tasks the earlier comes before the later, or they exclude each other.
kept_apart : (t u : ℕ) → t < u → u < 6 → Before made_tasks t u ⊎ Exclusive made_tasks t u
kept_apart t u l h =
    below_six (λ (v : ℕ). t < v → Before made_tasks t v ⊎ Exclusive made_tasks t v)
    (λ s. absurd (omega (arith, s))) (λ s. inl (before_top t s)) (λ s. inl (before_best t s)) (λ s. inl (before_loud t s)) (quiet_apart t) (λ s. inl (before_done t s))
    u h l

-- So different tasks never run at the same time.
never_overlap : (t u : ℕ) → t < u → u < 6 → (Before made_tasks t u → ⊥) → (Exclusive made_tasks t u → ⊥) → ⊥
never_overlap t u l h no_chain no_branch = by_kind (kept_apart t u l h)
  where
    by_kind : Before made_tasks t u ⊎ Exclusive made_tasks t u → ⊥
    by_kind (inl b) = no_chain b
    by_kind (inr e) = no_branch e

-- ---- instances of one task

fir_writes_apart : (k l a : ℕ) → k < 1024 → l < 1024 → (k ≡ l → ⊥) → may_write fir_task.regions k a ≡ true → may_read fir_task.regions l a ≡ true → ⊥
fir_writes_apart k l a hk hl n w r = by_order (cases_order k l)
  where
    by_order : (k ≡ l) ⊎ ((k < l) ⊎ (l < k)) → ⊥
    by_order (inl e) = n e
    by_order (inr (inl s)) = grind (arith, nat_tests)
    by_order (inr (inr s)) = grind (arith, nat_tests)

top_writes_apart : (k l a : ℕ) → k < 8 → l < 8 → (k ≡ l → ⊥) → may_write top_task.regions k a ≡ true → may_read top_task.regions l a ≡ true → ⊥
top_writes_apart k l a hk hl n w r = by_order (cases_order k l)
  where
    by_order : (k ≡ l) ⊎ ((k < l) ⊎ (l < k)) → ⊥
    by_order (inl e) = n e
    by_order (inr (inl s)) = grind (arith, nat_tests)
    by_order (inr (inr s)) = grind (arith, nat_tests)

-- Of two instances of one task neither may read what the other may write.
abbrev WritesApart : ℕ → Type 0
WritesApart t = (k l a : ℕ) → k < quota_of made_tasks t → l < quota_of made_tasks t → (k ≡ l → ⊥) → InWrites (regions_of made_tasks t) k a → InReads (regions_of made_tasks t) l a → ⊥

-- A task's number is below six, since it has an instance.
number_below : (t k : ℕ) → k < quota_of made_tasks t → t < 6
number_below t k h = by_task (slice_get_cases made_tasks t).1
  where
    by_task : ((x : TaskValue) × (t < 6) × (slice_get made_tasks t ≡ Some x) × (get_or made_tasks t x ≡ x)) ⊎ ((6 ≤ t) × (slice_get made_tasks t ≡ None)) → t < 6
    by_task (inl c) = c.1
    by_task (inr c) = absurd (omega (arith, h, quota_past made_tasks t c.0))

fir_apart : WritesApart 0
fir_apart k l a hk hl n w r = fir_writes_apart k l a hk hl n ((writes_iff fir_task.regions k a).1 w) ((reads_iff fir_task.regions l a).1 r)

top_apart : WritesApart 1
top_apart k l a hk hl n w r = top_writes_apart k l a hk hl n ((writes_iff top_task.regions k a).1 w) ((reads_iff top_task.regions l a).1 r)

-- A task of one instance has no other.
one_apart : (t : ℕ) → quota_of made_tasks t ≡ 1 → WritesApart t
one_apart t e k l a hk hl n w r = n (omega (arith, hk, hl, e))

writes_apart : (t : ℕ) → t < 6 → WritesApart t
writes_apart = below_six WritesApart fir_apart top_apart (one_apart 2 refl) (one_apart 3 refl) (one_apart 4 refl) (one_apart 5 refl)

-- ---- the map

-- Two instances of one task don't clash.
same_task : (t k l a : ℕ) → IsClash made_tasks t k t l a → ⊥
same_task t k l a h = by_writer h.writes
  where
    differ : k ≡ l → ⊥
    differ e = by_difference h.differ
      where
        by_difference : (t ≢ t) ⊎ (k ≢ l) → ⊥
        by_difference (inl n) = n refl
        by_difference (inr n) = n e

    by_writer : InWrites (regions_of made_tasks t) k a ⊎ InWrites (regions_of made_tasks t) l a → ⊥
    by_writer (inl w) = writes_apart t (number_below t k h.first) k l a h.first h.second differ w h.second_reads
    by_writer (inr w) = writes_apart t (number_below t l h.second) l k a h.second h.first (λ e. differ (sym e)) w h.first_reads

-- Instances of different tasks don't clash.
different_tasks : (t k u l a : ℕ) → (t < u) ⊎ (u < t) → IsClash made_tasks t k u l a → ⊥
different_tasks t k u l a order h = by_overlap order h.overlap
  where
    by_overlap : (t < u) ⊎ (u < t) → MayOverlap made_tasks t u → ⊥
    by_overlap (inl s) (inl e) = absurd (omega (arith, s, e))
    by_overlap (inl s) (inr o) = never_overlap t u s (number_below u l h.second) o.0 o.2
    by_overlap (inr s) (inl e) = absurd (omega (arith, s, e))
    by_overlap (inr s) (inr o) = never_overlap u t s (number_below t k h.first) o.1 (λ x. o.2 (exclusive_swap made_tasks u t x))

tasks_accepted : IsAccepted made_tasks
tasks_accepted t k u l a h = by_order (cases_order t u)
  where
    by_order : (t ≡ u) ⊎ ((t < u) ⊎ (u < t)) → ⊥
    by_order (inl e) = same_task t k l a (subst (λ (v : ℕ). IsClash made_tasks t k v l a) (sym e) h)
    by_order (inr o) = different_tasks t k u l a o h

-- The map of the large filter bundle has no clash.
pub made_accepted : MadeAccepted
unfolding made_map
made_accepted = tasks_accepted
