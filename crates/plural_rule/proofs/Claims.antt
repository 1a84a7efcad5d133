-- Loads and exchanges of an alloc word: what is found, and an instance handed out.
use Rattle.std.proofs.Common.{◌≡◌, ◌≢◌, ℕ, ◌+◌, ◌-◌, ◌<◌, ◌≤◌, List, length, get_or, set, sym, refl, ap, ◌∙◌, subst, ⊎_elim, arith, length-set, get_or-set_other, get_or-set_same}
use mathlib.Core.Logic.{dite}
use native.Mathlib.Decide.{ℕ_discrete, dec_le}
use mathlib.Core.Option.{some}
use lib.ListN.{get_elem?}
use Rattle.plural_order.specs.Sums.{sign}
use Rattle.plural_counters.specs.Duties.{one_if_pair}
use Rattle.plural_counters.proofs.Sums.{sum_set, pair_same, pair_cases, below_change}
use Rattle.plural_rule.specs.Opening.{Opening, IsInstance, task_count, quota_of}
use Rattle.plural_rule.specs.Content.{Content}
use Rattle.plural_rule.specs.Stages.{holds, has_begun, tickets_to_draw, drawn, IsStage}
use Rattle.plural_rule.specs.Rule.{IsViewOf, IsRole, OwesAsRole, handed, BegunInTurn, LivesAsRun, Rule}
use Rattle.plural_rule.specs.Steps.{looked, lost, took}
use Rattle.plural_rule.specs.declared.view.View.{View}
use Rattle.plural_rule.specs.declared.view.Stage.{Stage}
use Rattle.plural_rule.specs.declared.view.Stage.TheVariants.{Free, Got}
use Rattle.plural_rule.specs.declared.view.Role.{Role}
use Rattle.plural_rule.specs.declared.view.Role.TheVariants.{Seat}
use Rattle.plural_rule.proofs.Writes.{SameMemory, SameDone, SameFields}
use Rattle.plural_rule.proofs.ViewSums.{handed_yes, handed_no}
use Rattle.plural_rule.proofs.TicketSums.{is_below}
use Rattle.plural_rule.proofs.Parts.{known_kept, found_kept, seats_kept, records_kept, values_kept, ended_kept, begun_kept, begun_idle, noted_idle, all_done_same, done_drawn_same, Alike, alike_refl, quiet}
use Rattle.plural_rule.proofs.Places.{each_set}

-- ---- seats

-- What a seat is.
pub seat_role : (o : Opening) (v : View) (core : ℕ) → v.role ≡ Seat core → IsRole o v v.role → IsViewOf o v × (core < o.cores)
seat_role o v core seat is = subst (λ (r : Role). IsRole o v r) seat is

-- It stays one if it has as many numbers for the tasks.
pub seat_stays : (o : Opening) (v w : View) (core : ℕ) → v.role ≡ Seat core → w.role ≡ v.role → w.opening ≡ v.opening → length w.found ≡ length v.found → length w.looks ≡ length v.looks → length w.losses ≡ length v.losses → IsRole o v v.role → IsRole o w w.role
seat_stays o v w core seat role opening found looks losses is =
    let was = seat_role o v core seat is in let of = was.0 in
    subst (λ (r : Role). IsRole o w r) (sym (role ∙ seat)) (record { opening = opening ∙ of.opening; found = found ∙ of.found; looks = looks ∙ of.looks; losses = losses ∙ of.losses }, was.1)

-- So it does if it finds nothing.
pub seat_same : (o : Opening) (v w : View) (core : ℕ) → v.role ≡ Seat core → w.role ≡ v.role → w.opening ≡ v.opening → w.found ≡ v.found → w.looks ≡ v.looks → w.losses ≡ v.losses → IsRole o v v.role → IsRole o w w.role
seat_same o v w core seat role opening found looks losses is = seat_stays o v w core seat role opening (ap length found) (ap length looks) (ap length losses) is

-- A seat may owe.
pub seat_owes : (w : View) (core : ℕ) → w.role ≡ Seat core → OwesAsRole w w.role
seat_owes w core seat = subst (λ (r : Role). OwesAsRole w r) (sym seat) tt

-- ---- what is found

-- A number found at one task, and the others as they were.
pub found_most : (f : ℕ → ℕ) (n : ℕ) (found : List ℕ) (t x : ℕ) → ((u : ℕ) → u < n → get_or found u 0 ≤ f u) → t < length found → x ≤ f t → (u : ℕ) → u < n → get_or (set found t x) u 0 ≤ f u
found_most f n found t x h in_range le u small = dite (ℕ_discrete u t)
    (λ e. subst (λ (y : ℕ). get_or (set found t x) y 0 ≤ f y) (sym e) (omega (arith, get_or-set_same found t x 0 in_range)))
    (λ ne. omega (arith, get_or-set_other found t u x 0 ne, h u small))

-- No number falls.
pub found_rose : (found : List ℕ) (t x : ℕ) → t < length found → get_or found t 0 ≤ x → (u : ℕ) → get_or found u 0 ≤ get_or (set found t x) u 0
found_rose found t x in_range le u = dite (ℕ_discrete u t)
    (λ e. subst (λ (y : ℕ). get_or found y 0 ≤ get_or (set found t x) y 0) (sym e) (omega (arith, get_or-set_same found t x 0 in_range)))
    (λ ne. omega (arith, get_or-set_other found t u x 0 ne))

module _ (o : Opening) (c : Content) (views : List View) (id : ℕ) (v : View) (core t : ℕ) (at : get_elem? views id ≡ some v) (r : Rule o c views) (seat : v.role ≡ Seat core) (small : t < task_count o.program) where
  long : length v.found ≡ task_count o.program
  long = (seat_role o v core seat (r.known id v at).role).0.found

  -- A view finds what the word is.
  finds : (w : View) → w.role ≡ v.role → w.opening ≡ v.opening → w.stage ≡ v.stage → length w.looks ≡ length v.looks → length w.losses ≡ length v.losses → w.found ≡ set v.found t (c.alloc t) → Rule o c (set views id w)
  finds w role opening stage looks losses found =
      let most : (u : ℕ) → u < task_count o.program → get_or w.found u 0 ≤ c.alloc u = λ u h. omega (arith, ap (λ (l : List ℕ). get_or l u 0) found, found_most c.alloc (task_count o.program) v.found t (c.alloc t) (r.found.most id v at) (omega (arith, long)) (omega arith) u h) in
      let rose : (u : ℕ) → u < task_count o.program → get_or v.found u 0 ≤ get_or w.found u 0 = λ u h. omega (arith, ap (λ (l : List ℕ). get_or l u 0) found, found_rose v.found t (c.alloc t) (omega (arith, long)) (r.found.most id v at t small) u) in
      quiet o c c views id v w at r (λ a h. refl) refl (λ u h. refl) (λ u l i. refl) (λ u l f i h. refl) role
      (subst (λ (s : Stage). Alike o v.stage s) (sym stage) (alike_refl o v.stage))
      (seat_stays o v w core seat role opening (ap length found ∙ length-set v.found t (c.alloc t)) looks losses (r.known id v at).role)
      (seat_owes w core (role ∙ seat))
      (λ u l start end reads noted f x i st few e. r.records.noted id v at u l start end reads noted f x i (sym stage ∙ st) few e)
      (ap length found ∙ length-set v.found t (c.alloc t)) most rose

  -- A load of the word.
  pub looks : Rule o c (set views id (looked v t (c.alloc t)))
  looks = finds (looked v t (c.alloc t)) refl refl refl (length-set v.looks t (get_or v.looks t 0 + 1)) refl refl

  -- An exchange that is lost.
  pub loses : Rule o c (set views id (lost v t (c.alloc t)))
  loses = finds (lost v t (c.alloc t)) refl refl refl refl (length-set v.losses t (get_or v.losses t 0 + 1)) refl

-- One instance more was handed out, and no other.
handed_on : (n k l : ℕ) → k + 1 ≡ n → l ≢ k → handed (n + 1) l ≡ handed n l
handed_on n k l e ne = dite (dec_le n (l + 1))
    (λ h. handed_no (n + 1) l (omega arith) ∙ sym (handed_no n l h))
    (λ h. handed_yes (n + 1) l (omega arith) ∙ sym (handed_yes n l (omega arith)))

-- An exchange that goes through.
module _ (o : Opening) (c d : Content) (views : List View) (id : ℕ) (v : View) (core t k : ℕ) (at : get_elem? views id ≡ some v) (r : Rule o c views) (seat : v.role ≡ Seat core) (free : v.stage ≡ Free)
    (inst : IsInstance o.program t k) (was : c.alloc t ≡ k + 1) (now : d.alloc t ≡ k + 2) (alloc : (u : ℕ) → u ≢ t → d.alloc u ≡ c.alloc u)
    (mem : SameMemory o.program c d) (clock : d.clock ≡ c.clock) (done : SameDone o.program c d) (fields : SameFields o.program c d) where
  abbrev w : View
  w = took v t (k + 1)

  stage : w.stage ≡ Got t k
  stage = ap (λ (n : ℕ). Got t n) (omega arith)

  alloc_rose : (u : ℕ) → u < task_count o.program → c.alloc u ≤ d.alloc u
  alloc_rose u h = dite (ℕ_discrete u t) (λ e. subst (λ (x : ℕ). c.alloc x ≤ d.alloc x) (sym e) (omega (arith, was, now))) (λ ne. omega (arith, alloc u ne))

  armed_before : (u : ℕ) → u < task_count o.program → 1 ≤ d.alloc u → 1 ≤ c.alloc u
  armed_before u h a = dite (ℕ_discrete u t) (λ e. subst (λ (x : ℕ). 1 ≤ c.alloc x) (sym e) (omega (arith, was))) (λ ne. omega (arith, alloc u ne, a))

  in_range : t < length v.found
  in_range = omega (arith, inst.0, (seat_role o v core seat (r.known id v at).role).0.found)

  found_less : get_or v.found t 0 ≤ (k + 1) + 1
  found_less = omega (arith, r.found.most id v at t inst.0, was)

  -- The rule is kept.
  pub hands_out : Rule o d (set views id (took v t (k + 1)))
  hands_out =
      let begun : (u l : ℕ) → has_begun w.stage u l ≡ has_begun v.stage u l = λ u l. ap (λ s. has_begun s u l) stage ∙ sym (ap (λ s. has_begun s u l) free) in
      record {
        run = r.run;
        known = known_kept o c d views id v w at r.known (omega (arith, clock)) (record {
          role = seat_stays o v w core seat refl refl (length-set v.found t ((k + 1) + 1)) refl refl (r.known id v at).role;
          stage = subst (λ (s : Stage). IsStage o d.clock s) (sym stage) inst;
        });
        tasks = record {
          few = λ u h. dite (ℕ_discrete u t) (λ e. subst (λ (x : ℕ). d.alloc x ≤ 1 + quota_of o.program x) (sym e) (omega (arith, now, inst.1))) (λ ne. omega (arith, alloc u ne, r.tasks.few u h));
          armed = λ u h a. let p = r.tasks.armed u h (armed_before u h a) in
              record { runs = p.runs; past = λ x y ran b. omega (arith, done x y (r.run.instances x y ran), p.past x y ran b) };
        };
        held = λ u l i. let before = r.held u l i in let sum = sum_set (λ (x : View). holds x.stage u l) views id v w at in
            let none : holds v.stage u l ≡ 0 = ap (λ s. holds s u l) free in
            let this : holds w.stage u l ≡ one_if_pair t k u l = ap (λ s. holds s u l) stage in
            let signs = ap sign (done u l i) in
            ⊎_elim
            (λ p. let one : one_if_pair t k u l ≡ 1 = pair_same t k u l p.0 p.1 in
            let not_yet : handed (c.alloc u) l ≡ 0 = handed_no (c.alloc u) l (omega (arith, ap c.alloc p.0, was, p.1)) in
            let yet : handed (d.alloc u) l ≡ 1 = handed_yes (d.alloc u) l (omega (arith, ap d.alloc p.0, now, p.1)) in
            omega (arith, before, sum, none, this, signs, one, not_yet, yet))
            (λ (z : one_if_pair t k u l ≡ 0).
            let same : handed (d.alloc u) l ≡ handed (c.alloc u) l = dite (ℕ_discrete u t)
            (λ e. let apart : l ≢ k = λ f. absurd (omega (arith, z, pair_same t k u l (sym e) (sym f))) in
            let one_more : d.alloc t ≡ c.alloc t + 1 = omega (arith, was, now) in
            ap (λ n. handed n l) (ap d.alloc e ∙ one_more) ∙ (handed_on (c.alloc t) k l (sym was) apart ∙ ap (λ n. handed (c.alloc n) l) (sym e)))
            (λ ne. ap (λ n. handed n l) (alloc u ne)) in
            omega (arith, before, sum, none, this, signs, z, same))
            (pair_cases t k u l);
        found = found_kept o c d views id v w at r.found alloc_rose armed_before (length-set v.found t ((k + 1) + 1))
            (found_most d.alloc (task_count o.program) v.found t ((k + 1) + 1) (λ u h. omega (arith, r.found.most id v at u h, alloc_rose u h)) in_range (omega (arith, now)))
            (λ u h. found_rose v.found t ((k + 1) + 1) in_range found_less u);
        seats = seats_kept o c d views id v w at r.seats refl (seat_owes w core seat);
        tickets = record {
          count =
              let changed = below_change (λ u. c.alloc u - 1) (λ u. d.alloc u - 1) (task_count o.program) t inst.0 (λ u h ne. ap (λ n. n - 1) (sym (alloc u ne))) in
              omega (arith, changed, was, now, clock, r.tickets.count, sum_set (λ (x : View). tickets_to_draw x.stage) views id v w at, ap tickets_to_draw stage, ap tickets_to_draw free);
          once = λ x. omega (arith, r.tickets.once x, sum_set (λ (u : View). drawn x u.stage) views id v w at, ap (drawn x) stage, ap (drawn x) free, all_done_same o c d x (done_drawn_same o c d x done fields), ap (λ n. is_below x n) clock);
          ended = ended_kept o c d done (λ u l f i e few. fields u l f i few) r.tickets.ended;
          begun = each_set (BegunInTurn o c) (BegunInTurn o d) views id w r.tickets.begun (λ u. begun_kept o c d u u done (λ x y f i e few. fields x y f i few) refl (λ x y s st. st)) (begun_idle o d w tt);
        };
        records = records_kept o c d views id v w at r.records done fields (noted_idle o d w tt);
        values = values_kept o c d views id v w at r.values mem (λ u l i. omega (arith, begun u l)) done r.run (subst (λ (s : Stage). LivesAsRun o d.mem s) (sym stage) tt);
      }
