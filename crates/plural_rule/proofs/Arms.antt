-- A task is armed, by the seat that owes it; and the steps on the counters, which change no other part of the rule.
use Rattle.std.proofs.Common.{◌≡◌, ◌≢◌, ℕ, ◌+◌, ◌-◌, ◌<◌, ◌≤◌, List, length, get_or, set, sym, refl, ap, ◌∙◌, subst, arith, length-set, get_or-set_other, get_or-set_same}
use mathlib.Core.Logic.{dite}
use native.Mathlib.Decide.{ℕ_discrete}
use mathlib.Core.Option.{some}
use lib.ListN.{get_elem?}
use Rattle.plural_order.specs.Sums.{sign}
use Rattle.plural_counters.specs.declared.duty.Duty.{Duty}
use Rattle.plural_counters.proofs.Sums.{sum_set, below_change}
use Rattle.plural_rule.specs.Opening.{Opening, task_count, quota_of}
use Rattle.plural_rule.specs.Content.{Content}
use Rattle.plural_rule.specs.Stages.{holds, tickets_to_draw, drawn}
use Rattle.plural_rule.specs.Rule.{IsArmed, handed, BegunInTurn, Rule}
use Rattle.plural_rule.specs.Steps.{gives_way, armed}
use Rattle.plural_rule.specs.declared.view.View.{View}
use Rattle.plural_rule.specs.declared.view.Role.TheVariants.{Seat}
use Rattle.plural_rule.proofs.Places.{each_set}
use Rattle.plural_rule.proofs.Writes.{SameMemory, SameAlloc, SameDone, SameFields}
use Rattle.plural_rule.proofs.ViewSums.{sum_kept, handed_no}
use Rattle.plural_rule.proofs.TicketSums.{is_below}
use Rattle.plural_rule.proofs.Parts.{stage_later, lives_same, known_kept, seats_kept, records_kept, values_kept, ended_kept, begun_kept, all_done_same, done_drawn_same, alike_refl, FindsRoots, quiet}
use Rattle.plural_rule.proofs.Claims.{seat_role, seat_same, seat_stays, seat_owes, found_most, found_rose}

-- Duties give way to others, and no word changes but the counters.
pub settles : (o : Opening) (c d : Content) (views : List View) (id : ℕ) (v : View) (core : ℕ) (new rest : List Duty) → get_elem? views id ≡ some v → Rule o c views → v.role ≡ Seat core
    → SameMemory o.program c d → d.clock ≡ c.clock → SameAlloc o.program c d → SameDone o.program c d → SameFields o.program c d → Rule o d (set views id (gives_way v new rest))
settles o c d views id v core new rest at r seat mem clock alloc done fields =
    let w : View = gives_way v new rest in
    quiet o c d views id v w at r mem clock alloc done fields refl (alike_refl o v.stage)
    (seat_same o v w core seat refl refl refl refl refl (r.known id v at).role) (seat_owes w core seat)
    (λ u l start end reads noted f x i st few e. fields u l f i few ∙ r.records.noted id v at u l start end reads noted f x i st few e)
    refl (λ u h. r.found.most id v at u h) (λ u h. omega arith)

module _ (o : Opening) (c d : Content) (views : List View) (id : ℕ) (v : View) (core t : ℕ) (rest : List Duty) (at : get_elem? views id ≡ some v) (r : Rule o c views) (seat : v.role ≡ Seat core)
    (small : t < task_count o.program) (was : c.alloc t ≡ 0) (may : IsArmed o c.done t) (now : d.alloc t ≡ 1) (alloc : (u : ℕ) → u ≢ t → d.alloc u ≡ c.alloc u)
    (mem : SameMemory o.program c d) (clock : d.clock ≡ c.clock) (done : SameDone o.program c d) (fields : SameFields o.program c d) where
  abbrev w : View
  w = armed v t rest

  in_range : t < length v.found
  in_range = omega (arith, small, (seat_role o v core seat (r.known id v at).role).0.found)

  alloc_rose : (u : ℕ) → u < task_count o.program → c.alloc u ≤ d.alloc u
  alloc_rose u h = dite (ℕ_discrete u t) (λ e. subst (λ (x : ℕ). c.alloc x ≤ d.alloc x) (sym e) (omega (arith, was))) (λ ne. omega (arith, alloc u ne))

  armed_then : (u : ℕ) → IsArmed o c.done u → IsArmed o d.done u
  armed_then u p = record { runs = p.runs; past = λ x y ran b. omega (arith, done x y (r.run.instances x y ran), p.past x y ran b) }

  -- The rule is kept.
  pub arms : Rule o d (set views id (armed v t rest))
  arms = record {
    run = r.run;
    known = known_kept o c d views id v w at r.known (omega (arith, clock)) (record {
      role = seat_stays o v w core seat refl refl (length-set v.found t 1) refl refl (r.known id v at).role;
      stage = stage_later o c.clock d.clock v.stage (omega (arith, clock)) (r.known id v at).stage;
    });
    tasks = record {
      few = λ u h. dite (ℕ_discrete u t) (λ e. subst (λ (x : ℕ). d.alloc x ≤ 1 + quota_of o.program x) (sym e) (omega (arith, now))) (λ ne. omega (arith, alloc u ne, r.tasks.few u h));
      armed = λ u h a. dite (ℕ_discrete u t)
          (λ e. subst (λ (x : ℕ). IsArmed o d.done x) (sym e) (armed_then t may))
          (λ ne. armed_then u (r.tasks.armed u h (omega (arith, alloc u ne, a))));
    };
    held = λ u l i. omega (
      arith,
      sum_kept (λ (x : View). holds x.stage u l) views id v w at refl,
      r.held u l i,
      ap sign (done u l i),
      dite (ℕ_discrete u t)
          (λ e. ap (λ n. handed (d.alloc n) l) e ∙ (handed_no (d.alloc t) l (omega (arith, now)) ∙ sym (ap (λ n. handed (c.alloc n) l) e ∙ handed_no (c.alloc t) l (omega (arith, was)))))
          (λ ne. ap (λ n. handed n l) (alloc u ne)),
    );
    found = record {
      most = each_set (λ u. (x : ℕ) → x < task_count o.program → get_or u.found x 0 ≤ c.alloc x) (λ u. (x : ℕ) → x < task_count o.program → get_or u.found x 0 ≤ d.alloc x) views id w r.found.most
          (λ u old x h. omega (arith, old x h, alloc_rose x h))
          (found_most d.alloc (task_count o.program) v.found t 1 (λ u h. omega (arith, r.found.most id v at u h, alloc_rose u h)) in_range (omega (arith, now)));
      some = λ u h a. let sum = sum_set (λ (x : View). get_or x.found u 0) views id v w at in dite (ℕ_discrete u t)
          (λ e. let one : get_or (set v.found t 1) u 0 ≡ 1 = subst (λ (n : ℕ). get_or (set v.found t 1) n 0 ≡ 1) (sym e) (get_or-set_same v.found t 1 0 in_range) in
          let none : get_or v.found u 0 ≡ 0 = subst (λ (n : ℕ). get_or v.found n 0 ≡ 0) (sym e) (omega (arith, r.found.most id v at t small, was)) in
          omega (arith, sum, one, none))
          (λ ne. omega (arith, sum, get_or-set_other v.found t u 1 0 ne, r.found.some u h (omega (arith, alloc u ne, a))));
      roots = each_set (FindsRoots o) (FindsRoots o) views id w r.found.roots (λ u q. q)
          (λ u h within none. let rose = found_rose v.found t 1 in_range (omega (arith, r.found.most id v at t small, was)) u in omega (arith, r.found.roots id v at u h (omega (arith, within, length-set v.found t 1)) none, rose));
    };
    seats = seats_kept o c d views id v w at r.seats refl (seat_owes w core seat);
    tickets = record {
      count =
          let changed = below_change (λ u. c.alloc u - 1) (λ u. d.alloc u - 1) (task_count o.program) t small (λ u h ne. ap (λ n. n - 1) (sym (alloc u ne))) in
          omega (arith, r.tickets.count, clock, was, now, changed, sum_kept (λ (x : View). tickets_to_draw x.stage) views id v w at refl);
      once = λ x. omega (arith, r.tickets.once x, sum_kept (λ (u : View). drawn x u.stage) views id v w at refl, all_done_same o c d x (done_drawn_same o c d x done fields), ap (is_below x) clock);
      ended = ended_kept o c d done (λ u l f i e few. fields u l f i few) r.tickets.ended;
      begun = each_set (BegunInTurn o c) (BegunInTurn o d) views id w r.tickets.begun (λ u. begun_kept o c d u u done (λ x y f i e few. fields x y f i few) refl (λ x y s st. st)) (begun_kept o c d v w done (λ x y f i e few. fields x y f i few) refl (λ x y s st. st) (r.tickets.begun id v at));
    };
    records = records_kept o c d views id v w at r.records done fields (λ u l start end reads noted f x i st few e. fields u l f i few ∙ r.records.noted id v at u l start end reads noted f x i st few e);
    values = values_kept o c d views id v w at r.values mem (λ u l i. omega arith) done r.run (lives_same o c.mem d.mem v.stage mem (r.values.lives id v at));
  }
