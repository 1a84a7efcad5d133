-- An instance ends, and the fields of its record are noted.
use Rattle.std.proofs.Common.{◌≡◌, ◌≢◌, ℕ, ◌+◌, ◌-◌, ◌*◌, ◌<◌, ◌⊎◌, List, [], ◌∷◌, length, get_or, set, sym, refl, ap, ◌∙◌, subst, inl, inr, ⊎_elim, arith, Option, Some, None, cond, eq-eqb, ne_eqb}
use mathlib.Core.Logic.{dite}
use native.Mathlib.Decide.{ℕ_discrete}
use mathlib.Core.Option.{some}
use lib.ListN.{get_elem?}
use Rattle.plural_order.specs.World.{value_at}
use Rattle.plural_order.specs.Sums.{sum_over, sum_below}
use Rattle.plural_counters.specs.Duties.{one_if_pair}
use Rattle.plural_counters.proofs.Sums.{sum_set, pair_same, pair_cases}
use Rattle.plural_rule.specs.Opening.{Opening, IsInstance, world_in, stores_of, task_count}
use Rattle.plural_rule.specs.Content.{Content}
use Rattle.plural_rule.specs.Stages.{holds, has_begun, tickets_to_draw, drawn, StartsAt, IsStage, noted_of}
use Rattle.plural_rule.specs.Rule.{done_drawn, all_done_drawn, BegunInTurn, IsNoted, LivesAsRun, Rule}
use Rattle.plural_rule.specs.Steps.{ended_at, ended, one_note, did_note}
use Rattle.plural_rule.specs.declared.view.View.{View}
use Rattle.plural_rule.specs.declared.view.Stage.{Stage}
use Rattle.plural_rule.specs.declared.view.Stage.TheVariants.{Free, Got, Begun, Ended}
use Rattle.plural_rule.specs.declared.view.Role.TheVariants.{Seat}
use Rattle.plural_rule.proofs.Places.{at_set, each_set}
use Rattle.plural_rule.proofs.Writes.{SameMemory, SameAlloc, SameDone, SameFields}
use Rattle.plural_rule.proofs.ViewSums.{terms_at}
use Rattle.plural_rule.proofs.TicketSums.{is_below, undone_drawn}
use Rattle.plural_rule.proofs.Live.{IsLive, held_once}
use Rattle.plural_rule.proofs.Parts.{count_kept, all_done_same, known_kept, tasks_kept, held_kept, found_same, seats_kept, records_kept, values_kept, ended_kept, begun_kept, lives_same}
use Rattle.plural_rule.proofs.Claims.{seat_same, seat_owes}
use Rattle.plural_rule.proofs.Begins.{tickets_more}

-- What an ended stage says: its instance, and what it noted.
abbrev task_in : Stage → ℕ
task_in Free = 0
task_in (Got n m) = 0
task_in (Begun n m s made reads) = 0
task_in (Ended n m s e reads noted) = n

abbrev number_in : Stage → ℕ
number_in Free = 0
number_in (Got n m) = 0
number_in (Begun n m s made reads) = 0
number_in (Ended n m s e reads noted) = m

abbrev noted_in : Stage → List (ℕ × ℕ)
noted_in Free = []
noted_in (Got n m) = []
noted_in (Begun n m s made reads) = []
noted_in (Ended n m s e reads noted) = noted

-- An instance ends: all its stores are made.
module _ (o : Opening) (c d : Content) (views : List View) (id : ℕ) (v : View) (core t k start made n : ℕ) (at : get_elem? views id ≡ some v) (r : Rule o c views) (seat : v.role ≡ Seat core)
    (begun : v.stage ≡ Begun t k start made n) (all : made ≡ length (stores_of o t k))
    (clock : d.clock ≡ c.clock + 1) (mem : SameMemory o.program c d) (alloc : SameAlloc o.program c d) (done : SameDone o.program c d) (fields : SameFields o.program c d) where
  -- The rule is kept.
  pub ends : Rule o d (set views id (ended v c.clock))
  ends =
      let w : View = ended v c.clock in
      let stage : w.stage ≡ Ended t k start c.clock n [] = ap (λ s. ended_at s c.clock) begun in
      let ok : IsStage o c.clock (Begun t k start made n) = subst (λ (s : Stage). IsStage o c.clock s) begun (r.known id v at).stage in
      let lived : LivesAsRun o c.mem (Begun t k start made n) = subst (λ (s : Stage). LivesAsRun o c.mem s) begun (r.values.lives id v at) in
      record {
        run = r.run;
        known = known_kept o c d views id v w at r.known (omega (arith, clock)) (record {
          role = seat_same o v w core seat refl refl refl refl refl (r.known id v at).role;
          stage = subst (λ (s : Stage). IsStage o d.clock s) (sym stage) (ok.0, ok.1, omega (arith, clock));
        });
        tasks = tasks_kept o c d views id v w at r.tasks alloc (λ u l i e. omega (arith, done u l i, e)) r.run;
        held = held_kept o c d views id v w at r.held (λ u l i. ap (λ s. holds s u l) stage ∙ sym (ap (λ s. holds s u l) begun)) alloc done;
        found = found_same o c d views id v w at r.found alloc refl;
        seats = seats_kept o c d views id v w at r.seats refl (seat_owes w core seat);
        tickets = tickets_more o c d views id v w at r.tickets clock alloc done fields (omega (arith, ap tickets_to_draw stage, ap tickets_to_draw begun)) (λ x. omega (arith, ap (drawn x) stage, ap (drawn x) begun))
            (begun_kept o c d v w done (λ u l f i e few. fields u l f i few) refl (λ u l s st. subst (λ (y : Stage). StartsAt y u l s) (sym begun) (subst (λ (y : Stage). StartsAt y u l s) stage st)) (r.tickets.begun id v at));
        records = records_kept o c d views id v w at r.records done fields
            (λ a b s e reads noted f x i st few found. absurd (none_noted (sym stage ∙ st) f x found));
        values = values_kept o c d views id v w at r.values mem (λ u l i. omega (arith, ap (λ s. has_begun s u l) stage, ap (λ s. has_begun s u l) begun)) done r.run
            (subst (λ (s : Stage). LivesAsRun o d.mem s) (sym stage) (λ a h may. mem a h ∙ (lived a h may ∙ ap (λ j. get_or (value_at (world_in o) (t, k) j) a 0) all)));
      }
    where
      none_noted : {a b s e m : ℕ} {l : List (ℕ × ℕ)} → Ended t k start c.clock n [] ≡ Ended a b s e m l → (f x : ℕ) → noted_of f l ≡ Some x → ⊥
      none_noted q f x found = absurd (cc (ap (λ st. noted_of f (noted_in st)) q, found))

-- ---- notes

abbrev number_of : Option ℕ → ℕ
number_of None = 0
number_of (Some y) = y

-- A field is noted.
module _ (o : Opening) (c d : Content) (views : List View) (id : ℕ) (v : View) (core t k start end n : ℕ) (notes : List (ℕ × ℕ)) (f x : ℕ) (at : get_elem? views id ≡ some v) (r : Rule o c views) (seat : v.role ≡ Seat core)
    (was : v.stage ≡ Ended t k start end n notes)
    (clock : d.clock ≡ c.clock) (mem : SameMemory o.program c d) (alloc : SameAlloc o.program c d) (done : SameDone o.program c d)
    (here : d.field t k f ≡ x) (else : (u l g : ℕ) → IsInstance o.program u l → g < 7 → ((t ≡ u → k ≡ l → ⊥) ⊎ (g ≢ f)) → d.field u l g ≡ c.field u l g) where
  abbrev w : View
  w = did_note v f x

  stage : w.stage ≡ Ended t k start end n ((f, x) ∷ notes)
  stage = ap (λ s. one_note s f x) was

  ok : IsStage o c.clock (Ended t k start end n notes)
  ok = subst (λ (s : Stage). IsStage o c.clock s) was (r.known id v at).stage

  held : holds v.stage t k ≡ 1
  held = ap (λ s. holds s t k) was ∙ pair_same t k t k refl refl

  once : (sum_over (λ (u : View). holds u.stage t k) views ≡ 1) × IsLive o c t k
  once = held_once o c views id v t k at r.held ok.0 held

  apart_if : (u l : ℕ) → one_if_pair t k u l ≡ 0 → t ≡ u → k ≡ l → ⊥
  apart_if u l z e q = absurd (omega (arith, z, pair_same t k u l e q))

  -- The fields of done instances stay.
  done_fields : (u l g : ℕ) → IsInstance o.program u l → 0 < d.done u l → g < 7 → d.field u l g ≡ c.field u l g
  done_fields u l g i y few = ⊎_elim
      (λ p. absurd (omega (arith, done u l i, y, once.1.undone, ap (λ m. c.done m l) p.0, ap (λ m. c.done t m) p.1)))
      (λ z. else u l g i few (inl (apart_if u l z)))
      (pair_cases t k u l)

  same_starts : (u l s : ℕ) → StartsAt w.stage u l s → StartsAt v.stage u l s
  same_starts u l s st = subst (λ (y : Stage). StartsAt y u l s) (sym was) (subst (λ (y : Stage). StartsAt y u l s) stage st)

  own_notes : IsNoted o d w
  own_notes a b s e m l g y i st few found =
      let same = sym stage ∙ st in
      let task : t ≡ a = ap task_in same in let number : k ≡ b = ap number_in same in
      let list : (f, x) ∷ notes ≡ l = ap noted_in same in
      dite (ℕ_discrete f g)
      (λ q. let hit : noted_of g ((f, x) ∷ notes) ≡ Some x = ap (λ z. cond z (Some x) (noted_of g notes)) (eq-eqb f g q) in
      let value : x ≡ y = ap number_of (sym hit ∙ (ap (noted_of g) list ∙ found)) in
      subst (λ (z : ℕ). d.field a b z ≡ y) q (subst (λ (z : ℕ). d.field z b f ≡ y) task (subst (λ (z : ℕ). d.field t z f ≡ y) number (here ∙ value))))
      (λ ne. let miss : noted_of g ((f, x) ∷ notes) ≡ noted_of g notes = ap (λ z. cond z (Some x) (noted_of g notes)) (ne_eqb f g ne) in
      let was_ended : v.stage ≡ Ended a b start end n notes = was ∙ (ap (λ z. Ended z k start end n notes) task ∙ ap (λ z. Ended a z start end n notes) number) in
      else a b g i few (inr (λ z. ne (sym z))) ∙ r.records.noted id v at a b start end n notes g y i was_ended few (sym miss ∙ (ap (noted_of g) list ∙ found)))

  other_notes : (j : ℕ) (u : View) → j ≢ id → get_elem? views j ≡ some u → IsNoted o d u
  other_notes j u ne there a b s e m l g y i st few found =
      else a b g i few (inl (λ p q.
      let both = terms_at (λ (z : View). holds z.stage t k) views id j v u ne at there in
      let one : holds u.stage t k ≡ 1 = ap (λ z. holds z t k) st ∙ pair_same a b t k (sym p) (sym q) in
      absurd (omega (arith, both, one, once.0, held))))
      ∙ r.records.noted j u there a b s e m l g y i st few found

  -- The rule is kept.
  pub notes_field : Rule o d (set views id (did_note v f x))
  notes_field = record {
    run = r.run;
    known = known_kept o c d views id v w at r.known (omega (arith, clock)) (record {
      role = seat_same o v w core seat refl refl refl refl refl (r.known id v at).role;
      stage = subst (λ (s : Stage). IsStage o d.clock s) (sym stage) (ok.0, ok.1, omega (arith, ok.2, clock));
    });
    tasks = tasks_kept o c d views id v w at r.tasks alloc (λ u l i e. omega (arith, done u l i, e)) r.run;
    held = held_kept o c d views id v w at r.held (λ u l i. ap (λ s. holds s u l) stage ∙ sym (ap (λ s. holds s u l) was)) alloc done;
    found = found_same o c d views id v w at r.found alloc refl;
    seats = seats_kept o c d views id v w at r.seats refl (seat_owes w core seat);
    tickets = record {
      count = counted;
      once = λ y. omega (arith, r.tickets.once y, sum_set (λ (u : View). drawn y u.stage) views id v w at, ap (drawn y) stage, ap (drawn y) was, ap (is_below y) clock, written y);
      ended = ended_kept o c d done done_fields r.tickets.ended;
      begun = each_set (BegunInTurn o c) (BegunInTurn o d) views id w r.tickets.begun (λ u. begun_kept o c d u u done done_fields refl (λ y z s st. st)) (begun_kept o c d v w done done_fields refl same_starts (r.tickets.begun id v at));
    };
    records = record {
      own = λ a b g i e few. done_fields a b g i e (omega (arith, few)) ∙ r.records.own a b g i (omega (arith, done a b i, e)) few;
      core = λ a b i e. omega (arith, done_fields a b 6 i e (omega arith), r.records.core a b i (omega (arith, done a b i, e)));
      noted = λ j u e. ⊎_elim (λ p. subst (λ (y : View). IsNoted o d y) p.1 own_notes) (λ p. other_notes j u p.0 p.1) (at_set views id j w u e);
    };
    values = values_kept o c d views id v w at r.values mem (λ u l i. omega (arith, ap (λ s. has_begun s u l) stage, ap (λ s. has_begun s u l) was)) done r.run
        (subst (λ (s : Stage). LivesAsRun o d.mem s) (sym stage) (lives_same o c.mem d.mem (Ended t k start end n ((f, x) ∷ notes)) mem (subst (λ (s : Stage). LivesAsRun o c.mem s) was (r.values.lives id v at))));
  }
    where
      counted : d.clock + sum_over (λ (u : View). tickets_to_draw u.stage) (set views id w) ≡ 2 * sum_below (λ u. d.alloc u - 1) (task_count o.program)
      counted = count_kept o c d views id v w at r.tickets.count clock alloc (ap tickets_to_draw stage ∙ sym (ap tickets_to_draw was))

      written : (y : ℕ) → all_done_drawn o d y ≡ all_done_drawn o c y
      written y = all_done_same o c d y (λ u l i. dite (ℕ_discrete (d.done u l) 0)
          (λ z. undone_drawn y (d.field u l 5) (d.done u l) z ∙ sym (undone_drawn y (c.field u l 5) (c.done u l) (omega (arith, z, done u l i))))
          (λ ne. ap (λ m. done_drawn y m (d.done u l)) (done_fields u l 5 i (omega arith) (omega arith)) ∙ ap (done_drawn y (c.field u l 5)) (done u l i)))
