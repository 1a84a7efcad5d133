-- An instance is done: its tickets and its record are now those of its words, and its stores those of a done writer.
use Rattle.std.proofs.Common.{◌≡◌, ◌≢◌, ℕ, zero, suc, ◌+◌, ◌-◌, ◌<◌, ◌≤◌, ◌⊎◌, List, [], ◌∷◌, get_or, set, sym, refl, ap, ◌∙◌, subst, inl, inr, ⊎_elim, arith, false, ◌&&◌}
use Rattle.std.specs.Prelude.{nat_lt}
use mathlib.Core.Option.{some, some-ne-none}
use lib.ListN.{get_elem?}
use Rattle.std.proofs.lemmas.Bool.{both_ways, cases_Bool, and_right, false_from_ne_true}
use Rattle.plural_serial.specs.declared.record_.Record.{Record}
use Rattle.plural_serial.specs.Instances.{Inst as Instance, same}
use Rattle.plural_serial.proofs.Records.{same_self}
use Rattle.plural_order.specs.World.{leaves}
use Rattle.plural_order.specs.Laws.{value_now, NoneAfter}
use Rattle.plural_order.specs.Sums.{sum_over, one_if, sign}
use Rattle.plural_order.proofs.Instances.{same_is}
use Rattle.plural_order.proofs.LastValues.{last_same}
use Rattle.plural_order.proofs.WorldLaws.{value_at_end}
use Rattle.plural_counters.specs.Duties.{one_if_pair}
use Rattle.plural_counters.proofs.Sums.{sum_set, pair_same, pair_cases, one_same, sign_some, sign_none}
use Rattle.plural_rule.specs.Opening.{Opening, IsInstance, Runs, MayWrite, Before, world_in, record_of, task_count}
use Rattle.plural_rule.specs.Content.{Content}
use Rattle.plural_rule.specs.Stages.{holds, has_begun, tickets_to_draw, drawn, StartsAt, IsStage, is_seat}
use Rattle.plural_rule.specs.Rule.{HasSeats, HeldOnce, handed, done_drawn, all_done_drawn, DoneInTurn, BegunInTurn, TicketsInTurn, field_of, IsNoted, RecordsAsRun, is_done, NoWriter, LivesAsRun, Rule}
use Rattle.plural_rule.specs.Steps.{finished}
use Rattle.plural_rule.specs.Laws.{HasNoted}
use Rattle.plural_rule.specs.declared.view.View.{View}
use Rattle.plural_rule.specs.declared.view.Stage.{Stage}
use Rattle.plural_rule.specs.declared.view.Stage.TheVariants.{Free, Got, Begun, Ended}
use Rattle.plural_rule.specs.declared.view.Role.{Role}
use Rattle.plural_rule.specs.declared.view.Role.TheVariants.{Seat, Root, Spent}
use Rattle.plural_rule.proofs.Places.{at_set, each_set}
use Rattle.plural_rule.proofs.Writes.{SameMemory, SameAlloc, SameFields}
use Rattle.plural_rule.proofs.ViewSums.{terms_at}
use Rattle.plural_rule.proofs.TicketSums.{is_below, undone_drawn, ended_drawn, all_done_change}
use Rattle.plural_rule.proofs.Live.{IsLive, held_once, done_armed, done_yes, yes_done, live_runs, none_later, leaves_all}
use Rattle.plural_rule.proofs.Parts.{count_kept, known_kept, tasks_kept, found_same, seats_kept, lives_same, begun_idle, noted_idle}
use Rattle.plural_rule.proofs.Claims.{seat_role, seat_same, seat_owes}

-- What a stage has begun it holds.
starts_held : (s : Stage) (u l x : ℕ) → StartsAt s u l x → holds s u l ≡ 1
starts_held Free u l x st = absurd st
starts_held (Got t k) u l x st = absurd st
starts_held (Begun t k start made reads) u l x st = pair_same t k u l st.0 st.1
starts_held (Ended t k start end reads noted) u l x st = pair_same t k u l st.0 st.1

starts_inst : (o : Opening) (clock : ℕ) (s : Stage) (u l x : ℕ) → IsStage o clock s → StartsAt s u l x → IsInstance o.program u l
starts_inst o clock Free u l x ok st = absurd st
starts_inst o clock (Got t k) u l x ok st = absurd st
starts_inst o clock (Begun t k start made reads) u l x ok st = subst (λ (n : ℕ). IsInstance o.program n l) st.0 (subst (λ (n : ℕ). IsInstance o.program t n) st.1 ok.0)
starts_inst o clock (Ended t k start end reads noted) u l x ok st = subst (λ (n : ℕ). IsInstance o.program n l) st.0 (subst (λ (n : ℕ). IsInstance o.program t n) st.1 ok.0)

-- If some view is there, there is a first one.
some_first : (views : List View) (id : ℕ) (v : View) → get_elem? views id ≡ some v → (u : View) × (get_elem? views 0 ≡ some u)
some_first [] id v e = absurd (some-ne-none v (sym e))
some_first (x ∷ xs) id v e = (x, refl)

-- No two views are of one core.
cores_apart : (o : Opening) (c : Content) (views : List View) (i j core : ℕ) (v w : View) → Rule o c views → j ≢ i → get_elem? views i ≡ some v → get_elem? views j ≡ some w → v.role ≡ Seat core → w.role ≡ Seat core → ⊥
cores_apart o c views i j core v w r ne a b x y =
    let f = some_first views i v a in
    let few : sum_over (λ (u : View). is_seat core u.role) views ≤ 1 = most f.0.role (r.seats.first f.0 f.1) in
    let both = terms_at (λ (u : View). is_seat core u.role) views i j v w ne a b in
    absurd (omega (arith, few, both, ap (is_seat core) x, ap (is_seat core) y, one_same core core refl))
  where
    most : (q : Role) → HasSeats views q → sum_over (λ (u : View). is_seat core u.role) views ≤ 1
    most (Seat d) h = absurd h
    most (Root outs) h = let p = h core in omega (arith, p.0, p.1)
    most Spent h = absurd h

-- The first five fields don't depend on the start and the core.
field_first : (r : Record) (a b f : ℕ) → f < 5 → field_of r a b f ≡ field_of r 0 0 f
field_first r a b zero h = refl
field_first r a b (suc zero) h = refl
field_first r a b (suc (suc zero)) h = refl
field_first r a b (suc (suc (suc zero))) h = refl
field_first r a b (suc (suc (suc (suc zero)))) h = refl
field_first r a b (suc (suc (suc (suc (suc f))))) h = absurd (omega arith)

module _ (o : Opening) (c d : Content) (views : List View) (id : ℕ) (v : View) (core t k start end reads : ℕ) (notes : List (ℕ × ℕ)) (at : get_elem? views id ≡ some v) (r : Rule o c views) (seat : v.role ≡ Seat core)
    (was : v.stage ≡ Ended t k start end reads notes) (whole : HasNoted o t k start core notes)
    (clock : d.clock ≡ c.clock) (mem : SameMemory o.program c d) (alloc : SameAlloc o.program c d) (here : d.done t k ≡ 1 + end)
    (else : (u l : ℕ) → IsInstance o.program u l → one_if_pair t k u l ≡ 0 → d.done u l ≡ c.done u l) (fields : SameFields o.program c d) where
  abbrev w : View
  w = finished v

  ok : IsStage o c.clock (Ended t k start end reads notes)
  ok = subst (λ (s : Stage). IsStage o c.clock s) was (r.known id v at).stage

  held : holds v.stage t k ≡ 1
  held = ap (λ s. holds s t k) was ∙ pair_same t k t k refl refl

  once : (sum_over (λ (u : View). holds u.stage t k) views ≡ 1) × IsLive o c t k
  once = held_once o c views id v t k at r.held ok.0 held

  -- What is said of the instance (t, k), and of another one.
  by_pair : (P : ℕ → ℕ → Type 0) (u l : ℕ) → P t k → (one_if_pair t k u l ≡ 0 → P u l) → P u l
  by_pair P u l mine other = ⊎_elim (λ p. subst (λ (n : ℕ). P n l) p.0 (subst (λ (n : ℕ). P t n) p.1 mine)) other (pair_cases t k u l)

  done_later : (u l : ℕ) → IsInstance o.program u l → 0 < c.done u l → 0 < d.done u l
  done_later u l i h = by_pair (λ x y. 0 < d.done x y) u l (omega (arith, here)) (λ z. omega (arith, else u l i z, h))

  -- Its fields are what was noted.
  field_is : (f : ℕ) → f < 7 → c.field t k f ≡ field_of (record_of o t k) start core f
  field_is f few = r.records.noted id v at t k start end reads notes f (field_of (record_of o t k) start core f) ok.0 was few (whole.each f few)

  start_is : c.field t k 5 ≡ start
  start_is = field_is 5 (omega arith)

  core_is : c.field t k 6 ≡ core
  core_is = field_is 6 (omega arith)

  -- Nothing that comes after its task is armed.
  no_later : (u : ℕ) → u < task_count o.program → 1 ≤ c.alloc u → Before o t u → ⊥
  no_later u small armed before = none_later o c r.run r.tasks views r.held t k u once.1 armed (r.tasks.armed u small armed) before

  armed_if : (u l : ℕ) → IsInstance o.program u l → 0 < d.done u l → 1 ≤ c.alloc u
  armed_if u l i done = ⊎_elim (λ p. subst (λ (n : ℕ). 1 ≤ c.alloc n) p.0 once.1.out) (λ z. done_armed o c views u l r.held i (omega (arith, else u l i z, done))) (pair_cases t k u l)

  starts : StartsAt v.stage t k start
  starts = subst (λ (s : Stage). StartsAt s t k start) (sym was) (refl, refl, refl)

  -- ---- held

  held_then : HeldOnce o d (set views id w)
  held_then u l q =
      let before = r.held u l q in let sum = sum_set (λ (x : View). holds x.stage u l) views id v w at in
      let own : holds v.stage u l ≡ one_if_pair t k u l = ap (λ s. holds s u l) was in
      let words = ap (λ n. handed n l) (alloc u q.0) in
      ⊎_elim
      (λ p. let yes : sign (d.done u l) ≡ 1 = subst (λ x. sign (d.done x l) ≡ 1) p.0 (subst (λ y. sign (d.done t y) ≡ 1) p.1 (sign_some (d.done t k) (omega (arith, here)))) in
      let no : sign (c.done u l) ≡ 0 = subst (λ x. sign (c.done x l) ≡ 0) p.0 (subst (λ y. sign (c.done t y) ≡ 0) p.1 (sign_none (c.done t k) once.1.undone)) in
      omega (arith, before, sum, own, words, yes, no, pair_same t k u l p.0 p.1))
      (λ (z : one_if_pair t k u l ≡ 0). omega (arith, before, sum, own, words, z, ap sign (else u l q z)))
      (pair_cases t k u l)

  -- ---- tickets

  drawn_then : (x : ℕ) → sum_over (λ (u : View). drawn x u.stage) (set views id w) + all_done_drawn o d x ≡ is_below x d.clock
  drawn_then x =
      let change = all_done_change o c d x t k ok.0 (λ u l i z. ap (λ n. done_drawn x n (c.done u l)) (sym (fields u l 5 i (omega arith))) ∙ ap (done_drawn x (d.field u l 5)) (sym (else u l i z))) in
      let old = undone_drawn x (c.field t k 5) (c.done t k) once.1.undone in
      let new = ended_drawn x (d.field t k 5) (d.done t k) (omega (arith, here)) in
      let first : one_if (d.field t k 5) x ≡ one_if start x = ap (λ n. one_if n x) (fields t k 5 ok.0 (omega arith) ∙ start_is) in
      let last : one_if (d.done t k - 1) x ≡ one_if end x = ap (λ n. one_if n x) (omega (arith, here)) in
      omega (arith, r.tickets.once x, sum_set (λ (u : View). drawn x u.stage) views id v w at, ap (drawn x) was, change, old, new, first, last, ap (is_below x) clock)

  ended_then : DoneInTurn o d
  ended_then = record {
    own = λ a b i done. by_pair (λ x y. IsInstance o.program x y → d.field x y 5 + 1 < d.done x y) a b
        (λ j. omega (arith, fields t k 5 j (omega arith), start_is, here, ok.1))
        (λ z j. omega (arith, fields a b 5 j (omega arith), else a b j z, r.tickets.ended.own a b j (omega (arith, else a b j z, done)))) i;
    turn = λ a b u l i j ran before x y.
        by_pair (λ p q. IsInstance o.program p q → Runs o p q → Before o p u → 0 < d.done p q → d.done p q ≤ d.field u l 5) a b
        (λ i ran before x. absurd (no_later u j.0 (armed_if u l j y) before))
        (λ z i ran before x. by_pair (λ p q. IsInstance o.program p q → Before o a p → 0 < d.done p q → d.done a b ≤ d.field p q 5) u l
        (λ j before y. omega (arith, fields t k 5 j (omega arith), start_is, else a b i z, (r.tickets.begun id v at).turn a b t k start i ran before (omega (arith, else a b i z, x)) starts))
        (λ z' j before y. omega (arith, fields u l 5 j (omega arith), else a b i z, r.tickets.ended.turn a b u l i j ran before (omega (arith, else a b i z, x)) (omega (arith, else u l j z', y))))
        j before y)
        i ran before x;
    line = λ a b u l i j apart x y e.
        let mine_done : (p q : ℕ) → IsInstance o.program p q → one_if_pair t k p q ≡ 0 → 0 < d.done p q → d.field p q 6 ≡ d.field t k 6 → d.done p q ≤ d.field t k 5 = λ p q i z done e.
        let of_core : core ≡ c.field p q 6 = omega (arith, core_is, e, fields t k 6 ok.0 (omega arith), fields p q 6 i (omega arith)) in
        omega (arith, fields t k 5 ok.0 (omega arith), start_is, else p q i z, (r.tickets.begun id v at).line p q t k start i (omega (arith, else p q i z, done)) starts (seat ∙ ap Seat of_core)) in
        by_pair (λ p q. IsInstance o.program p q → (p ≡ u → q ≡ l → ⊥) → 0 < d.done p q → d.field p q 6 ≡ d.field u l 6 → (d.done p q ≤ d.field u l 5) ⊎ (d.done u l ≤ d.field p q 5)) a b
        (λ i apart x e. inr (mine_done u l j (⊎_elim (λ p. absurd (apart p.0 p.1)) (λ z. z) (pair_cases t k u l)) y (sym e)))
        (λ z i apart x e. by_pair (λ p q. IsInstance o.program p q → (a ≡ p → b ≡ q → ⊥) → 0 < d.done p q → d.field a b 6 ≡ d.field p q 6 → (d.done a b ≤ d.field p q 5) ⊎ (d.done p q ≤ d.field a b 5)) u l
        (λ j apart y e. inl (mine_done a b i z x e))
        (λ z' j apart y e. ⊎_elim
        (λ p. inl (omega (arith, p, else a b i z, fields u l 5 j (omega arith))))
        (λ p. inr (omega (arith, p, else u l j z', fields a b 5 i (omega arith))))
        (r.tickets.ended.line a b u l i j apart (omega (arith, else a b i z, x)) (omega (arith, else u l j z', y)) (sym (fields a b 6 i (omega arith)) ∙ (e ∙ fields u l 6 j (omega arith)))))
        j apart y e)
        i apart x e;
  }

  others_begun : (j : ℕ) (u : View) → j ≢ id → get_elem? views j ≡ some u → BegunInTurn o d u
  others_begun j u ne there =
      let log = r.tickets.begun j u there in
      let started_armed : (x l s : ℕ) → StartsAt u.stage x l s → (x < task_count o.program) × (1 ≤ c.alloc x) = λ x l s st.
      let i = starts_inst o c.clock u.stage x l s (r.known j u there).stage st in
      (i.0, (held_once o c views j u x l there r.held i (starts_held u.stage x l s st)).1.out) in
      record {
        turn = λ a b x l s i ran before done st. by_pair (λ p q. IsInstance o.program p q → Runs o p q → Before o p x → 0 < d.done p q → d.done p q ≤ s) a b
            (λ i ran before y. let q = started_armed x l s st in absurd (no_later x q.0 q.1 before))
            (λ z i ran before y. omega (arith, else a b i z, log.turn a b x l s i ran before (omega (arith, else a b i z, y)) st)) i ran before done;
        line = λ a b x l s i done st e. by_pair (λ p q. IsInstance o.program p q → 0 < d.done p q → u.role ≡ Seat (d.field p q 6) → d.done p q ≤ s) a b
            (λ i y e. absurd (cores_apart o c views id j core v u r ne at there seat (e ∙ ap Seat (fields t k 6 i (omega arith) ∙ core_is))))
            (λ z i y e. omega (arith, else a b i z, log.line a b x l s i (omega (arith, else a b i z, y)) st (e ∙ ap Seat (fields a b 6 i (omega arith))))) i done e;
      }

  tickets_then : TicketsInTurn o d (set views id w)
  tickets_then = record {
    count = count_kept o c d views id v w at r.tickets.count clock alloc (sym (ap tickets_to_draw was));
    once = drawn_then;
    ended = ended_then;
    begun = λ j u e. ⊎_elim (λ p. subst (λ (y : View). BegunInTurn o d y) p.1 (begun_idle o d w tt)) (λ p. others_begun j u p.0 p.1) (at_set views id j w u e);
  }

  -- ---- records

  records_then : RecordsAsRun o d (set views id w)
  records_then = record {
    own = λ a b f i done few. by_pair (λ p q. IsInstance o.program p q → 0 < d.done p q → d.field p q f ≡ field_of (record_of o p q) 0 0 f) a b
        (λ j x. fields t k f j (omega (arith, few)) ∙ (field_is f (omega (arith, few)) ∙ field_first (record_of o t k) start core f few))
        (λ z j x. fields a b f j (omega (arith, few)) ∙ r.records.own a b f j (omega (arith, else a b j z, x)) few) i done;
    core = λ a b i done. by_pair (λ p q. IsInstance o.program p q → 0 < d.done p q → d.field p q 6 < o.cores) a b
        (λ j x. omega (arith, fields t k 6 j (omega arith), core_is, (seat_role o v core seat (r.known id v at).role).1))
        (λ z j x. omega (arith, fields a b 6 j (omega arith), r.records.core a b j (omega (arith, else a b j z, x)))) i done;
    noted = each_set (IsNoted o c) (IsNoted o d) views id w r.records.noted (λ u old a b s e m l f x i st few q. fields a b f i few ∙ old a b s e m l f x i st few q) (noted_idle o d w tt);
  }

  -- ---- values

  pair_of_same : (j : Instance) → same j (t, k) ≡ false → one_if_pair t k j.0 j.1 ≡ 0
  pair_of_same j e = ⊎_elim (λ p. absurd (both_ways (same j (t, k)) e (ap (λ (n : ℕ). same (n, j.1) (t, k)) (sym p.0) ∙ (ap (λ (n : ℕ). same (t, n) (t, k)) (sym p.1) ∙ same_self (t, k))))) (λ z. z) (pair_cases t k j.0 j.1)

  none_after : NoneAfter (world_in o) (is_done d.done) t
  none_after i ran before = false_from_ne_true (is_done d.done i) (λ yes.
      let inst = r.run.instances i.0 i.1 ran in
      let done : 0 < d.done i.0 i.1 = yes_done d.done i.0 i.1 yes in
      no_later i.0 inst.0 (armed_if i.0 i.1 inst done) before)

  rest_then : (a : ℕ) → a < o.program.map.words → NoWriter o (set views id w) a → d.mem a ≡ value_now (world_in o) (is_done d.done) a
  rest_then a small none =
      let world = world_in o in
      let lived : LivesAsRun o c.mem (Ended t k start end reads notes) = subst (λ (s : Stage). LivesAsRun o c.mem s) was (r.values.lives id v at) in
      let runs = live_runs o c r.run r.tasks t k once.1 in
      let before : (u l : ℕ) → Runs o u l → MayWrite o u l a → one_if_pair t k u l ≡ 0 → sum_over (λ (x : View). has_begun x.stage u l) views ≡ 0 = λ u l ran writes z.
      omega (arith, none u l ran writes, sum_set (λ (x : View). has_begun x.stage u l) views id v w at, ap (λ s. has_begun s u l) was, z) in
      ⊎_elim
      (λ writes.
      mem a small ∙ (lived a small (r.run.world.read_too (t, k) a writes) ∙ (leaves_all o t k a r.run runs
      ∙ sym (value_at_end world r.run.world (is_done d.done) (t, k) a runs none_after (done_yes d.done t k (omega (arith, here))) writes))))
      (λ silent.
      mem a small ∙ (r.values.rest a small (λ u l ran writes. before u l ran writes (⊎_elim
      (λ p. absurd (both_ways (world.writes (u, l) a) (ap (λ (n : ℕ). world.writes (n, l) a) (sym p.0) ∙ (ap (λ (n : ℕ). world.writes (t, n) a) (sym p.1) ∙ silent)) writes))
      (λ z. z) (pair_cases t k u l)))
      ∙ last_same world (leaves world) a (is_done c.done) (is_done d.done) (get_or world.image a 0) world.ran
      (λ j ran. ⊎_elim
      (λ p. let z : world.writes j a ≡ false = ap (λ (x : Instance). world.writes x a) (same_is j (t, k) p) ∙ silent in and_right (is_done c.done j) (world.writes j a) z ∙ sym (and_right (is_done d.done j) (world.writes j a) z))
      (λ q. ap (λ n. nat_lt 0 n && world.writes j a) (sym (else j.0 j.1 (r.run.instances j.0 j.1 ran) (pair_of_same j q))))
      (cases_Bool (same j (t, k))))))
      (cases_Bool (world.writes (t, k) a))

  -- The rule is kept.
  pub finishes : Rule o d (set views id (finished v))
  finishes = record {
    run = r.run;
    known = known_kept o c d views id v w at r.known (omega (arith, clock)) (record { role = seat_same o v w core seat refl refl refl refl refl (r.known id v at).role; stage = tt });
    tasks = tasks_kept o c d views id v w at r.tasks alloc done_later r.run;
    held = held_then;
    found = found_same o c d views id v w at r.found alloc refl;
    seats = seats_kept o c d views id v w at r.seats refl (seat_owes w core seat);
    tickets = tickets_then;
    records = records_then;
    values = record {
      rest = rest_then;
      lives = each_set (λ u. LivesAsRun o c.mem u.stage) (λ u. LivesAsRun o d.mem u.stage) views id w r.values.lives (λ u. lives_same o c.mem d.mem u.stage mem) tt;
    };
  }
