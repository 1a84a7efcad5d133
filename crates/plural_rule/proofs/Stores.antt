-- A store of an instance reaches its word, and no word that another one may read.
use Rattle.std.proofs.Common.{◌≡◌, ◌≢◌, ℕ, zero, suc, ◌+◌, ◌<◌, ◌≤◌, List, [], ◌∷◌, ◌++◌, length, get_or, set, sym, refl, ap, ◌∙◌, subst, ⊎_elim, arith, get_or-set_other, get_or-set_same, Some, slice_get}
use mathlib.Core.Logic.{dite}
use native.Mathlib.Decide.{ℕ_discrete}
use mathlib.Core.Option.{some}
use lib.ListN.{get_elem?}
use Rattle.std.specs.List.{All}
use Rattle.std.proofs.lemmas.Bool.{cases_Bool}
use Rattle.std.proofs.lemmas.Option.{slice_get_within, get_or_from_slice_get}
use Rattle.plural_serial.specs.Instances.{Inst as Instance, same}
use Rattle.plural_order.specs.World.{start_at, value_at}
use Rattle.plural_order.specs.Sums.{sum_over}
use Rattle.plural_order.proofs.Instances.{same_is}
use Rattle.plural_order.proofs.WorldLaws.{store_by_store}
use Rattle.plural_counters.proofs.Sums.{sum_set, term_at, pair_same, pair_cases}
use Rattle.plural_rule.specs.Opening.{Opening, HasSerialRun, IsInstance, Runs, MayWrite, MayRead, world_in, stores_of}
use Rattle.plural_rule.specs.Content.{Content}
use Rattle.plural_rule.specs.Stages.{holds, has_begun, tickets_to_draw, drawn, StartsAt, IsStage}
use Rattle.plural_rule.specs.Rule.{LivesAsRun, Rule}
use Rattle.plural_rule.specs.Steps.{one_store, stored}
use Rattle.plural_rule.specs.declared.view.View.{View}
use Rattle.plural_rule.specs.declared.view.Stage.{Stage}
use Rattle.plural_rule.specs.declared.view.Stage.TheVariants.{Free, Got, Begun, Ended}
use Rattle.plural_rule.specs.declared.view.Role.TheVariants.{Seat}
use Rattle.plural_rule.proofs.Places.{at_set}
use Rattle.plural_rule.proofs.Writes.{SameAlloc, SameDone, SameFields}
use Rattle.plural_rule.proofs.ViewSums.{terms_at}
use Rattle.plural_rule.proofs.Live.{IsLive, begun_held, held_once, live_runs, live_apart}
use Rattle.plural_rule.proofs.Parts.{known_kept, tasks_kept, held_kept, found_same, seats_kept, tickets_kept, records_kept, rest_kept, begun_kept}
use Rattle.plural_rule.proofs.Claims.{seat_same, seat_owes}

-- A list is what stands before a place, what stands there, and the rest.
cut_at : (xs : List (ℕ × ℕ)) (j a x : ℕ) → slice_get xs j ≡ Some (a, x) → (past : List (ℕ × ℕ)) × (rest : List (ℕ × ℕ)) × (xs ≡ past ++ (a, x) ∷ rest) × (length past ≡ j)
cut_at [] j a x e = let none = slice_get_within [] j (a, x) e in absurd (omega arith)
cut_at (y ∷ ys) zero a x e = let is : y ≡ (a, x) = get_or_from_slice_get (y ∷ ys) 0 (a, x) (a, x) e in ([], ys, ap (λ (z : ℕ × ℕ). z ∷ ys) is, refl)
cut_at (y ∷ ys) (suc j) a x e = let p = cut_at ys j a x e in (y ∷ p.0, p.1, ap (λ (l : List (ℕ × ℕ)). y ∷ l) p.2, ap suc p.3)

-- What is so of each is so of one.
each_at : (P : ℕ × ℕ → Type 0) (xs : List (ℕ × ℕ)) (j : ℕ) (x : ℕ × ℕ) → All P xs → slice_get xs j ≡ Some x → P x
each_at P xs j x all e = subst P (get_or_from_slice_get xs j x x e) (all j x (slice_get_within xs j x e))

-- The next store of an instance is to a word that it may write, and sets it in its memory.
pub record IsNextStore (o : Opening) (t k made a x : ℕ) : Type 0 where
  pub may : MayWrite o t k a
  pub reads : MayRead o t k a
  pub inside : a < o.program.map.words
  pub fits : made + 1 ≤ length (stores_of o t k)
  pub here : get_or (value_at (world_in o) (t, k) (made + 1)) a 0 ≡ x
  pub else : (b : ℕ) → b ≢ a → get_or (value_at (world_in o) (t, k) (made + 1)) b 0 ≡ get_or (value_at (world_in o) (t, k) made) b 0

-- So is each next store.
pub next_store : (o : Opening) (t k made a x : ℕ) → HasSerialRun o → Runs o t k → slice_get (stores_of o t k) made ≡ Some (a, x) → IsNextStore o t k made a x
next_store o t k made a x run ran next =
    let w = world_in o in
    let cut = cut_at (stores_of o t k) made a x next in
    let lives = store_by_store w run.world (t, k) ran in
    let more : value_at w (t, k) (made + 1) ≡ set (value_at w (t, k) made) a x = lives.more made a x cut.1 cut.0 cut.2 cut.3 in
    let may : MayWrite o t k a = each_at (λ s. MayWrite o t k s.0) (stores_of o t k) made (a, x) (run.world.stores_kept (t, k) (start_at w (t, k)) ran) next in
    let reads : MayRead o t k a = run.world.read_too (t, k) a may in
    let inside = run.inside t k a ran reads in
    record {
      may = may;
      reads = reads;
      inside = inside;
      fits = omega (arith, slice_get_within (stores_of o t k) made (a, x) next);
      here = ap (λ (m : List ℕ). get_or m a 0) more ∙ get_or-set_same (value_at w (t, k) made) a x 0 (omega (arith, lives.long made, run.words, inside));
      else = λ b ne. ap (λ (m : List ℕ). get_or m b 0) more ∙ get_or-set_other (value_at w (t, k) made) a b x 0 ne;
    }

-- The words of another instance.
other_lives : (o : Opening) (f g : ℕ → ℕ) (a : ℕ) (s : Stage) → ((u l : ℕ) → has_begun s u l ≡ 1 → MayRead o u l a → ⊥) → ((b : ℕ) → b ≢ a → g b ≡ f b) → LivesAsRun o f s → LivesAsRun o g s
other_lives o f g a Free never else l = tt
other_lives o f g a (Got u n) never else l = tt
other_lives o f g a (Begun u n start made reads) never else l = λ b small may. else b (λ e. never u n (pair_same u n u n refl refl) (subst (λ (x : ℕ). MayRead o u n x) e may)) ∙ l b small may
other_lives o f g a (Ended u n start end reads noted) never else l = λ b small may. else b (λ e. never u n (pair_same u n u n refl refl) (subst (λ (x : ℕ). MayRead o u n x) e may)) ∙ l b small may

-- What a stage has begun is an instance of the program.
begun_inst : (o : Opening) (clock u l : ℕ) (s : Stage) → IsStage o clock s → has_begun s u l ≡ 1 → IsInstance o.program u l
begun_inst o clock u l Free ok e = absurd (omega arith)
begun_inst o clock u l (Got x y) ok e = absurd (omega arith)
begun_inst o clock u l (Begun x y start made reads) ok e = ⊎_elim (λ p. subst (λ (n : ℕ). IsInstance o.program n l) p.0 (subst (λ (n : ℕ). IsInstance o.program x n) p.1 ok.0)) (λ z. absurd (omega arith)) (pair_cases x y u l)
begun_inst o clock u l (Ended x y start end reads noted) ok e = ⊎_elim (λ p. subst (λ (n : ℕ). IsInstance o.program n l) p.0 (subst (λ (n : ℕ). IsInstance o.program x n) p.1 ok.0)) (λ z. absurd (omega arith)) (pair_cases x y u l)

holds_le : (t k : ℕ) (s : Stage) → holds s t k ≤ 1
holds_le t k Free = omega arith
holds_le t k (Got u l) = ⊎_elim (λ p. omega (arith, pair_same u l t k p.0 p.1)) (λ z. omega (arith, z)) (pair_cases u l t k)
holds_le t k (Begun u l start made reads) = ⊎_elim (λ p. omega (arith, pair_same u l t k p.0 p.1)) (λ z. omega (arith, z)) (pair_cases u l t k)
holds_le t k (Ended u l start end reads noted) = ⊎_elim (λ p. omega (arith, pair_same u l t k p.0 p.1)) (λ z. omega (arith, z)) (pair_cases u l t k)

module _ (o : Opening) (c d : Content) (views : List View) (id : ℕ) (v : View) (core t k start made n a x : ℕ) (at : get_elem? views id ≡ some v) (r : Rule o c views) (seat : v.role ≡ Seat core)
    (begun : v.stage ≡ Begun t k start made n) (next : slice_get (stores_of o t k) made ≡ Some (a, x))
    (clock : d.clock ≡ c.clock) (alloc : SameAlloc o.program c d) (done : SameDone o.program c d) (fields : SameFields o.program c d) (here : d.mem a ≡ x) (else : (b : ℕ) → b ≢ a → d.mem b ≡ c.mem b) where
  abbrev w : View
  w = stored v

  stage : w.stage ≡ Begun t k start (made + 1) n
  stage = ap one_store begun

  ok : IsStage o c.clock (Begun t k start made n)
  ok = subst (λ (s : Stage). IsStage o c.clock s) begun (r.known id v at).stage

  held : holds v.stage t k ≡ 1
  held = ap (λ s. holds s t k) begun ∙ pair_same t k t k refl refl

  once : (sum_over (λ (u : View). holds u.stage t k) views ≡ 1) × IsLive o c t k
  once = held_once o c views id v t k at r.held ok.0 held

  store : IsNextStore o t k made a x
  store = next_store o t k made a x r.run (live_runs o c r.run r.tasks t k once.1) next

  same_begun : (u l : ℕ) → has_begun w.stage u l ≡ has_begun v.stage u l
  same_begun u l = ap (λ s. has_begun s u l) stage ∙ sym (ap (λ s. has_begun s u l) begun)

  -- Its own words.
  own_lives : LivesAsRun o d.mem w.stage
  own_lives =
      let lived : LivesAsRun o c.mem (Begun t k start made n) = subst (λ (s : Stage). LivesAsRun o c.mem s) begun (r.values.lives id v at) in
      subst (λ (s : Stage). LivesAsRun o d.mem s) (sym stage)
      (λ b small may. dite (ℕ_discrete b a)
      (λ e. subst (λ (y : ℕ). d.mem y ≡ get_or (value_at (world_in o) (t, k) (made + 1)) y 0) (sym e) (here ∙ sym store.here))
      (λ ne. else b ne ∙ (lived b small may ∙ sym (store.else b ne))))

  -- Those of another view.
  others_live : (m : ℕ) (u : View) → m ≢ id → get_elem? views m ≡ some u → LivesAsRun o d.mem u.stage
  others_live m u apart there =
      other_lives o c.mem d.mem a u.stage
      (λ y z is may.
      let inst = begun_inst o c.clock y z u.stage (r.known m u there).stage is in
      let holds_it : holds u.stage y z ≡ 1 = omega (arith, begun_held y z u.stage, is, holds_le y z u.stage) in
      let other = (held_once o c views m u y z there r.held inst holds_it).1 in
      ⊎_elim
      (λ e. let eq = same_is (t, k) (y, z) e in
      let both = terms_at (λ (s : View). holds s.stage t k) views id m v u apart at there in
      let mine_too : holds u.stage t k ≡ 1 = subst (λ (i : Instance). holds u.stage i.0 i.1 ≡ 1) (sym eq) holds_it in
      absurd (omega (arith, both, once.0, held, mine_too)))
      (λ f. live_apart o c r.run r.tasks t k y z a once.1 other f store.may may)
      (cases_Bool (same (t, k) (y, z))))
      else (r.values.lives m u there)

  -- The rule is kept.
  pub stores : Rule o d (set views id (stored v))
  stores = record {
    run = r.run;
    known = known_kept o c d views id v w at r.known (omega (arith, clock)) (record {
      role = seat_same o v w core seat refl refl refl refl refl (r.known id v at).role;
      stage = subst (λ (s : Stage). IsStage o d.clock s) (sym stage) (ok.0, omega (arith, ok.1, clock), store.fits);
    });
    tasks = tasks_kept o c d views id v w at r.tasks alloc (λ u l i e. omega (arith, done u l i, e)) r.run;
    held = held_kept o c d views id v w at r.held (λ u l i. ap (λ s. holds s u l) stage ∙ sym (ap (λ s. holds s u l) begun)) alloc done;
    found = found_same o c d views id v w at r.found alloc refl;
    seats = seats_kept o c d views id v w at r.seats refl (seat_owes w core seat);
    tickets = tickets_kept o c d views id v w at r.tickets clock alloc done fields (ap tickets_to_draw stage ∙ sym (ap tickets_to_draw begun)) (λ y. ap (drawn y) stage ∙ sym (ap (drawn y) begun))
        (begun_kept o c d v w done (λ u l f i e few. fields u l f i few) refl (λ u l s st. subst (λ (y : Stage). StartsAt y u l s) (sym begun) (subst (λ (y : Stage). StartsAt y u l s) stage st)) (r.tickets.begun id v at));
    records = records_kept o c d views id v w at r.records done fields (λ u l s e reads noted f y i st few q. absurd (cc (st, stage)));
    values = record {
      rest = λ b small none. else b (λ e.
          let gone = none t k (live_runs o c r.run r.tasks t k once.1) (subst (λ (y : ℕ). MayWrite o t k y) (sym e) store.may) in
          absurd (omega (arith, gone, sum_set (λ (y : View). has_begun y.stage t k) views id v w at, term_at (λ (y : View). has_begun y.stage t k) views id v at, same_begun t k, ap (λ s. has_begun s t k) begun, pair_same t k t k refl refl)))
          ∙ rest_kept o c d views id v w at r.values (λ u l i. omega (arith, same_begun u l)) done r.run b small none;
      lives = λ m u place. ⊎_elim (λ p. subst (λ (y : View). LivesAsRun o d.mem y.stage) p.1 own_lives) (λ p. others_live m u p.0 p.1) (at_set views id m w u place);
    };
  }
