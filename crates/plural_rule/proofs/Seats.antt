-- A seat is split off the root, and joined again.
use Rattle.std.proofs.Common.{◌≡◌, ◌≢◌, ℕ, zero, suc, ◌+◌, ◌<◌, ◌≤◌, List, [], ◌∷◌, ◌++◌, length, get_or, set, sym, refl, ap, ◌∙◌, subst, ⊎_elim, arith, eqb, Bool, filter, not, cond, eq-eqb, ne_eqb}
use mathlib.Core.Logic.{dite}
use native.Mathlib.Decide.{ℕ_discrete}
use native.Mathlib.Nat.{max-le, le-max_left, le-max_right}
use mathlib.Core.Option.{some, some-injective}
use Rattle.std.proofs.lemmas.List.{length-replicate}
use lib.ListN.{get_elem?}
use Rattle.plural_order.specs.Sums.{sum_over, one_if, times}
use Rattle.plural_counters.proofs.Sums.{sum_append, sum_set, term_at, one_same, one_else}
use Rattle.plural_rule.specs.Opening.{Opening, task_count}
use Rattle.plural_rule.specs.Content.{Content}
use Rattle.plural_rule.specs.Stages.{holds, has_begun, tickets_to_draw, drawn, is_seat}
use Rattle.plural_rule.specs.Rule.{Each, IsViewOf, IsRole, IsView, HasSeats, OwesAsRole, BegunInTurn, IsNoted, LivesAsRun, Rule}
use Rattle.plural_rule.specs.Steps.{none_each, sent_out, root_after, new_seat, back_in, larger_each, joined, spent}
use Rattle.plural_rule.specs.declared.view.View.{View}
use Rattle.plural_rule.specs.declared.view.Stage.TheVariants.{Free}
use Rattle.plural_rule.specs.declared.view.Role.{Role}
use Rattle.plural_rule.specs.declared.view.Role.TheVariants.{Seat, Root}
use Rattle.plural_rule.proofs.Places.{at_set, set_here, set_else, at_longer, at_pushed}
use Rattle.plural_rule.proofs.ViewSums.{terms_at}
use Rattle.plural_rule.proofs.Parts.{Unbegun, begun_idle, noted_idle, FindsRoots}

-- What the root is.
pub root_role : (o : Opening) (v : View) (outs : List ℕ) → v.role ≡ Root outs → IsRole o v v.role → IsViewOf o v × (v.stage ≡ Free)
root_role o v outs root is = subst (λ (r : Role). IsRole o v r) root is

one_most : (x y : ℕ) → one_if x y ≤ 1
one_most x y = dite (ℕ_discrete x y) (λ e. omega (arith, one_same x y e)) (λ n. omega (arith, one_else x y n))

-- ---- split

module _ (o : Opening) (c : Content) (views : List View) (v : View) (outs : List ℕ) (core : ℕ) (at : get_elem? views 0 ≡ some v) (r : Rule o c views) (root : v.role ≡ Root outs)
    (away : times core outs ≡ 0) (low : core < o.cores) where
  abbrev l : View
  l = root_after v core

  abbrev n : View
  n = new_seat v core

  abbrev longer : List View
  longer = set views 0 l ++ n ∷ []

  is : IsViewOf o v × (v.stage ≡ Free)
  is = root_role o v outs root (r.known 0 v at).role

  none_long : length (none_each v.opening) ≡ task_count o.program
  none_long = length-replicate {A = ℕ} (task_count v.opening.program) 0 ∙ ap (λ (x : Opening). task_count x.program) is.0.opening

  role : l.role ≡ Root (core ∷ outs)
  role = ap (sent_out core) root

  sum : (g : View → ℕ) → sum_over g longer + g v ≡ sum_over g views + g l + g n
  sum g = omega (arith, sum_append g (set views 0 l) (n ∷ []), sum_set g views 0 v l at)

  each : (P : View → Type 0) → Each P views → P l → P n → Each P longer
  each P all pl pn j u e = ⊎_elim
      (λ there. ⊎_elim (λ q. subst P q.1 pl) (λ q. all j u q.1) (at_set views 0 j l u there))
      (λ q. subst P q pn)
      (at_pushed (set views 0 l) n u j e)

  first_there : get_elem? longer 0 ≡ some l
  first_there = at_longer (set views 0 l) (n ∷ []) 0 l (set_here views 0 v l at)

  seats_out : HasSeats longer (Root (core ∷ outs))
  seats_out x =
      let one = subst (λ (q : Role). HasSeats views q) root (r.seats.first v at) x in
      let own : is_seat x l.role ≡ 0 = ap (is_seat x) role in
      let was : is_seat x v.role ≡ 0 = ap (is_seat x) root in
      let few : one_if core x + times x outs ≤ 1 = dite (ℕ_discrete core x)
      (λ q. let none : times x outs ≡ 0 = subst (λ (y : ℕ). times y outs ≡ 0) q away in omega (arith, none, one_most core x))
      (λ q. omega (arith, one.1, one_else core x q)) in
      (omega (arith, one.0, own, was, sum (λ (y : View). is_seat x y.role)), few)

  -- The rule is kept.
  pub splits : Rule o c (set views 0 (root_after v core) ++ new_seat v core ∷ [])
  splits = record {
    run = r.run;
    known = each (IsView o c.clock) r.known
        (record { role = subst (λ (q : Role). IsRole o l q) (sym role) (record { opening = is.0.opening; found = is.0.found; looks = is.0.looks; losses = is.0.losses }, is.1); stage = (r.known 0 v at).stage })
        (record { role = (record { opening = is.0.opening; found = is.0.found; looks = none_long; losses = none_long }, low); stage = tt });
    tasks = r.tasks;
    held = λ t k i. omega (arith, sum (λ (u : View). holds u.stage t k), r.held t k i);
    found = record {
      most = each (λ u. (t : ℕ) → t < task_count o.program → get_or u.found t 0 ≤ c.alloc t) r.found.most (r.found.most 0 v at) (r.found.most 0 v at);
      some = λ t h a. omega (arith, r.found.some t h a, sum (λ (u : View). get_or u.found t 0));
      roots = each (FindsRoots o) r.found.roots (r.found.roots 0 v at) (r.found.roots 0 v at);
    };
    seats = record {
      first = λ u e. let same : l ≡ u = some-injective l u (sym first_there ∙ e) in
          subst (λ (y : View). HasSeats longer y.role) same (subst (λ (q : Role). HasSeats longer q) (sym role) seats_out);
      lone = λ j u os e q. ⊎_elim
          (λ there. ⊎_elim (λ p. p.0) (λ p. r.seats.lone j u os p.1 q) (at_set views 0 j l u there))
          (λ p. absurd (cc (ap (λ (y : View). y.role) p, q)))
          (at_pushed (set views 0 l) n u j e);
      owes = each (λ u. OwesAsRole u u.role) r.seats.owes (subst (λ (q : Role). OwesAsRole l q) (sym role) (subst (λ (q : Role). OwesAsRole v q) root (r.seats.owes 0 v at))) tt;
    };
    tickets = record {
      count = omega (arith, sum (λ (u : View). tickets_to_draw u.stage), r.tickets.count);
      once = λ x. omega (arith, r.tickets.once x, sum (λ (u : View). drawn x u.stage));
      ended = r.tickets.ended;
      begun = each (BegunInTurn o c) r.tickets.begun (begun_idle o c l (subst Unbegun (sym is.1) tt)) (begun_idle o c n tt);
    };
    records = record {
      own = r.records.own;
      core = r.records.core;
      noted = each (IsNoted o c) r.records.noted (noted_idle o c l (subst Unbegun (sym is.1) tt)) (noted_idle o c n tt);
    };
    values = record {
      rest = λ a small none. r.values.rest a small (λ t k ran writes. omega (arith, none t k ran writes, sum (λ (u : View). has_begun u.stage t k)));
      lives = each (λ u. LivesAsRun o c.mem u.stage) r.values.lives (r.values.lives 0 v at) tt;
    };
  }

-- ---- join

-- How often a number stands in a list from which another one was taken.
times_without : (c x : ℕ) (xs : List ℕ) → times x (filter (λ d. not (eqb d c)) xs) + cond (eqb c x) (times c xs) 0 ≡ times x xs
times_without c x [] = dite (ℕ_discrete c x) (λ e. ap (λ b. 0 + cond b 0 0) (eq-eqb c x e)) (λ n. ap (λ b. 0 + cond b 0 0) (ne_eqb c x n))
times_without c x (y ∷ ys) = let before = times_without c x ys in
    let P : Bool → Type 0 = λ b. times x (cond (not b) (y ∷ filter (λ d. not (eqb d c)) ys) (filter (λ d. not (eqb d c)) ys)) + cond (eqb c x) (one_if y c + times c ys) 0 ≡ one_if y x + times x ys in
    dite (ℕ_discrete y c)
    (λ e. subst P (sym (eq-eqb y c e)) (let one = one_same y c e in dite (ℕ_discrete c x)
    (λ d. let same = one_same y x (e ∙ d) in subst (λ b. times x (filter (λ z. not (eqb z c)) ys) + cond b (one_if y c + times c ys) 0 ≡ one_if y x + times x ys) (sym (eq-eqb c x d))
    (let q : times x (filter (λ z. not (eqb z c)) ys) + times c ys ≡ times x ys = ap (λ b. times x (filter (λ z. not (eqb z c)) ys) + cond b (times c ys) 0) (sym (eq-eqb c x d)) ∙ before in omega arith))
    (λ n. let apart = one_else y x (λ f. n (sym e ∙ f)) in subst (λ b. times x (filter (λ z. not (eqb z c)) ys) + cond b (one_if y c + times c ys) 0 ≡ one_if y x + times x ys) (sym (ne_eqb c x n))
    (let q : times x (filter (λ z. not (eqb z c)) ys) + 0 ≡ times x ys = ap (λ b. times x (filter (λ z. not (eqb z c)) ys) + cond b (times c ys) 0) (sym (ne_eqb c x n)) ∙ before in omega arith))))
    (λ ne. subst P (sym (ne_eqb y c ne)) (let none = one_else y c ne in dite (ℕ_discrete c x)
    (λ d. subst (λ b. (one_if y x + times x (filter (λ z. not (eqb z c)) ys)) + cond b (one_if y c + times c ys) 0 ≡ one_if y x + times x ys) (sym (eq-eqb c x d))
    (let q : times x (filter (λ z. not (eqb z c)) ys) + times c ys ≡ times x ys = ap (λ b. times x (filter (λ z. not (eqb z c)) ys) + cond b (times c ys) 0) (sym (eq-eqb c x d)) ∙ before in omega arith))
    (λ n. subst (λ b. (one_if y x + times x (filter (λ z. not (eqb z c)) ys)) + cond b (one_if y c + times c ys) 0 ≡ one_if y x + times x ys) (sym (ne_eqb c x n))
    (let q : times x (filter (λ z. not (eqb z c)) ys) + 0 ≡ times x ys = ap (λ b. times x (filter (λ z. not (eqb z c)) ys) + cond b (times c ys) 0) (sym (ne_eqb c x n)) ∙ before in omega arith))))

without_same : (c : ℕ) (xs : List ℕ) → times c (filter (λ d. not (eqb d c)) xs) ≡ 0
without_same c xs = let e : times c (filter (λ d. not (eqb d c)) xs) + times c xs ≡ times c xs = ap (λ b. times c (filter (λ d. not (eqb d c)) xs) + cond b (times c xs) 0) (sym (eq-eqb c c refl)) ∙ times_without c c xs in omega arith

without_else : (c x : ℕ) (xs : List ℕ) → c ≢ x → times x (filter (λ d. not (eqb d c)) xs) ≡ times x xs
without_else c x xs n = let e : times x (filter (λ d. not (eqb d c)) xs) + 0 ≡ times x xs = ap (λ b. times x (filter (λ d. not (eqb d c)) xs) + cond b (times c xs) 0) (sym (ne_eqb c x n)) ∙ times_without c x xs in omega arith

-- What neither of two lists passes, the larger of each two numbers doesn't pass.
pub larger_most : (xs ys : List ℕ) (t n : ℕ) → get_or xs t 0 ≤ n → get_or ys t 0 ≤ n → get_or (larger_each xs ys) t 0 ≤ n
larger_most [] ys t n h i = i
larger_most (x ∷ xs) [] t n h i = h
larger_most (x ∷ xs) (y ∷ ys) zero n h i = max-le h i
larger_most (x ∷ xs) (y ∷ ys) (suc t) n h i = larger_most xs ys t n h i

none_there : (t n : ℕ) → get_or {A = ℕ} [] t 0 ≤ n
none_there t n = omega arith

-- It is no less than either.
pub larger_least : (xs ys : List ℕ) (t : ℕ) → (get_or xs t 0 ≤ get_or (larger_each xs ys) t 0) × (get_or ys t 0 ≤ get_or (larger_each xs ys) t 0)
larger_least [] ys t = (none_there t (get_or ys t 0), omega arith)
larger_least (x ∷ xs) [] t = (omega arith, none_there t (get_or (x ∷ xs) t 0))
larger_least (x ∷ xs) (y ∷ ys) zero = (le-max_left x y, le-max_right x y)
larger_least (x ∷ xs) (y ∷ ys) (suc t) = larger_least xs ys t

-- The larger numbers are as many.
pub larger_long : (xs ys : List ℕ) (n : ℕ) → length xs ≡ n → length ys ≡ n → length (larger_each xs ys) ≡ n
larger_long [] ys n h i = i
larger_long (x ∷ xs) [] n h i = h
larger_long (x ∷ xs) (y ∷ ys) zero h i = absurd (omega arith)
larger_long (x ∷ xs) (y ∷ ys) (suc n) h i = ap suc (larger_long xs ys n (omega arith) (omega arith))

module _ (o : Opening) (c : Content) (views : List View) (other : ℕ) (v s : View) (outs : List ℕ) (core : ℕ) (left : Opening) (at : get_elem? views 0 ≡ some v) (apart : other ≢ 0) (there : get_elem? views other ≡ some s)
    (r : Rule o c views) (root : v.role ≡ Root outs) (seat : s.role ≡ Seat core) (free : s.stage ≡ Free) (nothing : s.owes ≡ []) where
  abbrev b : View
  b = joined v s

  abbrev z : View
  z = spent left

  abbrev one : List View
  one = set views 0 b

  abbrev two : List View
  two = set one other z

  abbrev outs_then : List ℕ
  outs_then = filter (λ d. not (eqb d core)) outs

  root_is : IsViewOf o v × (v.stage ≡ Free)
  root_is = root_role o v outs root (r.known 0 v at).role

  seat_is : IsViewOf o s × (core < o.cores)
  seat_is = subst (λ (q : Role). IsRole o s q) seat (r.known other s there).role

  role_then : b.role ≡ Root outs_then
  role_then = ap (λ q. back_in q v.role) seat ∙ ap (back_in (Seat core)) root

  still_there : get_elem? one other ≡ some s
  still_there = set_else views 0 other b apart ∙ there

  total : (g : View → ℕ) → sum_over g two + g v + g s ≡ sum_over g views + g b + g z
  total g = omega (arith, sum_set g views 0 v b at, sum_set g one other s z still_there)

  each_then : (P : View → Type 0) → Each P views → P b → P z → Each P two
  each_then P all pb pz j u e = ⊎_elim
      (λ q. subst P q.1 pz)
      (λ q. ⊎_elim (λ p. subst P p.1 pb) (λ p. all j u p.1) (at_set views 0 j b u q.1))
      (at_set one other j z u e)

  first_then : get_elem? two 0 ≡ some b
  first_then = set_else one other 0 z (λ q. apart (sym q)) ∙ set_here views 0 v b at

  seats_then : HasSeats two (Root outs_then)
  seats_then x =
      let before = subst (λ (q : Role). HasSeats views q) root (r.seats.first v at) x in
      let sums = total (λ (y : View). is_seat x y.role) in
      let own : is_seat x b.role ≡ 0 = ap (is_seat x) role_then in
      let was : is_seat x v.role ≡ 0 = ap (is_seat x) root in
      let gone : is_seat x s.role ≡ one_if core x = ap (is_seat x) seat in
      let part = term_at (λ (y : View). is_seat x y.role) views other s there in
      dite (ℕ_discrete core x)
      (λ q. let none : times x outs_then ≡ 0 = subst (λ (y : ℕ). times y outs_then ≡ 0) q (without_same core outs) in
      (omega (arith, before.0, before.1, sums, own, was, gone, part, none, one_same core x q), omega (arith, none)))
      (λ q. let same = without_else core x outs q in
      (omega (arith, before.0, sums, own, was, gone, same, one_else core x q), omega (arith, before.1, same)))

  owes_then : OwesAsRole b b.role
  owes_then = subst (λ (q : Role). OwesAsRole b q) (sym role_then)
      (ap (λ x. x ++ s.owes) (subst (λ (q : Role). OwesAsRole v q) root (r.seats.owes 0 v at)) ∙ nothing)

  -- The rule is kept.
  pub joins : Rule o c (set (set views 0 (joined v s)) other (spent left))
  joins = record {
    run = r.run;
    known = each_then (IsView o c.clock) r.known
        (record { role = subst (λ (q : Role). IsRole o b q) (sym role_then) (record { opening = root_is.0.opening; found = larger_long v.found s.found (task_count o.program) root_is.0.found seat_is.0.found; looks = root_is.0.looks; losses = root_is.0.losses }, root_is.1); stage = (r.known 0 v at).stage })
        (record { role = (refl, refl); stage = tt });
    tasks = r.tasks;
    held = λ t k i. omega (arith, total (λ (u : View). holds u.stage t k), r.held t k i, ap (λ x. holds x t k) free);
    found = record {
      most = each_then (λ u. (t : ℕ) → t < task_count o.program → get_or u.found t 0 ≤ c.alloc t) r.found.most
          (λ t h. larger_most v.found s.found t (c.alloc t) (r.found.most 0 v at t h) (r.found.most other s there t h)) (λ t h. none_there t (c.alloc t));
      some = λ t h a. let up = larger_least v.found s.found t in
          omega (arith, r.found.some t h a, total (λ (u : View). get_or u.found t 0), up.0, up.1, terms_at (λ (u : View). get_or u.found t 0) views 0 other v s apart at there);
      roots = each_then (FindsRoots o) r.found.roots
          (λ t h within none. omega (arith, (larger_least v.found s.found t).0, r.found.roots 0 v at t h (omega (arith, h, root_is.0.found)) none))
          (λ t h within none. absurd (omega arith));
    };
    seats = record {
      first = λ u e. let same : b ≡ u = some-injective b u (sym first_then ∙ e) in
          subst (λ (y : View). HasSeats two y.role) same (subst (λ (q : Role). HasSeats two q) (sym role_then) seats_then);
      lone = λ j u os e q. ⊎_elim
          (λ p. absurd (cc (ap (λ (y : View). y.role) p.1, q)))
          (λ p. ⊎_elim (λ h. h.0) (λ h. r.seats.lone j u os h.1 q) (at_set views 0 j b u p.1))
          (at_set one other j z u e);
      owes = each_then (λ u. OwesAsRole u u.role) r.seats.owes owes_then (refl, refl);
    };
    tickets = record {
      count = omega (arith, total (λ (u : View). tickets_to_draw u.stage), r.tickets.count, ap tickets_to_draw free);
      once = λ x. omega (arith, r.tickets.once x, total (λ (u : View). drawn x u.stage), ap (drawn x) free);
      ended = r.tickets.ended;
      begun = each_then (BegunInTurn o c) r.tickets.begun (begun_idle o c b (subst Unbegun (sym root_is.1) tt)) (begun_idle o c z tt);
    };
    records = record {
      own = r.records.own;
      core = r.records.core;
      noted = each_then (IsNoted o c) r.records.noted (noted_idle o c b (subst Unbegun (sym root_is.1) tt)) (noted_idle o c z tt);
    };
    values = record {
      rest = λ a small none. r.values.rest a small (λ t k ran writes. omega (arith, none t k ran writes, total (λ (u : View). has_begun u.stage t k), ap (λ x. has_begun x t k) free));
      lives = each_then (λ u. LivesAsRun o c.mem u.stage) r.values.lives (r.values.lives 0 v at) tt;
    };
  }
