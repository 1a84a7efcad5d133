-- What becomes of the duties of all views if one view replaces some, is split, or is joined with another.
use Rattle.std.proofs.Common.{◌≡◌, ◌≢◌, ℕ, zero, suc, ◌+◌, ◌≤◌, ◌⊎◌, List, [], ◌∷◌, ◌++◌, set, get_or, append_assoc, Contains, sym, refl, ap, ◌∙◌, subst, inl, inr, ⊎_elim, arith}
use mathlib.Core.Option.{some, some-injective, some-ne-none}
use lib.ListN.{get_elem?}
use Rattle.std.proofs.lemmas.Bool.{cases_eq}
use Rattle.std.proofs.lemmas.List.{map-append}
use Rattle.std.proofs.lemmas.List.Elements.{Contains-append_left, Contains-append_right, Contains-append_cases}
use Rattle.plural_map.specs.declared.outcome.Outcome.{Outcome}
use Rattle.plural_order.specs.Sums.{sum_over}
use Rattle.plural_counters.specs.Counters.{duties_of}
use Rattle.plural_counters.specs.Steps.{Replaces, as_duties, owed_of, told_of, owed_in, told_in}
use Rattle.plural_counters.specs.Laws.{OneViewReplaces, OneDutyReplaces, SplitKeepsDuties, JoinKeepsDuties}
use Rattle.plural_counters.specs.declared.duty.Duty.{Duty}
use Rattle.plural_counters.specs.declared.duty.Duty.TheVariants.{Flag, Count, Close, Tell, Decide, Arm, Told}
use Rattle.plural_counters.proofs.Sums.{sum_append, sum_set, term_at}

none_there : (p : Duty) → Contains [] p → ⊥
none_there p c = absurd (let h = c.1 in omega arith)

-- ---- the duties of all views

module _ {V : Type 0} (duties : V → List Duty) where
  -- Their sum, view by view.
  pub duties_sum : (f : Duty → ℕ) (views : List V) → sum_over f (duties_of duties views) ≡ sum_over (λ v. sum_over f (duties v)) views
  duties_sum f [] = refl
  duties_sum f (v ∷ vs) = omega (arith, sum_append f (duties v) (duties_of duties vs), duties_sum f vs)

  -- A duty of a view is one of all views.
  pub duty_there : (views : List V) (id : ℕ) (v : V) (p : Duty) → get_elem? views id ≡ some v → Contains (duties v) p → Contains (duties_of duties views) p
  duty_there [] id v p at c = absurd (some-ne-none v (sym at))
  duty_there (x ∷ xs) zero v p at c = Contains-append_left (duties x) (duties_of duties xs) p (subst (λ (y : V). Contains (duties y) p) (sym (some-injective x v at)) c)
  duty_there (x ∷ xs) (suc id) v p at c = Contains-append_right (duties x) (duties_of duties xs) p (duty_there xs id v p at c)

  set_cases : (views : List V) (id : ℕ) (w : V) (p : Duty) → Contains (duties_of duties (set views id w)) p → Contains (duties w) p ⊎ Contains (duties_of duties views) p
  set_cases [] id w p c = inr c
  set_cases (x ∷ xs) zero w p c = ⊎_elim (λ h. inl h) (λ t. inr (Contains-append_right (duties x) (duties_of duties xs) p t)) (Contains-append_cases (duties w) (duties_of duties xs) p c)
  set_cases (x ∷ xs) (suc id) w p c = ⊎_elim
      (λ h. inr (Contains-append_left (duties x) (duties_of duties xs) p h))
      (λ t. ⊎_elim (λ a. inl a) (λ b. inr (Contains-append_right (duties x) (duties_of duties xs) p b)) (set_cases xs id w p t))
      (Contains-append_cases (duties x) (duties_of duties (set xs id w)) p c)

  -- If a view replaces some duties by others, in any order, they are replaced in the duties of all views.
  replaces : (views : List V) (id : ℕ) (v w : V) (old new : List Duty) → get_elem? views id ≡ some v
      → ((f : Duty → ℕ) → sum_over f (duties w) + sum_over f old ≡ sum_over f (duties v) + sum_over f new) → ((f : Duty → ℕ) → sum_over f old ≤ sum_over f (duties v))
      → ((p : Duty) → Contains old p → Contains (duties v) p) → ((p : Duty) → Contains (duties w) p → Contains new p ⊎ Contains (duties v) p)
      → Replaces (duties_of duties views) (duties_of duties (set views id w)) old new
  replaces views id v w old new at sums part had kept = record {
    sums = λ f. omega (arith, duties_sum f views, duties_sum f (set views id w), sum_set (λ (x : V). sum_over f (duties x)) views id v w at, sums f);
    part = λ f. omega (arith, duties_sum f views, term_at (λ (x : V). sum_over f (duties x)) views id v at, part f);
    had = λ p c. duty_there views id v p at (had p c);
    kept = λ p c. ⊎_elim (λ h. ⊎_elim (λ n. inl n) (λ o. inr (duty_there views id v p at o)) (kept p h)) (λ t. inr t) (set_cases views id w p c);
  }

-- A prefix of the duties is replaced.
pub front_replaced : (old new rest : List Duty) → Replaces (old ++ rest) (new ++ rest) old new
front_replaced old new rest = record {
  sums = λ f. omega (arith, sum_append f old rest, sum_append f new rest);
  part = λ f. omega (arith, sum_append f old rest);
  had = λ p c. Contains-append_left old rest p c;
  kept = λ p c. ⊎_elim (λ n. inl n) (λ t. inr (Contains-append_right old rest p t)) (Contains-append_cases new rest p c);
}

-- If a view replaces a prefix of its duties, it is replaced in the duties of all views.
pub one_view_replaces : {V : Type 0} → OneViewReplaces V
one_view_replaces duties views id v w old new rest at was now = replaces duties views id v w old new at
    (λ f. omega (arith, ap (sum_over f) was, ap (sum_over f) now, sum_append f old rest, sum_append f new rest))
    (λ f. omega (arith, ap (sum_over f) was, sum_append f old rest))
    (λ p c. subst (λ (l : List Duty). Contains l p) (sym was) (Contains-append_left old rest p c))
    (λ p c. ⊎_elim (λ n. inl n) (λ t. inr (subst (λ (l : List Duty). Contains l p) (sym was) (Contains-append_right old rest p t))) (Contains-append_cases new rest p (subst (λ (l : List Duty). Contains l p) now c)))

-- ---- views with two lists

both_sum : (f : Duty → ℕ) (p : Duty) → sum_over f (owed_of p) + sum_over f (as_duties (told_of p)) ≡ f p
both_sum f (Flag t k) = omega arith
both_sum f (Count t k) = omega arith
both_sum f (Close t) = omega arith
both_sum f (Tell t o e h) = omega arith
both_sum f (Decide t) = omega arith
both_sum f (Arm t) = omega arith
both_sum f (Told t o) = omega arith

one_from : (q p : Duty) → Contains (q ∷ []) p → q ≡ p
one_from q p c = ⊎_elim (λ z. at c.0 z c.2) (λ z. absurd (let h = c.1 in let n = z in omega arith)) (cases_eq c.0 0)
  where
    at : (i : ℕ) → i ≡ 0 → get_or (q ∷ []) i p ≡ p → q ≡ p
    at zero z e = e
    at (suc i) z e = absurd (omega arith)

owed_from : (q p : Duty) → Contains (owed_of q) p → q ≡ p
owed_from (Flag t k) p c = one_from (Flag t k) p c
owed_from (Count t k) p c = one_from (Count t k) p c
owed_from (Close t) p c = one_from (Close t) p c
owed_from (Tell t o e h) p c = one_from (Tell t o e h) p c
owed_from (Decide t) p c = one_from (Decide t) p c
owed_from (Arm t) p c = one_from (Arm t) p c
owed_from (Told t o) p c = absurd (none_there p c)

told_from : (q p : Duty) → Contains (as_duties (told_of q)) p → q ≡ p
told_from (Flag t k) p c = absurd (none_there p c)
told_from (Count t k) p c = absurd (none_there p c)
told_from (Close t) p c = absurd (none_there p c)
told_from (Tell t o e h) p c = absurd (none_there p c)
told_from (Decide t) p c = absurd (none_there p c)
told_from (Arm t) p c = absurd (none_there p c)
told_from (Told t o) p c = one_from (Told t o) p c

as_append : (l m : List (ℕ × Outcome)) → as_duties (l ++ m) ≡ as_duties l ++ as_duties m
as_append l m = map-append (λ (x : ℕ × Outcome). Told x.0 x.1) l m

lists_sum : (f : Duty → ℕ) (l : List Duty) → sum_over f (owed_in l) + sum_over f (as_duties (told_in l)) ≡ sum_over f l
lists_sum f [] = refl
lists_sum f (p ∷ l) = omega (arith, sum_append f (owed_of p) (owed_in l), ap (sum_over f) (as_append (told_of p) (told_in l)), sum_append f (as_duties (told_of p)) (as_duties (told_in l)), both_sum f p, lists_sum f l)

head_there : (q p : Duty) (l : List Duty) → q ≡ p → Contains (q ∷ l) p
head_there q p l e = (0, omega arith, e)

tail_there : (q p : Duty) (l : List Duty) → Contains l p → Contains (q ∷ l) p
tail_there q p l c = let h = c.1 in (suc c.0, omega arith, c.2)

owed_there : (l : List Duty) (p : Duty) → Contains (owed_in l) p → Contains l p
owed_there [] p c = c
owed_there (q ∷ l) p c = ⊎_elim (λ h. head_there q p l (owed_from q p h)) (λ t. tail_there q p l (owed_there l p t)) (Contains-append_cases (owed_of q) (owed_in l) p c)

told_there : (l : List Duty) (p : Duty) → Contains (as_duties (told_in l)) p → Contains l p
told_there [] p c = c
told_there (q ∷ l) p c = ⊎_elim (λ h. head_there q p l (told_from q p h)) (λ t. tail_there q p l (told_there l p t))
    (Contains-append_cases (as_duties (told_of q)) (as_duties (told_in l)) p (subst (λ (x : List Duty). Contains x p) (as_append (told_of q) (told_in l)) c))

-- So it is for a view with two lists that replaces one duty.
pub one_duty_replaces : {V : Type 0} → OneDutyReplaces V
one_duty_replaces duties views id v w old new first rest told at was now = replaces duties views id v w (old ∷ []) new at
    (λ f. omega (arith, had_sum f, ap (sum_over f) now, sum_append f (owed_in new ++ (first ++ rest)) (as_duties (told_in new ++ told)), sum_append f (owed_in new) (first ++ rest), sum_append f first rest, ap (sum_over f) (as_append (told_in new) told), sum_append f (as_duties (told_in new)) (as_duties told), lists_sum f new))
    (λ f. omega (arith, had_sum f))
    (λ p c. owed_here p (Contains-append_right first (old ∷ rest) p (Contains-append_left (old ∷ []) rest p c)))
    (λ p c. from p (Contains-append_cases (owed_in new ++ (first ++ rest)) (as_duties (told_in new ++ told)) p (subst (λ (l : List Duty). Contains l p) now c)))
  where
    had_sum : (f : Duty → ℕ) → sum_over f (duties v) ≡ sum_over f first + (f old + sum_over f rest) + sum_over f (as_duties told)
    had_sum f = ap (sum_over f) was ∙ omega (arith, sum_append f (first ++ old ∷ rest) (as_duties told), sum_append f first (old ∷ rest))

    owed_here : (p : Duty) → Contains (first ++ old ∷ rest) p → Contains (duties v) p
    owed_here p c = subst (λ (l : List Duty). Contains l p) (sym was) (Contains-append_left (first ++ old ∷ rest) (as_duties told) p c)

    told_here : (p : Duty) → Contains (as_duties told) p → Contains (duties v) p
    told_here p c = subst (λ (l : List Duty). Contains l p) (sym was) (Contains-append_right (first ++ old ∷ rest) (as_duties told) p c)

    stays : (p : Duty) → Contains (first ++ rest) p → Contains (duties v) p
    stays p c = owed_here p (⊎_elim (λ a. Contains-append_left first (old ∷ rest) p a) (λ b. Contains-append_right first (old ∷ rest) p (tail_there old p rest b)) (Contains-append_cases first rest p c))

    from : (p : Duty) → Contains (owed_in new ++ (first ++ rest)) p ⊎ Contains (as_duties (told_in new ++ told)) p → Contains new p ⊎ Contains (duties v) p
    from p (inl c) = ⊎_elim (λ n. inl (owed_there new p n)) (λ o. inr (stays p o)) (Contains-append_cases (owed_in new) (first ++ rest) p c)
    from p (inr c) = ⊎_elim (λ n. inl (told_there new p n)) (λ o. inr (told_here p o))
        (Contains-append_cases (as_duties (told_in new)) (as_duties told) p (subst (λ (l : List Duty). Contains l p) (as_append (told_in new) told) c))

-- ---- views that are split and joined

-- Of two lists with the same sums, of which the second has nothing that the first hasn't, nothing is replaced.
nothing_replaced : (l m : List Duty) → ((f : Duty → ℕ) → sum_over f m ≡ sum_over f l) → ((p : Duty) → Contains m p → Contains l p) → Replaces l m [] []
nothing_replaced l m sums there = record {
  sums = λ f. omega (arith, sums f);
  part = λ f. omega arith;
  had = λ p c. absurd (none_there p c);
  kept = λ p c. inr (there p c);
}

module _ {V : Type 0} (duties : V → List Duty) where
  views_append : (l m : List V) → duties_of duties (l ++ m) ≡ duties_of duties l ++ duties_of duties m
  views_append [] m = refl
  views_append (v ∷ vs) m = ap (λ (r : List Duty). duties v ++ r) (views_append vs m) ∙ sym (append_assoc (duties v) (duties_of duties vs) (duties_of duties m))

-- To split a view changes no duty.
pub split_keeps_duties : {V : Type 0} → SplitKeepsDuties V
split_keeps_duties {V} duties views id v left right at same none = nothing_replaced _ _
    (λ f. omega (arith, duties_sum duties f views, duties_sum duties f (set views id left ++ right ∷ []), sum_append (λ (x : V). sum_over f (duties x)) (set views id left) (right ∷ []), sum_set (λ (x : V). sum_over f (duties x)) views id v left at, ap (sum_over f) same, ap (sum_over f) none))
    (λ p c. ⊎_elim (λ h. ⊎_elim (λ a. duty_there duties views id v p at (subst (λ (l : List Duty). Contains l p) same a)) (λ b. b) (set_cases duties views id left p h)) (λ t. absurd (nothing p t))
    (Contains-append_cases (duties_of duties (set views id left)) (duties_of duties (right ∷ [])) p (subst (λ (l : List Duty). Contains l p) (views_append duties (set views id left) (right ∷ [])) c)))
  where
    nothing : (p : Duty) → Contains (duties right ++ []) p → ⊥
    nothing p c = none_there p (subst (λ (l : List Duty). Contains (l ++ []) p) none c)

-- To join two views changes no duty.
pub join_keeps_duties : {V : Type 0} → JoinKeepsDuties V
join_keeps_duties {V} duties views id other v w both spent at apart at_other whole none = nothing_replaced _ _
    (λ f. omega (arith, duties_sum duties f views, duties_sum duties f (set one other spent), sum_set (λ (x : V). sum_over f (duties x)) views id v both at, sum_set (λ (x : V). sum_over f (duties x)) one other w spent at_other, ap (sum_over f) whole, sum_append f (duties v) (duties w), ap (sum_over f) none))
    (λ p c. ⊎_elim (λ s. absurd (none_there p (subst (λ (l : List Duty). Contains l p) none s))) (λ o. in_one p o) (set_cases duties one other spent p c))
  where
    one : List V
    one = set views id both

    other_there : (l : List V) (i j : ℕ) (x y : V) → i ≢ j → get_elem? (set l j x) i ≡ some y → get_elem? l i ≡ some y
    other_there [] i j x y ne e = e
    other_there (z ∷ zs) zero zero x y ne e = absurd (ne refl)
    other_there (z ∷ zs) zero (suc j) x y ne e = e
    other_there (z ∷ zs) (suc i) zero x y ne e = e
    other_there (z ∷ zs) (suc i) (suc j) x y ne e = other_there zs i j x y (λ h. ne (ap suc h)) e

    in_one : (p : Duty) → Contains (duties_of duties one) p → Contains (duties_of duties views) p
    in_one p c = ⊎_elim
        (λ b. ⊎_elim (λ a. duty_there duties views id v p at a) (λ a. duty_there duties views other w p (other_there views other id both w apart at_other) a) (Contains-append_cases (duties v) (duties w) p (subst (λ (l : List Duty). Contains l p) whole b)))
        (λ o. o)
        (set_cases duties views id both p c)
