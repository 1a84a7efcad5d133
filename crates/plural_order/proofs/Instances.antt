-- Lists of instances.
use Rattle.std.proofs.Common.{◌≡◌, Bool, true, false, ◌||◌, eqb, eqb-true, List, [], ◌∷◌, ◌++◌, refl, sym, ap, ◌∙◌, ⊎_elim}
use Rattle.std.proofs.lemmas.Bool.{both_ways, and_parts, or_right, or_cases, false_from_ne_true}
use Rattle.plural_serial.specs.Instances.{Inst as Instance, same, is_in}
use Rattle.plural_serial.proofs.Records.{same_self}

-- Instances that are the same are equal.
pub same_is : (i j : Instance) → same i j ≡ true → i ≡ j
same_is i j e =
    let parts = and_parts (eqb i.0 j.0) (eqb i.1 j.1) e in
    let task = eqb-true i.0 j.0 parts.0 in
    let number = eqb-true i.1 j.1 parts.1 in
    λ k. (task k, number k)

-- Instances that differ in one order differ in the other.
pub same_sym : (i j : Instance) → same i j ≡ false → same j i ≡ false
same_sym i j e = false_from_ne_true (same j i) (λ t. both_ways (same i j) e (ap (same i) (same_is j i t) ∙ same_self i))

or_assoc : (b c d : Bool) → ((b || c) || d) ≡ (b || (c || d))
or_assoc true c d = refl
or_assoc false c d = refl

-- An instance is in two lists together if it is in one of them.
pub in_append : (j : Instance) (xs ys : List Instance) → is_in j (xs ++ ys) ≡ (is_in j xs || is_in j ys)
in_append j [] ys = refl
in_append j (x ∷ xs) ys = ap (λ b. same j x || b) (in_append j xs ys) ∙ sym (or_assoc (same j x) (is_in j xs) (is_in j ys))

-- The first of a list is in it.
pub in_first : (i : Instance) (is : List Instance) → is_in i (i ∷ is) ≡ true
in_first i is = ap (λ b. b || is_in i is) (same_self i)

-- The one in the middle is in the list.
pub in_middle : (past : List Instance) (i : Instance) (rest : List Instance) → is_in i (past ++ i ∷ rest) ≡ true
in_middle past i rest = in_append i past (i ∷ rest) ∙ or_right (is_in i past) (is_in i (i ∷ rest)) (in_first i rest)

-- A list cut after one of its instances, and before it.
pub append_one : (xs : List Instance) (i : Instance) (ys : List Instance) → (xs ++ i ∷ []) ++ ys ≡ xs ++ i ∷ ys
append_one [] i ys = refl
append_one (x ∷ xs) i ys = ap (λ (l : List Instance). x ∷ l) (append_one xs i ys)

-- An instance of a list stands between those before it and those after it.
pub split_at : (i : Instance) (is : List Instance) → is_in i is ≡ true → (past : List Instance) × (rest : List Instance) × (is ≡ past ++ i ∷ rest)
split_at i [] m = absurd cc
split_at i (j ∷ js) m = ⊎_elim
    (λ t. ([], js, ap (λ (x : Instance). x ∷ js) (sym (same_is i j t))))
    (λ r. let p = split_at i js r in (j ∷ p.0, p.1, ap (λ (l : List Instance). j ∷ l) p.2))
    (or_cases (same i j) (is_in i js) m)
