-- Elements that pass a test: all of them, none, and the first.
use Rattle.std.proofs.Common.{◌≡◌, ℕ, suc, ◌+◌, ◌<◌, ◌≤◌, Bool, true, false, cond, not, ltb, List, [], ◌∷◌, ◌++◌, Option, Some, None, map, length, take, drop, refl, ap, sym, subst, ◌∙◌, arith, append_assoc, length-append}
use Rattle.std.specs.Prelude.{position, unwrap_or}
use Rattle.std.specs.List.{list_all, AllByRecursion, position_or_len, before_first, after_first}
use Rattle.std.proofs.lemmas.Bool.{ltb-true, ltb-false, lt-ltb, le-ltb, and_from, and_parts}
use Rattle.std.proofs.lemmas.List.{length_push, take_at, take_all, drop_at}
use Rattle.std.proofs.lemmas.List.Sums.{prefix_len-le-length}

-- ---- what holds of all elements

-- A test that passes wherever another does passes at all elements if the other does.
pub list_all_weaker : {A : Type 0} (p q : A → Bool) → ((x : A) → p x ≡ true → q x ≡ true) → (xs : List A) → list_all p xs ≡ true → list_all q xs ≡ true
list_all_weaker p q f [] h = refl
list_all_weaker p q f (x ∷ xs) h = let r = and_parts (p x) (list_all p xs) h in and_from _ _ (f x r.0) (list_all_weaker p q f xs r.1)

-- What holds of all elements holds of those of a prefix.
pub all_front : {A : Type 0} (P : A → Type 0) (xs ys : List A) → AllByRecursion P (xs ++ ys) → AllByRecursion P xs
all_front P [] ys h = tt
all_front P (x ∷ xs) ys h = (h.0, all_front P xs ys h.1)

-- And of those after a prefix.
pub all_back : {A : Type 0} (P : A → Type 0) (xs ys : List A) → AllByRecursion P (xs ++ ys) → AllByRecursion P ys
all_back P [] ys h = h
all_back P (x ∷ xs) ys h = all_back P xs ys h.1

-- What holds of all elements of two lists holds of those of both in a row.
pub all_append : {A : Type 0} (P : A → Type 0) (xs ys : List A) → AllByRecursion P xs → AllByRecursion P ys → AllByRecursion P (xs ++ ys)
all_append P [] ys h g = g
all_append P (x ∷ xs) ys h g = (h.0, all_append P xs ys h.1 g)

-- What follows from a fact of each element holds if the fact does.
pub all_weaker : {A : Type 0} (P Q : A → Type 0) (xs : List A) → ((x : A) → P x → Q x) → AllByRecursion P xs → AllByRecursion Q xs
all_weaker P Q [] f h = tt
all_weaker P Q (x ∷ xs) f h = (f x h.0, all_weaker P Q xs f h.1)

-- No element passes.
abbrev pub HasNone : {A : Type 0} → (A → Bool) → List A → Type 0
HasNone p xs = AllByRecursion (λ x. p x ≡ false) xs

-- None passes if all pass a test whose elements don't.
pub none_pass : {A : Type 0} (p q : A → Bool) → ((x : A) → p x ≡ true → q x ≡ false) → (xs : List A) → list_all p xs ≡ true → HasNone q xs
none_pass p q f [] h = tt
none_pass p q f (x ∷ xs) h = let r = and_parts (p x) (list_all p xs) h in (f x r.0, none_pass p q f xs r.1)

-- ---- the first that passes, by the prefix of the list

before_yes : {A : Type 0} (p : A → Bool) (x : A) (xs : List A) → p x ≡ true → before_first p (x ∷ xs) ≡ []
before_yes p x xs e = ap (λ b. take (cond (not b) (1 + position_or_len p xs) 0) (x ∷ xs)) e

before_no : {A : Type 0} (p : A → Bool) (x : A) (xs : List A) → p x ≡ false → before_first p (x ∷ xs) ≡ x ∷ before_first p xs
before_no p x xs e =
    let on : 1 + position_or_len p xs ≡ suc (position_or_len p xs) = omega arith in
    ap (λ b. take (cond (not b) (1 + position_or_len p xs) 0) (x ∷ xs)) e ∙ ap (λ n. take n (x ∷ xs)) on

-- From the first that passes on, all are left if the first element passes.
pub from_yes : {A : Type 0} (p : A → Bool) (x : A) (xs : List A) → p x ≡ true → drop (position_or_len p (x ∷ xs)) (x ∷ xs) ≡ x ∷ xs
from_yes p x xs e = ap (λ b. drop (cond (not b) (1 + position_or_len p xs) 0) (x ∷ xs)) e

-- Else those that are left of the others.
pub from_no : {A : Type 0} (p : A → Bool) (x : A) (xs : List A) → p x ≡ false → drop (position_or_len p (x ∷ xs)) (x ∷ xs) ≡ drop (position_or_len p xs) xs
from_no p x xs e =
    let on : 1 + position_or_len p xs ≡ suc (position_or_len p xs) = omega arith in
    ap (λ b. drop (cond (not b) (1 + position_or_len p xs) 0) (x ∷ xs)) e ∙ ap (λ n. drop n (x ∷ xs)) on

-- ---- by the answer of `position`

-- The answer is the place of the first that passes.
pub found : {A : Type 0} (p : A → Bool) (xs : List A) (i : ℕ) → position p xs ≡ Some i → (position_or_len p xs ≡ i) × (i < length xs)
found p xs i e = found_by (ltb (position_or_len p xs) (length xs)) (position_or_len p xs) i e (λ t. ltb-true _ _ t)
  where
    found_by : (b : Bool) (n i : ℕ) → cond b (Some n) None ≡ Some i → (b ≡ true → n < length xs) → (n ≡ i) × (i < length xs)
    found_by true n i e h = let same : n ≡ i = cc in (same, omega (arith, h refl))
    found_by false n i e h = absurd cc

-- If there is none, its place is the length of the list.
pub none_found : {A : Type 0} (p : A → Bool) (xs : List A) → position p xs ≡ None → position_or_len p xs ≡ length xs
none_found p xs e = none_by (ltb (position_or_len p xs) (length xs)) (position_or_len p xs) e (λ t. ltb-false _ _ t) (prefix_len-le-length (λ x. not (p x)) xs)
  where
    none_by : (b : Bool) (n : ℕ) → cond b (Some n) None ≡ None → (b ≡ false → length xs ≤ n) → n ≤ length xs → n ≡ length xs
    none_by true n e h m = absurd cc
    none_by false n e h m = omega (arith, h refl, m)

-- The place of the first that passes, or the length, is the length of the prefix that doesn't.
pub unwrap_found : {A : Type 0} (p : A → Bool) (xs : List A) → unwrap_or (position p xs) (length xs) ≡ position_or_len p xs
unwrap_found p xs = by (position p xs) refl
  where
    by : (o : Option ℕ) → position p xs ≡ o → unwrap_or o (length xs) ≡ position_or_len p xs
    by (Some i) e = sym (found p xs i e).0
    by None e = sym (none_found p xs e)

-- A place inside the list is the answer.
pub found_at : {A : Type 0} (p : A → Bool) (xs : List A) (n : ℕ) → position_or_len p xs ≡ n → n < length xs → position p xs ≡ Some n
found_at p xs n e h = rw (e, lt-ltb n (length xs) h) refl

-- A place at its end or later is none.
pub found_none : {A : Type 0} (p : A → Bool) (xs : List A) → length xs ≤ position_or_len p xs → position p xs ≡ None
found_none p xs h = rw (le-ltb (position_or_len p xs) (length xs) h) refl

-- ---- a list of which none passes

place_none : {A : Type 0} (p : A → Bool) (xs : List A) → HasNone p xs → position_or_len p xs ≡ length xs
place_none p [] h = refl
place_none p (x ∷ xs) h = rw (h.0, place_none p xs h.1) (omega arith)

-- If none passes, the answer is none.
pub position_none : {A : Type 0} (p : A → Bool) (xs : List A) → HasNone p xs → position p xs ≡ None
position_none p xs h = found_none p xs (omega (arith, place_none p xs h))

-- All stand before the first that passes, if none does.
pub before_none : {A : Type 0} (p : A → Bool) (xs : List A) → HasNone p xs → before_first p xs ≡ xs
before_none p xs h = take_all (position_or_len p xs) xs (omega (arith, place_none p xs h))

-- None before the first that passes does.
pub none_before : {A : Type 0} (p : A → Bool) (xs : List A) → HasNone p (before_first p xs)
none_before p [] = tt
none_before p (x ∷ xs) = by (p x) refl (none_before p xs)
  where
    by : (b : Bool) → p x ≡ b → HasNone p (before_first p xs) → HasNone p (before_first p (x ∷ xs))
    by true e h = subst (HasNone p) (sym (before_yes p x xs e)) tt
    by false e h = subst (HasNone p) (sym (before_no p x xs e)) (e, h)

-- None passes if the answer is none.
pub none_when : {A : Type 0} (p : A → Bool) (xs : List A) → position p xs ≡ None → HasNone p xs
none_when p xs e = subst (HasNone p) (take_all (position_or_len p xs) xs (omega (arith, none_found p xs e))) (none_before p xs)

-- ---- a list of which none passes, one that does, and others

-- The first that passes stands after a prefix that doesn't.
pub place_at : {A : Type 0} (p : A → Bool) (xs : List A) (y : A) (ys : List A) → HasNone p xs → p y ≡ true → position_or_len p (xs ++ y ∷ ys) ≡ length xs
place_at p [] y ys h e = rw e refl
place_at p (x ∷ xs) y ys h e = rw (h.0, place_at p xs y ys h.1 e) (omega arith)

-- Its place is the length of that prefix.
pub position_at : {A : Type 0} (p : A → Bool) (xs : List A) (y : A) (ys : List A) → HasNone p xs → p y ≡ true → position p (xs ++ y ∷ ys) ≡ Some (length xs)
position_at p xs y ys h e = found_at p (xs ++ y ∷ ys) (length xs) (place_at p xs y ys h e) (omega (arith, length-append xs (y ∷ ys)))

-- The prefix stands before it.
pub before_at : {A : Type 0} (p : A → Bool) (xs : List A) (y : A) (ys : List A) → HasNone p xs → p y ≡ true → before_first p (xs ++ y ∷ ys) ≡ xs
before_at p xs y ys h e = ap (λ n. take n (xs ++ y ∷ ys)) (place_at p xs y ys h e) ∙ take_at xs (y ∷ ys) (length xs) refl

-- What stands after the element after some.
pub drop_past : {A : Type 0} (xs : List A) (y : A) (ys : List A) → drop (length xs + 1) (xs ++ y ∷ ys) ≡ ys
drop_past xs y ys = ap (drop (length xs + 1)) (sym (append_assoc xs (y ∷ []) ys)) ∙ drop_at (xs ++ y ∷ []) ys (length xs + 1) (length_push xs y)

-- What stands after it is the rest.
pub after_at : {A : Type 0} (p : A → Bool) (xs : List A) (y : A) (ys : List A) → HasNone p xs → p y ≡ true → after_first p (xs ++ y ∷ ys) ≡ ys
after_at p xs y ys h e = ap (λ n. drop (n + 1) (xs ++ y ∷ ys)) (place_at p xs y ys h e) ∙ drop_past xs y ys

-- ---- lists of other items

-- The place in a list of images is that by the test of the images.
pub position_map : {A B : Type 0} (p : B → Bool) (f : A → B) (xs : List A) → position_or_len p (map f xs) ≡ position_or_len (λ x. p (f x)) xs
position_map p f [] = refl
position_map p f (x ∷ xs) = ap (λ n. cond (not (p (f x))) (1 + n) 0) (position_map p f xs)
