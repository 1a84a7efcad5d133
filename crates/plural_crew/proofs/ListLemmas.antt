-- A property of some element among the first ones of a list.
use Rattle.std.proofs.Common.{ℕ, ◌≡◌, ◌⊎◌, ◌+◌, ◌<◌, ◌≤◌, List, length, take, get_or, sym, ◌∙◌, subst, inl, inr, ⊎_elim, arith}
use Rattle.std.specs.List.{Any}
use Rattle.std.proofs.lemmas.Bool.{cases_lt}
use Rattle.std.proofs.lemmas.List.{length-take-le, get_or-take}
use Rattle.std.proofs.lemmas.List.{get_or_default}

-- Of the first n + 1 elements some one has it if one of the first n does, or the element at n.
pub any_more : {X : Type 0} (P : X → Type 0) (xs : List X) (n : ℕ) (d : X) → n < length xs → Any P (take (n + 1) xs) → Any P (take n xs) ⊎ P (get_or xs n d)
any_more P xs n d l h =
    let whole = length-take-le (n + 1) xs (omega arith) in
    let part = length-take-le n xs (omega arith) in
    let k = h.0 in let x = h.1 in
    let within : k < length (take (n + 1) xs) = h.2 in
    let at : get_or xs k x ≡ x = sym (get_or-take (n + 1) xs k x (omega arith)) ∙ h.3 in
    ⊎_elim
    (λ (s : k < n). inl (k, x, omega arith, get_or-take n xs k x s ∙ at, h.4))
    (λ (s : n ≤ k).
    let e : k ≡ n = omega arith in
    let f : x ≡ get_or xs n d = sym at ∙ subst (λ (j : ℕ). get_or xs j x ≡ get_or xs n d) (sym e) (get_or_default xs n x d l) in
    inr (subst P f h.4))
    (cases_lt k n)

-- One of the first n is one of the first n + 1.
pub any_kept : {X : Type 0} (P : X → Type 0) (xs : List X) (n : ℕ) → n < length xs → Any P (take n xs) → Any P (take (n + 1) xs)
any_kept P xs n l h =
    let whole = length-take-le (n + 1) xs (omega arith) in
    let part = length-take-le n xs (omega arith) in
    let within : h.0 < length (take n xs) = h.2 in
    (h.0, h.1, omega arith, get_or-take (n + 1) xs h.0 h.1 (omega arith) ∙ (sym (get_or-take n xs h.0 h.1 (omega arith)) ∙ h.3), h.4)

-- The element at n is one of the first n + 1.
pub any_last : {X : Type 0} (P : X → Type 0) (xs : List X) (n : ℕ) (d : X) → n < length xs → P (get_or xs n d) → Any P (take (n + 1) xs)
any_last P xs n d l p =
    let whole = length-take-le (n + 1) xs (omega arith) in
    (n, get_or xs n d, omega arith, get_or-take (n + 1) xs n (get_or xs n d) (omega arith) ∙ get_or_default xs n (get_or xs n d) d l, p)
