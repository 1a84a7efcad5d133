-- The bytes of a line are those of its tokens, and blanks.
use Rattle.std.proofs.Common.{◌≡◌, ℕ, ◌<◌, Bool, true, false, cond, ◌||◌, ◌&&◌, List, [], ◌∷◌, length, refl, arith}
use Rattle.std.specs.Prelude.{filter, ◌==◌}
use Rattle.std.specs.List.{list_all, slice_split, onto_first}
use Rattle.std.proofs.lemmas.Bool.{and_from, and_parts, lt-ltb, eqb-true}
use Rattle.plural_bytes.specs.Lines.{is_blank, has_text}
use Rattle.plural_bytes.specs.Laws.{is_printable, is_plain, TokensArePlain}

-- empty parts have no bytes
all_parts : (parts : List (List ℕ)) → list_all (λ t. list_all is_printable t) (filter has_text parts) ≡ true → list_all (λ t. list_all is_printable t) parts ≡ true
all_parts [] h = refl
all_parts ([] ∷ ps) h = all_parts ps h
all_parts ((c ∷ cs) ∷ ps) h =
    let some : 0 < length (c ∷ cs) = omega arith in
    let e : has_text (c ∷ cs) ≡ true = lt-ltb 0 (length (c ∷ cs)) some in
    let g : (list_all is_printable (c ∷ cs) && list_all (λ t. list_all is_printable t) (filter has_text ps)) ≡ true = rw e at h in
    let p = and_parts (list_all is_printable (c ∷ cs)) (list_all (λ t. list_all is_printable t) (filter has_text ps)) g in
    and_from (list_all is_printable (c ∷ cs)) (list_all (λ t. list_all is_printable t) ps) p.0 (all_parts ps p.1)

plain_blank : (c : ℕ) (b d : Bool) → (c == 32) ≡ b → (c == 9) ≡ d → (b || d) ≡ true → is_plain c ≡ true
plain_blank c true d e f h = let same : c ≡ 32 = eqb-true c 32 e in rw same refl
plain_blank c false true e f h = rw f refl
plain_blank c false false e f h = absurd cc

plain_printable : (c : ℕ) (d : Bool) → (c == 9) ≡ d → is_printable c ≡ true → is_plain c ≡ true
plain_printable c true e h = rw e refl
plain_printable c false e h = rw e h

first_printable : (c : ℕ) (parts : List (List ℕ)) → list_all (λ t. list_all is_printable t) (onto_first c parts) ≡ true → (is_printable c ≡ true) × (list_all (λ t. list_all is_printable t) parts ≡ true)
first_printable c [] h =
    let p = and_parts (is_printable c && true) true h in
    ((and_parts (is_printable c) true p.0).0, refl)
first_printable c (t ∷ ts) h =
    let p = and_parts (is_printable c && list_all is_printable t) (list_all (λ t. list_all is_printable t) ts) h in
    let q = and_parts (is_printable c) (list_all is_printable t) p.0 in
    (q.0, and_from (list_all is_printable t) (list_all (λ t. list_all is_printable t) ts) q.1 p.1)

plain_step : (c : ℕ) (cs : List ℕ) (b : Bool) → is_blank c ≡ b → (list_all (λ t. list_all is_printable t) (slice_split is_blank cs) ≡ true → list_all is_plain cs ≡ true)
    → list_all (λ t. list_all is_printable t) (cond b ([] ∷ slice_split is_blank cs) (onto_first c (slice_split is_blank cs))) ≡ true → list_all is_plain (c ∷ cs) ≡ true
plain_step c cs true e ih h = and_from (is_plain c) (list_all is_plain cs) (plain_blank c (c == 32) (c == 9) refl refl e) (ih h)
plain_step c cs false e ih h =
    let p = first_printable c (slice_split is_blank cs) h in
    and_from (is_plain c) (list_all is_plain cs) (plain_printable c (c == 9) refl p.0) (ih p.1)

parts_plain : (text : List ℕ) → list_all (λ t. list_all is_printable t) (slice_split is_blank text) ≡ true → list_all is_plain text ≡ true
parts_plain [] h = refl
parts_plain (c ∷ cs) h = plain_step c cs (is_blank c) refl (parts_plain cs) h

-- A line whose tokens are printable has blanks beside them alone.
pub tokens_are_plain : TokensArePlain
tokens_are_plain text h = parts_plain text (all_parts (slice_split is_blank text) h)
