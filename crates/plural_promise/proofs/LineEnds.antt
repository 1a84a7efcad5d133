-- A text and a line end after it have the lines of the text.
use Rattle.std.proofs.Common.{◌≡◌, ℕ, Bool, true, false, List, [], ◌∷◌, ◌++◌, refl, ap, ◌∙◌, ◌⊎◌, inl, inr, append-nil}
use Rattle.std.specs.List.{onto_first}
use Rattle.plural_bytes.specs.Lines.{is_line_end, pieces, content_from, content_lines}
use Rattle.plural_made.proofs.TextLines.{content_append}

-- The pieces are the same, or there is one more, which is empty.
abbrev IsLike : (more ps : List (List ℕ)) → Type 0
IsLike more ps = (more ≡ ps) ⊎ (more ≡ ps ++ [] ∷ [])

like_onto : (c : ℕ) (more ps : List (List ℕ)) → IsLike more ps → IsLike (onto_first c more) (onto_first c ps)
like_onto c more ps (inl e) = inl (ap (onto_first c) e)
like_onto c more [] (inr e) = inl (ap (onto_first c) e)
like_onto c more (p ∷ ps) (inr e) = inr (ap (onto_first c) e)

like_after : (p : List ℕ) (more ps : List (List ℕ)) → IsLike more ps → IsLike (p ∷ more) (p ∷ ps)
like_after p more ps (inl e) = inl (ap (λ x. p ∷ x) e)
like_after p more ps (inr e) = inr (ap (λ x. p ∷ x) e)

like : (text : List ℕ) → IsLike (pieces (text ++ 10 ∷ [])) (pieces text)
like [] = inr refl
like (c ∷ cs) = by (is_line_end c) refl (like cs)
  where
    by : (b : Bool) → is_line_end c ≡ b → IsLike (pieces (cs ++ 10 ∷ [])) (pieces cs) → IsLike (pieces ((c ∷ cs) ++ 10 ∷ [])) (pieces (c ∷ cs))
    by true e h = rw e (like_after [] (pieces (cs ++ 10 ∷ [])) (pieces cs) h)
    by false e h = rw e (like_onto c (pieces (cs ++ 10 ∷ [])) (pieces cs) h)

-- A text has the same content lines with a line end after it.
pub same_lines : (text : List ℕ) → content_lines (text ++ 10 ∷ []) ≡ content_lines text
same_lines text = by (like text)
  where
    by : IsLike (pieces (text ++ 10 ∷ [])) (pieces text) → content_lines (text ++ 10 ∷ []) ≡ content_lines text
    by (inl e) = ap (content_from 1) e
    by (inr e) = ap (content_from 1) e ∙ content_append 1 (pieces text) ([] ∷ []) ∙ append-nil (content_lines text)
