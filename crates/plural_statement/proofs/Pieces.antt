-- The pieces between commas.
use Rattle.std.proofs.Common.{◌≡◌, ℕ, Bool, true, false, cond, List, [], ◌∷◌, None, refl}
use Rattle.std.specs.List.{slice_split, onto_first}
use Rattle.plural_statement.specs.Operands.{is_comma, operands, one_of, two_of, three_of}

-- a text has at least one piece
onto_some : (c : ℕ) (ps : List (List ℕ)) → (a : List ℕ) × (more : List (List ℕ)) × (onto_first c ps ≡ a ∷ more)
onto_some c [] = (c ∷ [], [], refl)
onto_some c (p ∷ ps) = (c ∷ p, ps, refl)

some_piece : (p : ℕ → Bool) (xs : List ℕ) → (a : List ℕ) × (more : List (List ℕ)) × (slice_split p xs ≡ a ∷ more)
some_piece p [] = ([], [], refl)
some_piece p (c ∷ cs) = elim (p c) as (λ b. (a : List ℕ) × (more : List (List ℕ)) × (cond b ([] ∷ slice_split p cs) (onto_first c (slice_split p cs)) ≡ a ∷ more)) [
  | true ↦ ([], slice_split p cs, refl)
  | false ↦ onto_some c (slice_split p cs)
]

-- more pieces than are wanted
pub one_more : (xs a rest : List ℕ) → slice_split is_comma xs ≡ a ∷ slice_split is_comma rest → one_of (operands xs) ≡ None
one_more xs a rest e = let s = some_piece is_comma rest in rw (e, s.2) refl

-- A text with a third piece has not two operands.
pub two_more : (xs a ys b rest : List ℕ) → slice_split is_comma xs ≡ a ∷ slice_split is_comma ys → slice_split is_comma ys ≡ b ∷ slice_split is_comma rest → two_of (operands xs) ≡ None
two_more xs a ys b rest e f = let s = some_piece is_comma rest in rw (e, f, s.2) refl

-- A text with a fourth piece has not three operands.
pub three_more : (xs a ys b zs d rest : List ℕ) → slice_split is_comma xs ≡ a ∷ slice_split is_comma ys → slice_split is_comma ys ≡ b ∷ slice_split is_comma zs → slice_split is_comma zs ≡ d ∷ slice_split is_comma rest → three_of (operands xs) ≡ None
three_more xs a ys b zs d rest e f g = let s = some_piece is_comma rest in rw (e, f, g, s.2) refl
