-- How many lines a text has.
use Rattle.std.proofs.Common.{ℕ, ◌+◌, ◌≤◌, Bool, true, false, List, [], ◌∷◌, length, arith}
use Rattle.std.specs.Prelude.{if◌then◌else◌}
use Rattle.std.specs.List.{onto_first}
use Rattle.plural_bytes.specs.Lines.{pieces, is_line_end}

length-onto_first : (c : ℕ) (ps : List (List ℕ)) → length (onto_first c ps) ≤ length ps + 1
length-onto_first c [] = omega arith
length-onto_first c (p ∷ ps) = omega arith

one_more : (c : ℕ) (ps : List (List ℕ)) (n : ℕ) (b : Bool) → length ps ≤ n → length (if b then [] ∷ ps else onto_first c ps) ≤ n + 1
one_more c ps n true h = omega (arith, h)
one_more c ps n false h = omega (arith, h, length-onto_first c ps)

-- A text has no more lines than bytes
pub length-pieces : (text : List ℕ) → length (pieces text) ≤ length text
length-pieces [] = omega arith
length-pieces (c ∷ cs) = omega (arith, one_more c (pieces cs) (length cs) (is_line_end c) (length-pieces cs))
