-- Rows that are printed one after the other.
use Rattle.std.proofs.Common.{◌≡◌, ℕ, ◌+◌, List, [], ◌++◌, ap, sym, ◌∙◌}
use Rattle.std.specs.Prelude.{flat_map}
use Rattle.std.specs.List.{range_with_len}
use Rattle.std.proofs.lemmas.List.{flat_map_more}
use Rattle.plural_base.proofs.Ranges.{range_push}

-- One more row.
pub rows_more : (f : ℕ → List ℕ) (out new : List ℕ) (r : ℕ) → out ≡ flat_map f (range_with_len 0 r) → new ≡ out ++ f r → new ≡ flat_map f (range_with_len 0 (r + 1))
rows_more f out new r o n = n ∙ ap (λ xs. xs ++ f r) o ∙ flat_map_more f [] (range_with_len 0 r) r ∙ ap (flat_map f) (sym (range_push r))
