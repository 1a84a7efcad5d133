-- Searches of bytes.
use Rattle.std.proofs.Common.{◌≡◌, ℕ, Bool, List, Option, Some, None, length, sym, arith}
use Rattle.std.specs.Prelude.{position}
use Rattle.std.proofs.lemmas.Bool.{false_from_ne_true}
use Rattle.std.proofs.lemmas.List.Sums.{position_or_len_is}
use Rattle.memchr.specs.Find.{IsFirstByte}
use Rattle.plural_base.proofs.ListTests.{found_at, found_none}

-- What a search answers is the place of the first byte that passes.
pub search_is : (p : ℕ → Bool) (bytes : List ℕ) (r : Option ℕ) → IsFirstByte p bytes r → r ≡ position p bytes
search_is p bytes None h =
    let place = position_or_len_is p bytes (length bytes) 0 (omega arith) (λ k l. false_from_ne_true _ (h k (omega arith) l)) (λ l. absurd (omega arith)) in
    sym (found_none p bytes (omega (arith, place)))
search_is p bytes (Some i) h =
    let place = position_or_len_is p bytes i 0 (omega (arith, h.0.high)) (λ k l. false_from_ne_true _ (h.0.before k (omega arith) l)) (λ _. h.1) in
    sym (found_at p bytes i place h.0.high)
