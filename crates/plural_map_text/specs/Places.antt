-- The places that are known of names.
use Rattle.std.specs.Prelude.{ℕ, ◌+◌, Bool, true, ◌==◌, List, Option, drop}
use Rattle.std.specs.Option.{option_map_or}
use Rattle.plural_map_text.specs.Parts.{place_of}

-- The place that may be known of a name is that of the first of the names from `from` on that is this one; how many
-- there are in all if none of these is.
abbrev pub is_placed : (names : List (List ℕ)) → (from : ℕ) → List ℕ → Option ℕ → Bool
is_placed names from name place = option_map_or (λ p. p == from + place_of (drop from names) name) place true
