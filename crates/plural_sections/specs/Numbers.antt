-- The numbers and words of a line.
use Rattle.std.specs.Prelude.{ℕ, ◌&&◌, Bool, List, [], ◌∷◌, Option, None, min, length, option_map, nat_le, if◌then◌else◌, ◌==◌}
use Rattle.plural_bytes.specs.Numerals.{numeral, spelled}

-- The number of a numeral, capped at 4,294,967,296, which is out of the range of each number of a line.
abbrev pub capped_numeral : List ℕ → Option ℕ
capped_numeral t = option_map (λ n. min n 4294967296) (numeral t)

-- The capped number of the first of tokens, and the tokens after it.
abbrev pub first_numeral : List (List ℕ) → Option (ℕ × List (List ℕ))
first_numeral [] = None
first_numeral (t ∷ ts) = option_map (λ n. (n, ts)) (capped_numeral t)

-- The number lies between these two.
abbrev pub is_within : ℕ → ℕ → ℕ → Bool
is_within low high n = nat_le low n && nat_le n high

-- The word that exactly eight hexadecimal digits of either case spell.
abbrev pub word_token : List ℕ → Option ℕ
word_token t = if length t == 8 then spelled 16 t else None
