-- Numerals of any length.
use Rattle.std.specs.Prelude.{ℕ, ◌+◌, ◌*◌, ◌^◌, Bool, ◌&&◌, List, [], ◌∷◌, drop, length, Option, Some, None, Result, Ok, Err, codes, nat_lt, nat_le, nat_eq, if◌then◌else◌}
use Rattle.std.specs.List.{starts_with, list_all}
use Rattle.std.specs.Char.{digit_value, is_digit}
use Rattle.plural_bytes.specs.declared.numerals.NumberError.{NumberError}
use Rattle.plural_bytes.specs.declared.numerals.NumberError.TheVariants.{Form, Range}

-- What digits of a base stand for, the highest first.
abbrev pub value_of : ℕ → List ℕ → ℕ
value_of base [] = 0
value_of base (d ∷ ds) = digit_value d * base ^ length ds + value_of base ds

-- One or more digits of a base.
abbrev pub are_digits : ℕ → List ℕ → Bool
are_digits base text = nat_lt 0 (length text) && list_all (λ c. is_digit c base) text

-- The number that one or more digits of a base spell.
abbrev pub spelled : ℕ → List ℕ → Option ℕ
spelled base text = if are_digits base text then Some (value_of base text) else None

-- The number that a numeral spells: decimal digits, or `0x` and hexadecimal digits of either case.
abbrev pub numeral : List ℕ → Option ℕ
numeral text = if starts_with nat_eq text (codes "0x") then spelled 16 (drop 2 text) else spelled 10 text

-- A number if it isn't above the limit.
abbrev pub bounded : ℕ → ℕ → Option ℕ
bounded limit n = if nat_le n limit then Some n else None

-- A number if it isn't above the limit, else the error of one that is.
abbrev pub in_range : ℕ → ℕ → Result ℕ NumberError
in_range limit n = if nat_le n limit then Ok n else Err Range

-- What reading answers: the number that is spelled if it isn't above the limit, or why there is none.
abbrev pub within : ℕ → Option ℕ → Result ℕ NumberError
within limit None = Err Form
within limit (Some n) = in_range limit n
