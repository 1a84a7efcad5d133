-- The operands of an instruction's text, and what they spell.
use Rattle.std.specs.Prelude.{ℕ, ◌+◌, ◌-◌, ◌%◌, Bool, List, [], ◌∷◌, Option, Some, None, Result, Ok, Err, ℤ, pos, neg_ℤ, map, position, take, drop, length, slice_index, option_map, nat_eq, codes, if◌then◌else◌, ◌==◌}
use Rattle.std.specs.List.{slice_split, starts_with}
use Rattle.plural_bytes.specs.Lines.{tokens}
use Rattle.plural_bytes.specs.Numerals.{numeral, within}
use Rattle.plural_bytes.specs.declared.numerals.NumberError.{NumberError}
use Rattle.plural_bytes.specs.declared.numerals.NumberError.TheVariants.{Form, Range}

-- A comma.
abbrev pub is_comma : ℕ → Bool
is_comma c = c == 44

-- An opening parenthesis.
abbrev pub is_open : ℕ → Bool
is_open c = c == 40

-- The token that stands alone, and the empty text if there is none or more than one.
abbrev pub alone : List (List ℕ) → List ℕ
alone (t ∷ []) = t
alone _ = []

-- The operands: what stands alone between commas, with or without blanks round it.
abbrev pub operands : List ℕ → List (List ℕ)
operands text = map (λ piece. alone (tokens piece)) (slice_split is_comma text)

-- The operand, if there is one.
abbrev pub one_of : List (List ℕ) → Option (List ℕ)
one_of (a ∷ []) = Some a
one_of _ = None

-- The operands, if there are two.
abbrev pub two_of : List (List ℕ) → Option (List ℕ × List ℕ)
two_of (a ∷ b ∷ []) = Some (a, b)
two_of _ = None

-- The operands, if there are three.
abbrev pub three_of : List (List ℕ) → Option (List ℕ × List ℕ × List ℕ)
three_of (a ∷ b ∷ c ∷ []) = Some (a, b, c)
three_of _ = None

-- A number is another one, made of it, if there is one.
abbrev pub mapped : {A : Type 0} {B : Type 0} → (A → B) → Result A NumberError → Result B NumberError
mapped f (Ok n) = Ok (f n)
mapped f (Err e) = Err e

-- The number of a signed numeral that has to be from 0 to a limit.
abbrev pub unsigned_in : ℕ → List ℕ → Result ℕ NumberError
unsigned_in above text =
    if starts_with nat_eq text (codes "-") then within 0 (numeral (drop 1 text)) else within above (numeral text)

-- The number of a signed numeral that has to be from -below to above.
abbrev pub signed_in : (below above : ℕ) → List ℕ → Result ℤ NumberError
signed_in below above text =
    if starts_with nat_eq text (codes "-")
    then mapped (λ n. neg_ℤ (pos n)) (within below (numeral (drop 1 text)))
    else mapped (λ n. pos n) (within above (numeral text))

-- The number of a signed numeral from -2^31 to 2^32 - 1, modulo 2^32.
abbrev pub word_in : List ℕ → Result ℕ NumberError
word_in text =
    if starts_with nat_eq text (codes "-")
    then mapped (λ n. (4294967296 - n) % 4294967296) (within 2147483648 (numeral (drop 1 text)))
    else within 4294967295 (numeral text)

-- What is made of a number, or of none if it is out of its range; nothing if the text is no numeral.
abbrev pub formed : {A : Type 0} {B : Type 0} → (Option A → B) → Result A NumberError → Option B
formed f (Ok n) = Some (f (Some n))
formed f (Err Range) = Some (f None)
formed f (Err Form) = None

-- The two texts round the first element that passes.
abbrev pub halves : (ℕ → Bool) → List ℕ → Option (List ℕ × List ℕ)
halves p text = option_map (λ i. (take i text, drop (i + 1) text)) (position p text)

-- The immediate's text and the register's of an operand `imm(rs1)`.
abbrev pub indexed : List ℕ → Option (List ℕ × List ℕ)
indexed t = if slice_index t (length t - 1) == 41 then halves is_open (take (length t - 1) t) else None
