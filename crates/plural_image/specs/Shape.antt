-- The shape of an image line: an address of eight hexadecimal digits and a colon, and one to eight words of eight
-- digits.
use Rattle.std.specs.Prelude.{ℕ, ◌&&◌, List, [], ◌∷◌, Option, Some, None, take, length, option_map, option_and_then, slice_index, nat_lt, nat_le, if◌then◌else◌, ◌==◌}
use Rattle.plural_bytes.specs.Lines.{tokens}
use Rattle.plural_sections.specs.Numbers.{word_token}

-- The address that eight hexadecimal digits and a colon spell.
abbrev pub address_token : List ℕ → Option ℕ
address_token t = if length t == 9 && slice_index t 8 == 58 then word_token (take 8 t) else None

-- The words of tokens, if each is one.
abbrev pub all_words : List (List ℕ) → Option (List ℕ)
all_words [] = Some []
all_words (t ∷ ts) = option_and_then (λ w. option_map (λ ws. w ∷ ws) (all_words ts)) (word_token t)

-- The words of one to eight tokens, if each is one.
abbrev pub one_to_eight : List (List ℕ) → Option (List ℕ)
one_to_eight ts = if nat_lt 0 (length ts) && nat_le (length ts) 8 then all_words ts else None

-- The address and the words of tokens, of which the first is an address and one to eight words follow.
abbrev pub line_of : List (List ℕ) → Option (ℕ × List ℕ)
line_of [] = None
line_of (t ∷ ts) = option_and_then (λ a. option_map (λ ws. (a, ws)) (one_to_eight ts)) (address_token t)

-- The address and the words of a text that is an image line.
abbrev pub image_line : List ℕ → Option (ℕ × List ℕ)
image_line text = line_of (tokens text)
