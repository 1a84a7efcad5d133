-- The printed image.
use Rattle.std.specs.Prelude.{ℕ, ◌*◌, ◌/◌, List, [], ◌∷◌, ◌++◌, take, drop, length, flat_map, if◌then◌else◌, ◌==◌}
use Rattle.std.specs.List.{list_all, range_with_len}
pub use Rattle.plural_bytes.specs.Hexadecimal.{hex_digit, hex_text}

-- An address and words as a line: eight digits and a colon, then a space and eight digits for each word.
abbrev pub row_text : ℕ → List ℕ → List ℕ
row_text a ws = (hex_text 8 a ++ 58 ∷ []) ++ flat_map (λ w. 32 ∷ hex_text 8 w) ws

-- The line of a row with its LF; nothing if its words are all 0.
abbrev pub row_lines : ℕ → List ℕ → List ℕ
row_lines a ws = if list_all (λ w. w == 0) ws then [] else row_text a ws ++ 10 ∷ []

-- The text of an image is the lines of its rows of eight words, by rising addresses.
abbrev pub image_text : List ℕ → List ℕ
image_text words = flat_map (λ r. row_lines (8 * r) (take 8 (drop (8 * r) words))) (range_with_len 0 (length words / 8))
