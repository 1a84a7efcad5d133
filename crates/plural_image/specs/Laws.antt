-- Reading what was printed.
use Rattle.std.specs.Prelude.{◌≡◌, ℕ, ◌*◌, ◌<◌, ◌≤◌, List, Some, length, IsTrue}
use Rattle.std.specs.List.{AllByRecursion, list_all}
use Rattle.plural_sections.specs.Numbers.{word_token}
use Rattle.plural_image.specs.Shape.{image_line}
use Rattle.plural_bytes.specs.Lines.{content_lines}
use Rattle.plural_sections.specs.Faults.{IsFaultless}
use Rattle.plural_bytes.specs.Laws.{is_plain}
use Rattle.plural_image.specs.Image.{Breaks, image_of}
use Rattle.plural_image.specs.Print.{hex_text, row_text, image_text}

-- A printed word is the token of that word.
abbrev pub WordRoundTrip : Type 0
WordRoundTrip = (n : ℕ) → n < 4294967296 → word_token (hex_text 8 n) ≡ Some n

-- A printed row is the image line of its address and words.
abbrev pub RowRoundTrip : Type 0
RowRoundTrip = (a : ℕ) (ws : List ℕ) → a < 4294967296 → length ws ≡ 8 → AllByRecursion (λ w. w < 4294967296) ws
    → image_line (row_text a ws) ≡ Some (a, ws)

-- The content lines of a printed image have no fault and spell the image.
abbrev pub ImageRoundTrip : Type 0
ImageRoundTrip = (words : List ℕ) (rows : ℕ) → length words ≡ 8 * rows → length words ≤ 1048576
    → AllByRecursion (λ w. w < 4294967296) words
    → IsFaultless (Breaks (length words)) (content_lines (image_text words))
    × (image_of (length words) (content_lines (image_text words)) ≡ words)

-- An image line has no other bytes than tabs and printable ones, so that a line with another byte has a fault of form.
abbrev pub LinesArePlain : Type 0
LinesArePlain = (text : List ℕ) (p : ℕ × List ℕ) → image_line text ≡ Some p → IsTrue (list_all is_plain text)
