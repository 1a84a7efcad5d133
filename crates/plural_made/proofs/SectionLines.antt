-- Lines that close no section, and the lines of a printed image.
use Rattle.std.proofs.Common.{◌≡◌, ℕ, ◌+◌, ◌*◌, ◌/◌, ◌%◌, ◌<◌, Bool, true, false, List, [], ◌∷◌, ◌++◌, length, take, drop, refl, ap, sym, subst, ◌∙◌, arith, append_assoc}
use Rattle.std.specs.Prelude.{not, ◌==◌, flat_map}
use Rattle.std.specs.List.{list_all, range_with_len}
use Rattle.std.proofs.lemmas.Bool.{agree_below_at, and_parts, not-true}
use Rattle.plural_bytes.specs.Lines.{TextLine}
use Rattle.plural_image.specs.Print.{hex_digit, row_text, row_lines, image_text}
use Rattle.plural_image.proofs.RowRoundTrip.{row_first}
use Rattle.plural_sections.specs.Sections.{closes}
use Rattle.plural_bundle.specs.Laws.{Stay}
use Rattle.plural_made.proofs.LineNumbers.{lines_from}
use Rattle.plural_made.proofs.TextLines.{EndsLine, ends_nothing, ends_with, ends_each}

-- Lines stay if a test of each says so.
pub stay_by : (lines : List TextLine) → list_all (λ l. not (closes l.1)) lines ≡ true → Stay lines
stay_by [] h = tt
stay_by (l ∷ ls) h = let p = and_parts (not (closes l.1)) (list_all (λ l. not (closes l.1)) ls) h in (not-true (closes l.1) p.0, stay_by ls p.1)

-- ---- rows of an image

digit_apart : (d : ℕ) → d < 16 → (hex_digit d == 91) ≡ false
digit_apart d l = agree_below_at (λ d. hex_digit d == 91) (λ d. false) 16 d refl l

-- A row begins with a digit.
row_stays : (a : ℕ) (ws : List ℕ) → closes (row_text a ws) ≡ false
row_stays a ws = digit_apart (a / 16 / 16 / 16 / 16 / 16 / 16 / 16 % 16) (omega arith)

-- The line of the row of this number, or nothing.
abbrev row_of : List ℕ → ℕ → List ℕ
row_of words r = row_lines (8 * r) (take 8 (drop (8 * r) words))

rows_more : (n a : ℕ) (ws rest : List ℕ) (b : Bool) → list_all (λ w. w == 0) ws ≡ b → ((m : ℕ) → Stay (lines_from m rest)) → Stay (lines_from n (row_lines a ws ++ rest))
rows_more n a ws rest true e h = rw e (h n)
rows_more n a ws rest false e h =
    rw e (subst Stay (sym (ap (lines_from n) (append_assoc (row_text a ws) (10 ∷ []) rest) ∙ row_first n a ws rest)) (row_stays a ws, h (n + 1)))

rows_stay : (words rs : List ℕ) (n : ℕ) → Stay (lines_from n (flat_map (row_of words) rs))
rows_stay words [] n = tt
rows_stay words (r ∷ rs) n =
    let ws = take 8 (drop (8 * r) words) in
    rows_more n (8 * r) ws (flat_map (row_of words) rs) (list_all (λ w. w == 0) ws) refl (rows_stay words rs)

-- No line of a printed image closes the section.
pub image_stays : (words : List ℕ) (n : ℕ) → Stay (lines_from n (image_text words))
image_stays words n = rows_stay words (range_with_len 0 (length words / 8)) n

row_ends : (a : ℕ) (ws : List ℕ) (b : Bool) → list_all (λ w. w == 0) ws ≡ b → EndsLine (row_lines a ws)
row_ends a ws true e = rw e ends_nothing
row_ends a ws false e = rw e (ends_with (row_text a ws))

-- A printed image ends with a line end.
pub image_ends : (words : List ℕ) → EndsLine (image_text words)
image_ends words =
    ends_each (row_of words) (range_with_len 0 (length words / 8))
    (λ r. let ws = take 8 (drop (8 * r) words) in row_ends (8 * r) ws (list_all (λ w. w == 0) ws) refl)
