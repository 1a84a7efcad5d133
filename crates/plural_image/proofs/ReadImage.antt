-- Reading image lines one after the other.
use Rattle.std.proofs.Common.{◌≡◌, ℕ, ◌+◌, ◌<◌, ◌≤◌, List, [], ◌∷◌, ◌++◌, length, take, drop, replicate, get_or, Some, None, refl, ap, sym, ◌∙◌, arith, inl, inr}
use Rattle.std.specs.Option.{option_map_or}
use Rattle.std.proofs.lemmas.List.Sums.{fold_push}
use Rattle.std.proofs.lemmas.List.{length-append, length-take, length-drop, length-replicate, map_more}
use Rattle.std.proofs.lemmas.Bool.{cases_lt}
use Rattle.plural_bytes.specs.Lines.{TextLine}
use Rattle.plural_bytes.specs.declared.lines.Line.{Line}
use Rattle.plural_bytes.specs.Spelled.{text_line, text_lines}
use Rattle.plural_sections.specs.Faults.{IsFirstFault}
use Rattle.plural_sections.specs.LineKinds.{HasNone, IsLeast, IsLineFault}
use Rattle.plural_sections.proofs.FirstFaults.{length_before}
use Rattle.plural_sections.proofs.ReadLines as reading
use Rattle.plural_image.specs.Shape.{image_line}
use Rattle.plural_image.specs.Image.{end_of, end_before, IsMisplaced, HasKind, Breaks, rank, overwritten, placed, image_of}
use Rattle.plural_image.specs.declared.fault.ImageKind.{ImageKind}
use Rattle.plural_image.specs.declared.fault.ImageKind.TheVariants as kinds

-- ---- the kinds of a line with a shape

no_kind : (w floor : ℕ) (p : ℕ × List ℕ) → (IsMisplaced w floor p → ⊥) → HasNone (HasKind w floor p)
no_kind w floor p ok kinds.Form h = h
no_kind w floor p ok kinds.Address h = ok h

address_least : (w floor : ℕ) (p : ℕ × List ℕ) → IsMisplaced w floor p → IsLeast rank (HasKind w floor p) kinds.Address
address_least w floor p m = (m, least)
  where
    least : (k : ImageKind) → HasKind w floor p k → rank kinds.Address ≤ rank k
    least kinds.Form h = absurd h
    least kinds.Address h = omega arith

-- ---- one more line

placed_more : (w : ℕ) (lines : List TextLine) (l : TextLine) (p : ℕ × List ℕ) → image_line l.1 ≡ Some p → image_of w (lines ++ l ∷ []) ≡ overwritten (image_of w lines) p.0 p.1
placed_more w lines l p e = fold_push placed (replicate w 0) lines l ∙ ap (λ o. option_map_or (λ q. overwritten (image_of w lines) q.0 q.1) o (image_of w lines)) e

end_more : (lines : List TextLine) (l : TextLine) (p : ℕ × List ℕ) → image_line l.1 ≡ Some p → end_before (lines ++ l ∷ []) ≡ p.0 + length p.1
end_more lines l p e = fold_push (λ _ m. end_of m.1) 0 lines l ∙ ap (λ o. option_map_or (λ q. q.0 + length q.1) o 0) e

-- Overwriting words leaves as many.
pub length-overwritten : (words : List ℕ) (a : ℕ) (new : List ℕ) → a + length new ≤ length words → length (overwritten words a new) ≡ length words
length-overwritten words a new h =
    omega (arith, length-append (take a words) (new ++ drop (a + length new) words), length-append new (drop (a + length new) words), length-take a words, length-drop (a + length new) words, h)

-- ---- what the reader knows after some lines

-- The lines have no fault; the words are those that they spell, and the last of them lies before `floor`.
pub record Reads (w : ℕ) (lines : List TextLine) (words : List ℕ) (floor : ℕ) : Type 0 where
  pub known : reading.Reads (Breaks w) end_before lines floor
  pub image : words ≡ image_of w lines
  pub len : length words ≡ w

-- Before any line the words are zeros.
pub reads_nothing : (w : ℕ) (words : List ℕ) → words ≡ replicate w 0 → Reads w [] words 0
reads_nothing w words e = record { known = reading.reads_nothing rank (Breaks w) end_before 0 refl; image = e; len = ap length e ∙ length-replicate {A = ℕ} w 0 }

fault_first : (w : ℕ) (xs : List Line) (i : ℕ) (d : Line) (words : List ℕ) (floor : ℕ) (kind : ImageKind) → i < length xs → Reads w (text_lines (take i xs)) words floor
    → IsLineFault rank kinds.Form (HasKind w floor) (image_line (get_or xs i d).text.now) kind → IsFirstFault rank (Breaks w) (text_lines xs) (get_or xs i d).number kind
fault_first w xs i d words floor kind l r f =
    reading.line_first rank (Breaks w) end_before xs i d floor kind l r.known
    (reading.least_by rank image_line kinds.Form end_before (λ n f. HasKind w f) (text_lines (take i xs)) (get_or xs i d).text.now i floor kind (sym (length_before xs i (omega arith))) r.known.spelled f)

-- A line without a shape is the first with a fault, after lines without one.
pub form_first : (w : ℕ) (xs : List Line) (i : ℕ) (d : Line) (words : List ℕ) (floor : ℕ) → i < length xs → Reads w (text_lines (take i xs)) words floor
    → None ≡ image_line (get_or xs i d).text.now → IsFirstFault rank (Breaks w) (text_lines xs) (get_or xs i d).number kinds.Form
form_first w xs i d words floor l r shape = fault_first w xs i d words floor kinds.Form l r (rw (← shape) refl)

-- So is a misplaced line.
pub address_first : (w : ℕ) (xs : List Line) (i : ℕ) (d : Line) (words : List ℕ) (floor a : ℕ) (new : List ℕ) → i < length xs → Reads w (text_lines (take i xs)) words floor
    → Some (a, new) ≡ image_line (get_or xs i d).text.now → IsMisplaced w floor (a, new) → IsFirstFault rank (Breaks w) (text_lines xs) (get_or xs i d).number kinds.Address
address_first w xs i d words floor a new l r shape m = fault_first w xs i d words floor kinds.Address l r (rw (← shape) (address_least w floor (a, new) m))

-- A line that fits after the others is read, too.
pub reads_push : (w : ℕ) (lines : List TextLine) (line : TextLine) (words written : List ℕ) (floor a : ℕ) (new : List ℕ) → Reads w lines words floor
    → image_line line.1 ≡ Some (a, new) → a + length new ≤ w → floor ≤ a → written ≡ overwritten words a new → Reads w (lines ++ line ∷ []) written (a + length new)
reads_push w ls line words written floor a new r shape fits rises e = record {
  known = reading.reads_push rank (Breaks w) end_before ls line floor (a + length new) r.known
      (reading.none_by rank image_line kinds.Form end_before (λ n f. HasKind w f) ls line.1 (length ls) floor (a, new) refl r.known.spelled shape (no_kind w floor (a, new) apart)) (sym (end_more ls line (a, new) shape));
  image = e ∙ ap (λ ws. overwritten ws a new) r.image ∙ sym (placed_more w ls line (a, new) shape);
  len = ap length e ∙ length-overwritten words a new (omega (arith, fits, r.len)) ∙ r.len;
}
  where
    apart : IsMisplaced w floor (a, new) → ⊥
    apart m = elim m [ inl h ↦ omega (arith, h, fits) | inr h ↦ omega (arith, h, rises) ]

-- The same of the i-th of the code's lines.
pub reads_more : (w : ℕ) (xs : List Line) (i : ℕ) (d : Line) (words written : List ℕ) (floor a : ℕ) (new : List ℕ) → i < length xs → Reads w (text_lines (take i xs)) words floor
    → Some (a, new) ≡ image_line (get_or xs i d).text.now → (IsMisplaced w floor (a, new) → ⊥) → written ≡ overwritten words a new
    → Reads w (text_lines (take (i + 1) xs)) written (a + length new)
reads_more w xs i d words written floor a new l r shape fits e =
    let inside : a + length new ≤ w = elim (cases_lt w (a + length new)) [ inl lt ↦ absurd (fits (inl lt)) | inr le ↦ le ] in
    let rises : floor ≤ a = elim (cases_lt a floor) [ inl lt ↦ absurd (fits (inr lt)) | inr le ↦ le ] in
    rw (map_more text_line xs i d l) (reads_push w (text_lines (take i xs)) (text_line (get_or xs i d)) words written floor a new r (sym shape) inside rises e)
