-- An image of lines without a fault has all its words.
use Rattle.std.proofs.Common.{◌≡◌, ℕ, ◌+◌, ◌≤◌, List, [], ◌∷◌, ◌++◌, Option, Some, None, fold, length, replicate, sym, subst, ◌∙◌, arith, append_assoc, inl, inr, refl}
use Rattle.std.specs.Option.{option_map_or}
use Rattle.std.proofs.lemmas.Bool.{cases_lt}
use Rattle.std.proofs.lemmas.List.{length-replicate}
use Rattle.plural_bytes.specs.Lines.{TextLine}
use Rattle.plural_sections.specs.Faults.{IsFaultless}
use Rattle.plural_image.specs.Shape.{image_line}
use Rattle.plural_image.specs.Image as image
use Rattle.plural_image.specs.Image.{placed, image_of, overwritten}
use Rattle.plural_image.specs.declared.fault.ImageKind.TheVariants.{Address}
use Rattle.plural_image.proofs.ReadImage.{length-overwritten}

fits : (w : ℕ) (before : List TextLine) (text : List ℕ) (p : ℕ × List ℕ) → image_line text ≡ Some p → (image.Breaks w before text Address → ⊥) → p.0 + length p.1 ≤ w
fits w before text p e none = elim (cases_lt w (p.0 + length p.1)) [
  | inl lt ↦ absurd (none (rw e (inl lt)))
  | inr le ↦ le
]

placed_length : (w : ℕ) (before : List TextLine) (words : List ℕ) (l : TextLine) → length words ≡ w → (image.Breaks w before l.1 Address → ⊥) → length (placed words l) ≡ w
placed_length w before words l e none = by (image_line l.1) refl
  where
    by : (o : Option (ℕ × List ℕ)) → image_line l.1 ≡ o → length (option_map_or (λ (p : ℕ × List ℕ). overwritten words p.0 p.1) o words) ≡ w
    by None f = e
    by (Some p) f = let h = fits w before l.1 p f none in length-overwritten words p.0 p.1 (omega (arith, h, e)) ∙ e

image_from : (w : ℕ) (before lines : List TextLine) (words : List ℕ) → length words ≡ w → IsFaultless (image.Breaks w) (before ++ lines) → length (fold placed words lines) ≡ w
image_from w before [] words e f = e
image_from w before (l ∷ ls) words e f =
    let none : image.Breaks w before l.1 Address → ⊥ = λ b. f.none l.0 Address (record { before = before; text = l.1; after = ls; whole = refl; breaks = b }) in
    image_from w (before ++ l ∷ []) ls (placed words l) (placed_length w before words l e none) (subst (IsFaultless (image.Breaks w)) (sym (append_assoc before (l ∷ []) ls)) f)

-- An image of lines without a fault has all its words
pub image_length : (w : ℕ) (lines : List TextLine) → IsFaultless (image.Breaks w) lines → length (image_of w lines) ≡ w
image_length w lines f = image_from w [] lines (replicate w 0) (length-replicate {A = ℕ} w 0) f
