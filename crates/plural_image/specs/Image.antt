-- The faults of image lines, and the image that lines without a fault spell.
use Rattle.std.specs.Prelude.{ℕ, ◌+◌, ◌<◌, ◌⊎◌, List, ◌++◌, take, drop, length, replicate, fold}
use Rattle.std.specs.Option.{option_map_or}
use Rattle.plural_bytes.specs.Lines.{TextLine}
use Rattle.plural_sections.specs.LineKinds.{BreaksBy}
use Rattle.plural_image.specs.Shape.{image_line}
use Rattle.plural_image.specs.declared.fault.ImageKind.{ImageKind}
use Rattle.plural_image.specs.declared.fault.ImageKind.TheVariants.{Form, Address}

-- The address after the last word of a line.
abbrev pub end_of : List ℕ → ℕ
end_of text = option_map_or (λ p. p.0 + length p.1) (image_line text) 0

-- The address after the last word of the last line, 0 if there is no line.
abbrev pub end_before : List TextLine → ℕ
end_before before = fold (λ _ l. end_of l.1) 0 before

-- A word of the line would be at w or above, or its first lies below `floor`, the address after the last word of the
-- line before.
abbrev pub IsMisplaced : ℕ → ℕ → ℕ × List ℕ → Type 0
IsMisplaced w floor p = (w < p.0 + length p.1) ⊎ (p.0 < floor)

-- The table of kinds, for a line of this address and these words after lines whose last word lies before `floor`.
abbrev pub HasKind : (w floor : ℕ) → ℕ × List ℕ → ImageKind → Type 0
HasKind w floor p Form = ⊥
HasKind w floor p Address = IsMisplaced w floor p

-- A line without a shape has a fault of form alone; one with a shape has those of the table.
abbrev pub Breaks : ℕ → List TextLine → List ℕ → ImageKind → Type 0
Breaks w = BreaksBy image_line Form end_before (λ n floor. HasKind w floor)

-- The kinds in their order.
abbrev pub rank : ImageKind → ℕ
rank Form = 1
rank Address = 2

-- Words with others in their place from an address on.
abbrev pub overwritten : List ℕ → ℕ → List ℕ → List ℕ
overwritten words a new = take a words ++ (new ++ drop (a + length new) words)

-- Words with those of a line in their place.
abbrev pub placed : List ℕ → TextLine → List ℕ
placed words l = option_map_or (λ p. overwritten words p.0 p.1) (image_line l.1) words

-- The image of w words that lines spell: zeros, with the words of each line in their place.
abbrev pub image_of : ℕ → List TextLine → List ℕ
image_of w lines = fold placed (replicate w 0) lines
