-- The faults of a bundle's lines: which kinds a line has, by the lines of the input, all lines of the bundle and those
-- before it.
use Rattle.std.specs.Prelude.{ℕ, zero, suc, ◌≡◌, List, [], ◌∷◌, Err, codes}
use Rattle.plural_bytes.specs.Lines.{TextLine}
use Rattle.plural_sections.specs.Texts.{LineRule, IsNot, PartBreaks, WholePartBreaks, PastBreaks, TextBreaks}
use Rattle.plural_map_text.specs.Rules as map
use Rattle.plural_map_text.specs.Parts.{map_of}
use Rattle.plural_asm.specs.Rules as kernels
use Rattle.plural_asm.specs.Labels.{names_of}
use Rattle.plural_image.specs.Image as image
use Rattle.plural_sections.specs.declared.fault.Fault.{Fault}
use Rattle.plural_bundle.specs.Sections.{map_lines, kernel_lines}
use Rattle.plural_bundle.specs.FirstLine.{first_line, version_of}
use Rattle.plural_map_text.specs.Kinds.{map_fault}
use Rattle.plural_asm.specs.Kinds.{kernel_fault}
use Rattle.plural_image.specs.Kinds.{image_fault}

-- A line of the map's section, after which the header of the kernels is due; the map has to be whole there.
abbrev pub MapBreaks : (version : ℕ) → (labels : List (List ℕ)) → (all : List TextLine) → LineRule Fault
MapBreaks version labels all = WholePartBreaks map_fault (codes "[kernels]") (map.Breaks version labels all)

-- A line of the kernels' section, after which the header of the image is due.
abbrev pub KernelBreaks : (all : List TextLine) → LineRule Fault
KernelBreaks all = PartBreaks kernel_fault (codes "[image]") (kernels.Breaks all)

-- A line of the image's section, after which the header of the end is due.
abbrev pub ImageBreaks : (words : ℕ) → LineRule Fault
ImageBreaks words = PartBreaks image_fault (codes "[end]") (image.Breaks words)

-- A line of a bundle of this version, after so many sections that were closed, by the lines before it in its own: the
-- map's section is the first, the kernels' the second, the image's the third, and nothing follows. The names that map
-- lines may use are those of the kernel lines of the input that the bundle stands in.
abbrev pub SectionBreaks : (input all : List TextLine) → (version : ℕ) → ℕ → LineRule Fault
SectionBreaks input all version zero = MapBreaks version (names_of (kernel_lines input)) (map_lines all)
SectionBreaks input all version (suc zero) = KernelBreaks (kernel_lines all)
SectionBreaks input all version (suc (suc zero)) = ImageBreaks (map_of (map_lines all)).words
SectionBreaks input all version (suc (suc (suc n))) = λ before. PastBreaks

-- A line of a bundle of all these lines, after those before it: the first tells the version, the second is the header
-- of the map, and the others stand in a section.
abbrev pub Breaks : (input all : List TextLine) → LineRule Fault
Breaks input all [] text fault = first_line text ≡ Err fault
Breaks input all (first ∷ []) text fault = IsNot (codes "[map]") text fault
Breaks input all (first ∷ second ∷ before) text fault =
    TextBreaks (SectionBreaks input all (version_of first.1)) before text fault
