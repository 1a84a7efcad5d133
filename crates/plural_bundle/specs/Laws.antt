-- Laws over whole bundles: they are what the form says, part by part.
use Rattle.std.specs.Prelude.{ℕ, ◌≡◌, false, true, List, [], ◌∷◌, ◌++◌, Ok, codes}
use Rattle.std.specs.List.{AllByRecursion}
use Rattle.plural_bytes.specs.Lines.{TextLine, has_text}
use Rattle.plural_sections.specs.Faults.{IsFaultless}
use Rattle.plural_map_text.specs.Rules.{IsMapText}
use Rattle.plural_map_text.specs.Parts.{map_of}
use Rattle.plural_asm.specs.Rules as kernels
use Rattle.plural_asm.specs.Labels.{names_of}
use Rattle.plural_asm.specs.Words.{code_of, labels_of}
use Rattle.plural_image.specs.Image as image
use Rattle.plural_image.specs.Image.{image_of}
use Rattle.plural_sections.specs.Sections.{closes}
use Rattle.plural_bundle.specs.FirstLine.{first_line}
use Rattle.plural_bundle.specs.Answer.{IsBundle}
use Rattle.plural_bundle.specs.Value.{BundleValue, program_with, bundle_of}

-- The parts of a bundle: its first line and the version that it tells, the lines of its sections, and the numbers of
-- its headers' lines.
pub record Parts : Type 0 where
  pub first : TextLine
  pub version : ℕ
  pub at_map : ℕ
  pub map_part : List TextLine
  pub at_kernels : ℕ
  pub kernel_part : List TextLine
  pub at_image : ℕ
  pub image_part : List TextLine
  pub at_end : ℕ

-- The lines of the parts: the first line, `[map]`, the map lines, `[kernels]`, the kernel lines, `[image]`, the image
-- lines, `[end]`.
abbrev pub lines_of : Parts → List TextLine
lines_of p =
    p.first
    ∷ (p.at_map, codes "[map]")
    ∷ (p.map_part
    ++ (p.at_kernels, codes "[kernels]")
    ∷ (p.kernel_part ++ (p.at_image, codes "[image]") ∷ (p.image_part ++ (p.at_end, codes "[end]") ∷ [])))

-- None of the lines is a header or without text.
abbrev pub Stay : List TextLine → Type 0
Stay lines = AllByRecursion (λ l. closes l.1 ≡ false) lines

-- The parts have no fault, each by its own rule: the map's with the names of the kernel lines, the image's with the
-- map's words.
pub record AreGood (p : Parts) : Type 0 where
  pub first : first_line p.first.1 ≡ Ok p.version
  pub map_stays : Stay p.map_part
  pub map_good : IsMapText p.version (names_of p.kernel_part) p.map_part p.at_kernels
  pub kernels_stay : Stay p.kernel_part
  pub kernels_good : IsFaultless (kernels.Breaks p.kernel_part) p.kernel_part
  pub image_stays : Stay p.image_part
  pub image_good : IsFaultless (image.Breaks (map_of p.map_part).words) p.image_part

-- The program and the image that the parts spell.
abbrev pub spelled_by : Parts → BundleValue
spelled_by p = record {
  program = program_with (map_of p.map_part) (code_of p.kernel_part p.kernel_part) (labels_of p.kernel_part);
  image = image_of (map_of p.map_part).words p.image_part;
}

-- The lines of parts without a fault are a bundle, whatever follows them in the input, of the program and the image
-- that the parts spell.
abbrev pub PartsMakeABundle : Type 0
PartsMakeABundle =
    (p : Parts) (more : List TextLine) (end : ℕ) → AreGood p
    → IsBundle (lines_of p ++ more) (lines_of p) end × (bundle_of (lines_of p) ≡ spelled_by p)

-- A bundle whose lines have text, with which an input begins, is the lines of parts without a fault.
abbrev pub ABundleHasParts : Type 0
ABundleHasParts =
    (lines more : List TextLine) (end : ℕ) → AllByRecursion (λ l. has_text l.1 ≡ true) lines
    → IsBundle (lines ++ more) lines end → (p : Parts) × (lines ≡ lines_of p) × AreGood p
