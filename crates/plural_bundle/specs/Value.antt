-- The program and the image that a bundle spells.
use Rattle.std.specs.Prelude.{ℕ, List, map, bytes_eq}
use Rattle.std.specs.List.{find}
use Rattle.std.specs.Option.{option_map_or}
use Rattle.plural_bytes.specs.Lines.{TextLine}
use Rattle.plural_map_text.specs.Parts.{map_of}
use Rattle.plural_map.specs.Value.{MapValue}
use Rattle.plural_asm.specs.Words.{code_of, labels_of}
use Rattle.plural_asm.specs.declared.object.Label.{Label}
use Rattle.plural_image.specs.Image.{image_of}
use Rattle.plural_serial.specs.Program.{ProgramValue}
use Rattle.plural_bundle.specs.Sections.{map_lines, kernel_lines, image_lines}

-- A bundle as contracts see it: the program, and the words of the memory before it runs.
pub record BundleValue : Type 0 where
  pub program : ProgramValue
  pub image : List ℕ

-- The pc of the first label of this name, in bytes.
abbrev pub pc_of : List Label → List ℕ → ℕ
pc_of labels name = option_map_or (λ l. l.pc) (find (λ l. bytes_eq l.name name) labels) 0

-- A program of a map, code and labels: each task begins at the label that its entry names.
abbrev pub program_with : MapValue → List ℕ → List Label → ProgramValue
program_with m code labels = record { map = m; code = code; entries = map (λ t. pc_of labels t.entry) m.tasks }

-- The program that the lines of a bundle spell: the map of the map lines, the code and the labels of the kernel lines.
abbrev pub program_of : List TextLine → ProgramValue
program_of lines = program_with (map_of (map_lines lines)) (code_of (kernel_lines lines) (kernel_lines lines))
    (labels_of (kernel_lines lines))

-- The program that the lines of a bundle spell, with the image of its memory.
abbrev pub bundle_of : List TextLine → BundleValue
bundle_of lines = record {
  program = program_of lines;
  image = image_of (map_of (map_lines lines)).words (image_lines lines);
}
