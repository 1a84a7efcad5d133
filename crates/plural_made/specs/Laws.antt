-- What holds of every bundle that is made, as it is read.
use Rattle.std.specs.Prelude.{◌≡◌, ℕ, List, [], ◌∷◌, length}
use Rattle.plural_bytes.specs.Lines.{TextLine, content_lines}
use Rattle.plural_asm.specs.Words.{code_of, labels_of}
use Rattle.plural_crew.specs.Clashes.{IsAccepted}
use Rattle.plural_serial.specs.Program.{ProgramValue}
use Rattle.plural_generator.specs.Tasks.{made_map}
use Rattle.plural_generator.specs.Kernels.{kernel_text}
use Rattle.plural_generator.specs.Draws.{made_image}
use Rattle.plural_generator.specs.Text.{made_text}
use Rattle.plural_bundle.specs.Answer.{IsBundle}
use Rattle.plural_bundle.specs.Value.{BundleValue, program_with, bundle_of}

-- The kernel lines of a made bundle.
abbrev pub made_kernels : List TextLine
made_kernels = content_lines kernel_text

-- The program of a made bundle: its map, and the code and the entries that its kernel lines spell.
abbrev pub made_program : ProgramValue
made_program = program_with made_map (code_of made_kernels made_kernels) (labels_of made_kernels)

-- The bundle of a seed: that program, and the image that the seed draws.
abbrev pub made_bundle : ℕ → BundleValue
made_bundle seed = record { program = made_program; image = made_image seed }

-- The content lines of the text of a seed.
abbrev pub made_lines : ℕ → List TextLine
made_lines seed = content_lines (made_text seed)

-- The lines of a seed are a bundle of the input that they are, for every seed, and spell the bundle of that seed.
abbrev pub MadeIsRead : Type 0
MadeIsRead =
    (seed end : ℕ) → IsBundle (made_lines seed) (made_lines seed) end × (bundle_of (made_lines seed) ≡ made_bundle seed)

-- The code of a made bundle has 78 words, and its tasks begin at these bytes of it, by their numbers.
abbrev pub MadeCode : Type 0
MadeCode = (length made_program.code ≡ 78) × (made_program.entries ≡ 0 ∷ 100 ∷ 180 ∷ 240 ∷ 260 ∷ 280 ∷ [])

-- The map that the lines of a seed spell has no clash, for every seed.
abbrev pub MadeIsAccepted : Type 0
MadeIsAccepted = (seed : ℕ) → IsAccepted (bundle_of (made_lines seed)).program.map.tasks
