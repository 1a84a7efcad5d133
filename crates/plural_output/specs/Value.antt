-- The log and the memory that the output of a run spells.
use Rattle.std.specs.Prelude.{ℕ, List, codes}
use Rattle.plural_bytes.specs.Lines.{TextLine}
use Rattle.plural_sections.specs.Sections.{up_to_header, section}
use Rattle.plural_map.specs.Value.{TaskValue}
use Rattle.plural_image.specs.Image.{image_of}
use Rattle.plural_trace.specs.Logs.{LogValue}
use Rattle.plural_log.specs.Spelled.{log_of}

-- An output as contracts see it: the log of the run, and the words of the memory after it.
pub record OutputValue : Type 0 where
  pub log : LogValue
  pub image : List ℕ

-- The output that lines spell, of a run of these tasks over so many words: the log lines stand before the first
-- header, and the image lines in the section of the header `[image]`.
abbrev pub output_of : List TaskValue → (words : ℕ) → List TextLine → OutputValue
output_of tasks words lines =
    record { log = log_of tasks (up_to_header lines); image = image_of words (section (codes "[image]") lines) }
