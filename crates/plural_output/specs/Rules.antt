-- The faults of an output's lines: which kinds a line has, by those before it.
use Rattle.std.specs.Prelude.{ℕ, zero, suc, List, codes}
use Rattle.plural_sections.specs.declared.fault.Fault.{Fault}
use Rattle.plural_sections.specs.Texts.{LineRule, PartBreaks, WholePartBreaks, PastBreaks, TextBreaks}
use Rattle.plural_map.specs.Value.{TaskValue}
use Rattle.plural_image.specs.Image as image
use Rattle.plural_image.specs.Kinds.{image_fault}
use Rattle.plural_log.specs.Faults as log
use Rattle.plural_log.specs.Kinds.{log_fault}

-- A line of the log's section, after which the header of the image is due; the log has to be whole there.
abbrev pub LogBreaks : List TaskValue → LineRule Fault
LogBreaks tasks = WholePartBreaks log_fault (codes "[image]") (log.Breaks tasks)

-- A line of the image's section, after which the header of the end is due.
abbrev pub ImageBreaks : (words : ℕ) → LineRule Fault
ImageBreaks words = PartBreaks image_fault (codes "[end]") (image.Breaks words)

-- A line after so many sections that were closed, by the lines before it in its own: the log's section is the first,
-- the image's the second, and nothing follows.
abbrev pub SectionBreaks : List TaskValue → (words : ℕ) → ℕ → LineRule Fault
SectionBreaks tasks words zero = LogBreaks tasks
SectionBreaks tasks words (suc zero) = ImageBreaks words
SectionBreaks tasks words (suc (suc n)) = λ before. PastBreaks

-- A line of the output of a run of these tasks over so many words, after the lines before it.
abbrev pub Breaks : List TaskValue → (words : ℕ) → LineRule Fault
Breaks tasks words = TextBreaks (SectionBreaks tasks words)
