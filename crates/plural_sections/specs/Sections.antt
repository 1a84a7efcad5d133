-- The sections of a text: a line of lines' own, a header, ends the section before it.
use Rattle.std.specs.Prelude.{ℕ, Bool, true, List, [], ◌∷◌, ◌++◌, fold, count_by, bytes_eq, if◌then◌else◌, ◌==◌}
use Rattle.std.specs.List.{before_first, after_first}
use Rattle.plural_bytes.specs.Lines.{TextLine}

-- A text that closes a section: a header, whose first token begins with `[`, or no text, which stands for the end of
-- the text and is no content line's.
abbrev pub closes : List ℕ → Bool
closes [] = true
closes (c ∷ cs) = c == 91

-- The lines before the first that closes a section.
abbrev pub up_to_header : List TextLine → List TextLine
up_to_header lines = before_first (λ l. closes l.1) lines

-- The lines of a section: those after the first line that is its header, up to the next header.
abbrev pub section : List ℕ → List TextLine → List TextLine
section header lines = up_to_header (after_first (λ l. bytes_eq l.1 header) lines)

-- How many of the lines close a section.
abbrev pub closings : List TextLine → ℕ
closings lines = count_by (λ l. closes l.1) lines

-- The lines after the last that closes a section, all if none does.
abbrev pub since : List TextLine → List TextLine
since lines = fold (λ s l. if closes l.1 then [] else s ++ l ∷ []) [] lines
