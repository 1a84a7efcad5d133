-- The two parts of a verifier's input: a bundle, and the output of a run after it.
use Rattle.std.specs.Prelude.{◌+◌, Bool, List, take, codes, bytes_eq}
use Rattle.std.specs.List.{position_or_len, after_first}
use Rattle.plural_bytes.specs.Lines.{TextLine}

-- A line that is `[end]`.
abbrev pub is_end : TextLine → Bool
is_end l = bytes_eq l.1 (codes "[end]")

-- The lines of the bundle: those up to the first that is `[end]`, and this one; all if none is.
abbrev pub bundle_part : List TextLine → List TextLine
bundle_part lines = take (position_or_len is_end lines + 1) lines

-- The lines of the output: those after the first that is `[end]`; none if none is.
abbrev pub output_part : List TextLine → List TextLine
output_part lines = after_first is_end lines
