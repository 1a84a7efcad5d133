-- Lines of the code as lines of the definitions.
use Rattle.std.specs.Prelude.{List, map}
use Rattle.plural_bytes.specs.Lines.{TextLine}
use Rattle.plural_bytes.specs.declared.lines.Line.{Line}

-- What a `Line` holds.
abbrev pub text_line : Line → TextLine
text_line l = (l.number, l.text.now)

-- What a slice of `Line` holds.
abbrev pub text_lines : List Line → List TextLine
text_lines ls = map text_line ls
