-- The sections of a bundle.
use Rattle.std.specs.Prelude.{List, codes}
use Rattle.plural_bytes.specs.Lines.{TextLine}
use Rattle.plural_sections.specs.Sections.{section}

-- The map lines of a bundle.
abbrev pub map_lines : List TextLine → List TextLine
map_lines lines = section (codes "[map]") lines

-- The kernel lines of a bundle.
abbrev pub kernel_lines : List TextLine → List TextLine
kernel_lines lines = section (codes "[kernels]") lines

-- The image lines of a bundle.
abbrev pub image_lines : List TextLine → List TextLine
image_lines lines = section (codes "[image]") lines
