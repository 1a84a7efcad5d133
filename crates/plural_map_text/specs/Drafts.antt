-- The parts that a reader has so far.
use Rattle.plural_map_text.specs.declared.draft.Draft.{Draft}
use Rattle.plural_map_text.specs.Parts.{Parts}

-- A reader's fields as parts.
abbrev pub draft_parts : Draft → Parts
draft_parts d =
    record { words = d.words; sets = d.sets; ways = d.ways; earlier = d.earlier.items; current = d.current }
