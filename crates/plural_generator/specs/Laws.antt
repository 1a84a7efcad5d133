-- What holds of the large filter bundle for every seed.
use Rattle.std.specs.Prelude.{◌≡◌}
use Rattle.plural_bytes.specs.Lines.{content_lines}
use Rattle.plural_map_text.specs.Print.{map_text}
use Rattle.plural_map_text.specs.Parts.{map_of}
use Rattle.plural_crew.specs.Clashes.{IsAccepted}
use Rattle.plural_generator.specs.Tasks.{made_map}

-- The map of the large filter bundle, which is the same for each seed, has no clash.
abbrev pub MadeAccepted : Type 0
MadeAccepted = IsAccepted made_map.tasks

-- The map lines of the text, read again, spell the map.
abbrev pub MapRoundTrip : Type 0
MapRoundTrip = map_of (content_lines (map_text made_map)) ≡ made_map
