-- The kinds of a map line's faults under the names that they have in a text of sections.
use Rattle.plural_sections.specs.declared.fault.Fault.{Fault}
use Rattle.plural_sections.specs.declared.fault.Fault.TheVariants as fault
use Rattle.plural_map_text.specs.declared.fault.MapKind.{MapKind}
use Rattle.plural_map_text.specs.declared.fault.MapKind.TheVariants as kinds

-- The fault of a map line.
abbrev pub map_fault : MapKind → Fault
map_fault kinds.Form = fault.Form
map_fault kinds.Number = fault.Number
map_fault kinds.Name = fault.Name
map_fault kinds.Count = fault.Count
map_fault (kinds.Outside k) = fault.Outside k
map_fault (kinds.Cycle names) = fault.Cycle names
