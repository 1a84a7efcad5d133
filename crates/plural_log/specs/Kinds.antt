-- The kinds of a log line's faults under the names that they have in a text of sections.
use Rattle.plural_sections.specs.declared.fault.Fault.{Fault}
use Rattle.plural_sections.specs.declared.fault.Fault.TheVariants as fault
use Rattle.plural_log.specs.declared.fault.LogKind.{LogKind}
use Rattle.plural_log.specs.declared.fault.LogKind.TheVariants as kinds

-- The fault of a log line.
abbrev pub log_fault : LogKind → Fault
log_fault kinds.Form = fault.Form
log_fault kinds.Number = fault.Number
log_fault kinds.Name = fault.Name
log_fault kinds.Count = fault.Count
