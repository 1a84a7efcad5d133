-- The kinds of a kernel line's faults under the names that they have in a text of sections.
use Rattle.plural_sections.specs.declared.fault.Fault.{Fault}
use Rattle.plural_sections.specs.declared.fault.Fault.TheVariants as fault
use Rattle.plural_asm.specs.declared.object.AsmKind.{AsmKind}
use Rattle.plural_asm.specs.declared.object.AsmKind.TheVariants as kinds

-- The fault of a kernel line.
abbrev pub kernel_fault : AsmKind → Fault
kernel_fault kinds.Form = fault.Form
kernel_fault kinds.Number = fault.Number
kernel_fault kinds.Name = fault.Name
kernel_fault kinds.Count = fault.Count
kernel_fault kinds.Reach = fault.Reach
