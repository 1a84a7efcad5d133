-- The kinds of an image line's faults under the names that they have in a text of sections.
use Rattle.plural_sections.specs.declared.fault.Fault.{Fault}
use Rattle.plural_sections.specs.declared.fault.Fault.TheVariants as fault
use Rattle.plural_image.specs.declared.fault.ImageKind.{ImageKind}
use Rattle.plural_image.specs.declared.fault.ImageKind.TheVariants as kinds

-- The fault of an image line.
abbrev pub image_fault : ImageKind → Fault
image_fault kinds.Form = fault.Form
image_fault kinds.Address = fault.Address
