-- The order of the kinds of faults of a text of sections.
use Rattle.std.specs.Prelude.{ℕ}
use Rattle.plural_sections.specs.declared.fault.Fault.{Fault}
use Rattle.plural_sections.specs.declared.fault.Fault.TheVariants as fault

-- The number of a kind; of a line's kinds the least is its fault. A line has kinds of one section only.
abbrev pub rank : Fault → ℕ
rank fault.Form = 1
rank fault.Number = 2
rank fault.Address = 2
rank fault.Name = 3
rank fault.Count = 4
rank fault.Reach = 5
rank (fault.Outside k) = 5
rank (fault.Cycle names) = 7
