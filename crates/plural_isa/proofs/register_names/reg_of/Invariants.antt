use Rattle.std.proofs.Common.{◌≡◌, ◌-◌, find}
use Rattle.std.specs.List.{range_with_len}
use Rattle.plural_isa.specs.RegisterNames.{named, is_name_of}
use Rattle.plural_isa.proofs.register_names.reg_of.Given as goal

abbrev pub invariant-loop-number : goal.invariant-loop-number
invariant-loop-number l = named l.text ≡ find (λ n. is_name_of l.text n) (range_with_len l.number (32 - l.number))
