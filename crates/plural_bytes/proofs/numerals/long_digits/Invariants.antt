use Rattle.std.proofs.Common.{◌≡◌, true, take}
use Rattle.std.specs.List.{list_all}
use Rattle.std.specs.Char.{is_digit}
use Rattle.plural_bytes.specs.Numerals.{bounded, value_of}
use Rattle.plural_bytes.proofs.numerals.long_digits.Given as goal

abbrev pub invariant-loop-c : goal.invariant-loop-c
invariant-loop-c l = record {
  digits : list_all (λ c. is_digit c l.base) (take l.c-index l.text) ≡ true;
  value : l.value ≡ bounded l.limit (value_of l.base (take l.c-index l.text));
}
