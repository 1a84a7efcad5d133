use Rattle.std.proofs.Common.{◌≡◌, ◌≤◌, true, take}
use Rattle.std.specs.List.{list_all}
use Rattle.std.specs.Char.{is_ascii_digit}
use Rattle.plural_bytes.specs.Numerals.{value_of}
use Rattle.plural_sections.proofs.numbers.leading_digits.Given as goal

abbrev pub invariant-loop-len : goal.invariant-loop-len
invariant-loop-len l = record {
  few : l.len ≤ 10;
  digits : list_all is_ascii_digit (take l.len l.text) ≡ true;
  value : l.value ≡ value_of 10 (take l.len l.text);
}
