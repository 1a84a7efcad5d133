use Rattle.std.proofs.Common.{◌≡◌, ◌≤◌, ◌++◌, drop, length}
use Rattle.plural_bytes.specs.Hexadecimal.{hex_text}
use Rattle.plural_bytes.proofs.hexadecimal.hex.Given as goal

abbrev pub invariant-loop-at : goal.invariant-loop-at
invariant-loop-at l = record {
  spelled : hex_text l.at l.rest ++ drop l.at l.text ≡ hex_text 8 l.word;
  inside : l.at ≤ 8;
  long : length l.text ≡ 8;
}

abbrev pub decreases-loop-at : goal.decreases-loop-at
decreases-loop-at l = l.at
