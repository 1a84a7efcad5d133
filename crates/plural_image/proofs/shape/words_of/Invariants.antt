use Rattle.std.proofs.Common.{◌≡◌, ◌+◌, ◌≤◌, length}
use Rattle.plural_bytes.specs.Lines.{tokens}
use Rattle.plural_image.specs.Shape.{all_words}
use Rattle.plural_image.proofs.LineShapes.{onto}
use Rattle.plural_image.proofs.shape.words_of.Given as goal

abbrev pub invariant-loop-token : goal.invariant-loop-token
invariant-loop-token l = record {
  whole : onto l.words.items (all_words (tokens l.rest)) ≡ all_words (tokens l.text);
  count : length l.words.items + length (tokens l.rest) ≡ length (tokens l.text);
  room : length l.words.items ≤ 8;
}

abbrev pub decreases-loop-token : goal.decreases-loop-token
decreases-loop-token l = length l.rest
