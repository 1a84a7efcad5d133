use Rattle.std.proofs.Common.{◌≡◌}
use Rattle.std.specs.Prelude.{map}
use Rattle.std.specs.List.{range_with_len}
use Rattle.plural_generator.specs.Draws.{generator_of, made_word}
use Rattle.plural_generator.proofs.ImageWords.{generator_at}
use Rattle.plural_generator.proofs.draws.image.Given as goal

abbrev pub invariant-loop-i : goal.invariant-loop-i
invariant-loop-i l =
    (l.rng ≡ generator_at (generator_of l.fn.seed) l.i)
    × (l.words.items ≡ map (made_word (generator_of l.fn.seed)) (range_with_len 0 l.i))
