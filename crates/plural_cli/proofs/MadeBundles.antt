-- What holds of the bundle of every seed.
use Rattle.std.proofs.Common.{◌≡◌, ℕ, ◌<◌, length, refl, sym, ◌∙◌, arith}
use Rattle.plural_generator.specs.Tasks.{made_map}
use Rattle.plural_generator.proofs.NoClash.{made_accepted}
use Rattle.plural_crew.specs.Clashes.{IsAccepted}
use Rattle.plural_made.specs.Laws.{made_bundle}
use Rattle.plural_cli.proofs.MadeLengths.{image_many}

-- How many words its map has.
words_are : made_map.words ≡ 32816
unfolding made_map
words_are = refl

-- Its image has as many.
pub made_words : (seed : ℕ) → length (made_bundle seed).image ≡ (made_bundle seed).program.map.words
made_words seed = image_many seed 32816 refl ∙ sym words_are

-- It has the words of the best and the result.
pub made_many : (seed : ℕ) → 32812 < (made_bundle seed).program.map.words
made_many seed = omega (arith, words_are)

-- Its map has no clash.
pub made_free : (seed : ℕ) → IsAccepted (made_bundle seed).program.map.tasks
made_free seed = made_accepted
