use Rattle.plural_asm.proofs.WordRoundTrips as lemma
use Rattle.plural_asm.proofs.laws.word_round_trip.Goals as goal

-- The line of a word makes the word.
pub returns : goal.returns
returns c = λ n w l. lemma.word_round_trip n w l
