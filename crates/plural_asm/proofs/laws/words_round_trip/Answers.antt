use Rattle.plural_asm.proofs.WordRoundTrips as lemma
use Rattle.plural_asm.proofs.laws.words_round_trip.Goals as goal

-- The lines of words make the words.
pub returns : goal.returns
returns c = λ ws h l. lemma.words_round_trip ws h l
