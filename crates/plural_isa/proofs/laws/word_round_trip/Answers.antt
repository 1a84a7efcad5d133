use Rattle.plural_isa.proofs.WordRoundTrip as lemma
use Rattle.plural_isa.proofs.laws.word_round_trip.Goals as goal

-- A word that decodes is the word of its instruction.
pub returns : goal.returns
returns c = λ w i h e. lemma.word_round_trip w i h e
