use Rattle.plural_isa.proofs.InstrRoundTrip as lemma
use Rattle.plural_isa.proofs.laws.instr_round_trip.Goals as goal

-- The word of an instruction that fits decodes to it.
pub returns : goal.returns
returns c = λ i h f. lemma.instr_round_trip i h f
