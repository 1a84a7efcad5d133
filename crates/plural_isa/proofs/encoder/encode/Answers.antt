use Rattle.std.proofs.Common.{◌∙◌, ap, sym}
use Rattle.plural_isa.specs.Decoding.{decoded}
use Rattle.plural_isa.proofs.WordRoundTrip.{word_round_trip}
use Rattle.plural_isa.proofs.InstrRoundTrip.{instr_round_trip}
use Rattle.plural_isa.proofs.encoder.encode.Goals as goal

-- The word of the instruction decodes to it.
pub returns-clause-again : goal.returns-clause-again
returns-clause-again c = ap decoded c.word_of.ensures.value ∙ instr_round_trip c.args.instr c.word_of.ensures.registers c.requires

-- A word that decodes to the instruction is its word.
pub returns-clause-only : goal.returns-clause-only
returns-clause-only c = λ w h e. sym (word_round_trip w c.args.instr h e) ∙ sym c.word_of.ensures.value
