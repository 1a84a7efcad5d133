use Rattle.plural_asm.proofs.WordRoundTrips as lemma
use Rattle.plural_asm.proofs.laws.texts_are_lines.Goals as goal

-- The lines of words are read as they were written.
pub returns : goal.returns
returns c = λ ws h. lemma.texts_are_lines ws h
