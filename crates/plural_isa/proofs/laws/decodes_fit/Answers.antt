use Rattle.plural_isa.proofs.DecodedRanges as lemma
use Rattle.plural_isa.proofs.laws.decodes_fit.Goals as goal

-- What a word decodes to fits.
pub returns : goal.returns
returns c = λ w i h e. lemma.decodes_fit w i h e
