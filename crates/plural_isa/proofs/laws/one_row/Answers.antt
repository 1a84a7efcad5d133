use Rattle.plural_isa.proofs.OneRow as lemma
use Rattle.plural_isa.proofs.laws.one_row.Goals as goal

-- A word has the row of at most one operation.
pub returns : goal.returns
returns c = λ w m n h p q. lemma.one_row w m n h p q
