use Rattle.std.proofs.Common.{◌∙◌, ap}
use Rattle.plural_core.specs.declared.end.End.{End}
use Rattle.plural_order.specs.ProgramGraph.{bits_of_end}
use Rattle.plural_sync.proofs.Settled.{end_bits}
use Rattle.plural_sync.proofs.synchroniser.Synchroniser.deliver.Goals as goal

-- The bits are those of the end.
pub mark-requires-clause-bits : goal.mark-requires-clause-bits
mark-requires-clause-bits c = c.bits_of_end.ensures ∙ (ap (λ (e : End). bits_of_end e) c.requires.«end» ∙ end_bits c.args.words.now.opening c.args.t c.args.k)
