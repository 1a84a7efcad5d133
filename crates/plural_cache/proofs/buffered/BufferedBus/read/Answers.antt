use Rattle.std.proofs.Common.{arith}
use Rattle.plural_cache.specs.Buffering.{length_sets}
use Rattle.plural_cache.proofs.buffered.BufferedBus.read.Goals as goal

-- The call of `read` has what its clause `within` requires.
pub read-below-requires-clause-within : goal.read-below-requires-clause-within
read-below-requires-clause-within g c =
    let told = g.B.Bus.told c.args.self.now.bus.now in
    omega (arith, length_sets told.words c.args.self.now.buffer.now, c.requires.within)
