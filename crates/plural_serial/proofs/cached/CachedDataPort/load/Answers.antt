use Rattle.std.proofs.Common.{arith}
use Rattle.plural_cache.proofs.Misses.{misses_few}
use Rattle.plural_serial.proofs.cached.CachedDataPort.load.Goals as goal

-- The call of `load` has what its clause `room` requires.
pub load-requires-clause-room : goal.load-requires-clause-room
load-requires-clause-room g c =
    let cache = c.args.self.now.cache.now in
    let s = c.requires.sound.1 in
    let f = s.stands.1 in
    omega (arith, misses_few cache.sets cache.ways s.stands.0, f.misses, f.loads, s.most_reads, c.requires.room)
