use Rattle.std.proofs.Common.{◌≡◌, ◌/◌, true, rules}
use Rattle.plural_regions.specs.Rights.{may_write}
use Rattle.plural_regions.proofs.Regions.{may_read_from_write}
use Rattle.plural_core.proofs.access.write.Goals as goal
use Rattle.plural_core.proofs.access.write.Goals.{in-Word, in_default}

-- The call of `load` has what it requires.
pub load-requires : goal.load-requires
load-requires g c =
    let a = c.args.store.address / 4 in
    let allowed : may_write c.args.regions.now c.args.at.k a ≡ true = cc in
    record {
      sound = c.requires.ready.sound;
      lawful = c.requires.ready.lawful a (may_read_from_write c.args.regions.now c.args.at.k a allowed);
      room = search rules;
    }

-- The call of `store` has what its clause `within` requires.
pub store-requires-clause-within : goal.store-requires-clause-within
store-requires-clause-within g c =
    let a = c.args.store.address / 4 in
    let allowed : may_write c.args.regions.now c.args.at.k a ≡ true = cc in
    let within = g.met.P.DataPort.within c.args.port.now a (c.requires.ready.lawful a (may_read_from_write c.args.regions.now c.args.at.k a allowed)) in
    elim c.match-width.branch [
      | in-Word w ↦ rw w.port-is within
      | in_default w ↦ rw (w.port-is, w.load.ensures.told) within
    ]
