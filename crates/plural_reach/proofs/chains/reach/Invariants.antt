use Rattle.std.proofs.Common.{◌≡◌, length, take}
use Rattle.plural_reach.specs.Rows.{row}
use Rattle.plural_reach.proofs.Solutions.{Solves}
use Rattle.plural_reach.proofs.ChainLemmas.{chain_step}
use Rattle.plural_reach.proofs.chains.reach.Given as goal

-- the entries of the tasks so far are made
abbrev pub invariant-loop-u : goal.invariant-loop-u
invariant-loop-u l = record {
  order : l.u-items ≡ l.map.order;
  tasks : l.tasks ≡ l.map.tasks;
  length : length l.before ≡ 256;
  solves : Solves chain_step l.map.tasks (take l.u-index l.u-items) (row l.before);
}
