use Rattle.std.proofs.Common.{◌≡◌, length, take}
use Rattle.plural_reach.specs.Rows.{row}
use Rattle.plural_reach.proofs.Solutions.{Solves}
use Rattle.plural_reach.proofs.BranchLemmas.{need_step}
use Rattle.plural_reach.proofs.branches.needs_of.Given as goal

-- the entries of the tasks so far are made
abbrev pub invariant-loop-t : goal.invariant-loop-t
invariant-loop-t l = record {
  order : l.t-items ≡ l.map.order;
  tasks : l.tasks ≡ l.map.tasks;
  length : length l.sets ≡ 256;
  solves : Solves (need_step l.code) l.map.tasks (take l.t-index l.t-items) (row l.sets);
}
