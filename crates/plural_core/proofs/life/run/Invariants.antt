use Rattle.std.proofs.Common.{◌≡◌, ◌-◌, ◌≤◌, ◌<◌, slice_index}
use Rattle.plural_core.specs.Turn.{Step}
use Rattle.plural_base.specs.Told.{Expects}
use Rattle.plural_core.specs.Port.{Makes}
use Rattle.plural_core.specs.Recent.{IsRecent}
use Rattle.plural_core.specs.Progress.{live}
use Rattle.plural_core.specs.Life.{join, rest_of}
use Rattle.plural_core.proofs.life.run.Given as goal

-- The accesses so far, with those of the life that is left, are those of the whole life.
abbrev pub invariant-loop-end : goal.invariant-loop-end
invariant-loop-end g l =
    let P = g.P.DataPort in
    let left = rest_of l.code l.regions (live l.at l.registers) (P.told l.port).words in
    let all = rest_of l.code l.regions l.fn.hart (P.told l.fn.port).words in
    record {
      room : l.at.count < l.at.budget;
      limit : l.at.budget ≤ 100000000;
      zero : slice_index l.registers 0 ≡ 0;
      k : l.at.k ≡ l.fn.hart.k;
      budget : l.at.budget ≡ l.fn.hart.budget;
      recent : IsRecent l.regions l.at.k l.recent;
      sound : P.is_sound l.port;
      loads : (P.counts l.port).reads ≤ l.at.count;
      stores : (P.counts l.port).writes ≤ l.at.count;
      expected : Expects (P.told l.port).expects left.stores;
      made : (d : Step) × Makes P.told P.counts P.stands_for P.keeps P.is_sound l.fn.port l.port d × (join d left ≡ all);
    }

abbrev pub decreases-loop-end : goal.decreases-loop-end
decreases-loop-end g l = l.at.budget - l.at.count
