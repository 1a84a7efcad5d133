use Rattle.std.proofs.Common.{◌≡◌, length, take}
use Rattle.plural_serial.specs.Cached.{IsShaped}
use Rattle.plural_serial.specs.Serial.{opening}
use Rattle.plural_serial.proofs.Runs.{IsSoFar}
use Rattle.plural_serial.proofs.TaskOutcomes.{HasOutcomes}
use Rattle.plural_serial.proofs.machine.serial.Given as goal

-- The first tasks of the order are decided and run.
abbrev pub invariant-loop-t : goal.invariant-loop-t
invariant-loop-t l =
    record {
      order : l.t-items ≡ l.program.map.order;
      shape : IsShaped l.program.map l.cache;
      words : length l.flat.words ≡ l.program.map.words;
      count : length l.outcomes.items ≡ length l.program.map.tasks;
      settled : HasOutcomes (take l.t-index l.t-items) l.outcomes.items;
      so_far : IsSoFar l.program (opening l.program l.fn.image) (take l.t-index l.t-items) l.flat.words l.outcomes.items l.records.items;
    }
