use Rattle.std.proofs.Common.{◌≡◌, ◌++◌, length, map}
use Rattle.plural_serial.specs.Cached.{IsShaped}
use Rattle.plural_serial.specs.Serial.{instances, outcome_of, end_of}
use Rattle.plural_serial.specs.Answer.{record_of}
use Rattle.plural_serial.proofs.machine.run_task.Given as goal

-- The first k instances ran.
abbrev pub invariant-loop-k : goal.invariant-loop-k
invariant-loop-k l =
    let s = instances l.program l.t l.k l.fn.flat.words in
    record {
      shape : IsShaped l.program.map l.cache;
      words : length l.flat.words ≡ length l.fn.flat.words;
      memory : l.flat.words ≡ s.memory;
      records : l.records.items ≡ l.fn.records.items ++ map (record_of l.program) s.ran;
      outcome : l.outcome ≡ outcome_of (map (end_of l.program) s.ran);
    }
