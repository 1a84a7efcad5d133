-- What `make SEED` writes, and the line of a run of what it makes.
use Rattle.std.specs.Prelude.{ℕ, List, [], ◌∷◌, ◌++◌, codes, length, sum_by, slice_index}
use Rattle.std.specs.Fmt.{decimal}
use Rattle.plural_map.specs.Value.{TaskValue}
use Rattle.plural_serial.specs.declared.record_.Record.{Record}
use Rattle.plural_serial.specs.Serial.{serial_of}
use Rattle.plural_trace.specs.Verdicts.{records_of}
use Rattle.plural_generator.specs.Text.{made_text}
use Rattle.plural_bundle.specs.Value.{BundleValue}
use Rattle.plural_made.specs.Laws.{made_bundle}
use Rattle.plural_cli.specs.Run.{status_of}

-- The bytes of the bundle of a seed.
unfoldable pub made_bytes : (seed : ℕ) → List ℕ
made_bytes seed = made_text seed

-- The line of a run of a made bundle, by its six numbers.
abbrev pub made_line : (instances ran instructions stores best result : ℕ) → List ℕ
made_line instances ran instructions stores best result =
    (((((((((((codes "made: instances " ++ decimal instances)
    ++ codes " ran ") ++ decimal ran)
    ++ codes " instructions ") ++ decimal instructions)
    ++ codes " stores ") ++ decimal stores)
    ++ codes " best ") ++ decimal best)
    ++ codes " result ") ++ decimal result)
    ++ 10 ∷ []

-- The line of tasks, the records of their instances that ran, and the last memory: how many instances the tasks have,
-- how many of them ran, how many instructions and stores these made together, and the last words 32,808 and 32,812.
abbrev pub line_of : List TaskValue → List Record → (last : List ℕ) → List ℕ
line_of tasks records last =
    made_line (sum_by (λ t. t.quota) tasks) (length records) (sum_by (λ r. r.instructions) records)
    (sum_by (λ r. r.stores) records) (slice_index last 32808) (slice_index last 32812)

-- The line of the serial run of a bundle.
abbrev pub serial_line : BundleValue → List ℕ
serial_line b =
    line_of b.program.map.tasks (records_of b.program b.image) (serial_of b.program b.image).memory

-- The line of the run of a seed's bundle.
unfoldable pub made_run_line : (seed : ℕ) → List ℕ
made_run_line seed = serial_line (made_bundle seed)

-- Its status: 1 if a task is failed, else 0.
unfoldable pub made_run_status : (seed : ℕ) → ℕ
made_run_status seed = let b = made_bundle seed in status_of (serial_of b.program b.image).outcomes
