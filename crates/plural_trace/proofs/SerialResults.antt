-- What a serial run leaves: records of the map's tasks, an outcome for each task, what a log is compared with.
use Rattle.std.proofs.Common.{◌≡◌, ℕ, zero, suc, ◌+◌, ◌<◌, Bool, true, false, not, ◌||◌, List, [], ◌∷◌, length, map, take, get_or, Some, None, refl, sym, ap, ◌∙◌, arith}
use Rattle.std.specs.List.{All}
use Rattle.std.proofs.lemmas.List.{length-map, get_or_default}
use Rattle.std.proofs.lemmas.List.Elements.{All-map}
use Rattle.plural_map.specs.declared.outcome.Outcome.{Outcome}
use Rattle.plural_map.specs.Limits.{IsMap}
use Rattle.plural_serial.specs.declared.record_.Record.{Record}
use Rattle.plural_serial.specs.Program.{ProgramValue}
use Rattle.plural_serial.specs.Serial.{serial_of}
use Rattle.plural_serial.specs.Answer.{AnswerValue, IsSerial, record_of}
use Rattle.plural_serial.proofs.Few.{few_records}
use Rattle.plural_serial.proofs.RunTasks.{ran_within}
use Rattle.plural_serial.proofs.Stretches.{outcomes_each}
use Rattle.plural_trace.specs.declared.entry.Entry.{Entry}
use Rattle.plural_trace.specs.Laws.{SerialFits}
use Rattle.plural_trace.specs.Least.{least}
use Rattle.plural_trace.specs.Rules.{no_entry, entry_at, is_recorded, has_instance, breaks_records, is_same_outcome, breaks_outcomes}
use Rattle.plural_trace.specs.Verdicts.{records_of, expected_of, expected_by}
use Rattle.plural_trace.proofs.LeastPlaces.{least_none}
use Rattle.plural_trace.proofs.RecordLookup.{record_test, recorded_task}

-- ---- outcomes at a place

-- The outcome at a place of both lists.
pub outcome_test : (serial outcomes : List Outcome) (i : ℕ) (d e : Outcome) → length outcomes ≡ length serial → i < length serial
    → breaks_outcomes (map (λ o. Some o) serial) outcomes i ≡ not (is_same_outcome (get_or outcomes i d) (get_or serial i e))
outcome_test [] [] i d e n l = absurd (omega arith)
outcome_test [] (o ∷ os) i d e n l = absurd (omega arith)
outcome_test (s ∷ ss) [] i d e n l = absurd (omega arith)
outcome_test (s ∷ ss) (o ∷ os) zero d e n l = refl
outcome_test (s ∷ ss) (o ∷ os) (suc i) d e n l = outcome_test ss os i d e (omega arith) (omega arith)

-- ---- the tasks of records

-- The records of a serial run are of tasks of the map.
records_within : (p : ProgramValue) (m : List ℕ) → IsMap p.map → All (λ (r : Record). r.t < length p.map.tasks) (records_of p m)
records_within p m limits = All-map (λ (r : Record). r.t < length p.map.tasks) (record_of p) (serial_of p m).ran (ran_within p m limits)

-- ---- entries of recorded instances

-- If rule 1 has no place, the entries are of tasks of the map.
pub entries_within : (tasks : ℕ) (rs : List Record) (es : List Entry) → All (λ (r : Record). r.t < tasks) rs → least (breaks_records rs es) (length es + 1) ≡ None → All (λ (e : Entry). e.rec.t < tasks) es
entries_within tasks rs es h e = λ i d l.
    let fine = least_none (breaks_records rs es) i (length es + 1) (omega arith) e in
    let own = recorded_task tasks rs (entry_at es i).rec h (first (is_recorded rs (entry_at es i).rec) (has_instance (entry_at es i).rec.t (entry_at es i).rec.k (take i es)) (sym (record_test rs es i l) ∙ fine)) in
    rw (get_or_default es i d no_entry l) own
  where
    first : (a b : Bool) → (not a || b) ≡ false → a ≡ true
    first true b e = refl
    first false b e = absurd cc

-- ---- what a log is compared with

-- What the serial run left tells what a log is compared with.
pub expected_same : (p : ProgramValue) (m : List ℕ) (a : AnswerValue) → IsSerial p m a → expected_by p.map a ≡ expected_of p m
expected_same p m a run = λ i. record { tasks = p.map.tasks; records = run.records i; outcomes = run.outcomes i; memory = run.image i }

-- What a serial run leaves fits a log of the map.
pub serial_fits : SerialFits
serial_fits p m a limits run = (
  rw (ap length run.records, length-map (serial_of p m).ran (record_of p)) (few_records p m limits),
  sym (length-map a.outcomes (λ o. Some o)) ∙ ap length run.outcomes ∙ outcomes_each p m,
  rw run.records (records_within p m limits),
)
