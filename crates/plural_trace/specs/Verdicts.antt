-- The verdict on a log.
use Rattle.std.specs.Prelude.{ℕ, ◌≡◌, ◌+◌, ◌<◌, ◌≤◌, true, List, length, map, Option, Some}
use Rattle.plural_map.specs.declared.outcome.Outcome.{Outcome}
use Rattle.plural_map.specs.Value.{TaskValue, MapValue}
use Rattle.plural_serial.specs.declared.record_.Record.{Record}
use Rattle.plural_serial.specs.Program.{ProgramValue}
use Rattle.plural_serial.specs.Serial.{serial_of}
use Rattle.plural_serial.specs.Answer.{AnswerValue, record_of}
use Rattle.plural_trace.specs.declared.verdict.Verdict.{Verdict}
use Rattle.plural_trace.specs.declared.verdict.Verdict.TheVariants.{Yes, No}
use Rattle.plural_trace.specs.Logs.{LogValue}
use Rattle.plural_trace.specs.Legality.{HasRecords, HasTickets, KeepsOrder, HasCores, Rises}
use Rattle.plural_trace.specs.Rules.{breaks_records, breaks_tickets, BreaksOrder, breaks_cores, breaks_rise, breaks_outcomes, breaks_words}

-- What a log is compared with: the tasks of the map; the records, the outcome of each task and the last memory of the
-- serial run.
pub record Expected : Type 0 where
  pub tasks : List TaskValue
  pub records : List Record
  pub outcomes : List (Option Outcome)
  pub memory : List ℕ

-- The records of the instances that the serial run runs, in its order.
abbrev pub records_of : ProgramValue → List ℕ → List Record
records_of p m = map (record_of p) (serial_of p m).ran

-- What a log of a program from an opening image is compared with.
abbrev pub expected_of : ProgramValue → List ℕ → Expected
expected_of p m = record {
  tasks = p.map.tasks;
  records = records_of p m;
  outcomes = (serial_of p m).outcomes;
  memory = (serial_of p m).memory;
}

-- The same by what the serial run of a map with these tasks left.
abbrev pub expected_in : List TaskValue → AnswerValue → Expected
expected_in tasks a = record {
  tasks = tasks;
  records = a.records;
  outcomes = map (λ o. Some o) a.outcomes;
  memory = a.image;
}

-- The same by a map.
abbrev pub expected_by : MapValue → AnswerValue → Expected
expected_by m a = expected_in m.tasks a

-- The log is legal with this last memory: the five facts on its entries, its outcomes are the serial run's, and so is
-- the last memory.
pub record IsLegal (x : Expected) (log : LogValue) (last : List ℕ) : Type 0 where
  pub records : HasRecords x.records log.entries
  pub tickets : HasTickets log.entries
  pub order : KeepsOrder x.tasks log.entries
  pub cores : HasCores log.cores log.entries
  pub rises : Rises log.entries
  pub outcomes : map (λ o. Some o) log.outcomes ≡ x.outcomes
  pub words : last ≡ x.memory

-- The seven rules, in their order.
pub data Rule : Type 0 where
  Records : Rule
  Tickets : Rule
  Order : Rule
  Cores : Rule
  Rise : Rule
  Outcomes : Rule
  Words : Rule

-- The number of a rule.
abbrev pub rank : Rule → ℕ
rank Records = 1
rank Tickets = 2
rank Order = 3
rank Cores = 4
rank Rise = 5
rank Outcomes = 6
rank Words = 7

-- The rule fails at place i of the log and the last memory. The places are those of entries, of tasks or of words; the
-- rule on records has one more, the number of entries.
abbrev pub Fails : Expected → LogValue → (last : List ℕ) → Rule → (i : ℕ) → Type 0
Fails x log last Records i = (i < length log.entries + 1) × (breaks_records x.records log.entries i ≡ true)
Fails x log last Tickets i = (i < length log.entries) × (breaks_tickets log.entries i ≡ true)
Fails x log last Order i = (i < length log.entries) × BreaksOrder x.tasks log.entries i
Fails x log last Cores i = (i < length log.entries) × (breaks_cores log.cores log.entries i ≡ true)
Fails x log last Rise i = (i < length log.entries) × (breaks_rise log.entries i ≡ true)
Fails x log last Outcomes i = (i < length x.outcomes) × (breaks_outcomes x.outcomes log.outcomes i ≡ true)
Fails x log last Words i = (i < length x.memory) × (breaks_words x.memory last i ≡ true)

-- No rule fails at any place.
abbrev pub NoneFails : Expected → LogValue → (last : List ℕ) → Type 0
NoneFails x log last = (rule : Rule) (i : ℕ) → Fails x log last rule i → ⊥

-- The rules before the one of this number fail nowhere.
abbrev pub HoldBefore : Expected → LogValue → (last : List ℕ) → (number : ℕ) → Type 0
HoldBefore x log last number = (rule : Rule) → rank rule < number → (i : ℕ) → Fails x log last rule i → ⊥

-- The first rule that fails has this number, and this is the least place at which it fails.
pub record IsFirstFailure (x : Expected) (log : LogValue) (last : List ℕ) (number at : ℕ) : Type 0 where
  pub rule : Rule
  pub numbered : number ≡ rank rule
  pub fails : Fails x log last rule at
  pub least : (i : ℕ) → Fails x log last rule i → at ≤ i
  pub first : (other : Rule) (i : ℕ) → Fails x log last other i → number ≤ rank other

-- The verdict: yes on a legal log, else the first rule that fails and its least place.
abbrev pub IsVerdict : Expected → LogValue → (last : List ℕ) → Verdict → Type 0
IsVerdict x log last Yes = IsLegal x log last
IsVerdict x log last (No number at) = IsFirstFailure x log last number at
