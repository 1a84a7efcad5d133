-- What a decided task adds to a serial run. (This project's own.)
use Rattle.std.specs.Prelude.{ℕ, ◌≡◌, nat_lt, Bool, false, List, [], ◌∷◌, ◌++◌, map, Some}
use Rattle.std.specs.List.{range_with_len, flat_map}
use Rattle.plural_map.specs.declared.outcome.Outcome.{Outcome}
use Rattle.plural_map.specs.declared.outcome.Outcome.TheVariants as outcome
use Rattle.plural_map.specs.declared.outcome.Decision.{Decision}
use Rattle.plural_map.specs.declared.outcome.Decision.TheVariants as decision
use Rattle.plural_map.specs.Decisions.{decided, outcome_at}
use Rattle.plural_serial.specs.Program.{ProgramValue, task_at, life_of}
use Rattle.plural_serial.specs.Serial.{Started, instances, end_of, outcome_of, serial_of}
use Rattle.plural_serial.specs.Instances.{Inst, is_in, insts}

-- The instances of task t that run over the memory m, by the decision on the task.
abbrev pub stretch_of : Decision → ProgramValue → (t : ℕ) → (m : List ℕ) → List Started
stretch_of decision.Fail p t m = []
stretch_of decision.Skip p t m = []
stretch_of decision.Run p t m = (instances p t (task_at p t).quota m).ran

-- The memory that they leave.
abbrev pub memory_of : Decision → ProgramValue → (t : ℕ) → (m : List ℕ) → List ℕ
memory_of decision.Fail p t m = m
memory_of decision.Skip p t m = m
memory_of decision.Run p t m = (instances p t (task_at p t).quota m).memory

-- The outcome of the task.
abbrev pub result_of : Decision → ProgramValue → (t : ℕ) → (m : List ℕ) → Outcome
result_of decision.Fail p t m = outcome.Failed
result_of decision.Skip p t m = outcome.Skipped
result_of decision.Run p t m = outcome_of (map (end_of p) (instances p t (task_at p t).quota m).ran)

-- Whether instance k of task t runs.
abbrev pub runs_of : Decision → ProgramValue → (t k : ℕ) → Bool
runs_of decision.Fail p t k = false
runs_of decision.Skip p t k = false
runs_of decision.Run p t k = nat_lt k (task_at p t).quota

-- The numbers of the instances of task t that run: none, or those below the quota, rising.
abbrev pub numbers_of : Decision → ProgramValue → (t : ℕ) → List Inst
numbers_of decision.Fail p t = []
numbers_of decision.Skip p t = []
numbers_of decision.Run p t = map (λ k. (t, k)) (range_with_len 0 (task_at p t).quota)

-- The decision on a task by the outcomes of the whole run.
abbrev pub decision_of : ProgramValue → List ℕ → (t : ℕ) → Decision
decision_of p m t = decided (task_at p t) (serial_of p m).outcomes

-- The instances of these tasks that run, in the order of the tasks.
abbrev pub numbers_along : ProgramValue → List ℕ → (tasks : List ℕ) → List Inst
numbers_along p m tasks = flat_map (λ t. numbers_of (decision_of p m t) p t) tasks

-- The instances ran one after another: the first from the memory m, each next one from what the one before it left,
-- and the last left the memory n.
abbrev pub Chain : ProgramValue → (m : List ℕ) → List Started → (n : List ℕ) → Type 0
Chain p m [] n = m ≡ n
Chain p m (s ∷ ss) n = (s.start ≡ m) × Chain p (life_of p s.t s.k m).memory ss n

-- The place of task t in the whole run: what ran before it and left the memory that it is decided over, its own
-- stretch, what ran after it; no other instance is of the task; and its outcome. All is by the decision over the
-- outcomes of the whole run.
pub record IsDecided (p : ProgramValue) (m : List ℕ) (t : ℕ) : Type 0 where
  pub memory : List ℕ
  pub earlier : List Started
  pub later : List Started
  pub ran : (serial_of p m).ran ≡ earlier ++ (stretch_of (decision_of p m t) p t memory ++ later)
  pub before : Chain p m earlier memory
  pub not_earlier : (k : ℕ) → is_in (t, k) (insts earlier) ≡ false
  pub not_later : (k : ℕ) → is_in (t, k) (insts later) ≡ false
  pub outcome : outcome_at (serial_of p m).outcomes t ≡ Some (result_of (decision_of p m t) p t memory)
