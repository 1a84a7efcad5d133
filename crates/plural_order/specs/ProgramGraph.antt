-- The tasks of a program and its serial run as a task graph.
use Rattle.std.specs.Prelude.{◌≡◌, ℕ, ◌<◌, ◌==◌, Bool, cond, List, [], ◌∷◌, length, filter, Option, Some, None}
use Rattle.std.specs.Prelude.{unwrap_or}
use Rattle.std.specs.List.{list_any, range_with_len}
use Rattle.std.specs.Option.{option_map_or}
use Rattle.plural_core.specs.declared.end.End.{End}
use Rattle.plural_core.specs.declared.end.End.TheVariants as end
use Rattle.plural_map.specs.declared.outcome.Dep.{Dep}
use Rattle.plural_map.specs.declared.outcome.When.{When}
use Rattle.plural_map.specs.declared.outcome.Outcome.{Outcome}
use Rattle.plural_map.specs.declared.outcome.Outcome.TheVariants as outcome
use Rattle.plural_map.specs.Value.{TaskValue}
use Rattle.plural_map.specs.Decisions.{decided, outcome_at, satisfies}
use Rattle.plural_map.specs.Limits.{IsMap}
use Rattle.plural_reach.specs.Chains.{deps_of, comes_before}
use Rattle.plural_reach.specs.Laws.{rank_of}
use Rattle.plural_serial.specs.Program.{ProgramValue, task_at}
use Rattle.plural_serial.specs.Serial.{serial_of}
use Rattle.plural_serial.specs.Instances.{is_in}
use Rattle.plural_order.specs.World.{start_at}
use Rattle.plural_order.specs.ProgramWorld.{world_of}
use Rattle.plural_order.specs.TaskGraph.{TaskGraph, IsTaskGraph, decision_by}

-- The bits of an end: none for code 0, bit 0 for code 1, bit 1 for a trap or a budget that is used up.
abbrev pub bits_of_end : End → ℕ
bits_of_end end.Code0 = 0
bits_of_end end.Code1 = 1
bits_of_end (end.Trap cause pc) = 2
bits_of_end end.Exhausted = 2

-- The bits of a dependency on a task of this outcome: bit 0 if it is failed, bit 2 if it satisfies the condition, else
-- bit 1.
abbrev pub bits_of_dep : When → Outcome → ℕ
bits_of_dep w outcome.Failed = 1
bits_of_dep w outcome.Ended0 = cond (satisfies w outcome.Ended0) 4 2
bits_of_dep w outcome.Ended1 = cond (satisfies w outcome.Ended1) 4 2
bits_of_dep w outcome.Skipped = cond (satisfies w outcome.Skipped) 4 2

-- Task u depends on task t, as a test.
abbrev pub depends_on : List TaskValue → (u t : ℕ) → Bool
depends_on tasks u t = list_any (λ d. d.task == t) (deps_of tasks u)

-- The condition of the dependency on task t, if there is one.
abbrev pub when_on : ℕ → List Dep → Option When
when_on t [] = None
when_on t (d ∷ ds) = cond (d.task == t) (Some d.when) (when_on t ds)

-- The tasks that depend on task t, by rising number.
unfoldable pub successors_of : List TaskValue → ℕ → List ℕ
successors_of tasks t = filter (λ u. depends_on tasks u t) (range_with_len 0 (length tasks))

-- The outcome of a task in the serial run.
abbrev pub outcome_in : ProgramValue → List ℕ → (t : ℕ) → Outcome
outcome_in p m t = unwrap_or (outcome_at (serial_of p m).outcomes t) outcome.Failed

-- The bits of the end of instance k of task t in the serial run.
abbrev pub end_bits_in : ProgramValue → List ℕ → (t k : ℕ) → ℕ
end_bits_in p m t k = bits_of_end ((world_of p m).life (t, k) (start_at (world_of p m) (t, k))).over

-- The bits of the dependency of task u on task t in the serial run; none if there is no such dependency.
abbrev pub edge_bits_in : ProgramValue → List ℕ → (t u : ℕ) → ℕ
edge_bits_in p m t u = option_map_or (λ w. bits_of_dep w (outcome_in p m t)) (when_on t (deps_of p.map.tasks u)) 0

-- The task graph of a program's serial run. A task's rank is its place in the map's order.
abbrev pub graph_of : ProgramValue → List ℕ → TaskGraph
graph_of p m = record {
  tasks = length p.map.tasks;
  quota = λ t. (task_at p t).quota;
  successors = successors_of p.map.tasks;
  deps = λ u. length (task_at p u).deps;
  some = λ u. (task_at p u).some;
  ran = λ t k. is_in (t, k) (world_of p m).ran;
  before = comes_before p.map.tasks;
  ends = end_bits_in p m;
  edges = edge_bits_in p m;
  outcome = outcome_in p m;
  rank = rank_of p.map.tasks;
}

-- The serial run of each program within its limits is such a task graph.
abbrev pub GraphOfProgram : Type 0
GraphOfProgram = (p : ProgramValue) (m : List ℕ) → IsMap p.map → IsTaskGraph (graph_of p m)

-- The outcomes of the serial run are those of its task graph, and so are its decisions.
pub record HasOutcomes (p : ProgramValue) (m : List ℕ) : Type 0 where
  pub outcomes : (t : ℕ) → t < length p.map.tasks → outcome_at (serial_of p m).outcomes t ≡ Some (outcome_in p m t)
  pub decisions : (t : ℕ) → t < length p.map.tasks
      → decided (task_at p t) (serial_of p m).outcomes ≡ decision_by (graph_of p m) t

-- They are, for each program within its limits.
abbrev pub OutcomesOfProgram : Type 0
OutcomesOfProgram = (p : ProgramValue) (m : List ℕ) → IsMap p.map → HasOutcomes p m
