-- The serial run: tasks in the map's order, instances by rising number, over one memory.
use Rattle.std.specs.Prelude.{ℕ, zero, suc, List, [], ◌∷◌, ◌++◌, length, map, fold, replicate, slice_set, Bool, true, false, if◌then◌else◌, Option, Some, None}
use Rattle.std.specs.List.{list_any}
use Rattle.plural_core.specs.declared.end.End.{End}
use Rattle.plural_core.specs.declared.end.End.TheVariants as end
use Rattle.plural_map.specs.declared.outcome.Outcome.{Outcome}
use Rattle.plural_map.specs.declared.outcome.Outcome.TheVariants as outcome
use Rattle.plural_map.specs.declared.outcome.Decision.{Decision}
use Rattle.plural_map.specs.declared.outcome.Decision.TheVariants as decision
use Rattle.plural_map.specs.Decisions.{decided}
use Rattle.plural_serial.specs.Program.{ProgramValue, task_at, life_of}

-- An instance that ran, with the memory at its start.
pub record Started : Type 0 where
  pub t : ℕ
  pub k : ℕ
  pub start : List ℕ

-- The end of a life. (A whole life always has one.)
abbrev pub ended : Option End → End
ended None = end.Exhausted
ended (Some e) = e

-- How an instance that ran ended.
abbrev pub end_of : ProgramValue → Started → End
end_of p i = ended (life_of p i.t i.k i.start).state.over

-- An end that fails its task: a trap, or a budget that is used up.
abbrev pub is_failure : End → Bool
is_failure end.Code0 = false
is_failure end.Code1 = false
is_failure (end.Trap cause pc) = true
is_failure end.Exhausted = true

-- An end with code 1.
abbrev pub is_code_1 : End → Bool
is_code_1 end.Code1 = true
is_code_1 _ = false

-- The outcome of a task whose instances ended so: failed if one of them failed, else ended with the largest code.
abbrev pub outcome_of : List End → Outcome
outcome_of ends =
    if list_any is_failure ends then outcome.Failed
    else (if list_any is_code_1 ends then outcome.Ended1 else outcome.Ended0)

-- A memory, and the instances that brought it about.
pub record Stretch : Type 0 where
  pub memory : List ℕ
  pub ran : List Started

-- One instance more: it turns the memory into the one after its life.
abbrev pub with_instance : ProgramValue → (t k : ℕ) → Stretch → Stretch
with_instance p t k s =
    record { memory = (life_of p t k s.memory).memory; ran = s.ran ++ record { t = t; k = k; start = s.memory } ∷ [] }

-- The first n instances of task t, by rising number, over the memory m.
unfoldable pub instances : ProgramValue → (t n : ℕ) → List ℕ → Stretch
instances p t zero m = record { memory = m; ran = [] }
instances p t (suc n) m = with_instance p t n (instances p t n m)

-- What a serial run has so far: the memory, the outcome of each task that has one, the instances that ran.
pub record Run : Type 0 where
  pub memory : List ℕ
  pub outcomes : List (Option Outcome)
  pub ran : List Started

-- Task t has this outcome, and none of its instances ran.
abbrev pub with_outcome : (t : ℕ) → Outcome → Run → Run
with_outcome t o r = record r { outcomes = slice_set r.outcomes t (Some o) }

-- All instances of task t run, whatever the others do.
abbrev pub with_all : ProgramValue → (t : ℕ) → Run → Run
with_all p t r =
    let s = instances p t (task_at p t).quota r.memory in
    record {
      memory = s.memory;
      outcomes = slice_set r.outcomes t (Some (outcome_of (map (end_of p) s.ran)));
      ran = r.ran ++ s.ran;
    }

-- What a decision makes of task t: it is failed, it is skipped, or all its instances run.
abbrev pub by_decision : Decision → ProgramValue → (t : ℕ) → Run → Run
by_decision decision.Fail p t r = with_outcome t outcome.Failed r
by_decision decision.Skip p t r = with_outcome t outcome.Skipped r
by_decision decision.Run p t r = with_all p t r

-- One task more: it is decided by the outcomes so far, and runs if the decision says so.
unfoldable pub with_task : ProgramValue → Run → (t : ℕ) → Run
with_task p r t = by_decision (decided (task_at p t) r.outcomes) p t r

-- Before the first task: the opening image, no outcome, nothing ran.
abbrev pub opening : ProgramValue → List ℕ → Run
opening p m = record { memory = m; outcomes = replicate (length p.map.tasks) None; ran = [] }

-- The serial run over an opening image: its last memory, its outcomes by task number, the list that ran.
abbrev pub serial_of : ProgramValue → List ℕ → Run
serial_of p m = fold (with_task p) (opening p m) p.map.order
