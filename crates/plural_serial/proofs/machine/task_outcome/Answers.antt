use Rattle.std.proofs.Common.{ap, sym, ◌∙◌}
use Rattle.plural_map.specs.Value.{TaskValue}
use Rattle.plural_map.specs.Decisions.{decided}
use Rattle.plural_serial.proofs.Runs.{task_failed, task_skipped, task_ran_if_ok}
use Rattle.plural_serial.proofs.machine.task_outcome.Goals as goal

-- The answer at `in-Fail` meets the clause `all`.
pub returns-in-Fail-clause-all : goal.returns-in-Fail-clause-all
returns-in-Fail-clause-all c =
    task_failed c.args.program.now c.args.t c.args.outcomes.now c.args.flat.now.words c.args.records.now.items
    (ap (λ (x : TaskValue). decided x c.args.outcomes.now) (sym c.task.ensures.value) ∙ sym c.decide.ensures.value ∙ c.in-Fail.is)

-- The answer at `in-Skip` meets the clause `all`.
pub returns-in-Skip-clause-all : goal.returns-in-Skip-clause-all
returns-in-Skip-clause-all c =
    task_skipped c.args.program.now c.args.t c.args.outcomes.now c.args.flat.now.words c.args.records.now.items
    (ap (λ (x : TaskValue). decided x c.args.outcomes.now) (sym c.task.ensures.value) ∙ sym c.decide.ensures.value ∙ c.in-Skip.is)

-- The answer at `in-Run` meets the clause `all`.
pub returns-in-Run-clause-all : goal.returns-in-Run-clause-all
returns-in-Run-clause-all c =
    let done = c.run_task.ensures in
    task_ran_if_ok c.args.program.now c.args.t c.args.outcomes.now c.args.flat.now.words c.run_task.new.flat.words c.args.records.now.items c.run_task.new.records.items c.run_task.result
    (ap (λ (x : TaskValue). decided x c.args.outcomes.now) (sym c.task.ensures.value) ∙ sym c.decide.ensures.value ∙ c.in-Run.is)
    done.memory done.records done.outcome
