use Rattle.std.proofs.Common.{◌∙◌, length, eqb, ap}
use Rattle.plural_log.specs.Numbers.{task_of}
use Rattle.plural_log.specs.declared.line.LogLine.{LogLine}
use Rattle.plural_log.proofs.NameNumbers.{misnamed_by}
use Rattle.plural_log.proofs.judge_line.is_misnamed.Goals as goal

-- The number of tasks stands for a name that no task has.
pub returns-in-Run : goal.returns-in-Run
returns-in-Run c = ap (λ n. eqb n (length c.args.tasks.now)) (c.requires.task ∙ ap (λ (l : LogLine). task_of c.args.tasks.now l) c.in-Run.is) ∙ rw c.in-Run.is (misnamed_by c.args.tasks.now c.in-Run.name)
