use Rattle.plural_cli.proofs.LogTasks.{entries_within}
use Rattle.plural_cli.proofs.running.ran.Goals as goal

-- The entries of the log are of the map's tasks.
pub print_output-requires-clause-tasks : goal.print_output-requires-clause-tasks
print_output-requires-clause-tasks c = rw (c.in_ok-log.ensures, c.map.ensures) (entries_within _ 0 _ c.in_ok-run.ensures.tasks)
