use Rattle.std.proofs.Common.{length, map, ap, ◌∙◌, arith}
use Rattle.plural_bundle.specs.Value.{BundleValue}
use Rattle.plural_cli.specs.Made.{line_of}
use Rattle.plural_cli.proofs.RecordSums.{rec_of}
use Rattle.plural_cli.proofs.Machines.{machine_log, machine_line}
use Rattle.plural_cli.proofs.made_run.ran_made.Goals as goal

-- The entries are few.
pub line_of-requires-clause-few : goal.line_of-requires-clause-few
line_of-requires-clause-few g c = omega (arith, (machine_log c.args.cores c.args.bundle.now c.in_ok-finished.finished c.in_ok-finished.ensures).few, ap length c.entries.ensures.value)

-- The line is that of the serial run.
pub returns-clause-text : goal.returns-clause-text
returns-clause-text g c =
    let tasks = c.tasks-tasks.ensures.value ∙ ap (λ m. m.tasks) c.map.ensures ∙ ap (λ (b : BundleValue). b.program.map.tasks) c.bundle.view_is in
    c.in_ok-line_of.ensures ∙ ((λ i. line_of (tasks i) (map rec_of (c.entries.ensures.value i)) (c.image.ensures.value i)) ∙ machine_line c.args.cores c.args.bundle.now c.in_ok-finished.finished c.in_ok-finished.ensures)
