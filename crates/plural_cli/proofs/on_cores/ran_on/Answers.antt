use Rattle.std.proofs.Common.{◌≡◌, ap, ◌∙◌, subst}
use Rattle.plural_map.specs.Value.{MapValue}
use Rattle.plural_output.specs.Text.{output_text}
use Rattle.plural_finished.specs.Finishing.{log_of}
use Rattle.plural_bundle.specs.Value.{BundleValue}
use Rattle.plural_cli.proofs.Machines.{told_runs}
use Rattle.plural_cli.proofs.on_cores.ran_on.Goals as goal

-- The text spells the log and the image of the machine that ran.
pub returns-clause-answer : goal.returns-clause-answer
returns-clause-answer g c =
    let f = c.in_ok-finished.finished in
    let own = c.map.ensures ∙ ap (λ (b : BundleValue). b.program.map) c.bundle.view_is in
    let text = subst (λ (m : MapValue). c.in_ok-finished_text.field-0.items ≡ output_text m (log_of f) f.image) own c.in_ok-finished_text.ensures in
    told_runs c.args.cores c.args.bundle.now c.status_of.result c.in_ok-finished_text.field-0.items f (record { machine = c.in_ok-finished.ensures; text_is = text }) (rw (c.outcomes.ensures.value) at c.status_of.ensures)
