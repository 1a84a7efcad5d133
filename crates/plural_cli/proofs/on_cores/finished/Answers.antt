use Rattle.std.proofs.Common.{◌≡◌, ◌∙◌, subst}
use Rattle.plural_rule.specs.Opening.{Opening}
use Rattle.plural_bundle.specs.Value.{BundleValue}
use Rattle.plural_cli.specs.Kept.{IsMachineOf}
use Rattle.plural_cli.proofs.Machines.{machine_of}
use Rattle.plural_cli.proofs.on_cores.finished.Goals as goal

-- The machine was opened with the bundle's program and image.
pub returns : goal.returns
returns g c =
    let f = c.close-finished.result in
    let opened : BundleValue = record { program = c.bundle.inside.program; image = c.deref.result.now } in
    let own : opened ≡ c.args.bundle.now = (λ i. record { program = c.bundle.inside.program; image = c.deref.ensures.value i }) ∙ c.bundle.view_is in
    let with : Opening = record { program = opened.program; image = opened.image; cores = c.args.cores } in
    let opening : c.run.new.machine.opening ≡ with = c.run.ensures.opening ∙ c.in_ok-machine.ensures in
    let left : f.closed.opening ≡ with = c.close-finished.ensures ∙ opening in
    subst (λ (b : BundleValue). IsMachineOf c.args.cores b f) own (machine_of c.args.cores opened f c.closed-closed.ensures.finished left)
