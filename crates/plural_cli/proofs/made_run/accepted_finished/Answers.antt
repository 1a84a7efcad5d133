use Rattle.std.proofs.Common.{ap, ◌∙◌, sym, subst}
use Rattle.plural_map.specs.Value.{MapValue}
use Rattle.plural_crew.specs.Clashes.{IsAccepted}
use Rattle.plural_bundle.specs.Value.{BundleValue}
use Rattle.plural_cli.proofs.made_run.accepted_finished.Goals as goal

-- The map has no clash.
pub unreachable-requires : goal.unreachable-requires
unreachable-requires g c =
    let own = c.map-map.ensures ∙ ap (λ (b : BundleValue). b.program.map) c.bundle.view_is in
    let e = c.in-Err.field-0 in
    subst (λ (m : MapValue). IsAccepted m.tasks) (sym own) c.requires.accepted e.t e.k e.u e.l e.a c.in-Err.ensures.clash.clash
