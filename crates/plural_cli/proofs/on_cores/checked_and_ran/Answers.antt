use Rattle.std.proofs.Common.{inl, subst, ap, ◌∙◌}
use Rattle.std.proofs.lemmas.Result.{IfOk-weaker}
use Rattle.plural_map.specs.Value.{MapValue}
use Rattle.plural_crew.specs.Clashes.{IsAccepted}
use Rattle.plural_bundle.specs.Value.{BundleValue}
use Rattle.plural_cli.proofs.on_cores.checked_and_ran.Goals as goal

-- The map has no clash: it is run.
pub returns-in-Ok-clause-answer : goal.returns-in-Ok-clause-answer
returns-in-Ok-clause-answer g c =
    let own = c.map-map.ensures ∙ ap (λ (b : BundleValue). b.program.map) c.bundle.view_is in
    let accepted = subst (λ (m : MapValue). IsAccepted m.tasks) own c.in-Ok.ensures.accepted in
    IfOk-weaker _ _ _ (λ r p. inl (accepted, p)) c.ran_on.ensures.answer
