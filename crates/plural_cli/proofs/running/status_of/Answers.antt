use Rattle.std.proofs.Common.{ap, sym, ◌∙◌, Some, if◌then◌else◌}
use Rattle.plural_map.specs.Decisions.{is_failed}
use Rattle.plural_cli.proofs.Outcomes.{list_any-map}
use Rattle.plural_cli.proofs.running.status_of.Goals as goal

-- A task is failed: the status is 1.
pub returns-then-any_failed : goal.returns-then-any_failed
returns-then-any_failed c =
    sym (ap (λ b. if b then 1 else 0) (list_any-map is_failed (λ o. Some o) c.args.outcomes.now ∙ sym c.any_failed.ensures ∙ c.if-any_failed.true))

-- No task is failed: the status is 0.
pub returns-else-any_failed : goal.returns-else-any_failed
returns-else-any_failed c =
    sym (ap (λ b. if b then 1 else 0) (list_any-map is_failed (λ o. Some o) c.args.outcomes.now ∙ sym c.any_failed.ensures ∙ c.if-any_failed.false))
