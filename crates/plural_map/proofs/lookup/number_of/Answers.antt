use Rattle.std.proofs.Common.{ap, ◌∙◌, length}
use Rattle.std.specs.Prelude.{bytes_eq, unwrap_or}
use Rattle.plural_base.proofs.ListTests.{unwrap_found}
use Rattle.plural_map.specs.Value.{TaskValue}
use Rattle.plural_map.proofs.lookup.number_of.Goals as goal

-- The answer meets the clause `number`.
pub returns-clause-number : goal.returns-clause-number
returns-clause-number c =
    c.unwrap_or.ensures ∙ ap (λ o. unwrap_or o (length c.args.tasks.now)) c.position_named.ensures ∙ unwrap_found (λ (t : TaskValue). bytes_eq t.name c.args.name.now) c.args.tasks.now
