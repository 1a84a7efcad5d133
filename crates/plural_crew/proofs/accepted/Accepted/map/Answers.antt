use Rattle.std.proofs.Common.{subst}
use Rattle.plural_map.specs.Value.{MapValue}
use Rattle.plural_crew.specs.Clashes.{IsAccepted}
use Rattle.plural_crew.proofs.accepted.Accepted.map.Goals as goal

-- The answer meets the clause `accepted`.
pub returns-clause-accepted : goal.returns-clause-accepted
returns-clause-accepted c = subst (λ (m : MapValue). IsAccepted m.tasks) c.self.view_is c.self.invariant
