use Rattle.std.proofs.Common.{sym, ◌∙◌, subst}
use Rattle.plural_map.specs.Limits.{IsMap}
use Rattle.plural_generator.proofs.MapLimits.{made_within, parts_made}
use Rattle.plural_generator.proofs.tasks.map.Goals as goal

-- The map is within all limits.
pub of-requires : goal.of-requires
of-requires c = subst IsMap (sym (parts_made _ _ c.in_ok-tasks.ensures c.in_ok-order.ensures.items)) made_within

-- It is the one that is made.
pub returns : goal.returns
returns c = c.of.ensures ∙ parts_made _ _ c.in_ok-tasks.ensures c.in_ok-order.ensures.items
