use Rattle.std.proofs.Common.{sym, ◌∙◌}
use Rattle.plural_base.proofs.NameLemmas.{kept}
use Rattle.plural_base.proofs.names.Name.of.Goals as goal

-- The invariant of the type of `result` holds.
pub invariant_of-result : goal.invariant_of-result
invariant_of-result c = kept c.args.text.now c.copy_from_slice.new.self c.copy_from_slice.ensures.after (sym c.is_name.ensures ∙ c.if-not-is_name.false)
