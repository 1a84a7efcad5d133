use Rattle.std.proofs.Common.{◌∙◌, sym}
use Rattle.plural_map_text.specs.Drafts.{draft_parts}
use Rattle.plural_map_text.proofs.Verdicts.{no_kind}
use Rattle.plural_map_text.proofs.draft.verdict.Goals as goal

-- A line that passes all tests has no kind.
pub returns-in-None-clause-verdict : goal.returns-in-None-clause-verdict
returns-in-None-clause-verdict c =
    no_kind c.args.version c.args.labels.now c.args.names.now c.args.n (draft_parts c.args.draft.now) c.args.line.now (sym c.is_out_of_place.ensures ∙ c.if-is_out_of_place.false) (sym c.is_out_of_range.ensures ∙ c.if-is_out_of_range.false)
    (sym c.is_misnamed.ensures ∙ c.if-is_misnamed.false) (sym c.is_too_many.ensures ∙ c.if-is_too_many.false) c.in-None.ensures
