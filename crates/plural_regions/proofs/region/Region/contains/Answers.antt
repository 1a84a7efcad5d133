use Rattle.plural_regions.proofs.Regions.{is_in_iff}
use Rattle.plural_regions.proofs.region.Region.contains.Goals as goal

-- The answer meets the clause `member`.
pub returns-clause-member : goal.returns-clause-member
returns-clause-member c = is_in_iff c.args.self.now c.args.k c.args.a c.spans.result c.spans.ensures
