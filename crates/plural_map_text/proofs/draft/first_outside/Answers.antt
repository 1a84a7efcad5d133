use Rattle.plural_map_text.proofs.draft.first_outside.Goals as goal

-- Of a region line the least instance outside is told.
pub returns-in-Region : goal.returns-in-Region
returns-in-Region c = rw c.in-Region.is (rw c.region_of-region.ensures at c.region_outside.ensures)
