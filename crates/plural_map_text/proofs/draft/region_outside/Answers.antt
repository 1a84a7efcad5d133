use Rattle.plural_map_text.proofs.draft.region_outside.Goals as goal

-- All instances of the current task lie inside.
pub returns-in-Ok : goal.returns-in-Ok
returns-in-Ok c = rw c.in-Some.is (rw c.quota.ensures at c.in-Ok.ensures.inside)
