use Rattle.plural_map_text.proofs.draft.add_line.Goals as goal

-- The dependency is on the task of this name.
pub returns-in-After : goal.returns-in-After
returns-in-After c = rw (c.in-After.is, ← c.place_of-task.ensures.place) c.add_dep.ensures
