use Rattle.std.proofs.Common.{ap, ◌∙◌, ◌++◌, ◌∷◌, [], sym, map, take}
use Rattle.std.proofs.lemmas.List.{map_more}
use Rattle.plural_map.specs.Value.{TaskValue}
use Rattle.plural_map.specs.Lookup.{name_at}
use Rattle.plural_map.proofs.Lookups.{name_is}
use Rattle.plural_map.proofs.ordering.names.Goals as goal

-- One more name follows the others.
pub loop-t-preserved : goal.loop-t-preserved
loop-t-preserved c =
    let i = c.loop-t.t-index in
    let name = c.name.ensures ∙ ap (λ (t : TaskValue). t.name) c.index-tasks-t.is ∙ sym (name_is c.args.tasks.now _ _ (c.requires i 0 c.loop-t-test.true)) in
    c.in_ok-push.ensures.items ∙ ap (λ xs. xs ++ c.name.result.now ∷ []) c.loop-t.invariant
    ∙ ap (λ n. map (name_at c.args.tasks.now) (take i c.args.numbers.now) ++ n ∷ []) name
    ∙ sym (map_more (name_at c.args.tasks.now) c.args.numbers.now i 0 c.loop-t-test.true)
