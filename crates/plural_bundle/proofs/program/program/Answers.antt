use Rattle.std.proofs.Common.{◌∙◌, ◌≡◌, map}
use Rattle.plural_map.specs.Value.{TaskValue}
use Rattle.plural_bundle.specs.Value.{pc_of}
use Rattle.plural_bundle.proofs.ValueOfBundle.{is_program}
use Rattle.plural_bundle.proofs.program.program.Goals as goal

-- Each task has one entry, a multiple of 4.
pub of-requires : goal.of-requires
of-requires c =
    let labels : c.as_slice.result.now ≡ c.args.object.1 = cc in
    is_program c.args.map c.object.inside.code c.args.object.1 c.in_ok-entries.entries.items c.requires (c.in_ok-entries.ensures ∙ (λ i. map (λ (k : TaskValue). pc_of (labels i) k.entry) (c.tasks.ensures.value i)))
