use Rattle.std.proofs.Common.{◌∙◌, ap, length}
use Rattle.std.specs.Prelude.{unwrap_or}
use Rattle.plural_map.proofs.Lookups.{found}
use Rattle.plural_log.proofs.numbers.number_of.Goals as goal

-- The number that is kept is that of the first task of the name.
pub returns : goal.returns
returns c =
    let ts = c.args.tasks.now in
    let name = c.args.name.now in
    c.unwrap_or.ensures ∙ ap (λ o. unwrap_or o (length ts)) (c.copied.ensures ∙ c.get.ensures.value ∙ c.requires.numbers name) ∙ found ts name
