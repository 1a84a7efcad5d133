use Rattle.std.proofs.Common.{Bool, ◌<◌, length, take, get_or, ap, sym, ◌∙◌, arith}
use Rattle.std.specs.Prelude.{◌||◌, ◌==◌}
use Rattle.std.proofs.lemmas.List.Folds.{list_any_more}
use Rattle.plural_map.specs.declared.outcome.When.TheVariants as when
use Rattle.plural_map.specs.declared.outcome.Dep.{Dep}
use Rattle.plural_reach.specs.Sets.{has}
use Rattle.plural_reach.specs.Rows.{row, is_named}
use Rattle.plural_reach.proofs.DepLemmas.{row_at}
use Rattle.plural_reach.proofs.chains.named.Goals as goal

-- A turn of `loop-dep` keeps its invariant.
pub loop-dep-preserved : goal.loop-dep-preserved
loop-dep-preserved c = λ p.
    let deps = c.args.deps.now in
    let i = c.loop-dep.dep-index in
    let before = c.args.before.now in
    let dep : Dep = get_or deps i (record { task = 0; when = when.Any }) in
    let within : dep.task < length before = let k = c.requires i (record { task = 0; when = when.Any }) c.loop-dep-test.true in omega arith in
    let more = list_any_more (λ (d : Dep). d.task == p || row before d.task p) deps i (record { task = 0; when = when.Any }) c.loop-dep-test.true in
    let there = row_at before dep.task p (record { low = 0; high = 0 }) within in
    c.or-all.ensures p ∙ (ap (λ (b : Bool). b || has c.with.result p) (c.loop-dep.invariant p) ∙ (ap (λ (b : Bool). is_named before (take i deps) p || b) (c.with.ensures p ∙ ap (λ (b : Bool). dep.task == p || b) (sym there)) ∙ sym more))
