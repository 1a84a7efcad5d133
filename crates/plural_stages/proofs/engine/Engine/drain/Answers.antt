use Rattle.std.proofs.Common.{◌∙◌, ap, drop, ℕ, List}
use Rattle.std.proofs.lemmas.List.{drop-drop}
use Rattle.plural_stages.proofs.engine.Engine.drain.Goals as goal

-- One store less waits.
pub loop-i-preserved : goal.loop-i-preserved
loop-i-preserved c =
    let one = c.drain_one.ensures in
    let before = c.loop-i.invariant in (
      one.of,
      one.fixed ∙ before.1,
      one.running,
      one.oldest ∙ ap (λ (x : List (ℕ × ℕ)). drop 1 x) before.3 ∙ drop-drop 1 c.loop-i._i c.args.self.now.pairs,
      one.core ∙ before.4,
    )
