use Rattle.std.proofs.Common.{◌∙◌, ap, arith}
use Rattle.std.specs.Prelude.{slice_index}
use Rattle.std.proofs.lemmas.List.{take_all}
use Rattle.plural_base.specs.Stores.{sets}
use Rattle.plural_cache.proofs.Buffers.{pair_here, pair_elsewhere}
use Rattle.plural_cache.proofs.buffer.word_after.Goals.{then-at-a, else-at-a}
use Rattle.plural_cache.proofs.buffer.word_after.Goals as goal

-- A turn of `loop-i` keeps its invariant.
pub loop-i-preserved : goal.loop-i-preserved
loop-i-preserved c = λ m h e.
    let pairs = c.args.pairs.now in
    let i = c.loop-i.i in
    elim c.if-at-a.branch [
      | then-at-a w ↦ w.word-is ∙ pair_here m pairs i (0, 0) c.args.a (omega arith) h w.if-at-a.true
      | else-at-a w ↦ w.word-is ∙ c.loop-i.invariant m h e ∙ pair_elsewhere m pairs i (0, 0) c.args.a (omega arith) w.if-at-a.false
    ]

-- The answer meets the contract.
pub returns : goal.returns
returns c = λ m h e.
    let pairs = c.args.pairs.now in
    c.loop-i.invariant m h e ∙ ap (λ (ps : _). slice_index (sets m ps) c.args.a) (take_all c.loop-i.i pairs (omega arith))
