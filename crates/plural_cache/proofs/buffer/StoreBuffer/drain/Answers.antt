use Rattle.std.proofs.Common.{List, ℕ, subst, sym}
use Rattle.plural_base.specs.Told.{Told}
use Rattle.plural_cache.specs.Buffer.{IsBufferOver}
use Rattle.plural_cache.proofs.Buffers.{over_rest}
use Rattle.plural_cache.proofs.buffer.StoreBuffer.drain.Goals as goal

-- The answer meets the clause `over`.
pub returns-clause-over : goal.returns-clause-over
returns-clause-over g c =
    let told = g.B.Bus.told c.args.bus.now in
    let old = subst (λ (pairs : List (ℕ × ℕ)). IsBufferOver pairs told) c.pop-a.ensures c.requires.over in
    subst (λ (t : Told). IsBufferOver c.pop-a.new.self t) (sym c.write.ensures.step.stored)
    (over_rest c.pop-a.result c.pop-a.new.self told old)
