use Rattle.std.proofs.Common.{arith, ◌-◌}
use Rattle.std.specs.Prelude.{remove}
use Rattle.plural_cache.proofs.Orders.{shifted_all}
use Rattle.plural_cache.proofs.set.shift_in.Goals as goal

-- The answer meets the contract.
pub returns : goal.returns
returns c =
    let l = c.loop-i in
    shifted_all l.lines (remove c.args.lines.now c.args.p) (c.args.p - l.i) c.args.line (omega arith) (omega arith) l.invariant.shifted
