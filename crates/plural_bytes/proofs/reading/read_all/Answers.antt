use Rattle.std.proofs.Common.{refl, arith}
use Rattle.plural_bytes.proofs.KnownBytes.{taken_with}
use Rattle.plural_bytes.proofs.reading.read_all.Goals as goal

-- More was taken than the limit.
pub returns-then-n-limit-clause-too_long : goal.returns-then-n-limit-clause-too_long
returns-then-n-limit-clause-too_long g c =
    let S = g.S.Source in
    taken_with (S.left c.args.source.now) (S.left c.loop-bytes.source) (S.left c.read.new.self) c.loop-bytes.bytes.items c.read.new.into c.in-Ok.n _ _ c.loop-bytes.invariant.taken c.in-Ok.ensures.bytes.0 c.in-Ok.ensures.bound.0
    ((λ _. omega (arith, c.loop-bytes.bytes.ok.0)), (λ _. refl))

-- What was taken is no longer than the limit.
pub returns-then-is_err-clause-too_long : goal.returns-then-is_err-clause-too_long
returns-then-is_err-clause-too_long g c =
    let S = g.S.Source in
    taken_with (S.left c.args.source.now) (S.left c.loop-bytes.source) (S.left c.read.new.self) c.loop-bytes.bytes.items c.read.new.into c.in-Ok.n _ _ c.loop-bytes.invariant.taken c.in-Ok.ensures.bytes.0 c.in-Ok.ensures.bound.0
    ((λ e. cc), (λ h. absurd (omega (arith, h, c.loop-bytes.bytes.ok.0))))
