use Rattle.std.proofs.Common.{◌<◌, ◌≤◌, ◌+◌, arith}
use Rattle.plural_regions.proofs.Edge.{outside_when, inside_before, outside_first}
use Rattle.plural_regions.proofs.region.Region.first_outside.Goals as goal

-- The answer at `then-w-end` meets the clause `outside`.
pub returns-then-w-end-clause-outside : goal.returns-then-w-end-clause-outside
returns-then-w-end-clause-outside c = (outside_when c.args.self.now 0 c.args.w (omega arith), (λ k h. absurd (omega arith)))

-- The answer at `else-self-eq0` meets the clause `outside`.
pub returns-else-self-eq0-clause-outside : goal.returns-else-self-eq0-clause-outside
returns-else-self-eq0-clause-outside c =
    let moves : 0 < c.args.self.now.stride = omega arith in
    let room : c.args.self.now.base + c.args.self.now.count ≤ c.args.w = omega arith in
    (outside_first c.args.self.now c.args.w moves room, inside_before c.args.self.now c.args.w moves room)
