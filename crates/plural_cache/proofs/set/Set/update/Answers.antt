use Rattle.std.proofs.Common.{[], sym, take}
use Rattle.plural_cache.specs.Lines.{IsFirst}
use Rattle.plural_cache.specs.declared.set.Line.{Line}
use Rattle.plural_cache.proofs.Orders.{updated_in_use, updated_none, eight_at, look_none}
use Rattle.plural_cache.proofs.set.Set.update.Goals as goal

-- The answer at `in-Some` meets the clause `order`.
pub returns-in-Some-clause-order : goal.returns-in-Some-clause-order
returns-in-Some-clause-order c =
    let s = c.self.inside in
    let d : Line = record { line = 0; words = [] } in
    let first : IsFirst c.args.x c.in-Some.p (take s.used s.lines) = rw c.self.view_is c.in-Some.ensures.some in
    rw (c.with_word.ensures.words, ← c.self.view_is) (updated_in_use c.args.x c.args.w c.args.v c.in-Some.p s.used s.lines d first)

-- The answer at `in-Some` meets the clause `eight`.
pub returns-in-Some-clause-eight : goal.returns-in-Some-clause-eight
returns-in-Some-clause-eight c =
    let s = c.self.inside in
    let d : Line = record { line = 0; words = [] } in
    let first : IsFirst c.args.x c.in-Some.p (take s.used s.lines) = rw c.self.view_is c.in-Some.ensures.some in
    rw (← c.self.view_is) (eight_at c.args.x c.in-Some.p s.used s.lines d first c.with_word.ensures.eight)

-- The answer at `in_default` meets the clause `order`.
pub returns-in_default-clause-order : goal.returns-in_default-clause-order
returns-in_default-clause-order c = sym (updated_none c.args.x c.args.w c.args.v c.args.self.now c.in_default.ensures.none)

-- The answer at `in_default` meets the clause `eight`.
pub returns-in_default-clause-eight : goal.returns-in_default-clause-eight
returns-in_default-clause-eight c = rw (look_none c.args.x c.args.self.now c.in_default.ensures.none) tt
