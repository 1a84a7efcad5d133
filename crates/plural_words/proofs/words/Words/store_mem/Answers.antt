use Rattle.std.proofs.Common.{◌≡◌, ◌<◌, ◌∷◌, arith}
use Rattle.plural_rule.specs.Opening.{Opening}
use Rattle.plural_words.specs.Stages.{to_come}
use Rattle.plural_words.proofs.Tokens.{inside_of, key_of, view_of}
use Rattle.plural_words.proofs.InstanceSteps.{store_allowed}
use Rattle.plural_words.proofs.words.Words.store_mem.Goals as goal

-- The instance's next store may be made.
pub store-requires : goal.store-requires
store-requires c =
    let is = inside_of c.self.view_is c.seat.view_is c.requires.of in
    let small = key_of (λ (o : Opening). c.args.a < o.program.map.words) c.self.view_is c.requires.word in
    let rest = c.requires.next.0 in
    let next = view_of (λ v. to_come c.self.inside.table.shared.key v.stage ≡ (c.args.a, c.args.v) ∷ rest) c.seat.view_is
    (key_of (λ (o : Opening). to_come o c.args.seat.now.view.stage ≡ (c.args.a, c.args.v) ∷ rest) c.self.view_is c.requires.next.1) in
    let words = c.self.invariant.1 in
    (is.table, omega (arith, words, small), store_allowed _ _ _ _ _ _ _ rest is.view.opening is.role (omega (arith, c.ranges.v)) next)
