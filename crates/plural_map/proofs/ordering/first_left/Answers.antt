use Rattle.std.proofs.Common.{not, sym, ap, ◌∙◌, arith}
use Rattle.plural_map.specs.Order.{is_among}
use Rattle.plural_map.proofs.LeastNumbers.{least_is}
use Rattle.plural_map.proofs.ordering.first_left.Goals as goal

-- The number is the least that isn't reached.
pub returns-then-not-has : goal.returns-then-not-has
returns-then-not-has c = sym (least_is (λ t. not (is_among t c.args.reached.now)) c.args.n c.loop-t.t (omega arith) c.loop-t.invariant (λ l. ap not (sym c.has.ensures ∙ c.if-not-has.true)))

-- All are reached.
pub returns : goal.returns
returns c = sym (least_is (λ t. not (is_among t c.args.reached.now)) c.args.n c.args.n (omega arith) (λ u l. c.loop-t.invariant u (omega arith)) (λ l. absurd (omega arith)))
