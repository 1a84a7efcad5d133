use Rattle.std.proofs.Common.{not, ◌&&◌, length, sym, ap, ◌∙◌, arith}
use Rattle.plural_map.specs.Value.{task_of}
use Rattle.plural_map.specs.Order.{is_among}
use Rattle.plural_map.specs.Cycle.{depends_on}
use Rattle.plural_map.proofs.LeastNumbers.{least_is}
use Rattle.plural_map.proofs.ordering.next_left.Goals as goal

-- The number is the least that isn't reached and that the task depends on.
pub returns-then-depends_on : goal.returns-then-depends_on
returns-then-depends_on c =
    sym (least_is (λ u. not (is_among u c.args.reached.now) && depends_on (task_of c.args.tasks.now c.args.t) u) (length c.args.tasks.now) c.loop-u.u (omega arith) c.loop-u.invariant.before
    (λ l. rw (sym c.has.ensures ∙ c.if-not-has.true) (ap (λ t. depends_on t c.loop-u.u) (sym c.loop-u.invariant.task_is) ∙ sym c.depends_on.ensures ∙ c.if-depends_on.true)))

-- There is none.
pub returns : goal.returns
returns c =
    sym (least_is (λ u. not (is_among u c.args.reached.now) && depends_on (task_of c.args.tasks.now c.args.t) u) (length c.args.tasks.now) (length c.args.tasks.now) (omega arith)
    (λ u l. c.loop-u.invariant.before u (omega arith)) (λ l. absurd (omega arith)))
