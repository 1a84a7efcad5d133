use Rattle.std.proofs.Common.{ℕ, List, not, ◌&&◌, ◌-◌, length, ap, ◌∙◌, arith, sym}
use Rattle.std.specs.Prelude.{◌==◌}
use Rattle.std.specs.List.{position_or_len, range_with_len}
use Rattle.std.proofs.lemmas.List.FromFn.{map-range_with_len_more}
use Rattle.std.proofs.lemmas.List.Quantifiers.{position-Some}
use Rattle.plural_map.specs.Order.{is_among}
use Rattle.plural_map.specs.Value.{task_of}
use Rattle.plural_map.specs.Cycle.{depends_on, walk}
use Rattle.plural_map.proofs.OrderCuts.{distinct_push}
use Rattle.plural_map.proofs.WalkLemmas.{walk_is}
use Rattle.plural_map.proofs.CycleLemmas.{no_place, walked_below, walk_next, walk_ends, part_is, cycle_found, named}
use Rattle.plural_map.proofs.ordering.cycle.Goals as goal

-- The walk begins with the least task that isn't reached.
pub loop-n-init : goal.loop-n-init
unfolding walk
loop-n-init c = record {
  walked = c.new-walk.ensures.items;
  next = c.first_left-t.ensures ∙ ap (λ (r : List ℕ). position_or_len (λ t. not (is_among t r)) (range_with_len 0 (length c.args.tasks.now))) c.requires.order;
  distinct = rw c.new-walk.ensures.items tt;
}

-- The numbers from the first place on are those of tasks.
pub names-requires : goal.names-requires
names-requires c =
    let p = rw c.deref.ensures.value at (sym c.place.ensures ∙ c.in-Some.is) in
    rw c.deref-in-Some.ensures.value
    (walked_below c.args.tasks.now c.in-Some.from (c.loop-n._n - c.in-Some.from) _ c.requires.left c.requires.within (part_is c.args.tasks.now c.loop-n.walk.items c.loop-n._n c.in-Some.from c.loop-n.invariant.walked (position-Some (λ u. u == c.loop-n.t) c.loop-n.walk.items c.in-Some.from 0 p).0))

-- They are the cycle.
pub returns-in-Some : goal.returns-in-Some
returns-in-Some c =
    let p = rw c.deref.ensures.value at (sym c.place.ensures ∙ c.in-Some.is) in
    named c.args.tasks.now _ c.names.result c.names.ensures
    (rw c.deref-in-Some.ensures.value (cycle_found c.args.tasks.now c.loop-n.walk.items c.loop-n.t c.loop-n._n c.in-Some.from c.requires.left c.requires.within c.loop-n.invariant.walked c.loop-n.invariant.next c.loop-n.invariant.distinct p))

-- The next number is that of a task.
pub next_left-t-requires-clause-task : goal.next_left-t-requires-clause-task
next_left-t-requires-clause-task c = rw c.loop-n.invariant.next (walk_is c.args.tasks.now c.loop-n._n c.requires.left c.requires.within).below

-- The walk goes on.
pub loop-n-preserved : goal.loop-n-preserved
loop-n-preserved c =
    let p = rw c.deref.ensures.value at (sym c.place.ensures ∙ c.in-None.is) in
    record {
      walked = rw (c.in_ok-push-in-None.ensures.items, c.loop-n.invariant.next, c.loop-n.invariant.walked) (sym (map-range_with_len_more (walk c.args.tasks.now) 0 c.loop-n._n c.loop-n._n (omega arith)));
      next = c.next_left-t.ensures
          ∙ (λ i. position_or_len (λ u. not (is_among u (c.requires.order i)) && depends_on (task_of c.args.tasks.now (c.loop-n.invariant.next i)) u) (range_with_len 0 (length c.args.tasks.now)))
          ∙ sym (walk_next c.args.tasks.now c.loop-n._n);
      distinct = rw c.in_ok-push-in-None.ensures.items (distinct_push c.loop-n.walk.items c.loop-n.t c.loop-n.invariant.distinct (no_place c.loop-n.t c.loop-n.walk.items p));
    }

-- The walk doesn't get here.
pub names-requires-2 : goal.names-requires-2
names-requires-2 c = absurd (walk_ends c.args.tasks.now c.loop-n._n c.loop-n.walk.items c.requires.left c.requires.within c.loop-n.invariant.walked c.loop-n.invariant.distinct (omega arith))

-- Nor does it end without an answer.
pub returns : goal.returns
returns c = absurd (walk_ends c.args.tasks.now c.loop-n._n c.loop-n.walk.items c.requires.left c.requires.within c.loop-n.invariant.walked c.loop-n.invariant.distinct (omega arith))
