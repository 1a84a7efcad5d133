use Rattle.std.proofs.Common.{◌≤◌, ◌≡◌, length, ap, sym, subst, ◌∙◌, arith}
use Rattle.plural_map.specs.Value.{map_value}
use Rattle.plural_map.specs.Limits.{IsMap}
use Rattle.plural_map.specs.Order.{order_of}
use Rattle.plural_map_text.specs.Parts.{tasks_of}
use Rattle.plural_map_text.specs.Drafts.{draft_parts}
use Rattle.plural_map_text.proofs.NearMaps.{reaches_long, near_map}
use Rattle.plural_map_text.proofs.read.finish.Goals as goal

-- The tasks and their order make a map.
pub of-requires : goal.of-requires
of-requires c =
    let p = draft_parts c.args.draft in
    let tasks : c.in_ok-tasks.tasks.items ≡ tasks_of p = c.in_ok-tasks.ensures.ok in
    let reached = c.in_ok-reached.ensures ∙ ap order_of (c.deref.ensures.value ∙ tasks) in
    let long : length (tasks_of p) ≤ length (order_of (tasks_of p)) =
    omega (arith, c.if-numbers-len.false, c.len.ensures, ap length c.numbers.ensures, ap length reached, ap length tasks) in
    let m = near_map p c.requires.limits (reaches_long (tasks_of p) long) in
    subst IsMap (λ i. map_value p.words p.sets p.ways (sym tasks i) (sym (c.into_numbers.ensures ∙ reached) i)) m
