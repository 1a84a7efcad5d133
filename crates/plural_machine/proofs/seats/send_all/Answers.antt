use Rattle.std.proofs.Common.{ap, ◌∙◌, refl, arith}
use Rattle.plural_order.specs.Sums.{times}
use Rattle.plural_rule.specs.Stages.{outs_of}
use Rattle.plural_rule.specs.declared.view.Role.{Role}
use Rattle.plural_words.specs.Seen.{RootSeen, root_with}
use Rattle.plural_machine.specs.Knowing.{with_role}
use Rattle.plural_machine.proofs.Outs.{none_from}
use Rattle.plural_machine.proofs.seats.send_all.Goals as goal

-- Before the first core no seat is out.
pub loop-i-init : goal.loop-i-init
loop-i-init c = (
  c.requires.of,
  ap (λ (r : Role). root_with c.args.root.now (with_role c.args.root.now.view r)) c.requires.alone,
  refl,
  (λ k d h. absurd (omega arith)),
  (λ k d l h. c.requires.idle.at k d h),
)

-- No seat with this core number is out.
pub split-seat-requires-clause-away : goal.split-seat-requires-clause-away
split-seat-requires-clause-away c = ap (λ (r : RootSeen). times c.loop-i.i (outs_of r.view.role)) c.loop-i.invariant.1 ∙ none_from c.loop-i.i c.loop-i.i (omega arith)
