use Rattle.std.proofs.Common.{◌≡◌, ◌∙◌, ◌<◌, ap, Contains, arith}
use Rattle.plural_counters.specs.declared.duty.Duty.TheVariants.{Arm}
use Rattle.plural_rule.specs.Opening.{Opening, task_count}
use Rattle.plural_rule.specs.Layout.{alloc_at}
use Rattle.plural_words.proofs.Tokens.{inside_of, key_of, view_of}
use Rattle.plural_words.proofs.SettlingSteps.{arm_allowed}
use Rattle.plural_words.proofs.words.Words.arm_as.Goals as goal

-- The task may be armed.
pub store-requires : goal.store-requires
store-requires g c =
    let is = inside_of c.self.view_is c.seat.view_is c.requires.of in
    let at = key_of (λ (o : Opening). c.alloc_index-index.result ≡ alloc_at o.program c.args.t) c.self.view_is c.alloc_index-index.ensures in
    let small = key_of (λ (o : Opening). c.args.t < task_count o.program) c.self.view_is c.requires.task in
    let owes = view_of (λ v. Contains v.owes (Arm g.N.Owed.task)) c.seat.view_is c.requires.owes in
    let words = c.self.invariant.1 in
    (is.table, omega (arith, words, at, small), arm_allowed _ _ _ _ _ is.view.opening is.role g.N.Owed.task _ (at ∙ ap (alloc_at c.self.inside.table.shared.key.program) c.requires.name) owes)
