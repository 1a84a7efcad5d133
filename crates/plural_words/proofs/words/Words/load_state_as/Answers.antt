use Rattle.std.proofs.Common.{◌≡◌, ◌∙◌, ◌<◌, ap, Contains, arith}
use Rattle.plural_counters.specs.declared.duty.Duty.TheVariants.{Decide}
use Rattle.plural_rule.specs.Opening.{Opening, task_count}
use Rattle.plural_rule.specs.Layout.{state_at}
use Rattle.plural_words.proofs.Tokens.{inside_of, key_of, view_of}
use Rattle.plural_words.proofs.SettlingSteps.{state_allowed}
use Rattle.plural_words.proofs.words.Words.load_state_as.Goals as goal

-- The state of the task may be loaded.
pub load-requires : goal.load-requires
load-requires g c =
    let is = inside_of c.self.view_is c.seat.view_is c.requires.of in
    let at = key_of (λ (o : Opening). c.state_index-index.result ≡ state_at o.program c.args.t) c.self.view_is c.state_index-index.ensures in
    let small = key_of (λ (o : Opening). c.args.t < task_count o.program) c.self.view_is c.requires.task in
    let owes = view_of (λ v. Contains v.owes (Decide g.N.Owed.task)) c.seat.view_is c.requires.owes in
    let words = c.self.invariant.1 in
    (is.table, omega (arith, words, at, small), state_allowed _ _ _ _ _ is.view.opening is.role g.N.Owed.task _ (at ∙ ap (state_at c.self.inside.table.shared.key.program) c.requires.name) owes)
