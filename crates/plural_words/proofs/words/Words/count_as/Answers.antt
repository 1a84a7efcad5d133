use Rattle.std.proofs.Common.{◌≡◌, ◌∙◌, ◌<◌, ap, Contains, arith}
use Rattle.plural_counters.specs.declared.duty.Duty.TheVariants.{Count}
use Rattle.plural_rule.specs.Opening.{Opening, task_count}
use Rattle.plural_rule.specs.Layout.{left_at}
use Rattle.plural_words.proofs.Tokens.{inside_of, key_of, view_of}
use Rattle.plural_words.proofs.SettlingSteps.{count_allowed}
use Rattle.plural_words.proofs.words.Words.count_as.Goals as goal

-- The instance may be counted.
pub fetch_sub-found-requires : goal.fetch_sub-found-requires
fetch_sub-found-requires g c =
    let is = inside_of c.self.view_is c.seat.view_is c.requires.of in
    let at = key_of (λ (o : Opening). c.left_index-index.result ≡ left_at o.program c.args.t) c.self.view_is c.left_index-index.ensures in
    let small = key_of (λ (o : Opening). c.args.t < task_count o.program) c.self.view_is c.requires.task in
    let owes = view_of (λ v. Contains v.owes (Count g.N.Owed.task g.N.Owed.number)) c.seat.view_is c.requires.owes in
    let words = c.self.invariant.1 in
    (is.table, omega (arith, words, at, small), count_allowed _ _ _ _ _ is.view.opening is.role g.N.Owed.task g.N.Owed.number _ (at ∙ ap (left_at c.self.inside.table.shared.key.program) c.requires.name) owes)
