use Rattle.std.proofs.Common.{◌≡◌, ◌∙◌, ◌<◌, ap, Contains, arith}
use Rattle.plural_counters.specs.declared.duty.Duty.TheVariants.{Flag}
use Rattle.plural_rule.specs.Opening.{Opening, task_count, ends_of}
use Rattle.plural_rule.specs.Layout.{flags_at}
use Rattle.plural_words.proofs.Tokens.{inside_of, key_of, view_of}
use Rattle.plural_words.proofs.SettlingSteps.{mark_allowed}
use Rattle.plural_words.proofs.words.Words.mark_as.Goals as goal

-- The end of the instance may be flagged.
pub fetch_or-requires : goal.fetch_or-requires
fetch_or-requires g c =
    let is = inside_of c.self.view_is c.seat.view_is c.requires.of in
    let at = key_of (λ (o : Opening). c.flags_index-index.result ≡ flags_at o.program c.args.t) c.self.view_is c.flags_index-index.ensures in
    let small = key_of (λ (o : Opening). c.args.t < task_count o.program) c.self.view_is c.requires.task in
    let owes = view_of (λ v. Contains v.owes (Flag g.N.Owed.task g.N.Owed.number)) c.seat.view_is c.requires.owes in
    let bits = key_of (λ (o : Opening). c.args.bits ≡ ends_of o g.N.Owed.task g.N.Owed.number) c.self.view_is c.requires.bits in
    let words = c.self.invariant.1 in
    (is.table, omega (arith, words, at, small), mark_allowed _ _ _ _ _ is.view.opening is.role g.N.Owed.task g.N.Owed.number _ _ (at ∙ ap (flags_at c.self.inside.table.shared.key.program) c.requires.name) owes bits)
