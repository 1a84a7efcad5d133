use Rattle.std.proofs.Common.{◌≡◌, arith}
use Rattle.plural_rule.specs.Opening.{Opening}
use Rattle.plural_rule.specs.Layout.{clock_at}
use Rattle.plural_words.specs.Stages.{HasRun}
use Rattle.plural_words.proofs.Tokens.{inside_of, key_of, view_of}
use Rattle.plural_words.proofs.InstanceSteps.{end_allowed}
use Rattle.plural_words.proofs.words.Words.end.Goals as goal

-- An end ticket may be drawn.
pub fetch_add-ticket-requires : goal.fetch_add-ticket-requires
fetch_add-ticket-requires c =
    let is = inside_of c.self.view_is c.seat.view_is c.requires.of in
    let at = key_of (λ (o : Opening). c.clock_index-index.result ≡ clock_at o.program) c.self.view_is c.clock_index-index.ensures in
    let run = view_of (λ v. HasRun c.self.inside.table.shared.key v.stage) c.seat.view_is (key_of (λ (o : Opening). HasRun o c.args.seat.now.view.stage) c.self.view_is c.requires.run) in
    let words = c.self.invariant.1 in
    (is.table, omega (arith, words, at), end_allowed _ _ _ _ _ _ is.view.opening is.role run at)
