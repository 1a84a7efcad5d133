use Rattle.std.proofs.Common.{◌≡◌, arith}
use Rattle.plural_rule.specs.Opening.{Opening}
use Rattle.plural_rule.specs.Layout.{clock_at}
use Rattle.plural_words.specs.Stages.{IsGot}
use Rattle.plural_words.proofs.Tokens.{inside_of, key_of, view_of}
use Rattle.plural_words.proofs.InstanceSteps.{begin_allowed}
use Rattle.plural_words.proofs.words.Words.begin.Goals as goal

-- A start ticket may be drawn.
pub fetch_add-requires : goal.fetch_add-requires
fetch_add-requires c =
    let is = inside_of c.self.view_is c.seat.view_is c.requires.of in
    let at = key_of (λ (o : Opening). c.clock_index-index.result ≡ clock_at o.program) c.self.view_is c.clock_index-index.ensures in
    let got = view_of (λ v. IsGot v.stage) c.seat.view_is c.requires.got in
    let words = c.self.invariant.1 in
    (is.table, omega (arith, words, at), begin_allowed _ _ _ _ _ _ is.view.opening is.role got at)
