use Rattle.std.proofs.Common.{◌≡◌, ◌<◌, arith}
use Rattle.plural_order.specs.Sums.{times}
use Rattle.plural_rule.specs.Opening.{Opening}
use Rattle.plural_rule.specs.Stages.{outs_of}
use Rattle.plural_words.proofs.Tokens.{key_of}
use Rattle.plural_words.proofs.RootSteps.{root_inside, root_view_of, split_allowed}
use Rattle.plural_words.proofs.words.Words.split_as.Goals as goal

-- A seat with this core number may be split off the root.
pub split_seat-token-requires : goal.split_seat-token-requires
split_seat-token-requires g c =
    let is = root_inside c.self.view_is c.root.view_is c.requires.of in
    let away = root_view_of (λ v. times g.N.Naming.core (outs_of v.role) ≡ 0) c.root.view_is c.requires.away in
    let low = key_of (λ (o : Opening). g.N.Naming.core < o.cores) c.self.view_is c.requires.low in
    let words = c.self.invariant.1 in
    (is.table, omega (arith, words), split_allowed _ _ _ _ g.N.Naming.core c.root.invariant.1 is.role away low)
