use Rattle.std.proofs.Common.{◌<◌, arith}
use Rattle.plural_rule.specs.Opening.{Opening}
use Rattle.plural_words.proofs.Tokens.{inside_of, key_of}
use Rattle.plural_words.proofs.InstanceSteps.{read_allowed}
use Rattle.plural_words.proofs.words.Words.load_mem.Goals as goal

-- A word of the memory may be loaded.
pub load-requires : goal.load-requires
load-requires c =
    let is = inside_of c.self.view_is c.seat.view_is c.requires.of in
    let small = key_of (λ (o : Opening). c.args.a < o.program.map.words) c.self.view_is c.requires.word in
    let words = c.self.invariant.1 in
    (is.table, omega (arith, words, small), read_allowed _ _ _ _ _ _ is.view.opening is.role small)
