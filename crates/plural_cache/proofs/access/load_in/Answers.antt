use Rattle.std.proofs.Common.{◌≡◌, ◌∙◌, ◌<◌, ◌/◌, sym, ap, length, List, subst, false}
use Rattle.plural_cache.specs.declared.set.Line.{Line}
use Rattle.plural_cache.specs.Miss.{is_in}
use Rattle.plural_cache.specs.Lines.{keys, front}
use Rattle.plural_cache.specs.Cache.{loaded}
use Rattle.plural_cache.proofs.Orders.{some_brought, brought_none}
use Rattle.plural_cache.proofs.access.load_in.Goals as goal

-- The call of `front_word` has what its clause `some` requires.
pub front_word-requires-clause-some : goal.front_word-requires-clause-some
front_word-requires-clause-some g c =
    subst (λ (ls : List Line). 0 < length ls) (sym c.seek.ensures.order)
    (some_brought (c.args.a / 8) c.args.set.now (sym c.seek.ensures.present ∙ c.if-seek.true))

-- The answer at `else-seek` meets the clause `order`.
pub returns-else-seek-clause-order : goal.returns-else-seek-clause-order
returns-else-seek-clause-order g c =
    let x = c.args.a / 8 in
    let old : List Line = c.args.set.now in
    let words = front c.load_absent.new.set in
    let none : is_in x (keys old) ≡ false = sym c.seek.ensures.present ∙ c.if-seek.false in
    c.load_absent.ensures.order ∙ ap (λ (ls : List Line). loaded false c.args.ways x words ls) (c.seek.ensures.order ∙ brought_none x old none)
    ∙ sym (ap (λ b. loaded b c.args.ways x words old) none)
