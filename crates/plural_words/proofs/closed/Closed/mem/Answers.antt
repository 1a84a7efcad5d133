use Rattle.std.proofs.Common.{◌<◌, ap, ◌∙◌, subst, sym, get_or, arith}
use Rattle.std.specs.Slots.{slots_items}
use Rattle.plural_words.specs.Closing.{ClosedSeen}
use Rattle.plural_words.proofs.Closes.{word_at, narrow_word}
use Rattle.plural_words.proofs.closed.Closed.mem.Goals as goal

-- A word of the memory has 32 bits.
pub overflow_cast-result : goal.overflow_cast-result
overflow_cast-result c =
    let small = subst (λ (x : ClosedSeen). c.args.a < x.opening.program.map.words) (sym c.self.view_is) c.requires.word in
    record { fits = omega (arith, word_at (slots_items c.self.inside.inner.words) c.args.a c.word.result c.word.ensures, narrow_word _ _ c.self.invariant.2 small) }

-- It is that word of the memory.
pub returns : goal.returns
returns c = word_at (slots_items c.self.inside.inner.words) c.args.a c.word.result c.word.ensures ∙ ap (λ (x : ClosedSeen). get_or x.words c.args.a 0) c.self.view_is
