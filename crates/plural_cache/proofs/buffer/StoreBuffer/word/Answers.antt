use Rattle.std.proofs.Common.{◌≡◌, List, ℕ, ◌%◌, ◌∙◌, take, get_or, sym, ap, subst, arith}
use Rattle.plural_base.specs.Stores.{sets}
use Rattle.plural_cache.specs.Buffer.{of_class}
use Rattle.plural_cache.proofs.Classes.{none_of_class}
use Rattle.plural_cache.proofs.buffer.StoreBuffer.word.Goals as goal

-- No store is of the word's class.
pub returns-then-self-class_of-eq0 : goal.returns-then-self-class_of-eq0
returns-then-self-class_of-eq0 c = λ m h e.
    let b = c.self.inside in
    let none : of_class (c.args.a % 64) (take b.used b.pairs) ≡ 0 =
    subst (λ k. of_class k (take b.used b.pairs) ≡ 0) c.class_of.ensures
    (sym (c.self.invariant.2.each c.class_of.result (omega (arith, c.class_of.ensures))) ∙ c.if-self-class_of-eq0.true) in
    sym e ∙ sym (none_of_class m (take b.used b.pairs) c.args.a none) ∙ ap (λ (ps : List (ℕ × ℕ)). get_or (sets m ps) c.args.a 0) c.self.view_is
