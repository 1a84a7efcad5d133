use Rattle.std.proofs.Common.{◌<◌, ◌+◌, ◌∷◌, [], ◌++◌, ℕ, length, take, get_or, set, sym, ap, subst, arith}
use Rattle.std.proofs.Math.ListN.{length-set}
use Rattle.std.proofs.lemmas.List.{length-take-le}
use Rattle.plural_cache.specs.Buffer.{AreCounted}
use Rattle.plural_cache.proofs.Classes.{of_class_few, taken_more, counted_more}
use Rattle.plural_cache.proofs.buffer.StoreBuffer.push.Goals as goal

-- No class has as many pairs as a byte can count.
pub overflow_add-self-2 : goal.overflow_add-self-2
overflow_add-self-2 c =
    let b = c.self.inside in
    omega (arith, c.class_of.ensures, c.requires.room, ap length c.self.view_is, c.self.invariant.0, c.self.invariant.1, c.self.invariant.2.each c.class_of.result (omega (arith, c.class_of.ensures)), of_class_few c.class_of.result (take b.used b.pairs), length-take-le b.used b.pairs (omega (arith, c.self.invariant.0, c.self.invariant.1)))

-- The numbers by class count the new pair.
pub invariant_of-self : goal.invariant_of-self
invariant_of-self c =
    let b = c.self.inside in
    let s : ℕ × ℕ = (c.args.a, c.args.v) in
    let pairs = take b.used b.pairs in
    let room : b.used < length b.pairs = omega (arith, c.requires.room, ap length c.self.view_is, c.self.invariant.0, c.self.invariant.1, length-take-le b.used b.pairs (omega (arith, c.self.invariant.0, c.self.invariant.1))) in
    let counted : AreCounted (pairs ++ s ∷ []) (set b.of_class c.class_of.result (get_or b.of_class c.class_of.result 0 + 1)) =
    subst (λ k. AreCounted (pairs ++ s ∷ []) (set b.of_class k (get_or b.of_class k 0 + 1))) (sym c.class_of.ensures) (counted_more pairs b.of_class s c.self.invariant.2) in (
      omega (arith, room, c.self.invariant.1),
      omega (arith, length-set b.pairs b.used s, c.self.invariant.1),
      subst (λ ps. AreCounted ps (set b.of_class c.class_of.result (get_or b.of_class c.class_of.result 0 + 1))) (sym (taken_more b.pairs b.used s room)) counted,
    )
