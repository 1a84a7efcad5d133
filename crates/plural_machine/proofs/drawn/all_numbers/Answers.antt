use Rattle.std.proofs.Common.{◌≡◌, ◌<◌, List, ℕ, length, [], ◌∷◌, ◌++◌, ap, sym, ◌∙◌, arith}
use Rattle.std.proofs.lemmas.List.FromFn.{length-range_with_len}
use Rattle.plural_machine.proofs.Staying.{numbers_more}
use Rattle.plural_machine.proofs.drawn.all_numbers.Goals as goal

-- There is room for one more.
pub push-requires : goal.push-requires
push-requires c =
    let long : length c.loop-i.numbers.items ≡ c.loop-i.i = ap length c.loop-i.invariant ∙ length-range_with_len 0 c.loop-i.i in
    let low : length c.loop-i.numbers.items < 64 = omega arith in
    (omega arith, low)

-- One more number follows.
pub loop-i-preserved : goal.loop-i-preserved
loop-i-preserved c = c.push.ensures.items ∙ (ap (λ (l : List ℕ). l ++ c.loop-i.i ∷ []) c.loop-i.invariant ∙ sym (numbers_more c.loop-i.i))
