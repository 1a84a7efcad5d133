use Rattle.std.proofs.Common.{◌≡◌, ◌<◌, ◌^◌, inl, inr, get_or, subst, arith, rules}
use Rattle.std.proofs.lemmas.Bool.{cases_lt}
use Rattle.std.proofs.lemmas.List.Elements.{All-from_get_or}
use Rattle.plural_serial.proofs.reading.read_each.Goals as goal

-- A turn of `loop-i` keeps its invariant.
pub loop-i-preserved : goal.loop-i-preserved
loop-i-preserved c =
    let here : get_or c.args.words.now c.loop-i.i 0 < 2 ^ 32 = search rules in
    λ j h. elim (cases_lt j c.loop-i.i) [
      | inl lt ↦ c.loop-i.invariant j lt
      | inr le ↦ let e : c.loop-i.i ≡ j = omega arith in subst (λ k. get_or c.args.words.now k 0 < 2 ^ 32) e here
    ]

-- The answer meets the contract.
pub returns : goal.returns
returns c = All-from_get_or (λ w. w < 2 ^ 32) c.args.words.now 0 (λ i h. c.loop-i.invariant i (omega arith))
