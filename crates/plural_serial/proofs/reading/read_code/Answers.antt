use Rattle.std.proofs.Common.{◌≡◌, ◌<◌, ◌^◌, inl, inr, get_or, subst, arith, rules}
use Rattle.std.proofs.lemmas.Bool.{cases_lt}
use Rattle.std.proofs.lemmas.List.Elements.{All-from_get_or}
use Rattle.plural_serial.proofs.reading.read_code.Goals as goal

-- A turn of `loop-i` keeps its invariant.
pub loop-i-preserved : goal.loop-i-preserved
loop-i-preserved c =
    let here : get_or c.args.code.now c.loop-i.i 0 < 2 ^ 32 = subst (λ v. v < 2 ^ 32) c.word.ensures (let h : c.word.result < 2 ^ 32 = search rules in h) in
    λ j h. elim (cases_lt j c.loop-i.i) [
      | inl lt ↦ c.loop-i.invariant j lt
      | inr le ↦ let e : c.loop-i.i ≡ j = omega arith in subst (λ k. get_or c.args.code.now k 0 < 2 ^ 32) e here
    ]

-- The answer meets the contract.
pub returns : goal.returns
returns c = All-from_get_or (λ w. w < 2 ^ 32) c.args.code.now 0 (λ i h. c.loop-i.invariant i (omega arith))
