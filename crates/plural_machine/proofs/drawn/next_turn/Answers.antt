use Rattle.std.proofs.Common.{ap, sym, refl, ◌∙◌, inl, inr, arith}
use Rattle.plural_machine.specs.Drawn.{staying_after}
use Rattle.plural_machine.proofs.Staying.{had_turn}
use Rattle.plural_machine.proofs.drawn.next_turn.Goals as goal

-- The core has left, and its number was taken out.
pub returns-in-Left-clause-turn : goal.returns-in-Left-clause-turn
returns-in-Left-clause-turn g c =
    had_turn c.args.words.now c.args.rng.now c.args.staying.now.items c.deref.result.now _ c.args.cores.now _ c.draw_place-place.result c.len.result c.turn-answer.result _ c.turn-answer.new.self c.deref.ensures.0 c.draw_place-place.ensures.place c.len.ensures.value
    (c.requires.rising.below c.draw_place-place.result (omega (arith, c.draw_place-place.ensures.within, c.len.ensures.value)))
    c.turn-answer.ensures refl
    (c.remove.ensures.items ∙ sym (ap (λ a. staying_after a c.draw_place-place.result c.args.staying.now.items) c.in-Left.is))

-- The core stays.
pub returns-in-Worked-clause-turn : goal.returns-in-Worked-clause-turn
returns-in-Worked-clause-turn g c =
    had_turn c.args.words.now c.args.rng.now c.args.staying.now.items c.deref.result.now _ c.args.cores.now _ c.draw_place-place.result c.len.result c.turn-answer.result _ c.turn-answer.new.self c.deref.ensures.0 c.draw_place-place.ensures.place c.len.ensures.value
    (c.requires.rising.below c.draw_place-place.result (omega (arith, c.draw_place-place.ensures.within, c.len.ensures.value)))
    c.turn-answer.ensures refl
    (elim c.in-Worked.is [
      | inl e ↦ sym (ap (λ a. staying_after a c.draw_place-place.result c.args.staying.now.items) e)
      | inr e ↦ sym (ap (λ a. staying_after a c.draw_place-place.result c.args.staying.now.items) e)
    ])
