use Rattle.std.proofs.Common.{◌≡◌, length, ap, sym, ◌∙◌, arith}
use Rattle.std.specs.Prelude.{map}
use Rattle.std.specs.List.{range_with_len}
use Rattle.std.proofs.lemmas.List.FromFn.{length-map-range_with_len}
use Rattle.rand_pcg.specs.Pcg.{multiplier_64}
use Rattle.rand_pcg.proofs.LcgLemmas.{advance_zero}
use Rattle.plural_generator.specs.Draws.{generator_of, made_word, made_image}
use Rattle.plural_generator.specs.Places.{word_by, generator_after}
use Rattle.plural_generator.proofs.ImageWords.{generator_next, words_more}
use Rattle.plural_generator.proofs.draws.image.Goals as goal

-- Before any draw the words are zeros.
pub loop-i-init : goal.loop-i-init
loop-i-init c = (c.seed_from_u64-rng.ensures ∙ sym (advance_zero 64 multiplier_64 (generator_of c.args.seed)), c.new-words.ensures.items)

-- One more word is drawn.
pub loop-i-preserved : goal.loop-i-preserved
loop-i-preserved c =
    let g = generator_of c.args.seed in
    let i = c.loop-i.i in (
      c.next_word.ensures.rest ∙ ap (λ h. generator_after h i) c.loop-i.invariant.0 ∙ generator_next g i,
      words_more g i _ _ _ c.loop-i.invariant.1 (c.next_word.ensures.word ∙ ap (λ h. word_by h i) c.loop-i.invariant.0) c.in_ok-push.ensures.items,
    )

-- The words are those that the seed draws.
pub returns-clause-words : goal.returns-clause-words
unfolding made_image
returns-clause-words c =
    let e : c.loop-i.i ≡ 32816 = omega (arith, c.loop-i-test.false, c.loop-i.auto.i-end) in
    c.loop-i.invariant.1 ∙ ap (λ n. map (made_word (generator_of c.args.seed)) (range_with_len 0 n)) e

-- They are as many as the map says.
pub returns-clause-len : goal.returns-clause-len
returns-clause-len c =
    let e : c.loop-i.i ≡ 32816 = omega (arith, c.loop-i-test.false, c.loop-i.auto.i-end) in
    ap length c.loop-i.invariant.1 ∙ length-map-range_with_len (made_word (generator_of c.args.seed)) 0 c.loop-i.i ∙ e
