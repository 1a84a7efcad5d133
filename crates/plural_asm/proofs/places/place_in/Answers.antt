use Rattle.std.proofs.Common.{◌≡◌, ◌+◌, ap, sym, ◌∙◌, arith}
use Rattle.plural_asm.specs.Labels.{is_option, words_in}
use Rattle.plural_statement.specs.declared.statement.KernelLine.{KernelLine}
use Rattle.plural_asm.proofs.LabelPlaces.{known_more, place_more}
use Rattle.plural_asm.proofs.places.place_in.Goals as goal

-- One more line adds its words, and its label if it is the one.
pub loop-line-preserved : goal.loop-line-preserved
loop-line-preserved c = record {
  known =
      c.noted-found.ensures
      ∙ known_more c.args.lines.now c.loop-line.line-index _ c.args.name.now c.loop-line.found c.is_option.result c.loop-line.place c.loop-line-test.true c.loop-line.invariant.known c.loop-line.invariant.place
      (ap (λ (k : KernelLine). is_option k.label c.args.name.now) (sym c.line_of-kernel.ensures) ∙ sym c.is_option.ensures);
  place =
      let e : c.from-place.result ≡ words_in c.line_of-kernel.result.statement = omega arith in
      ap (λ n. c.loop-line.place + n) (e ∙ ap (λ (k : KernelLine). words_in k.statement) c.line_of-kernel.ensures)
      ∙ place_more c.args.lines.now c.loop-line.line-index _ c.loop-line.place c.loop-line-test.true c.loop-line.invariant.place;
  small = omega (arith, c.loop-line.invariant.small);
}
