use Rattle.std.proofs.Common.{◌≡◌, ◌+◌, ap, sym, ◌∙◌, arith}
use Rattle.std.specs.Prelude.{is_some}
use Rattle.std.specs.BTreeMap.{get_by}
use Rattle.std.specs.Cmp.Lexicographic.{slice_cmp}
use Rattle.std.specs.Ordering.{nat_cmp}
use Rattle.plural_asm.specs.Labels.{is_option, words_in}
use Rattle.plural_statement.specs.declared.statement.KernelLine.{KernelLine}
use Rattle.plural_asm.proofs.LabelPlaces.{known_more, place_more, told_is, told_same}
use Rattle.plural_asm.proofs.places.told_places.Goals as goal

-- One more line adds its words, and its label if that is told and new.
pub loop-line-preserved : goal.loop-line-preserved
loop-line-preserved c = record {
  known =
      λ q. let t = is_some (get_by (λ k. slice_cmp nat_cmp q k) c.args.told.now) in
      c.in_ok-note_told.ensures q
      ∙ told_same t _ _ (λ e. known_more c.args.lines.now c.loop-line.line-index _ q _ (is_option c.line_of-kernel.result.label q) c.loop-line.place c.loop-line-test.true (told_is t _ _ e (c.loop-line.invariant.known q)) c.loop-line.invariant.place (ap (λ (k : KernelLine). is_option k.label q) (sym c.line_of-kernel.ensures)));
  place =
      let e : c.from-place.result ≡ words_in c.line_of-kernel.result.statement = omega arith in
      ap (λ n. c.loop-line.place + n) (e ∙ ap (λ (k : KernelLine). words_in k.statement) c.line_of-kernel.ensures)
      ∙ place_more c.args.lines.now c.loop-line.line-index _ c.loop-line.place c.loop-line-test.true c.loop-line.invariant.place;
  small = omega (arith, c.loop-line.invariant.small);
}
