use Rattle.std.specs.BTreeMap.{get_by}
use Rattle.std.specs.Cmp.Lexicographic.{slice_cmp}
use Rattle.std.specs.Ordering.{nat_cmp}
use Rattle.std.proofs.Common.{◌≡◌, ◌≤◌, ◌+◌, ℕ, List, length, take, ap, sym, ◌∙◌, arith}
use Rattle.plural_bytes.specs.Spelled.{text_lines}
use Rattle.plural_asm.specs.Labels.{words_in, is_option, noted, place_of}
use Rattle.plural_asm.specs.declared.object.AsmKind.TheVariants as kinds
use Rattle.plural_asm.proofs.AssemblyLoop.{verdict_first, reads_more, counted}
use Rattle.plural_asm.proofs.LineSums.{code_length}
use Rattle.plural_asm.proofs.assembler.assemble.Goals as goal

-- The first line with a verdict has the first fault.
pub returns-in-Some : goal.returns-in-Some
returns-in-Some c =
    verdict_first c.args.lines.now c.loop-line.line-index _ _ _ _ _ _ _ _ _ c.in-Some.kind
    (record { inside = c.loop-line-test.true; places = λ q. ap (λ ls. place_of ls q) c.in_ok-all.ensures; line_is = c.line_of-kernel.ensures; offset_is = c.target_offset-offset.ensures }) c.loop-line.invariant.reads (omega (arith, c.loop-line.labels.ok)) c.in-Some.ensures

-- One more line without a fault adds its words and its label.
pub loop-line-preserved : goal.loop-line-preserved
loop-line-preserved c = record {
  reads =
      let here : c.from.result ≡ c.loop-line.here = omega arith in
      let known = λ (q : List ℕ). c.in_ok-note_label-in-None.ensures q ∙ ap (λ n. noted (get_by (λ k. slice_cmp nat_cmp q k) c.loop-line.earlier) (is_option c.line_of-kernel.result.label q) n) here in
      reads_more c.args.lines.now c.loop-line.line-index _ _ _ _ _ _ _ _ _ _ _ _ _
      (record { inside = c.loop-line-test.true; places = λ q. ap (λ ls. place_of ls q) c.in_ok-all.ensures; line_is = c.line_of-kernel.ensures; offset_is = c.target_offset-offset.ensures }) c.loop-line.invariant.reads (omega (arith, c.loop-line.labels.ok)) c.in-None.ensures
      known c.in_ok-put_words.ensures c.in_ok-put_label.ensures c.words_in-here.ensures.value;
  small =
      let fits : c.loop-line.here + words_in c.line_of-kernel.result.statement ≤ 16384 = counted _ _ (c.in-None.ensures kinds.Count) in
      omega (arith, fits, c.words_in-here.ensures.value);
}

-- Lines without a fault make at most 16,384 words.
pub coded-requires : goal.coded-requires
coded-requires c =
    let e : length c.loop-line.words.items ≡ c.loop-line.here = ap length c.loop-line.invariant.reads.read.spelled ∙ code_length (text_lines c.args.lines.now) (text_lines (take c.loop-line.line-index c.args.lines.now)) ∙ sym c.loop-line.invariant.reads.place in
    omega (arith, e, c.loop-line.invariant.small)
