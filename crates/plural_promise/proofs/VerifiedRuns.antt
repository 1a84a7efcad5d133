-- A bundle and the output of a run of it in one text, as `verify` judges it.
use Rattle.std.proofs.Common.{◌≡◌, ℕ, ◌+◌, ◌≤◌, false, List, [], ◌∷◌, ◌++◌, length, refl, ap, sym, subst, ◌∙◌, arith, append_assoc, inl}
use Rattle.std.specs.Prelude.{Ok, Err, codes}
use Rattle.std.proofs.lemmas.List.{length-append, length-map}
use Rattle.plural_base.proofs.ListTests.{HasNone, all_append, after_at}
use Rattle.plural_bytes.specs.Lines.{TextLine, pieces, content_lines}
use Rattle.plural_sections.specs.declared.fault.Fault.TheVariants as fault
use Rattle.plural_sections.proofs.Headers.{apart, lines_lack}
use Rattle.plural_serial.specs.Answer.{record_of}
use Rattle.plural_serial.specs.Serial.{serial_of}
use Rattle.plural_trace.specs.Logs.{LogValue}
use Rattle.plural_trace.specs.SerialLog.{serial_log}
use Rattle.plural_trace.specs.declared.verdict.Verdict.TheVariants as verdict
use Rattle.plural_bundle.specs.FirstLine.{first_line}
use Rattle.plural_bundle.specs.Value.{BundleValue, bundle_of}
use Rattle.plural_bundle.specs.Answer.{IsBundle}
use Rattle.plural_bundle.specs.Laws.{Parts, lines_of, AreGood}
use Rattle.plural_bundle.proofs.BundleParts.{parts_make_a_bundle}
use Rattle.plural_crew.specs.Clashes.{IsAccepted}
use Rattle.plural_output.specs.Parts.{is_end, bundle_part, output_part}
use Rattle.plural_output.specs.Value.{OutputValue, output_of}
use Rattle.plural_output.specs.Answer.{IsOutput}
use Rattle.plural_cli.specs.Lines.{line_after}
use Rattle.plural_cli.specs.Verify.{legal_text, IsJudged, IsVerdictOn, IsJointAnswer}
use Rattle.plural_cli.specs.declared.command.Request.TheVariants as request
use Rattle.plural_cli.specs.Output.{IsAnswer}
use Rattle.plural_cli.proofs.JointLines.{part_at, bundle_splits}
use Rattle.plural_made.proofs.LineNumbers.{lines_from}
use Rattle.plural_made.proofs.TextLines.{EndsLine, ends_with, lines_both}
use Rattle.plural_promise.specs.Outputs.{bundle_in}
use Rattle.plural_promise.specs.Verified.{IsTheAnswer, runs_of, IsLegalAfter, RunIsLegal, SerialIsLegal}
use Rattle.plural_promise.proofs.OneAnswer.{one_verified}
use Rattle.plural_promise.proofs.OutputLines.{output_read}
use Rattle.plural_promise.proofs.RunOutputs.{bundle_fits, IsWritten, serial_written, run_written}
use Rattle.plural_promise.proofs.SameRecords.{entry_count}
use Rattle.plural_promise.proofs.TextLengths.{output_length}
use Rattle.plural_promise.proofs.LineEnds.{same_lines}

-- ---- the lines of a bundle, and others after them

-- The lines of parts up to the last.
abbrev before_end : Parts → List TextLine
before_end p =
    p.first ∷ (p.at_map, codes "[map]") ∷ (p.map_part ++ (p.at_kernels, codes "[kernels]") ∷ (p.kernel_part ++ (p.at_image, codes "[image]") ∷ p.image_part))

last_line : (p : Parts) → lines_of p ≡ before_end p ++ (p.at_end, codes "[end]") ∷ []
last_line p = simp append_assoc refl

-- No line before the last is an end.
no_end : (p : Parts) → AreGood p → HasNone is_end (before_end p)
no_end p g =
    let first = apart first_line p.first.1 (codes "[end]") (λ e. let f : Ok p.version ≡ Err fault.Form = sym g.first ∙ e in cc) in
    let maps = lines_lack (codes "[end]") p.map_part refl g.map_stays in
    let kernels = lines_lack (codes "[end]") p.kernel_part refl g.kernels_stay in
    let image = lines_lack (codes "[end]") p.image_part refl g.image_stays in
    let P : TextLine → Type 0 = λ l. is_end l ≡ false in
    (first, (refl, all_append P p.map_part _ maps (refl, all_append P p.kernel_part _ kernels (refl, image))))

-- The first end cuts the lines there.
record IsCut (lines out : List TextLine) : Type 0 where
  bundle : bundle_part (lines ++ out) ≡ lines
  output : output_part (lines ++ out) ≡ out

cut : (p : Parts) (out : List TextLine) → AreGood p → IsCut (lines_of p) out
cut p out g =
    let e : TextLine = (p.at_end, codes "[end]") in
    let whole : lines_of p ++ out ≡ before_end p ++ e ∷ out = ap (λ x. x ++ out) (last_line p) ∙ append_assoc (before_end p) (e ∷ []) out in
    record {
      bundle = ap bundle_part whole ∙ part_at (before_end p) e out (no_end p g) refl ∙ sym (last_line p);
      output = ap output_part whole ∙ after_at is_end (before_end p) e out (no_end p g) refl;
    }

-- The lines of parts without a fault, and after them an output of a run of the bundle that they spell: the answer to it
-- is that to all of them.
answered : (p : Parts) (out : List TextLine) (end status : ℕ) (text : List ℕ) → AreGood p
    → (let m = (bundle_of (lines_of p)).program.map in IsOutput m.tasks m.words out end × IsVerdictOn (bundle_of (lines_of p)) (output_of m.tasks m.words out) status text)
    → IsJointAnswer (lines_of p ++ out) end status text
answered p out end status text g h =
    let lines = lines_of p in
    let all : List TextLine = lines ++ out in
    let c = cut p out g in
    let splits = bundle_splits all end (subst (λ ls. IsBundle all ls end) (sym c.bundle) (parts_make_a_bundle p out end g).0) in
    let same : bundle_of lines ≡ bundle_of all = ap bundle_of (sym c.bundle) ∙ splits.value in
    let Holds : BundleValue → List TextLine → Type 0 = λ b ls.
    IsOutput b.program.map.tasks b.program.map.words ls end × IsVerdictOn b (output_of b.program.map.tasks b.program.map.words ls) status text in
    let there : Holds (bundle_of all) (output_part all) = subst (λ (b : BundleValue). Holds b (output_part all)) same (subst (Holds (bundle_of lines)) (sym c.output) h) in
    inl (splits.to_output end there.0, there.1)

-- ---- the verdict

module _ (bytes text : List ℕ) (log : LogValue) (last : List ℕ) (start : List ℕ) (ends : EndsLine start) (same : content_lines start ≡ content_lines bytes) (long : length start ≤ length bytes + 1) (accepted : IsAccepted (bundle_in bytes).program.map.tasks) (w : IsWritten bytes text log last) where
  legal_line : List ℕ
  legal_line = legal_text (runs_of (bundle_in bytes))

  verdict_on : IsVerdictOn (bundle_in bytes) (record { log = log; image = last }) 0 legal_line
  unfolding legal_line
  verdict_on =
      let b = bundle_in bytes in
      let f = bundle_fits bytes w.bundle in
      let many : runs_of b ≡ length log.entries =
      sym (entry_count b.program b.image f.map log last w.legal ∙ length-map (serial_of b.program b.image).ran (record_of b.program)) in
      let judged : IsJudged b (record { log = log; image = last }) 0 (legal_text (runs_of b)) = record {
        verdict = verdict.Yes;
        exact = w.legal;
        status_is = refl;
        text_is = ap legal_text many;
      } in
      inl (accepted, judged)

  short : length (start ++ text) ≤ 67108864
  short =
      let f = bundle_fits bytes w.bundle in
      let low = output_length (bundle_in bytes).program.map log last f.map f.named w.logged w.memory in
      omega (arith, w.bundle.short, low, ap length w.text_is, length-append start text, long)

  joined : IsJointAnswer (content_lines (start ++ text)) (line_after (start ++ text)) 0 legal_line
  joined =
      let b = bundle_in bytes in
      let n = 1 + length (pieces start) in
      let end = line_after (start ++ text) in
      let out = lines_from n text in
      let f = bundle_fits bytes w.bundle in
      let p = f.parts.parts in
      let o = output_read b.program.map log last n end f.map f.named w.logged w.memory in
      let lines : content_lines (start ++ text) ≡ lines_of p ++ out = lines_both 1 start text ends ∙ ap (λ x. x ++ out) (same ∙ f.parts.whole) in
      let Holds : BundleValue → List TextLine → OutputValue → Type 0 = λ v ls x.
      IsOutput v.program.map.tasks v.program.map.words ls end × IsVerdictOn v x 0 legal_line in
      let output : IsOutput b.program.map.tasks b.program.map.words out end = subst (λ t. IsOutput b.program.map.tasks b.program.map.words (lines_from n t) end) (sym w.text_is) o.0 in
      let spelled : output_of b.program.map.tasks b.program.map.words out ≡ record { log = log; image = last } =
      ap (λ t. output_of b.program.map.tasks b.program.map.words (lines_from n t)) w.text_is ∙ o.1 in
      let here : Holds b out (output_of b.program.map.tasks b.program.map.words out) = (output, subst (λ (x : OutputValue). IsVerdictOn b x 0 legal_line) (sym spelled) verdict_on) in
      let there = subst (λ (v : BundleValue). Holds v out (output_of v.program.map.tasks v.program.map.words out)) (ap bundle_of f.parts.whole) here in
      subst (λ ls. IsJointAnswer ls end 0 legal_line) (sym lines) (answered p out end 0 legal_line f.parts.good there)

  -- The answer is that the log is legal.
  pub verified : IsTheAnswer request.Verify (start ++ text) 0 (legal_text (runs_of (bundle_in bytes)))
  unfolding legal_line
  verified =
      let is : IsAnswer request.Verify (start ++ text) 0 (legal_text (runs_of (bundle_in bytes))) = record { too_long = λ l. absurd (omega (arith, l, short)); answered = λ _. joined } in
      record { is = is; only = λ other words a. one_verified (start ++ text) other words 0 (legal_text (runs_of (bundle_in bytes))) a is }

-- ---- bundles with a line end, and without

-- A bundle that ends with a line end, and any bundle and a line end, each with the output of a run after it.
legal_after : (bytes text : List ℕ) (log : LogValue) (last : List ℕ) → IsAccepted (bundle_in bytes).program.map.tasks → IsWritten bytes text log last → IsLegalAfter bytes text (runs_of (bundle_in bytes))
legal_after bytes text log last accepted w = record {
  together = λ line. verified bytes text log last bytes (subst EndsLine (sym line.1) (ends_with line.0)) refl (omega arith) accepted w;
  apart = verified bytes text log last (bytes ++ 10 ∷ []) (ends_with bytes) (same_lines bytes) (omega (arith, length-append bytes (10 ∷ []))) accepted w;
}

-- `verify` of a bundle and what `run` wrote of it.
pub run_is_legal : RunIsLegal
run_is_legal bytes status text a l =
    let h = run_written a.cores a.order bytes status text a.answer l in
    legal_after bytes text h.log h.last h.accepted h.written

-- And of what `serial` wrote of a map without a clash.
pub serial_output_is_legal : SerialIsLegal
serial_output_is_legal bytes status text a l accepted =
    let h = serial_written bytes status text a l in
    legal_after bytes text (serial_log h.run) h.run.image accepted h.written
