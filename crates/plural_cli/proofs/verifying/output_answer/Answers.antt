use Rattle.std.proofs.Common.{◌≡◌, ap, ◌∙◌, subst, inl, inr}
use Rattle.std.proofs.lemmas.Result.{IfOk-weaker}
use Rattle.plural_bytes.specs.Spelled.{text_lines}
use Rattle.plural_sections.specs.Faults.{IsFirstFault, closed}
use Rattle.plural_sections.specs.Kinds.{rank}
use Rattle.plural_map.specs.Value.{MapValue}
use Rattle.plural_bundle.specs.Value.{BundleValue}
use Rattle.plural_output.specs.Rules.{Breaks}
use Rattle.plural_output.specs.Value.{OutputValue, output_of}
use Rattle.plural_output.specs.Answer.{IsOutput}
use Rattle.plural_cli.specs.Verify.{IsVerdictOn}
use Rattle.plural_cli.proofs.verifying.output_answer.Goals as goal

-- The output was read: it is judged, or the first clash is told.
pub returns-in-Ok-clause-answer : goal.returns-in-Ok-clause-answer
returns-in-Ok-clause-answer c =
    let own : c.map.result.now ≡ c.args.bundle.now.program.map = c.map.ensures ∙ ap (λ (b : BundleValue). b.program.map) c.bundle.view_is in
    let whole =
    subst (λ (m : MapValue). IsOutput m.tasks m.words (text_lines c.args.lines.now) c.args.end × (c.in-Ok.output ≡ output_of m.tasks m.words (text_lines c.args.lines.now))) own c.in-Ok.ensures.answer in
    IfOk-weaker _ _ _ (λ a p. inl (record { output = whole.0; answer = subst (λ (o : OutputValue). IsVerdictOn c.args.bundle.now o a.status a.text.items) whole.1 p })) c.checked_and_judged.ensures.answer

-- The output has a fault: the first is told.
pub returns-in-Err-At-clause-answer : goal.returns-in-Err-At-clause-answer
returns-in-Err-At-clause-answer c =
    let own : c.map.result.now ≡ c.args.bundle.now.program.map = c.map.ensures ∙ ap (λ (b : BundleValue). b.program.map) c.bundle.view_is in
    let first = subst (λ (m : MapValue). IsFirstFault rank (Breaks m.tasks m.words) (closed (text_lines c.args.lines.now) c.args.end) c.in-Err-At.line c.in-Err-At.kind) own (rw c.in-Err-At.field-0-is at c.in-Err-At.ensures.answer) in
    IfOk-weaker _ _ _ (λ a p. inr (record { line = c.in-Err-At.line; kind = c.in-Err-At.kind; first = first; status_is = p.0; text_is = p.1 })) c.bundle_fault.ensures
