use Rattle.std.proofs.Common.{ap, ◌∙◌, subst, List, length}
use Rattle.plural_bundle.specs.Value.{BundleValue}
use Rattle.plural_output.specs.Value.{OutputValue}
use Rattle.plural_trace.specs.declared.entry.Entry.{Entry}
use Rattle.plural_cli.specs.Verify.{verdict_text, IsJudged}
use Rattle.plural_cli.proofs.verifying.judged.Goals as goal

-- The verdict is told.
pub returns-clause-answer : goal.returns-clause-answer
returns-clause-answer c =
    let verdict = c.in_ok-verdict.verdict in
    let bundle : BundleValue = record { program = c.bundle.inside.program; image = c.bundle.inside.image.items } in
    let output : OutputValue = record { log = c.output.inside.log; image = c.output.inside.image.items } in
    let judged : IsJudged bundle output c.verdict_status.result c.in_ok-verdict_line.field-0.items = record {
      verdict = verdict;
      exact = rw (c.deref.ensures.value, c.deref-2.ensures.value) at c.in_ok-verdict.ensures;
      status_is = c.verdict_status.ensures;
      text_is = c.in_ok-verdict_line.ensures ∙ ap (λ (es : List Entry). verdict_text (length es) verdict) c.entries.ensures;
    } in
    subst (λ (b : BundleValue). IsJudged b c.args.output.now c.verdict_status.result c.in_ok-verdict_line.field-0.items) c.bundle.view_is
    (subst (λ (o : OutputValue). IsJudged bundle o c.verdict_status.result c.in_ok-verdict_line.field-0.items) c.output.view_is judged)
