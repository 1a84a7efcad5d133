use Rattle.std.proofs.Common.{inl, inr, ap, ◌∙◌, sym, subst, Option, arith}
use Rattle.std.proofs.lemmas.Result.{IfOk-weaker}
use Rattle.plural_bytes.specs.Lines.{content_lines}
use Rattle.plural_bundle.specs.Value.{BundleValue, bundle_of}
use Rattle.plural_finished.specs.Finishing.{FinishedValue}
use Rattle.plural_cli.specs.declared.answer.Answer.{Answer}
use Rattle.plural_cli.specs.declared.answer.Reply.{Reply}
use Rattle.plural_cli.specs.Lines.{line_after, IsFaulty}
use Rattle.plural_cli.specs.Reading.{IsWhole}
use Rattle.plural_cli.specs.Kept.{IsKeptOf}
use Rattle.plural_cli.specs.Run.{IsRunOf, IsRunAnswer}
use Rattle.plural_cli.proofs.Machines.{kept_refused}
use Rattle.plural_cli.proofs.on_cores.run_answer.Goals as goal

-- The bundle was read: its run or its first clash is told.
pub returns-in-Whole-clause-answer : goal.returns-in-Whole-clause-answer
returns-in-Whole-clause-answer g c =
    let lines = content_lines c.args.bytes.now in
    let whole : IsWhole lines lines (line_after c.args.bytes.now) c.in-Whole.bundle = rw c.in-Whole.is at c.in_ok-answer.ensures in
    IfOk-weaker c.checked_and_ran.result (λ (r : Reply). IsRunOf c.args.cores c.in-Whole.bundle r.answer.status r.answer.text.items) (λ (r : Reply). IsRunAnswer c.args.cores c.args.bytes.now r.answer.status r.answer.text.items)
    (λ (r : Reply) p. inl (whole.bundle, subst (λ (b : BundleValue). IsRunOf c.args.cores b r.answer.status r.answer.text.items) whole.value p)) c.checked_and_ran.ensures.answer

-- The machine that ran it is kept.
pub returns-in-Whole-clause-machine : goal.returns-in-Whole-clause-machine
returns-in-Whole-clause-machine g c =
    let lines = content_lines c.args.bytes.now in
    let whole : IsWhole lines lines (line_after c.args.bytes.now) c.in-Whole.bundle = rw c.in-Whole.is at c.in_ok-answer.ensures in
    IfOk-weaker c.checked_and_ran.result (λ (r : Reply). IsKeptOf c.args.cores c.in-Whole.bundle r.answer.status r.answer.text.items r.machine) (λ (r : Reply). IsKeptOf c.args.cores (bundle_of lines) r.answer.status r.answer.text.items r.machine)
    (λ (r : Reply) p. subst (λ (b : BundleValue). IsKeptOf c.args.cores b r.answer.status r.answer.text.items r.machine) whole.value p) c.checked_and_ran.ensures.machine

-- A fault is told.
pub returns-in-Faulty-clause-answer : goal.returns-in-Faulty-clause-answer
returns-in-Faulty-clause-answer g c =
    let lines = content_lines c.args.bytes.now in let end = line_after c.args.bytes.now in
    let faulty : IsFaulty lines lines end c.in-Faulty.answer.status c.in-Faulty.answer.text.items = rw c.in-Faulty.is at c.in_ok-answer.ensures in
    subst (λ (a : Answer). IsRunAnswer c.args.cores c.args.bytes.now a.status a.text.items) (sym c.alone.ensures.answer) (inr faulty)

-- Nothing is kept then.
pub returns-in-Faulty-clause-machine : goal.returns-in-Faulty-clause-machine
returns-in-Faulty-clause-machine g c =
    let lines = content_lines c.args.bytes.now in let end = line_after c.args.bytes.now in
    let faulty : IsFaulty lines lines end c.in-Faulty.answer.status c.in-Faulty.answer.text.items = rw c.in-Faulty.is at c.in_ok-answer.ensures in
    let status = ap (λ (a : Answer). a.status) c.alone.ensures.answer ∙ faulty.status_is in
    let a = c.alone.result.answer in
    subst (λ (kept : Option FinishedValue). IsKeptOf c.args.cores (bundle_of lines) a.status a.text.items kept) (sym c.alone.ensures.machine)
    (kept_refused c.args.cores (bundle_of lines) a.status a.text.items (omega (arith, status)))
