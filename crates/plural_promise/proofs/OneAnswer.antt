-- The answer of a request to an input has one status, and one text but of a run.
use Rattle.std.proofs.Common.{◌≡◌, ℕ, ◌<◌, ◌≤◌, Bool, true, false, ltb, List, length, refl, sym, ◌∙◌}
use Rattle.std.specs.Prelude.{⊤}
use Rattle.std.proofs.lemmas.Bool.{ltb-true, ltb-false}
use Rattle.plural_bytes.specs.Lines.{content_lines}
use Rattle.plural_sections.specs.Kinds.{rank}
use Rattle.plural_sections.specs.Faults.{closed}
use Rattle.plural_asm.specs.Rules as kernels
use Rattle.plural_bundle.specs.Value.{bundle_of}
use Rattle.plural_map.specs.Value.{TaskValue}
use Rattle.plural_bundle.specs.Value.{BundleValue}
use Rattle.plural_output.specs.Value.{OutputValue}
use Rattle.plural_crew.specs.Clashes.{IsAccepted}
use Rattle.plural_cli.specs.FaultLine.{kind_text, bundle_fault_text}
use Rattle.plural_cli.specs.Lines.{line_after}
use Rattle.plural_cli.specs.Asm.{IsAssembled}
use Rattle.plural_cli.specs.Dis.{dis_breaks, IsDisassembled}
use Rattle.plural_cli.specs.Check.{IsClean, IsMapAnswer}
use Rattle.plural_cli.specs.Run.{IsRan}
use Rattle.plural_cli.specs.Joint as joint
use Rattle.plural_cli.specs.Joint.{IsJoint, output_in}
use Rattle.plural_cli.specs.Verify.{IsJudged, IsVerdictOn}
use Rattle.plural_cli.specs.declared.command.Request.{Request}
use Rattle.plural_cli.specs.declared.command.Request.TheVariants as request
use Rattle.plural_cli.specs.Output.{limit_of, Answers, IsAnswer}
use Rattle.plural_promise.specs.Answers.{AnswerIsOne}
use Rattle.plural_promise.proofs.OneFault.{IsOne, one_or_refusal}
use Rattle.plural_promise.proofs.RuleKinds.{kernel_kinds, joint_kinds}
use Rattle.plural_promise.proofs.OneClash.{one_or_clashing}
use Rattle.plural_promise.proofs.OneRun.{one_ran, one_judged}
use Rattle.plural_promise.proofs.BundleAnswers.{one_accepted, one_to_bundle}
use Rattle.plural_promise.proofs.RunStatuses.{runs_status}

-- ---- what isn't refused

one_map_answer : (tasks : List TaskValue) → IsOne (IsMapAnswer tasks)
one_map_answer tasks = one_or_clashing tasks (IsClean tasks) (λ s t c. c.accepted) (λ s t s' t' c d. (c.status_is ∙ sym d.status_is, c.text_is ∙ sym d.text_is))

one_verdict_on : (b : BundleValue) (o : OutputValue) → IsOne (IsVerdictOn b o)
one_verdict_on b o =
    let tasks = b.program.map.tasks in
    one_or_clashing tasks (λ s t. IsAccepted tasks × IsJudged b o s t) (λ s t a. a.0) (one_accepted tasks (IsJudged b o) (one_judged b o))

-- ---- the answer to lines

-- The request isn't `run`.
abbrev IsFixed : Request → Type 0
IsFixed (request.Run cores order) = ⊥
IsFixed request.Serial = ⊤
IsFixed request.Check = ⊤
IsFixed request.Asm = ⊤
IsFixed request.Dis = ⊤
IsFixed request.Verify = ⊤

one_answered : (r : Request) (bytes : List ℕ) → IsFixed r → IsOne (Answers r bytes)
one_answered (request.Run cores order) bytes fixed = absurd fixed
one_answered request.Serial bytes fixed = one_to_bundle IsRan bytes one_ran
one_answered request.Check bytes fixed = one_to_bundle (λ b. IsMapAnswer b.program.map.tasks) bytes (λ b. one_map_answer b.program.map.tasks)
one_answered request.Asm bytes fixed =
    let lines = content_lines bytes in
    one_or_refusal kernels.rank kind_text (kernels.Breaks lines) lines (IsAssembled lines) (kernel_kinds (kernels.Breaks lines)) (λ s t a. a.faultless)
    (λ s t s' t' a b. (a.status_is ∙ sym b.status_is, a.text_is ∙ sym b.text_is))
one_answered request.Dis bytes fixed =
    let lines = content_lines bytes in
    one_or_refusal kernels.rank kind_text dis_breaks lines (IsDisassembled lines) (kernel_kinds dis_breaks) (λ s t a. a.faultless)
    (λ s t s' t' a b. (a.status_is ∙ sym b.status_is, a.text_is ∙ sym b.text_is))
one_answered request.Verify bytes fixed =
    let lines = content_lines bytes in
    let end = line_after bytes in
    one_or_refusal rank bundle_fault_text (joint.Breaks lines) (closed lines end) (λ s t. IsJoint lines end × IsVerdictOn (bundle_of lines) (output_in lines) s t)
    (joint_kinds lines) (λ s t a. a.0) (λ s t s' t' a b. one_verdict_on (bundle_of lines) (output_in lines) s t s' t' a.1 b.1)

-- ---- the answer to bytes

one_text : (r : Request) (bytes : List ℕ) → IsFixed r → IsOne (IsAnswer r bytes)
one_text r bytes fixed s t s' t' f g = by (ltb (limit_of r) (length bytes)) refl
  where
    by : (b : Bool) → ltb (limit_of r) (length bytes) ≡ b → (s ≡ s') × (t ≡ t')
    by true e =
        let long : limit_of r < length bytes = ltb-true (limit_of r) (length bytes) e in
        let a = f.too_long long in
        let b = g.too_long long in
        (a.0 ∙ sym b.0, a.1 ∙ sym b.1)
    by false e =
        let short : length bytes ≤ limit_of r = ltb-false (limit_of r) (length bytes) e in
        one_answered r bytes fixed s t s' t' (f.answered short) (g.answered short)

-- `verify` has one answer to an input.
pub one_verified : (bytes : List ℕ) → IsOne (IsAnswer request.Verify bytes)
one_verified bytes = one_text request.Verify bytes tt

by_text : {S : Type 0} (s : ℕ) (t : List ℕ) (s' : ℕ) (t' : List ℕ) → (s ≡ s') × (t ≡ t') → (s ≡ s') × (S → t ≡ t')
by_text s t s' t' h = (h.0, λ _. h.1)

-- The status is determined by the request and the bytes, and so is the text, but that of a run.
pub answer_is_one : AnswerIsOne
answer_is_one (request.Run cores order) bytes s t s' t' f g = runs_status bytes cores order s t cores order s' t' f g
answer_is_one request.Serial bytes s t s' t' f g = by_text s t s' t' (one_text request.Serial bytes tt s t s' t' f g)
answer_is_one request.Check bytes s t s' t' f g = by_text s t s' t' (one_text request.Check bytes tt s t s' t' f g)
answer_is_one request.Asm bytes s t s' t' f g = by_text s t s' t' (one_text request.Asm bytes tt s t s' t' f g)
answer_is_one request.Dis bytes s t s' t' f g = by_text s t s' t' (one_text request.Dis bytes tt s t s' t' f g)
answer_is_one request.Verify bytes s t s' t' f g = by_text s t s' t' (one_text request.Verify bytes tt s t s' t' f g)
