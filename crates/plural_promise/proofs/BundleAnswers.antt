-- The answer to an input that has to be a bundle is one, if the answer to the bundle is.
use Rattle.std.proofs.Common.{ℕ, List}
use Rattle.plural_bytes.specs.Lines.{content_lines}
use Rattle.plural_sections.specs.Kinds.{rank}
use Rattle.plural_sections.specs.Faults.{closed}
use Rattle.plural_map.specs.Value.{TaskValue}
use Rattle.plural_bundle.specs.Value.{BundleValue, bundle_of}
use Rattle.plural_bundle.specs.Answer.{IsBundle}
use Rattle.plural_bundle.specs.Rules as bundle
use Rattle.plural_crew.specs.Clashes.{IsAccepted}
use Rattle.plural_cli.specs.FaultLine.{bundle_fault_text}
use Rattle.plural_cli.specs.Lines.{Answered, line_after, ToBundle}
use Rattle.plural_promise.proofs.OneFault.{IsOne, one_or_refusal}
use Rattle.plural_promise.proofs.RuleKinds.{bundle_kinds}

-- An answer beside the fact that the map has no clash is one, if the answer is.
pub one_accepted : (tasks : List TaskValue) (Is : ℕ → List ℕ → Type 0) → IsOne Is → IsOne (λ s t. IsAccepted tasks × Is s t)
one_accepted tasks Is one s t s' t' a b = one s t s' t' a.1 b.1

-- The answer to the bundle, or to the first fault of its lines, is one.
pub one_to_bundle : (Is : Answered) (bytes : List ℕ) → ((b : BundleValue) → IsOne (Is b)) → IsOne (ToBundle Is bytes)
one_to_bundle Is bytes one =
    let lines = content_lines bytes in
    let end = line_after bytes in
    one_or_refusal rank bundle_fault_text (bundle.Breaks lines lines) (closed lines end)
    (λ s t. IsBundle lines lines end × Is (bundle_of lines) s t) (bundle_kinds lines lines) (λ s t a. a.0) (λ s t s' t' a b. one (bundle_of lines) s t s' t' a.1 b.1)
