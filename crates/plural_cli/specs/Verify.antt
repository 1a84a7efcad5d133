-- What `verify` answers to a bundle and the output of a run in one text.
use Rattle.std.specs.Prelude.{ℕ, ◌≡◌, ◌⊎◌, List, [], ◌∷◌, ◌++◌, codes, length}
use Rattle.std.specs.Fmt.{decimal}
use Rattle.plural_bytes.specs.Lines.{TextLine, content_lines}
use Rattle.plural_sections.specs.Faults.{closed}
use Rattle.plural_sections.specs.Kinds.{rank}
use Rattle.plural_bundle.specs.Value.{BundleValue, bundle_of}
use Rattle.plural_crew.specs.Clashes.{IsAccepted}
use Rattle.plural_trace.specs.declared.verdict.Verdict.{Verdict}
use Rattle.plural_trace.specs.declared.verdict.Verdict.TheVariants as verdict
use Rattle.plural_trace.specs.Verdicts.{expected_of, IsVerdict}
use Rattle.plural_output.specs.Rules.{Breaks}
use Rattle.plural_output.specs.Value.{OutputValue, output_of}
use Rattle.plural_output.specs.Answer.{IsOutput}
use Rattle.plural_cli.specs.FaultLine.{bundle_fault_text, IsRefused}
use Rattle.plural_cli.specs.Lines.{line_after}
use Rattle.plural_cli.specs.Joint as joint
use Rattle.plural_cli.specs.Joint.{IsJoint, output_in}
use Rattle.plural_cli.specs.Check.{IsClashing}

-- The line for a log that is legal, with so many entries.
abbrev pub legal_text : ℕ → List ℕ
legal_text entries = (codes "legal: entries " ++ decimal entries) ++ 10 ∷ []

-- The line for a rule that fails, with the least place at which it does.
abbrev pub rule_text : (rule at : ℕ) → List ℕ
rule_text rule at = (((codes "not legal: rule " ++ decimal rule) ++ codes " at ") ++ decimal at) ++ 10 ∷ []

-- The status of a verdict.
abbrev pub verdict_status : Verdict → ℕ
verdict_status verdict.Yes = 0
verdict_status (verdict.No rule at) = 8

-- The line of a verdict on a log of so many entries.
abbrev pub verdict_text : ℕ → Verdict → List ℕ
verdict_text entries verdict.Yes = legal_text entries
verdict_text entries (verdict.No rule at) = rule_text rule at

-- The answer that tells the verdict of the rules on a log and a last memory.
pub record IsJudged (b : BundleValue) (o : OutputValue) (status : ℕ) (text : List ℕ) : Type 0 where
  pub verdict : Verdict
  pub exact : IsVerdict (expected_of b.program b.image) o.log o.image verdict
  pub status_is : status ≡ verdict_status verdict
  pub text_is : text ≡ verdict_text (length o.log.entries) verdict

-- The output that lines spell for a bundle.
abbrev pub read_of : BundleValue → List TextLine → OutputValue
read_of b lines = output_of b.program.map.tasks b.program.map.words lines

-- The first clash of the map is told; or there is none, and the output is judged.
abbrev pub IsVerdictOn : BundleValue → OutputValue → (status : ℕ) (text : List ℕ) → Type 0
IsVerdictOn b o status text =
    (IsAccepted b.program.map.tasks × IsJudged b o status text) ⊎ IsClashing b.program.map.tasks status text

-- Neither the bundle nor the output has a fault: the first clash is told, or the verdict.
pub record IsReadWhole (b : BundleValue) (lines : List TextLine) (end : ℕ) (status : ℕ) (text : List ℕ) : Type 0 where
  pub output : IsOutput b.program.map.tasks b.program.map.words lines end
  pub answer : IsVerdictOn b (read_of b lines) status text

-- The output has a fault: its first is told.
abbrev pub IsFaultyOutput : BundleValue → (lines : List TextLine) (end : ℕ) (status : ℕ) (text : List ℕ) → Type 0
IsFaultyOutput b lines end status text =
    IsRefused rank bundle_fault_text (Breaks b.program.map.tasks b.program.map.words) (closed lines end) status text

-- The answer to the output of a bundle's run: it is judged, or its first fault is told.
abbrev pub IsOutputAnswer : BundleValue → (lines : List TextLine) (end : ℕ) (status : ℕ) (text : List ℕ) → Type 0
IsOutputAnswer b lines end status text = IsReadWhole b lines end status text ⊎ IsFaultyOutput b lines end status text

-- The lines are a bundle and the output of a run of it: the first clash is told, or the verdict. Or they have a
-- fault, and the first is told.
abbrev pub IsJointAnswer : (lines : List TextLine) (end : ℕ) (status : ℕ) (text : List ℕ) → Type 0
IsJointAnswer lines end status text =
    (IsJoint lines end × IsVerdictOn (bundle_of lines) (output_in lines) status text)
    ⊎ IsRefused rank bundle_fault_text (joint.Breaks lines) (closed lines end) status text

-- The answer to an input is that to its content lines.
abbrev pub IsVerifyAnswer : (bytes : List ℕ) (status : ℕ) (text : List ℕ) → Type 0
IsVerifyAnswer bytes status text = IsJointAnswer (content_lines bytes) (line_after bytes) status text
