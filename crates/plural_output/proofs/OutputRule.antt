-- The rule of an output's lines as that of a text of sections.
use Rattle.std.proofs.Common.{◌≡◌, ℕ, suc, ◌+◌, List, [], refl, ap, arith}
use Rattle.std.specs.Prelude.{codes}
use Rattle.plural_bytes.specs.Lines.{TextLine}
use Rattle.plural_sections.specs.declared.fault.Fault.{Fault}
use Rattle.plural_sections.specs.declared.fault.Fault.TheVariants as fault
use Rattle.plural_sections.specs.Kinds.{rank}
use Rattle.plural_sections.specs.Texts.{PastBreaks}
use Rattle.plural_sections.proofs.FirstFaults.{faultless_nil}
use Rattle.plural_sections.proofs.TextRules.{TextRule, SectionRule, part_rule, whole_part_rule}
use Rattle.plural_map.specs.Value.{TaskValue}
use Rattle.plural_image.specs.Image as image
use Rattle.plural_image.specs.declared.fault.ImageKind.{ImageKind}
use Rattle.plural_image.specs.declared.fault.ImageKind.TheVariants as image_kind
use Rattle.plural_log.specs.Faults as log
use Rattle.plural_log.specs.declared.fault.LogKind.{LogKind}
use Rattle.plural_log.specs.declared.fault.LogKind.TheVariants as log_kind
use Rattle.plural_image.specs.Kinds.{image_fault}
use Rattle.plural_log.specs.Kinds.{log_fault}
use Rattle.plural_output.specs.Rules.{SectionBreaks, Breaks}

-- A log line's kinds keep their order in an output.
pub log_rank : (k : LogKind) → rank (log_fault k) ≡ log.rank k
log_rank log_kind.Form = refl
log_rank log_kind.Number = refl
log_rank log_kind.Name = refl
log_rank log_kind.Count = refl

-- And an image line's.
pub image_rank : (k : ImageKind) → rank (image_fault k) ≡ image.rank k
image_rank image_kind.Form = refl
image_rank image_kind.Address = refl

-- The line that closes the log's section has no fault but of form as a log line.
pub only_form : (tasks : List TaskValue) (before : List TextLine) (k : LogKind) → log.Breaks tasks before [] k → log_fault k ≡ fault.Form
only_form tasks before k b = ap log_fault b.0

-- The rule of an output's lines.
abbrev pub output_rule : List TaskValue → (words : ℕ) → TextRule
output_rule tasks words = record {
  Breaks = Breaks tasks words;
  head = [];
  good = faultless_nil (Breaks tasks words);
  Sections = SectionBreaks tasks words;
  rule = λ before text k. refl;
}

-- The log's section.
abbrev pub log_part : (tasks : List TaskValue) (words : ℕ) → SectionRule LogKind (output_rule tasks words) 0
log_part tasks words = whole_part_rule (output_rule tasks words) 0 (log.Breaks tasks) log_fault log.rank (codes "[image]") log_rank refl refl (λ before text k. refl)

-- The image's section.
abbrev pub image_part : (tasks : List TaskValue) (words : ℕ) → SectionRule ImageKind (output_rule tasks words) 1
image_part tasks words = part_rule (output_rule tasks words) 1 (image.Breaks words) image_fault image.rank (codes "[end]") image_rank refl refl (λ before text k. refl)

-- After two sections nothing follows.
pub past_sections : (tasks : List TaskValue) (words m : ℕ) (before : List TextLine) (text : List ℕ) (f : Fault) → SectionBreaks tasks words (2 + m) before text f ≡ PastBreaks text f
past_sections tasks words m before text f = let n : 2 + m ≡ suc (suc m) = omega arith in ap (λ s. SectionBreaks tasks words s before text f) n
