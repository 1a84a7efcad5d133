-- An output that was read up to here, and what its next lines mean for the whole.
use Rattle.std.proofs.Common.{◌≡◌, ℕ, List, [], ◌++◌, refl, ap, sym, subst, ◌∙◌}
use Rattle.std.specs.Prelude.{codes}
use Rattle.plural_base.proofs.ListTests.{none_before}
use Rattle.plural_bytes.specs.Lines.{TextLine}
use Rattle.plural_sections.specs.declared.fault.Fault.{Fault}
use Rattle.plural_sections.specs.declared.line_error.LineError.{LineError}
use Rattle.plural_sections.specs.Faults.{IsFaultless, closed}
use Rattle.plural_sections.specs.Errors.{Tells, renamed}
use Rattle.plural_sections.specs.Sections.{closes, up_to_header, section}
use Rattle.plural_sections.specs.Borders.{head_of, IsClosed, IsHeaded, IsMissing, AllBlank, IsLeftOver}
use Rattle.plural_sections.proofs.FirstFaults.{last_none}
use Rattle.plural_sections.proofs.Closings.{NoneCloses}
use Rattle.plural_sections.proofs.Headers.{lines_lack, section_at}
use Rattle.plural_sections.proofs.Stages.{Stage, stage_first, stage_next, section_tells, section_missing, whole_section_tells, past_none, past_first}
use Rattle.plural_map.specs.Value.{TaskValue}
use Rattle.plural_image.specs.Image as image
use Rattle.plural_image.specs.Image.{image_of}
use Rattle.plural_image.specs.declared.fault.ImageKind.{ImageKind}
use Rattle.plural_trace.specs.Logs.{LogValue}
use Rattle.plural_log.specs.Faults as log
use Rattle.plural_log.specs.Spelled.{log_of}
use Rattle.plural_log.specs.declared.fault.LogKind.{LogKind}
use Rattle.plural_image.specs.Kinds.{image_fault}
use Rattle.plural_log.specs.Kinds.{log_fault}
use Rattle.plural_output.specs.Value.{output_of}
use Rattle.plural_output.specs.Answer.{IsOutput, Faults}
use Rattle.plural_output.proofs.OutputRule.{only_form, output_rule, log_part, image_part, past_sections}

-- ---- how far the lines were read

-- Up to the log's lines, and those from the next header on.
pub record AtLog (all lines back : List TextLine) : Type 0 where
  pub own : lines ≡ up_to_header all
  pub whole : all ≡ lines ++ back
  pub shut : IsClosed back

-- And up to the image's lines.
pub record AtImage (tasks : List TaskValue) (all logs back more lines last : List TextLine) (number : ℕ) : Type 0 where
  pub at_log : AtLog all logs back
  pub good : IsFaultless (log.Breaks tasks) (closed logs number)
  pub header : IsHeaded (codes "[image]") back more
  pub own : lines ≡ up_to_header more
  pub whole : more ≡ lines ++ last
  pub shut : IsClosed last

-- The lines before the first header stand in the log's section.
pub at_log : {all lines back : List TextLine} → lines ≡ up_to_header all → all ≡ lines ++ back → IsClosed back → AtLog all lines back
at_log o w s = record { own = o; whole = w; shut = s }

-- After a log without a fault and the header of the image, the lines stand in its section.
pub at_image : {tasks : List TaskValue} {all logs back more lines last : List TextLine} {number : ℕ} → AtLog all logs back → IsFaultless (log.Breaks tasks) (closed logs number)
    → IsHeaded (codes "[image]") back more → lines ≡ up_to_header more → more ≡ lines ++ last → IsClosed last → AtImage tasks all logs back more lines last number
at_image a g h o w s = record { at_log = a; good = g; header = h; own = o; whole = w; shut = s }

-- ---- the log's section

module _ (tasks : List TaskValue) (words : ℕ) {all logs back : List TextLine} (a : AtLog all logs back) where
  log_none : NoneCloses logs
  log_none = subst NoneCloses (sym a.own) (none_before (λ l. closes l.1) all)

  log_stage : Stage (output_rule tasks words) all 0 all
  log_stage = stage_first (output_rule tasks words) all all refl

  -- The log's first fault is that of the output.
  pub log_faults : (end number : ℕ) (e : LineError LogKind) → number ≡ (head_of back end).0 → Tells log.rank (log.Breaks tasks) (closed logs number) e → Faults tasks words all end (renamed log_fault e)
  log_faults end number e at f = whole_section_tells log_stage (log_part tasks words) (λ before text k. refl) (only_form tasks) logs back end number log_none a.whole a.shut at e f

  -- What stands in the place of the header of the image is the first fault.
  pub image_missing : (end number : ℕ) → IsFaultless (log.Breaks tasks) (closed logs number) → (e : LineError Fault) → IsMissing (codes "[image]") back end e → Faults tasks words all end e
  image_missing end number good e m = section_missing log_stage (log_part tasks words) logs back end log_none a.whole (last_none (log.Breaks tasks) logs (number, []) good).0 a.shut e m

-- ---- the image's section, and what follows it

module _ {tasks : List TaskValue} (words : ℕ) {all logs back more lines last : List TextLine} {number : ℕ} (a : AtImage tasks all logs back more lines last number) where
  image_none : NoneCloses lines
  image_none = subst NoneCloses (sym a.own) (none_before (λ l. closes l.1) more)

  image_own : section (codes "[image]") all ≡ lines
  image_own =
      section_at (codes "[image]") all logs more a.header.number (a.at_log.whole ∙ ap (λ x. logs ++ x) a.header.whole)
      (lines_lack (codes "[image]") logs refl (log_none tasks words a.at_log)) refl
      ∙ sym a.own

  image_stage : Stage (output_rule tasks words) all 1 more
  image_stage =
      let good = last_none (log.Breaks tasks) logs (number, []) a.good in
      stage_next (log_stage tasks words a.at_log) (log_part tasks words) logs back more (log_none tasks words a.at_log) a.at_log.whole good.0 good.1 a.header

  image_good : (w : ℕ) → w ≡ words → IsFaultless (image.Breaks w) lines → IsFaultless (image.Breaks words) lines
  image_good w h f = subst (λ x. IsFaultless (image.Breaks x) lines) h f

  -- The image's first fault is that of the output.
  pub image_faults : (end w : ℕ) → w ≡ words → (e : LineError ImageKind) → Tells image.rank (image.Breaks w) lines e → Faults tasks words all end (renamed image_fault e)
  image_faults end w h e f = section_tells image_stage (image_part tasks words) lines last end image_none a.whole e (subst (λ x. Tells image.rank (image.Breaks x) lines e) h f)

  -- What stands in the place of the header of the end is the first fault.
  pub end_missing : (end w : ℕ) → w ≡ words → IsFaultless (image.Breaks w) lines → (e : LineError Fault) → IsMissing (codes "[end]") last end e → Faults tasks words all end e
  end_missing end w h good e m = section_missing image_stage (image_part tasks words) lines last end image_none a.whole (image_good w h good) a.shut e m

  end_stage : (w : ℕ) {rest : List TextLine} → w ≡ words → IsFaultless (image.Breaks w) lines → IsHeaded (codes "[end]") last rest → Stage (output_rule tasks words) all 2 rest
  end_stage w {rest} h good b = stage_next image_stage (image_part tasks words) lines last rest image_none a.whole (image_good w h good) tt b

  -- A line with a text after the end is the first fault.
  pub left_faults : (end w : ℕ) {rest : List TextLine} → w ≡ words → IsFaultless (image.Breaks w) lines → IsHeaded (codes "[end]") last rest
      → (e : LineError Fault) → IsLeftOver rest e → Faults tasks words all end e
  left_faults end w h good b e l = past_first (end_stage w h good b) (past_sections tasks words) end e l

  -- The lines are an output.
  pub is_output : (end w : ℕ) {rest : List TextLine} → w ≡ words → IsFaultless (image.Breaks w) lines → IsHeaded (codes "[end]") last rest → AllBlank rest → IsOutput tasks words all end
  is_output end w h good b l = past_none (end_stage w h good b) (past_sections tasks words) end l

  -- The log and the image are those that the lines spell.
  pub value_is : (w : ℕ) (spelled : LogValue) (memory : List ℕ) → w ≡ words → spelled ≡ log_of tasks logs → memory ≡ image_of w lines → record { log = spelled; image = memory } ≡ output_of tasks words all
  value_is w spelled memory h l m =
      let log_same : spelled ≡ log_of tasks (up_to_header all) = l ∙ ap (log_of tasks) a.at_log.own in
      let image_same : memory ≡ image_of words (section (codes "[image]") all) = m ∙ (λ i. image_of (h i) (sym image_own i)) in
      λ i. record { log = log_same i; image = image_same i }
