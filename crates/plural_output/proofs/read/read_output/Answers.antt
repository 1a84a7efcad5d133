use Rattle.std.proofs.Common.{ap, ◌∙◌, length}
use Rattle.plural_bytes.specs.Spelled.{text_lines}
use Rattle.plural_sections.proofs.PassedErrors.{answered, value_passed, error_passed}
use Rattle.plural_image.specs.Kinds.{image_fault}
use Rattle.plural_image.proofs.ImageLength.{image_length}
use Rattle.plural_log.specs.Kinds.{log_fault}
use Rattle.plural_output.specs.Answer.{Faults}
use Rattle.plural_output.proofs.ReadOutput.{at_log, at_image, log_faults, image_missing, image_faults, end_missing, left_faults, is_output, value_is}
use Rattle.plural_output.proofs.read.read_output.Goals as goal

-- The log has a fault: its first is that of the output.
pub returns-in_err-log-clause-answer : goal.returns-in_err-log-clause-answer
returns-in_err-log-clause-answer c =
    let a = at_log c.next_section-section.ensures.lines c.next_section-section.ensures.whole c.next_section-section.ensures.closed in
    answered c.from_residual.result _ _ c.in_err-log.field-0.0 c.from_residual.ensures.1
    (error_passed log_fault c.read_log.result c.in_err-log.field-0.0 _ _ (Faults c.args.map.now.tasks c.args.map.now.words (text_lines c.args.lines.now) c.args.end) c.read_log.ensures.answer c.in_err-log.ensures
    (λ e f. log_faults c.args.map.now.tasks c.args.map.now.words a c.args.end c.first_number-closing.result e c.first_number-closing.ensures f))

-- Another line stands in the place of the header of the image.
pub returns-in_err-after_header-clause-answer : goal.returns-in_err-after_header-clause-answer
returns-in_err-after_header-clause-answer c =
    let a = at_log c.next_section-section.ensures.lines c.next_section-section.ensures.whole c.next_section-section.ensures.closed in
    let log = value_passed _ _ _ _ c.read_log.ensures.answer c.in_ok-log.ensures in
    answered c.from_residual-in_err-after_header.result _ _ c.in_err-after_header.field-0.0 c.from_residual-in_err-after_header.ensures.1
    (image_missing c.args.map.now.tasks c.args.map.now.words a c.args.end c.first_number-closing.result log.0 c.in_err-after_header.field-0.0 c.in_err-after_header.ensures.answer)

-- The image has a fault: its first is that of the output.
pub returns-in_err-image-clause-answer : goal.returns-in_err-image-clause-answer
returns-in_err-image-clause-answer c =
    let a = at_log c.next_section-section.ensures.lines c.next_section-section.ensures.whole c.next_section-section.ensures.closed in
    let log = value_passed _ _ _ _ c.read_log.ensures.answer c.in_ok-log.ensures in
    let i = at_image a log.0 c.in_ok-after_header.ensures.answer c.next_section-section-2.ensures.lines c.next_section-section-2.ensures.whole c.next_section-section-2.ensures.closed in
    answered c.from_residual-in_err-image.result _ _ c.in_err-image.field-0.0 c.from_residual-in_err-image.ensures.1
    (error_passed image_fault c.read_image.result c.in_err-image.field-0.0 _ _ (Faults c.args.map.now.tasks c.args.map.now.words (text_lines c.args.lines.now) c.args.end) c.read_image.ensures c.in_err-image.ensures
    (λ e f. image_faults c.args.map.now.words i c.args.end c.words.result c.words.ensures.value e f))

-- Another line stands in the place of the header of the end.
pub returns-in_err-rest-clause-answer : goal.returns-in_err-rest-clause-answer
returns-in_err-rest-clause-answer c =
    let a = at_log c.next_section-section.ensures.lines c.next_section-section.ensures.whole c.next_section-section.ensures.closed in
    let log = value_passed _ _ _ _ c.read_log.ensures.answer c.in_ok-log.ensures in
    let i = at_image a log.0 c.in_ok-after_header.ensures.answer c.next_section-section-2.ensures.lines c.next_section-section-2.ensures.whole c.next_section-section-2.ensures.closed in
    let image = value_passed _ _ _ _ c.read_image.ensures c.in_ok-image.ensures in
    answered c.from_residual-in_err-rest.result _ _ c.in_err-rest.field-0.0 c.from_residual-in_err-rest.ensures.1
    (end_missing c.args.map.now.words i c.args.end c.words.result c.words.ensures.value image.0 c.in_err-rest.field-0.0 c.in_err-rest.ensures.answer)

-- A line with a text stands after the end.
pub returns-in_err-nothing_after-clause-answer : goal.returns-in_err-nothing_after-clause-answer
returns-in_err-nothing_after-clause-answer c =
    let a = at_log c.next_section-section.ensures.lines c.next_section-section.ensures.whole c.next_section-section.ensures.closed in
    let log = value_passed _ _ _ _ c.read_log.ensures.answer c.in_ok-log.ensures in
    let i = at_image a log.0 c.in_ok-after_header.ensures.answer c.next_section-section-2.ensures.lines c.next_section-section-2.ensures.whole c.next_section-section-2.ensures.closed in
    let image = value_passed _ _ _ _ c.read_image.ensures c.in_ok-image.ensures in
    answered c.from_residual-in_err-nothing_after.result _ _ c.in_err-nothing_after.field-0.0 c.from_residual-in_err-nothing_after.ensures.1
    (left_faults c.args.map.now.words i c.args.end c.words.result c.words.ensures.value image.0 c.in_ok-rest.ensures.answer c.in_err-nothing_after.field-0.0 c.in_err-nothing_after.ensures)

-- All lines were read: they are an output, and spell its log and its image.
pub returns-clause-answer : goal.returns-clause-answer
returns-clause-answer c =
    let a = at_log c.next_section-section.ensures.lines c.next_section-section.ensures.whole c.next_section-section.ensures.closed in
    let log = value_passed _ _ _ _ c.read_log.ensures.answer c.in_ok-log.ensures in
    let i = at_image a log.0 c.in_ok-after_header.ensures.answer c.next_section-section-2.ensures.lines c.next_section-section-2.ensures.whole c.next_section-section-2.ensures.closed in
    let image = value_passed _ _ _ _ c.read_image.ensures c.in_ok-image.ensures in (
      is_output c.args.map.now.words i c.args.end c.words.result c.words.ensures.value image.0 c.in_ok-rest.ensures.answer c.in_ok-nothing_after.ensures,
      value_is c.args.map.now.words i c.words.result _ _ c.words.ensures.value log.1 image.1,
    )

-- The image has the words of the map.
pub returns-clause-image : goal.returns-clause-image
returns-clause-image c =
    let image = value_passed _ _ _ _ c.read_image.ensures c.in_ok-image.ensures in
    ap length image.1 ∙ image_length c.words.result _ image.0 ∙ c.words.ensures.value
