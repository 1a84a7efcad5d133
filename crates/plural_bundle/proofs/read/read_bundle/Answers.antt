use Rattle.std.proofs.Common.{ℕ, ap, sym, subst, ◌∙◌, length, ◌%◌, arith}
use Rattle.plural_bytes.specs.Spelled.{text_lines}
use Rattle.plural_sections.proofs.PassedErrors.{answered, value_passed, error_passed, told_by}
use Rattle.plural_asm.specs.Kinds.{kernel_fault}
use Rattle.plural_asm.specs.Labels.{names_of}
use Rattle.plural_image.specs.Kinds.{image_fault}
use Rattle.plural_serial.specs.Program.{ProgramValue}
use Rattle.plural_bundle.specs.Answer.{Faults, IsMapTold}
use Rattle.plural_bundle.proofs.BundleRule.{first_bad, no_map}
use Rattle.plural_bundle.proofs.ReadBundle.{at_map, at_kernels, at_image, kernels_missing, map_faults, kernels_faults, image_missing, image_faults, end_missing, left_faults, is_bundle, value_is}
use Rattle.plural_bundle.proofs.ValueOfBundle.{AreAligned, labels_aligned}
use Rattle.plural_image.proofs.ImageLength.{image_length}
use Rattle.plural_bundle.proofs.read.read_bundle.Goals as goal

-- The first line has a fault.
pub returns-in_err-begun-clause-answer : goal.returns-in_err-begun-clause-answer
returns-in_err-begun-clause-answer c =
    answered c.from_residual.result _ _ c.in_err-begun.field-0.0 c.from_residual.ensures.1
    (first_bad (text_lines c.args.input.now) _ c.args.end _ c.in_err-begun.ensures.answer)

-- Another line stands in the place of the header of the map.
pub returns-in_err-after_header-clause-answer : goal.returns-in_err-after_header-clause-answer
returns-in_err-after_header-clause-answer c =
    answered c.from_residual-in_err-after_header.result _ _ c.in_err-after_header.field-0.0 c.from_residual-in_err-after_header.ensures.1
    (no_map (text_lines c.args.input.now) c.in_ok-begun.ensures.answer c.args.end _ c.in_err-after_header.ensures.answer)

-- The map has a fault: its first is that of the bundle.
pub returns-in_err-tasks-clause-answer : goal.returns-in_err-tasks-clause-answer
returns-in_err-tasks-clause-answer c =
    let m = at_map (text_lines c.args.input.now) (ap names_of c.section_of-labelled.ensures.section) c.in_ok-begun.ensures.answer c.in_ok-after_header.ensures.answer c.next_section-map.ensures.lines c.next_section-map.ensures.whole c.next_section-map.ensures.closed in
    answered c.from_residual-in_err-tasks.result _ _ c.in_err-tasks.field-0.0 c.from_residual-in_err-tasks.ensures.1
    (told_by c.parse_map-parsed.result c.in_err-tasks.field-0.0 _ _ (IsMapTold (text_lines c.next_section-map.result.rest.now) c.args.end) (Faults (text_lines c.args.input.now) (text_lines c.args.lines.now) c.args.end) c.parse_map-parsed.ensures c.in_err-tasks.ensures
    (λ e f t. map_faults m c.args.end c.first_number-closing.result e c.in_err-tasks.field-0.0 c.first_number-closing.ensures f t))

-- Another line stands in the place of the header of the kernels.
pub returns-in_err-after_header-2-clause-answer : goal.returns-in_err-after_header-2-clause-answer
returns-in_err-after_header-2-clause-answer c =
    let m = at_map (text_lines c.args.input.now) (ap names_of c.section_of-labelled.ensures.section) c.in_ok-begun.ensures.answer c.in_ok-after_header.ensures.answer c.next_section-map.ensures.lines c.next_section-map.ensures.whole c.next_section-map.ensures.closed in
    let tasks = value_passed _ _ _ _ c.parse_map-parsed.ensures c.in_ok-tasks.ensures in
    answered c.from_residual-in_err-after_header-2.result _ _ c.in_err-after_header-2.field-0.0 c.from_residual-in_err-after_header-2.ensures.1
    (kernels_missing m c.args.end c.first_number-closing.result tasks.0 c.in_err-after_header-2.field-0.0 c.in_err-after_header-2.ensures.answer)

-- The kernel lines have a fault: their first is that of the bundle.
pub returns-in_err-object-clause-answer : goal.returns-in_err-object-clause-answer
returns-in_err-object-clause-answer c =
    let m = at_map (text_lines c.args.input.now) (ap names_of c.section_of-labelled.ensures.section) c.in_ok-begun.ensures.answer c.in_ok-after_header.ensures.answer c.next_section-map.ensures.lines c.next_section-map.ensures.whole c.next_section-map.ensures.closed in
    let k = at_kernels m (value_passed _ _ _ _ c.parse_map-parsed.ensures c.in_ok-tasks.ensures) c.in_ok-after_header-2.ensures.answer c.next_section-kernels.ensures.lines c.next_section-kernels.ensures.whole c.next_section-kernels.ensures.closed in
    answered c.from_residual-in_err-object.result _ _ c.in_err-object.field-0.0 c.from_residual-in_err-object.ensures.1
    (error_passed kernel_fault c.assemble.result c.in_err-object.field-0.0 _ _ (Faults (text_lines c.args.input.now) (text_lines c.args.lines.now) c.args.end) c.assemble.ensures c.in_err-object.ensures
    (λ e f. kernels_faults k c.args.end e f))

-- Another line stands in the place of the header of the image.
pub returns-in_err-after_header-3-clause-answer : goal.returns-in_err-after_header-3-clause-answer
returns-in_err-after_header-3-clause-answer c =
    let m = at_map (text_lines c.args.input.now) (ap names_of c.section_of-labelled.ensures.section) c.in_ok-begun.ensures.answer c.in_ok-after_header.ensures.answer c.next_section-map.ensures.lines c.next_section-map.ensures.whole c.next_section-map.ensures.closed in
    let k = at_kernels m (value_passed _ _ _ _ c.parse_map-parsed.ensures c.in_ok-tasks.ensures) c.in_ok-after_header-2.ensures.answer c.next_section-kernels.ensures.lines c.next_section-kernels.ensures.whole c.next_section-kernels.ensures.closed in
    let object = value_passed _ _ _ _ c.assemble.ensures c.in_ok-object.ensures in
    answered c.from_residual-in_err-after_header-3.result _ _ c.in_err-after_header-3.field-0.0 c.from_residual-in_err-after_header-3.ensures.1
    (image_missing k c.args.end object.0 c.in_err-after_header-3.field-0.0 c.in_err-after_header-3.ensures.answer)

-- The image has a fault: its first is that of the bundle.
pub returns-in_err-words-clause-answer : goal.returns-in_err-words-clause-answer
returns-in_err-words-clause-answer c =
    let m = at_map (text_lines c.args.input.now) (ap names_of c.section_of-labelled.ensures.section) c.in_ok-begun.ensures.answer c.in_ok-after_header.ensures.answer c.next_section-map.ensures.lines c.next_section-map.ensures.whole c.next_section-map.ensures.closed in
    let k = at_kernels m (value_passed _ _ _ _ c.parse_map-parsed.ensures c.in_ok-tasks.ensures) c.in_ok-after_header-2.ensures.answer c.next_section-kernels.ensures.lines c.next_section-kernels.ensures.whole c.next_section-kernels.ensures.closed in
    let object = value_passed _ _ _ _ c.assemble.ensures c.in_ok-object.ensures in
    let i = at_image k object.0 c.in_ok-after_header-3.ensures.answer c.next_section-image.ensures.lines c.next_section-image.ensures.whole c.next_section-image.ensures.closed in
    answered c.from_residual-in_err-words.result _ _ c.in_err-words.field-0.0 c.from_residual-in_err-words.ensures.1
    (error_passed image_fault c.read_image.result c.in_err-words.field-0.0 _ _ (Faults (text_lines c.args.input.now) (text_lines c.args.lines.now) c.args.end) c.read_image.ensures c.in_err-words.ensures
    (λ e f. image_faults i c.args.end c.words.result c.words.ensures.value e f))

-- Another line stands in the place of the header of the end.
pub returns-in_err-after_header-4-clause-answer : goal.returns-in_err-after_header-4-clause-answer
returns-in_err-after_header-4-clause-answer c =
    let m = at_map (text_lines c.args.input.now) (ap names_of c.section_of-labelled.ensures.section) c.in_ok-begun.ensures.answer c.in_ok-after_header.ensures.answer c.next_section-map.ensures.lines c.next_section-map.ensures.whole c.next_section-map.ensures.closed in
    let k = at_kernels m (value_passed _ _ _ _ c.parse_map-parsed.ensures c.in_ok-tasks.ensures) c.in_ok-after_header-2.ensures.answer c.next_section-kernels.ensures.lines c.next_section-kernels.ensures.whole c.next_section-kernels.ensures.closed in
    let object = value_passed _ _ _ _ c.assemble.ensures c.in_ok-object.ensures in
    let i = at_image k object.0 c.in_ok-after_header-3.ensures.answer c.next_section-image.ensures.lines c.next_section-image.ensures.whole c.next_section-image.ensures.closed in
    let words = value_passed _ _ _ _ c.read_image.ensures c.in_ok-words.ensures in
    answered c.from_residual-in_err-after_header-4.result _ _ c.in_err-after_header-4.field-0.0 c.from_residual-in_err-after_header-4.ensures.1
    (end_missing i c.args.end c.words.result c.words.ensures.value words.0 c.in_err-after_header-4.field-0.0 c.in_err-after_header-4.ensures.answer)

-- A line with a text stands after the end.
pub returns-in_err-nothing_after-clause-answer : goal.returns-in_err-nothing_after-clause-answer
returns-in_err-nothing_after-clause-answer c =
    let m = at_map (text_lines c.args.input.now) (ap names_of c.section_of-labelled.ensures.section) c.in_ok-begun.ensures.answer c.in_ok-after_header.ensures.answer c.next_section-map.ensures.lines c.next_section-map.ensures.whole c.next_section-map.ensures.closed in
    let k = at_kernels m (value_passed _ _ _ _ c.parse_map-parsed.ensures c.in_ok-tasks.ensures) c.in_ok-after_header-2.ensures.answer c.next_section-kernels.ensures.lines c.next_section-kernels.ensures.whole c.next_section-kernels.ensures.closed in
    let object = value_passed _ _ _ _ c.assemble.ensures c.in_ok-object.ensures in
    let i = at_image k object.0 c.in_ok-after_header-3.ensures.answer c.next_section-image.ensures.lines c.next_section-image.ensures.whole c.next_section-image.ensures.closed in
    let words = value_passed _ _ _ _ c.read_image.ensures c.in_ok-words.ensures in
    answered c.from_residual-in_err-nothing_after.result _ _ c.in_err-nothing_after.field-0.0 c.from_residual-in_err-nothing_after.ensures.1
    (left_faults i c.args.end c.words.result c.words.ensures.value words.0 c.in_ok-after_header-4.ensures.answer c.in_err-nothing_after.field-0.0 c.in_err-nothing_after.ensures)

-- The labels of the kernel lines have pcs that are multiples of 4.
pub program-requires : goal.program-requires
program-requires c = subst AreAligned (sym (value_passed _ _ _ _ c.assemble.ensures c.in_ok-object.ensures).2) (labels_aligned (text_lines c.next_section-kernels.result.lines.now))

-- All lines were read: they are a bundle, and spell its program and its image.
pub returns-clause-answer : goal.returns-clause-answer
returns-clause-answer c =
    let m = at_map (text_lines c.args.input.now) (ap names_of c.section_of-labelled.ensures.section) c.in_ok-begun.ensures.answer c.in_ok-after_header.ensures.answer c.next_section-map.ensures.lines c.next_section-map.ensures.whole c.next_section-map.ensures.closed in
    let tasks = value_passed _ _ _ _ c.parse_map-parsed.ensures c.in_ok-tasks.ensures in
    let k = at_kernels m (value_passed _ _ _ _ c.parse_map-parsed.ensures c.in_ok-tasks.ensures) c.in_ok-after_header-2.ensures.answer c.next_section-kernels.ensures.lines c.next_section-kernels.ensures.whole c.next_section-kernels.ensures.closed in
    let object = value_passed _ _ _ _ c.assemble.ensures c.in_ok-object.ensures in
    let i = at_image k object.0 c.in_ok-after_header-3.ensures.answer c.next_section-image.ensures.lines c.next_section-image.ensures.whole c.next_section-image.ensures.closed in
    let words = value_passed _ _ _ _ c.read_image.ensures c.in_ok-words.ensures in (
      is_bundle i c.args.end c.words.result c.words.ensures.value words.0 c.in_ok-after_header-4.ensures.answer c.in_ok-nothing_after.ensures,
      value_is i c.words.result _ _ _ _ _ c.words.ensures.value tasks.1 object.1 object.2 c.in_ok-program.ensures.value words.1,
    )

-- The image has the words of the map.
pub returns-clause-image : goal.returns-clause-image
returns-clause-image c =
    let words = value_passed _ _ _ _ c.read_image.ensures c.in_ok-words.ensures in
    let n = ap length words.1 ∙ image_length c.words.result _ words.0 ∙ c.words.ensures.value in
    n ∙ sym (ap (λ (p : ProgramValue). p.map.words) c.in_ok-program.ensures.value)

-- They are whole rows of eight.
pub returns-clause-whole : goal.returns-clause-whole
returns-clause-whole c =
    let words = value_passed _ _ _ _ c.read_image.ensures c.in_ok-words.ensures in
    let n = ap length words.1 ∙ image_length c.words.result _ words.0 ∙ c.words.ensures.value in
    ap (λ (n : ℕ). n % 8) n ∙ c.words.ensures.limits.words_whole

-- They are at most 1,048,576.
pub returns-clause-small : goal.returns-clause-small
returns-clause-small c =
    let words = value_passed _ _ _ _ c.read_image.ensures c.in_ok-words.ensures in
    let n = ap length words.1 ∙ image_length c.words.result _ words.0 ∙ c.words.ensures.value in
    omega (arith, n, c.words.ensures.limits.words_high)
