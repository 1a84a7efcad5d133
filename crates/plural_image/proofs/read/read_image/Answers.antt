use Rattle.std.proofs.Common.{◌≡◌, length, ap, refl, ◌∙◌, rules}
use Rattle.std.proofs.lemmas.Bool.{both_ways}
use Rattle.plural_sections.proofs.FirstFaults.{written}
use Rattle.plural_image.specs.Image.{overwritten}
use Rattle.plural_image.proofs.ReadImage.{form_first, address_first, reads_nothing, reads_more}
use Rattle.plural_image.proofs.read.read_image.Goals as goal

-- Before any line the words are zeros.
pub loop-line-init : goal.loop-line-init
loop-line-init c = reads_nothing c.args.w c.in_ok-words.words.items (search rules)

-- A line without a shape is the first with a fault.
pub returns-in-None : goal.returns-in-None
returns-in-None c = form_first _ c.args.lines.now c.loop-line.line-index _ _ _ c.loop-line-test.true c.loop-line.invariant (rw c.in-None.is at c.line_of.ensures)

-- So is a misplaced line.
pub returns-then-is_misplaced : goal.returns-then-is_misplaced
returns-then-is_misplaced c =
    address_first _ c.args.lines.now c.loop-line.line-index _ _ _ _ _ c.loop-line-test.true c.loop-line.invariant (rw c.in-Some.is at c.line_of.ensures) (c.is_misplaced.ensures.0 c.if-is_misplaced.true)

-- One more line has its words in their place.
pub loop-line-preserved : goal.loop-line-preserved
loop-line-preserved c =
    let items = c.loop-line.words.items in
    let found = c.in-Some.found in
    let placed : c.place.new.words ≡ overwritten items found.address found.words.items = c.place.ensures ∙ rw (c.deref_mut.ensures.value, c.deref.ensures.0) refl in
    let same : length c.place.new.words ≡ length items = c.place.auto.words ∙ ap length c.deref_mut.ensures.value in
    let whole = written c.loop-line.words.len c.place.new.words items same (search rules) in
    rw (whole, c.len.ensures.value)
    (reads_more _ c.args.lines.now c.loop-line.line-index _ _ _ _ _ _ c.loop-line-test.true c.loop-line.invariant (rw c.in-Some.is at c.line_of.ensures) (λ m. both_ways _ c.if-is_misplaced.false (c.is_misplaced.ensures.1 m)) placed)
