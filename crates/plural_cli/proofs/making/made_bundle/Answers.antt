use Rattle.std.proofs.Common.{◌≡◌, length, ap, ◌∙◌, sym, subst, arith}
use Rattle.plural_bytes.specs.Lines.{content_lines}
use Rattle.plural_bundle.specs.Answer.{IsBundle}
use Rattle.plural_bundle.specs.Value.{bundle_of}
use Rattle.plural_generator.specs.Text.{made_text}
use Rattle.plural_made.proofs.BundleLines.{made_is_read}
use Rattle.plural_cli.specs.Made.{made_bytes}
use Rattle.plural_cli.specs.Lines.{line_after, IsFaulty}
use Rattle.plural_cli.specs.Reading.{IsWhole}
use Rattle.plural_cli.proofs.MadeLengths.{made_short}
use Rattle.plural_cli.proofs.Faultless.{never_faulty}
use Rattle.plural_cli.proofs.making.made_bundle.Goals as goal

-- The bytes are few enough.
pub read-requires : goal.read-requires
unfolding made_bytes
read-requires c = omega (arith, made_short c.args.seed, ap length (c.deref.ensures.value ∙ c.in_ok-bytes.ensures))

-- They are a bundle without a fault.
pub unreachable-requires : goal.unreachable-requires
unfolding made_bytes
unreachable-requires c =
    let lines = content_lines c.deref.result.now in let end = line_after c.deref.result.now in
    let bytes : c.deref.result.now ≡ made_text c.args.seed = c.deref.ensures.value ∙ c.in_ok-bytes.ensures in
    let a = c.in-Faulty.field-0 in
    let faulty : IsFaulty lines lines end a.status a.text.items = rw c.in-Faulty.is at c.in_ok-bundle.ensures in
    never_faulty lines lines end a.status a.text.items (subst (λ bytes. IsBundle (content_lines bytes) (content_lines bytes) end) (sym bytes) (made_is_read c.args.seed end).0) faulty

-- It is the bundle of the seed.
pub returns : goal.returns
unfolding made_bytes
returns c =
    let lines = content_lines c.deref.result.now in let end = line_after c.deref.result.now in
    let bytes : c.deref.result.now ≡ made_text c.args.seed = c.deref.ensures.value ∙ c.in_ok-bytes.ensures in
    let whole : IsWhole lines lines end c.in-Whole.bundle = rw c.in-Whole.is at c.in_ok-bundle.ensures in
    whole.value ∙ (ap (λ bytes. bundle_of (content_lines bytes)) bytes ∙ (made_is_read c.args.seed end).1)
