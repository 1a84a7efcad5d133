-- The text of a made bundle is read without a fault.
use Rattle.std.proofs.Common.{◌≡◌, ℕ, ◌+◌, [], length, refl, ap, sym, subst, ◌∙◌, append-nil}
use Rattle.plural_bytes.specs.Lines.{pieces, content_lines}
use Rattle.plural_map_text.specs.Parts.{map_of}
use Rattle.plural_map_text.specs.Print.{map_text}
use Rattle.plural_asm.specs.Words.{code_of, labels_of}
use Rattle.plural_image.specs.Image.{image_of}
use Rattle.plural_image.specs.Print.{image_text}
use Rattle.plural_generator.specs.Tasks.{made_map}
use Rattle.plural_generator.specs.Kernels.{kernel_text}
use Rattle.plural_generator.specs.Draws.{made_image}
use Rattle.plural_generator.specs.Text.{made_text}
use Rattle.plural_bundle.specs.Answer.{IsBundle}
use Rattle.plural_bundle.specs.Value.{BundleValue, program_with, bundle_of}
use Rattle.plural_bundle.specs.Laws.{AreGood, lines_of}
use Rattle.plural_bundle.proofs.BundleParts.{parts_make_a_bundle}
use Rattle.plural_crew.specs.Clashes.{IsAccepted}
use Rattle.plural_generator.proofs.NoClash.{made_accepted}
use Rattle.plural_made.specs.Laws.{made_kernels, made_bundle, MadeIsRead, MadeIsAccepted}
use Rattle.plural_made.proofs.LineNumbers.{lines_again}
use Rattle.plural_made.proofs.TextLines.{parts_with, cut}
use Rattle.plural_made.proofs.ImageLines.{images, images_read}
use Rattle.plural_made.proofs.SectionLines.{image_stays, image_ends}
use Rattle.plural_made.proofs.CodeWords.{code_again, labels_again}
use Rattle.plural_made.proofs.KernelLines.{kernels, kernels_end, kernels_stay, kernels_good, labels_are}
use Rattle.plural_made.proofs.MapLines.{maps, map_ends, map_stays, map_good, map_is, map_words}

-- Its parts have no fault, whatever the numbers of the headers' lines are.
good : (seed at_kernels at_image at_end : ℕ) → AreGood (parts_with (map_text made_map) kernel_text (image_text (made_image seed)) at_kernels at_image at_end)
good seed at_kernels at_image at_end = record {
  first = refl;
  map_stays = map_stays;
  map_good = map_good _ at_kernels (labels_are (at_kernels + 1));
  kernels_stay = kernels_stay (at_kernels + 1);
  kernels_good = kernels_good (at_kernels + 1);
  image_stays = image_stays (made_image seed) (at_image + 1);
  image_good = (images_read seed (at_image + 1) _ map_words).0;
}

-- What they spell, if the kernel lines and the image lines begin with these numbers.
value : (seed n m : ℕ) → record { program = program_with (map_of maps) (code_of (kernels n) (kernels n)) (labels_of (kernels n)); image = image_of (map_of maps).words (images seed m) } ≡ made_bundle seed
value seed n m =
    let same = lines_again n 1 kernel_text in
    let code = code_again (kernels n) made_kernels same in
    let labels = labels_again (kernels n) made_kernels same in
    let image = (images_read seed m _ map_words).1 in
    λ i. record { program = program_with (map_is i) (code i) (labels i); image = image i }

-- The lines of the text of each seed are a bundle, and spell the bundle of that seed.
pub made_is_read : MadeIsRead
made_is_read seed end =
    let image = image_text (made_image seed) in
    let at_kernels = 3 + length (pieces (map_text made_map)) in
    let at_image = at_kernels + 1 + length (pieces kernel_text) in
    let at_end = at_image + 1 + length (pieces image) in
    let parts = parts_with (map_text made_map) kernel_text image at_kernels at_image at_end in
    let lines : content_lines (made_text seed) ≡ lines_of parts = cut (map_text made_map) kernel_text image at_kernels at_image at_end map_ends kernels_end (image_ends (made_image seed)) refl refl refl in
    let law = parts_make_a_bundle parts [] end (good seed at_kernels at_image at_end) in
    let bundle : IsBundle (lines_of parts) (lines_of parts) end = subst (λ input. IsBundle input (lines_of parts) end) (append-nil (lines_of parts)) law.0 in
    (subst (λ ls. IsBundle ls ls end) (sym lines) bundle, ap bundle_of lines ∙ law.1 ∙ value seed (at_kernels + 1) (at_image + 1))

-- The map that they spell has no clash.
pub made_is_accepted : MadeIsAccepted
made_is_accepted seed = subst (λ (b : BundleValue). IsAccepted b.program.map.tasks) (sym (made_is_read seed 0).1) made_accepted
