-- The lines of a printed output, whatever number the first has.
use Rattle.std.proofs.Common.{◌≡◌, ℕ, ◌+◌, ◌*◌, ◌/◌, ◌<◌, List, [], ◌∷◌, ◌++◌, length, refl, ap, sym, subst, ◌∙◌, arith}
use Rattle.std.specs.Prelude.{codes}
use Rattle.std.specs.List.{AllByRecursion}
use Rattle.std.proofs.lemmas.List.Elements.{recursion_from_All}
use Rattle.plural_base.proofs.ListTests.{before_at}
use Rattle.plural_bytes.specs.Lines.{TextLine, pieces, content_lines}
use Rattle.plural_sections.specs.Faults.{IsFaultless, closed}
use Rattle.plural_sections.specs.Sections.{closes}
use Rattle.plural_sections.proofs.FirstFaults.{last_none}
use Rattle.plural_sections.proofs.Closings.{NoneCloses}
use Rattle.plural_image.specs.Image as image
use Rattle.plural_image.specs.Image.{image_of}
use Rattle.plural_image.specs.Print.{image_text}
use Rattle.plural_image.proofs.ImageRoundTrip.{image_round_trip}
use Rattle.plural_map.specs.Value.{MapValue}
use Rattle.plural_map.specs.Limits.{IsMap}
use Rattle.plural_map.proofs.Lookups.{AreNamed}
use Rattle.plural_serial.specs.Program.{IsMemory}
use Rattle.plural_trace.specs.Logs.{LogValue, IsLog}
use Rattle.plural_log.specs.Faults as log
use Rattle.plural_log.specs.Print.{log_text}
use Rattle.plural_log.specs.Spelled.{log_of}
use Rattle.plural_log.proofs.RoundTrip.{log_round_trip}
use Rattle.plural_output.specs.Text.{output_text}
use Rattle.plural_output.specs.Value.{output_of}
use Rattle.plural_output.specs.Answer.{IsOutput}
use Rattle.plural_output.proofs.ReadOutput.{AtImage, is_output, value_is}
use Rattle.plural_made.proofs.LineNumbers.{lines_from, lines_again, faultless_again, closed_again, image_reads, image_again}
use Rattle.plural_made.proofs.SectionLines.{image_stays, image_ends}
use Rattle.plural_made.proofs.TextLines.{lines_both, image_cut}
use Rattle.plural_promise.proofs.LogText.{log_ends, log_stays, lines_have_text, log_again, log_reads}

-- The image lines, of which the first has this number, have no fault, and spell the image.
images_read : (m : MapValue) (words : List ℕ) (n : ℕ) → IsMap m → IsMemory m words → IsFaultless (image.Breaks m.words) (lines_from n (image_text words)) × (image_of m.words (lines_from n (image_text words)) ≡ words)
images_read m words n limits memory =
    let first = lines_from 1 (image_text words) in
    let here = lines_from n (image_text words) in
    let many = memory.all in
    let whole : length words ≡ 8 * (m.words / 8) = omega (arith, many, limits.words_whole) in
    let small : AllByRecursion (λ w. w < 4294967296) words = recursion_from_All (λ w. w < 4294967296) words memory.each in
    let read = image_round_trip words (m.words / 8) whole (omega (arith, many, limits.words_high)) small in
    let there = subst (λ w. IsFaultless (image.Breaks w) first × (image_of w first ≡ words)) many read in
    let same = lines_again 1 n (image_text words) in
    (faultless_again (image.Breaks m.words) first here (image_reads m.words) same there.0, sym (image_again m.words first here same) ∙ there.1)

-- The lines of a printed output, of which the first has this number, are an output, and spell the log and the memory.
pub output_read : (m : MapValue) (l : LogValue) (words : List ℕ) (n end : ℕ) → IsMap m → AreNamed m.tasks → IsLog m l → IsMemory m words
    → IsOutput m.tasks m.words (lines_from n (output_text m l words)) end × (output_of m.tasks m.words (lines_from n (output_text m l words)) ≡ record { log = l; image = words })
output_read m l words n end limits named fits memory =
    let tasks = m.tasks in
    let at = n + length (pieces (log_text m l)) in
    let last = at + 1 + length (pieces (image_text words)) in
    let logs = lines_from n (log_text m l) in
    let first = content_lines (log_text m l) in
    let images = lines_from (at + 1) (image_text words) in
    let more : List TextLine = images ++ (last, codes "[end]") ∷ [] in
    let back : List TextLine = (at, codes "[image]") ∷ more in
    let all : List TextLine = logs ++ back in
    let cut : lines_from n (output_text m l words) ≡ all =
    lines_both n (log_text m l) _ (log_ends m l) ∙ ap (λ x. logs ++ x) (image_cut at last (image_text words) (image_ends words) refl) in
    let same = lines_again 1 n (log_text m l) in
    let read = log_round_trip m l at limits named fits in
    let good : IsFaultless (log.Breaks tasks) (closed logs at) = faultless_again (log.Breaks tasks) (closed first at) (closed logs at) (log_reads tasks) (closed_again first logs at at same) read.0 in
    let log_is : l ≡ log_of tasks logs = sym read.1 ∙ log_again tasks first logs same in
    let none : NoneCloses logs = log_stays tasks logs (lines_have_text n (log_text m l)) (last_none (log.Breaks tasks) logs (at, []) good).0 in
    let image_read = images_read m words (at + 1) limits memory in
    let stage : AtImage tasks all logs back more images ((last, codes "[end]") ∷ []) at = record {
      at_log = record { own = sym (before_at (λ x. closes x.1) logs (at, codes "[image]") more none refl); whole = refl; shut = refl };
      good = good;
      header = record { number = at; whole = refl };
      own = sym (before_at (λ x. closes x.1) images (last, codes "[end]") [] (image_stays words (at + 1)) refl);
      whole = refl;
      shut = refl;
    } in
    let output = is_output m.words stage end m.words refl image_read.0 (record { number = last; whole = refl }) tt in
    let value = value_is m.words stage m.words l words refl log_is (sym image_read.1) in (
      subst (λ ls. IsOutput tasks m.words ls end) (sym cut) output,
      ap (output_of tasks m.words) cut ∙ sym value,
    )
