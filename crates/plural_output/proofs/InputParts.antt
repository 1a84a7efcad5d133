-- The parts of a verifier's input as cuts of the definitions' lines.
use Rattle.std.proofs.Common.{◌≡◌, ℕ, ◌+◌, List, take, drop, ap, sym, ◌∙◌}
use Rattle.std.specs.Prelude.{codes, bytes_eq}
use Rattle.std.specs.List.{position_or_len, after_first}
use Rattle.std.proofs.lemmas.List.{take-map, drop-map}
use Rattle.plural_base.proofs.ListTests.{position_map}
use Rattle.plural_bytes.specs.declared.lines.Line.{Line}
use Rattle.plural_bytes.specs.Spelled.{text_line, text_lines}
use Rattle.plural_output.specs.Parts.{is_end, bundle_part, output_part}

-- Lines up to the first `[end]` are the bundle's.
pub bundle_is : (xs : List Line) (n : ℕ) → take n xs ≡ take (position_or_len (λ (l : Line). bytes_eq l.text.now (codes "[end]")) xs + 1) xs → text_lines (take n xs) ≡ bundle_part (text_lines xs)
bundle_is xs n e =
    ap text_lines e ∙ sym (take-map text_line (position_or_len (λ (l : Line). bytes_eq l.text.now (codes "[end]")) xs + 1) xs)
    ∙ ap (λ m. take (m + 1) (text_lines xs)) (sym (position_map is_end text_line xs))

-- Lines after the first `[end]` are the output's.
pub output_is : (xs : List Line) (n : ℕ) → drop n xs ≡ after_first (λ (l : Line). bytes_eq l.text.now (codes "[end]")) xs → text_lines (drop n xs) ≡ output_part (text_lines xs)
output_is xs n e =
    ap text_lines e ∙ sym (drop-map text_line (position_or_len (λ (l : Line). bytes_eq l.text.now (codes "[end]")) xs + 1) xs)
    ∙ ap (λ m. drop (m + 1) (text_lines xs)) (sym (position_map is_end text_line xs))
