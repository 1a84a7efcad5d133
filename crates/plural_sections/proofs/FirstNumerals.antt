-- The first token of a text that begins with decimal digits.
use Rattle.std.proofs.Common.{◌≡◌, ℕ, ◌<◌, ◌≤◌, true, min, List, ◌∷◌, Some, length, take, drop, refl, ap, sym, ◌∙◌, arith, take-append-drop}
use Rattle.std.specs.Prelude.{option_map}
use Rattle.std.specs.List.{list_all}
use Rattle.std.specs.Char.{is_ascii_digit}
use Rattle.std.proofs.lemmas.List.{length-take-le}
use Rattle.plural_bytes.specs.Lines.{is_blank, drop_while, tokens}
use Rattle.plural_bytes.specs.Words.{ends_token}
use Rattle.plural_bytes.specs.Numerals.{value_of}
use Rattle.plural_bytes.proofs.Cuts.{tokens_trimmed}
use Rattle.plural_bytes.proofs.FirstWords.{word_ahead}
use Rattle.plural_bytes.proofs.Decimals.{digits_word, digits_numeral}
use Rattle.plural_sections.specs.Numbers.{first_numeral}

-- Digits after which a token ends are the first token, and its number is what they spell.
pub digits_first : (text trimmed : List ℕ) (n v : ℕ) → trimmed ≡ drop_while is_blank text → n ≤ length trimmed → 0 < n → list_all is_ascii_digit (take n trimmed) ≡ true → v ≡ value_of 10 (take n trimmed)
    → ends_token (drop n trimmed) ≡ true → first_numeral (tokens text) ≡ Some (min v 4294967296, tokens (drop n trimmed))
digits_first text trimmed n v t l some digits value ends =
    let ds = take n trimmed in
    let long : 0 < length ds = omega (arith, length-take-le n trimmed l) in
    let ahead : tokens text ≡ ds ∷ tokens (drop n trimmed) =
    sym (tokens_trimmed text) ∙ ap tokens (sym t) ∙ ap tokens (sym (take-append-drop n trimmed)) ∙ word_ahead ds (drop n trimmed) (digits_word ds long digits) ends in
    ap first_numeral ahead ∙ ap (λ o. option_map (λ m. (m, tokens (drop n trimmed))) (option_map (λ m. min m 4294967296) o)) (digits_numeral ds long digits) ∙ rw value refl
