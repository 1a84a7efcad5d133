-- How long the bytes of a made bundle are at most.
use Rattle.std.proofs.Common.{◌≡◌, ℕ, zero, suc, ◌+◌, ◌*◌, ◌/◌, ◌%◌, ◌≤◌, Bool, true, false, List, [], ◌∷◌, ◌++◌, length, take, drop, map, refl, ap, sym, ◌∙◌, arith}
use Rattle.std.specs.Prelude.{◌==◌, codes, flat_map}
use Rattle.std.specs.List.{list_all, range_with_len}
use Rattle.std.proofs.lemmas.List.{length-append, length-take}
use Rattle.std.proofs.lemmas.List.FromFn.{length-range_with_len, length-map-range_with_len}
use Rattle.plural_bytes.specs.Hexadecimal.{hex_digit, hex_text}
use Rattle.plural_map_text.specs.Print.{map_text}
use Rattle.plural_image.specs.Print.{row_text, row_lines, image_text}
use Rattle.plural_generator.specs.Tasks.{made_map}
use Rattle.plural_generator.specs.Kernels.{kernel_text, fir_text, top_text, best_text, loud_text, quiet_text, done_text}
use Rattle.plural_generator.specs.Draws.{made_word, made_image, generator_of}
use Rattle.plural_generator.specs.Text.{made_text}
use Rattle.std.specs.Fmt.{digits}

-- Two texts in a row are at most as long as both limits together.
pub both : (s t : List ℕ) (a b : ℕ) → length s ≤ a → length t ≤ b → length (s ++ t) ≤ a + b
both s t a b h k = omega (arith, h, k, length-append s t)

-- ---- an image

hex : (k n : ℕ) → length (hex_text k n) ≤ k
hex zero n = omega arith
hex (suc k) n = omega (arith, hex k (n / 16), length-append (hex_text k (n / 16)) (hex_digit (n % 16) ∷ []))

words_length : (ws : List ℕ) → length (flat_map (λ w. 32 ∷ hex_text 8 w) ws) ≤ 9 * length ws
words_length [] = omega arith
words_length (w ∷ ws) = omega (arith, hex 8 w, words_length ws, length-append (32 ∷ hex_text 8 w) (flat_map (λ w. 32 ∷ hex_text 8 w) ws))

row_length : (a : ℕ) (ws : List ℕ) → length ws ≤ 8 → length (row_text a ws ++ 10 ∷ []) ≤ 82
row_length a ws h =
    both (row_text a ws) (10 ∷ []) 81 1 (both (hex_text 8 a ++ 58 ∷ []) _ 9 72 (both (hex_text 8 a) (58 ∷ []) 8 1 (hex 8 a) (omega arith)) (omega (arith, h, words_length ws))) (omega arith)

row_lines_length : (a : ℕ) (ws : List ℕ) → length ws ≤ 8 → length (row_lines a ws) ≤ 82
row_lines_length a ws h = by (list_all (λ w. w == 0) ws) refl
  where
    by : (b : Bool) → list_all (λ w. w == 0) ws ≡ b → length (row_lines a ws) ≤ 82
    by true e = rw e (omega arith)
    by false e = rw e (row_length a ws h)

rows_length : (words rs : List ℕ) → length (flat_map (λ r. row_lines (8 * r) (take 8 (drop (8 * r) words))) rs) ≤ 82 * length rs
rows_length words [] = omega arith
rows_length words (r ∷ rs) =
    let ws = take 8 (drop (8 * r) words) in
    let few : length ws ≤ 8 = omega (arith, length-take 8 (drop (8 * r) words)) in
    omega (arith, row_lines_length (8 * r) ws few, rows_length words rs, length-append (row_lines (8 * r) ws) (flat_map (λ r. row_lines (8 * r) (take 8 (drop (8 * r) words))) rs))

-- An image's text has at most 82 bytes for each row.
pub image_length : (words : List ℕ) → length (image_text words) ≤ 82 * (length words / 8)
image_length words = omega (arith, rows_length words (range_with_len 0 (length words / 8)), length-range_with_len 0 (length words / 8))

-- ---- a made bundle

-- The image's words, by a variable for their number, so that none is computed.
pub image_many : (seed n : ℕ) → n ≡ 32816 → length (made_image seed) ≡ n
unfolding made_image
image_many seed n e = ap (λ k. length (map (made_word (generator_of seed)) (range_with_len 0 k))) (sym e) ∙ length-map-range_with_len (made_word (generator_of seed)) 0 n

map_short : length (map_text made_map) ≤ 4096
unfolding made_map digits
map_short = omega arith

kernels_short : length kernel_text ≤ 4096
unfolding fir_text top_text best_text loud_text quiet_text done_text
kernels_short = omega arith

-- The text of a seed is much shorter than an input may be.
pub made_short : (seed : ℕ) → length (made_text seed) ≤ 16777216
made_short seed =
    let words = image_text (made_image seed) in
    let image = codes "[image]\n" ++ (words ++ codes "[end]\n") in
    let kernels = codes "[kernels]\n" ++ (kernel_text ++ image) in
    let rows : length words ≤ 336364 = omega (arith, image_length (made_image seed), image_many seed 32816 refl) in
    let image_short : length image ≤ 336378 = both (codes "[image]\n") _ 8 336370 (omega arith) (both words (codes "[end]\n") 336364 6 rows (omega arith)) in
    let short : length kernels ≤ 340484 = both (codes "[kernels]\n") _ 10 340474 (omega arith) (both kernel_text image 4096 336378 kernels_short image_short) in
    let whole : length (made_text seed) ≤ 344595 = both (codes "plural 1\n[map]\n") (map_text made_map ++ kernels) 15 344580 (omega arith) (both (map_text made_map) kernels 4096 340484 map_short short) in
    omega (arith, whole)
