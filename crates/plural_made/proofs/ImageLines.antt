-- The image of a seed: how many words it has, that each is below 2^32, and that its lines are read.
use Rattle.std.proofs.Common.{◌≡◌, ℕ, ◌+◌, ◌-◌, ◌%◌, ◌<◌, Bool, true, false, cond, List, [], ◌∷◌, length, map, refl, ap, sym, subst, ◌∙◌, arith}
use Rattle.std.specs.Prelude.{◌&&◌, ◌==◌, nat_lt, nat_le}
use Rattle.std.specs.List.{AllByRecursion, range_with_len}
use Rattle.std.proofs.lemmas.List.FromFn.{length-map-range_with_len}
use Rattle.rand_pcg.specs.Lcg.{Lcg}
use Rattle.plural_bytes.specs.Lines.{TextLine}
use Rattle.plural_sections.specs.Faults.{IsFaultless}
use Rattle.plural_image.specs.Image.{Breaks, image_of}
use Rattle.plural_image.specs.Print.{image_text}
use Rattle.plural_image.proofs.ImageRoundTrip.{image_round_trip}
use Rattle.plural_generator.specs.Draws.{generator_of, drawn, made_word, made_image}
use Rattle.plural_made.proofs.LineNumbers as renumbered
use Rattle.plural_made.proofs.LineNumbers.{lines_from, lines_again, faultless_again, image_reads}

-- ---- one word

below : (a b c : Bool) (x y z : ℕ) → cond a (x % 4096) (cond b (1 + y % 16) (cond c (z % 1048576) 0)) < 4294967296
below true b c x y z = omega arith
below false true c x y z = omega arith
below false false true x y z = omega arith
below false false false x y z = omega arith

word_below : (g : Lcg) (i : ℕ) → made_word g i < 4294967296
word_below g i = below (nat_lt i 16399) (nat_le 16400 i && nat_lt i 16416) (i == 32810) (drawn g i) (drawn g (16399 + (i - 16400))) (drawn g 16415)

-- ---- all words

all_mapped : (P : ℕ → Type 0) (f : ℕ → ℕ) (xs : List ℕ) → ((x : ℕ) → P (f x)) → AllByRecursion P (map f xs)
all_mapped P f [] h = tt
all_mapped P f (x ∷ xs) h = (h x, all_mapped P f xs h)

-- The words, by a variable for their number, so that none is computed.
image_is : (seed n : ℕ) → n ≡ 32816 → made_image seed ≡ map (made_word (generator_of seed)) (range_with_len 0 n)
unfolding made_image
image_is seed n e = ap (λ k. map (made_word (generator_of seed)) (range_with_len 0 k)) (sym e)

many : (seed n : ℕ) → n ≡ 32816 → length (made_image seed) ≡ n
many seed n e = ap length (image_is seed n e) ∙ length-map-range_with_len (made_word (generator_of seed)) 0 n

fit : (seed n : ℕ) → n ≡ 32816 → AllByRecursion (λ w. w < 4294967296) (made_image seed)
fit seed n e =
    subst (AllByRecursion (λ w. w < 4294967296)) (sym (image_is seed n e)) (all_mapped (λ w. w < 4294967296) (made_word (generator_of seed)) (range_with_len 0 n) (word_below (generator_of seed)))

image_many : (seed : ℕ) → length (made_image seed) ≡ 32816
image_many seed = many seed 32816 refl

image_fits : (seed : ℕ) → AllByRecursion (λ w. w < 4294967296) (made_image seed)
image_fits seed = fit seed 32816 refl

-- ---- its lines

-- The image lines, of which the first has this number.
abbrev pub images : (seed n : ℕ) → List TextLine
images seed n = lines_from n (image_text (made_image seed))

-- They have no fault, and spell the image.
pub images_read : (seed n words : ℕ) → words ≡ 32816 → IsFaultless (Breaks words) (images seed n) × (image_of words (images seed n) ≡ made_image seed)
images_read seed n words e =
    let image = made_image seed in
    let first = images seed 1 in
    let many : length image ≡ words = image_many seed ∙ sym e in
    let same = lines_again 1 n (image_text image) in
    let read = image_round_trip image 4102 (omega (arith, image_many seed)) (omega (arith, image_many seed)) (image_fits seed) in
    let here = subst (λ w. IsFaultless (Breaks w) first × (image_of w first ≡ image)) many read in
    (faultless_again (Breaks words) first (images seed n) (image_reads words) same here.0, sym (renumbered.image_again words first (images seed n) same) ∙ here.1)
