-- The words of the image, drawn one after the other.
use Rattle.std.proofs.Common.{◌≡◌, ℕ, zero, suc, ◌+◌, ◌-◌, ◌<◌, ◌≤◌, ◌⊎◌, inl, inr, refl, ap, sym, ◌∙◌, arith, List, [], ◌∷◌, ◌++◌}
use Rattle.std.specs.Prelude.{map, nat_lt, if◌then◌else◌}
use Rattle.std.proofs.lemmas.Bool.{lt-ltb, le-ltb, le-leb, ne_eqb, cases_lt, cases_eq}
use Rattle.std.specs.List.{range_with_len}
use Rattle.std.proofs.lemmas.List.FromFn.{map-range_with_len_more}
use Rattle.rand_pcg.specs.Lcg.{Lcg, next, advance}
use Rattle.rand_pcg.specs.Pcg.{multiplier_64}
use Rattle.rand_pcg.proofs.LcgLemmas.{advance_zero, advance_more}
use Rattle.plural_generator.specs.Draws.{drawn, made_word}
use Rattle.plural_generator.specs.Places.{word_by, generator_after}

-- How many words are drawn before word i of the image.
abbrev pub draws_before : ℕ → ℕ
draws_before i = if nat_lt i 16400 then i else if nat_lt i 16416 then i - 1 else if nat_lt i 32811 then 16415 else 16416

-- The generator before word i of the image.
abbrev pub generator_at : Lcg → ℕ → Lcg
generator_at g i = advance 64 multiplier_64 (draws_before i) g

-- One step after n steps is n + 1 steps.
pub one_step_more : (n : ℕ) (g : Lcg) → next 64 multiplier_64 (advance 64 multiplier_64 n g) ≡ advance 64 multiplier_64 (n + 1) g
one_step_more zero g = ap (next 64 multiplier_64) (advance_zero 64 multiplier_64 g) ∙ sym (sym (advance_more 64 multiplier_64 0 g) ∙ advance_zero 64 multiplier_64 (next 64 multiplier_64 g))
one_step_more (suc n) g =
    let s : suc n ≡ n + 1 = omega arith in
    rw s (ap (next 64 multiplier_64) (sym (advance_more 64 multiplier_64 n g)) ∙ one_step_more n (next 64 multiplier_64 g) ∙ advance_more 64 multiplier_64 (n + 1) g)

-- ---- how many are drawn before, part by part

before_samples : (i : ℕ) → i < 16400 → draws_before i ≡ i
before_samples i h = rw (lt-ltb i 16400 h) refl

before_taps : (i : ℕ) → 16400 ≤ i → i < 16416 → draws_before i ≡ i - 1
before_taps i low high = rw (le-ltb i 16400 low, lt-ltb i 16416 high) refl

before_limit : (i : ℕ) → 16416 ≤ i → i < 32811 → draws_before i ≡ 16415
before_limit i low high = rw (le-ltb i 16400 (omega arith), le-ltb i 16416 low, lt-ltb i 32811 high) refl

after_limit : (i : ℕ) → 32811 ≤ i → draws_before i ≡ 16416
after_limit i low = rw (le-ltb i 16400 (omega arith), le-ltb i 16416 (omega arith), le-ltb i 32811 low) refl

-- ---- one word

-- Word i by the generator at its turn is word i of the image.
pub word_here : (g : Lcg) (i : ℕ) → word_by (generator_at g i) i ≡ made_word g i
unfolding drawn
word_here g i = by_samples (cases_lt i 16399)
  where
    by_limit : 16416 ≤ i → (i ≡ 32810) ⊎ (i ≡ 32810 → ⊥) → word_by (generator_at g i) i ≡ made_word g i
    by_limit low (inl e) = rw e refl
    by_limit low (inr n) = rw (le-ltb i 16399 (omega arith), le-leb 16400 i (omega arith), le-ltb i 16416 low, ne_eqb i 32810 n) refl

    by_taps : 16400 ≤ i → (i < 16416) ⊎ (16416 ≤ i) → word_by (generator_at g i) i ≡ made_word g i
    by_taps low (inl h) =
        let place : 16399 + (i - 16400) ≡ i - 1 = omega arith in
        rw (before_taps i low h, le-ltb i 16399 (omega arith), le-leb 16400 i low, lt-ltb i 16416 h, place) refl
    by_taps low (inr h) = by_limit h (cases_eq i 32810)

    by_gap : 16399 ≤ i → (i ≡ 16399) ⊎ (i ≡ 16399 → ⊥) → word_by (generator_at g i) i ≡ made_word g i
    by_gap low (inl e) = rw e refl
    by_gap low (inr n) = by_taps (omega arith) (cases_lt i 16416)

    by_samples : (i < 16399) ⊎ (16399 ≤ i) → word_by (generator_at g i) i ≡ made_word g i
    by_samples (inl h) = rw (before_samples i (omega arith), lt-ltb i 16399 h) refl
    by_samples (inr h) = by_gap h (cases_eq i 16399)

-- ---- the generator after one word

after_sample : (h : Lcg) (i : ℕ) → i < 16399 → generator_after h i ≡ next 64 multiplier_64 h
after_sample h i l = rw (lt-ltb i 16399 l) refl

after_tap : (h : Lcg) (i : ℕ) → 16400 ≤ i → i < 16416 → generator_after h i ≡ next 64 multiplier_64 h
after_tap h i low high = rw (le-ltb i 16399 (omega arith), le-leb 16400 i low, lt-ltb i 16416 high) refl

after_zero : (h : Lcg) (i : ℕ) → 16416 ≤ i → (i ≡ 32810 → ⊥) → generator_after h i ≡ h
after_zero h i low n = rw (le-ltb i 16399 (omega arith), le-leb 16400 i (omega arith), le-ltb i 16416 low, ne_eqb i 32810 n) refl

-- A word that is drawn moves the generator one step on.
moved : (g : Lcg) (i n : ℕ) → draws_before i ≡ n → draws_before (i + 1) ≡ n + 1 → generator_after (generator_at g i) i ≡ next 64 multiplier_64 (generator_at g i) → generator_after (generator_at g i) i ≡ generator_at g (i + 1)
moved g i n a b e =
    e ∙ ap (λ (k : ℕ). next 64 multiplier_64 (advance 64 multiplier_64 k g)) a ∙ one_step_more n g ∙ sym (ap (λ (k : ℕ). advance 64 multiplier_64 k g) b)

-- A word that isn't drawn leaves the generator as it is.
stayed : (g : Lcg) (i n : ℕ) → draws_before i ≡ n → draws_before (i + 1) ≡ n → generator_after (generator_at g i) i ≡ generator_at g i → generator_after (generator_at g i) i ≡ generator_at g (i + 1)
stayed g i n a b e = e ∙ ap (λ (k : ℕ). advance 64 multiplier_64 k g) (a ∙ sym b)

-- The generator after word i is the generator before the next word.
pub generator_next : (g : Lcg) (i : ℕ) → generator_after (generator_at g i) i ≡ generator_at g (i + 1)
generator_next g i = by_samples (cases_lt i 16399)
  where
    by_end : 16416 ≤ i → (i ≡ 32810 → ⊥) → (i < 32810) ⊎ (32810 ≤ i) → generator_after (generator_at g i) i ≡ generator_at g (i + 1)
    by_end low n (inl h) = stayed g i 16415 (before_limit i low (omega arith)) (before_limit (i + 1) (omega arith) (omega arith)) (after_zero (generator_at g i) i low n)
    by_end low n (inr h) =
        let above : 32811 ≤ i = grind arith in
        stayed g i 16416 (after_limit i above) (after_limit (i + 1) (omega arith)) (after_zero (generator_at g i) i low n)

    by_limit : 16416 ≤ i → (i ≡ 32810) ⊎ (i ≡ 32810 → ⊥) → generator_after (generator_at g i) i ≡ generator_at g (i + 1)
    by_limit low (inl e) = moved g i 16415 (rw e refl) (rw e refl) (rw e refl)
    by_limit low (inr n) = by_end low n (cases_lt i 32810)

    by_last : 16400 ≤ i → i < 16416 → (i ≡ 16415) ⊎ (i ≡ 16415 → ⊥) → generator_after (generator_at g i) i ≡ generator_at g (i + 1)
    by_last low h (inl e) = moved g i 16414 (rw e refl) (rw e refl) (rw e refl)
    by_last low h (inr n) =
        let within : i + 1 < 16416 = grind arith in
        let one_more : i + 1 - 1 ≡ i - 1 + 1 = omega arith in
        moved g i (i - 1) (before_taps i low h) (before_taps (i + 1) (omega arith) within ∙ one_more) (after_tap (generator_at g i) i low h)

    by_taps : 16400 ≤ i → (i < 16416) ⊎ (16416 ≤ i) → generator_after (generator_at g i) i ≡ generator_at g (i + 1)
    by_taps low (inl h) = by_last low h (cases_eq i 16415)
    by_taps low (inr h) = by_limit h (cases_eq i 32810)

    by_gap : 16399 ≤ i → (i ≡ 16399) ⊎ (i ≡ 16399 → ⊥) → generator_after (generator_at g i) i ≡ generator_at g (i + 1)
    by_gap low (inl e) = stayed g i 16399 (rw e refl) (rw e refl) (rw e refl)
    by_gap low (inr n) =
        let above : 16400 ≤ i = grind arith in
        by_taps above (cases_lt i 16416)

    by_samples : (i < 16399) ⊎ (16399 ≤ i) → generator_after (generator_at g i) i ≡ generator_at g (i + 1)
    by_samples (inl h) = moved g i i (before_samples i (omega arith)) (before_samples (i + 1) (omega arith)) (after_sample (generator_at g i) i h)
    by_samples (inr h) = by_gap h (cases_eq i 16399)

-- ---- the whole image

-- One word more of the image.
pub words_more : (g : Lcg) (i : ℕ) (words new : List ℕ) (w : ℕ) → words ≡ map (made_word g) (range_with_len 0 i) → w ≡ word_by (generator_at g i) i → new ≡ words ++ w ∷ [] → new ≡ map (made_word g) (range_with_len 0 (i + 1))
words_more g i words new w before e n =
    n ∙ ap (λ (x : ℕ). words ++ x ∷ []) (e ∙ word_here g i) ∙ ap (λ (xs : List ℕ). xs ++ made_word g i ∷ []) before ∙ sym (map-range_with_len_more (made_word g) 0 i i (omega arith))
