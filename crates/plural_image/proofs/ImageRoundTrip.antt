-- The printed rows, read from one on.
use Rattle.std.proofs.Common.{◌≡◌, ℕ, zero, suc, ◌+◌, ◌*◌, ◌-◌, ◌/◌, ◌<◌, ◌≤◌, true, false, eqb, List, [], ◌∷◌, ◌++◌, length, take, drop, replicate, refl, ap, sym, ◌∙◌, arith, append_assoc, inl, inr}
use Rattle.std.specs.Prelude.{flat_map, ◌==◌}
use Rattle.std.specs.List.{list_all, range_with_len, AllByRecursion}
use Rattle.std.proofs.Math.Seq.{take-add}
use Rattle.std.proofs.lemmas.Bool.{cases_Bool, and_parts, eqb-true}
use Rattle.std.proofs.lemmas.List.{take_at, drop_at, take_all, length-take, length-drop, drop-drop, drop-replicate, append-nil, replicate-append-replicate}
use Rattle.plural_bytes.specs.Lines.{TextLine, pieces, content_from, content_lines}
use Rattle.plural_sections.specs.Faults.{IsFaultless}
use Rattle.plural_image.specs.Image.{Breaks, overwritten, image_of}
use Rattle.plural_image.specs.Print.{row_text, row_lines, image_text}
use Rattle.plural_image.proofs.ReadImage.{Reads, reads_nothing, reads_push}
use Rattle.plural_image.proofs.RowRoundTrip.{row_back, row_first}

-- ---- lists

all_zero : (xs : List ℕ) → list_all (λ w. w == 0) xs ≡ true → xs ≡ replicate (length xs) 0
all_zero [] h = refl
all_zero (x ∷ xs) h =
    let p = and_parts (eqb x 0) (list_all (λ w. w == 0) xs) h in
    let e : x ≡ 0 = eqb-true x 0 p.0 in
    rw e (ap (λ ys. 0 ∷ ys) (all_zero xs p.1))

-- the first so many words, and zeros
abbrev pub so_far : ℕ → List ℕ → ℕ → List ℕ
so_far w words k = take k words ++ replicate (w - k) 0

abbrev row : List ℕ → ℕ → List ℕ
row words k = take 8 (drop k words)

length_row : (words : List ℕ) (k : ℕ) → k + 8 ≤ length words → length (row words k) ≡ 8
length_row words k h = omega (arith, length-take 8 (drop k words), length-drop k words)

so_far_written : (w : ℕ) (words : List ℕ) (k : ℕ) → length words ≡ w → k + 8 ≤ w → so_far w words (k + 8) ≡ overwritten (so_far w words k) k (row words k)
so_far_written w words k n h =
    let inside : k + 8 ≤ length words = omega (arith, n, h) in
    let front : length (take k words) ≡ k = omega (arith, length-take k words, inside) in
    let z = replicate (w - k) 0 in
    let t : take k (take k words ++ z) ≡ take k words = take_at (take k words) z k front in
    let l = length_row words k inside in
    let d : drop (k + 8) (take k words ++ z) ≡ replicate (w - (k + 8)) 0 =
    sym (drop-drop 8 k (take k words ++ z)) ∙ ap (drop 8) (drop_at (take k words) z k front) ∙ drop-replicate {X = ℕ} 8 (w - k) 0 ∙ ap (λ m. replicate m 0) (omega arith) in
    rw (t, l, d) (ap (λ x. x ++ replicate (w - (k + 8)) 0) (take-add k 8 words) ∙ append_assoc (take k words) (row words k) (replicate (w - (k + 8)) 0))

so_far_zero : (w : ℕ) (words : List ℕ) (k : ℕ) → length words ≡ w → k + 8 ≤ w → list_all (λ w. w == 0) (row words k) ≡ true → so_far w words (k + 8) ≡ so_far w words k
so_far_zero w words k n h zero_row =
    let inside : k + 8 ≤ length words = omega (arith, n, h) in
    let r : row words k ≡ replicate 8 0 = all_zero (row words k) zero_row ∙ ap (λ m. replicate m 0) (length_row words k inside) in
    let split : replicate (w - k) 0 ≡ replicate 8 0 ++ replicate (w - (k + 8)) 0 =
    ap (λ m. replicate {A = ℕ} m 0) (omega arith) ∙ sym (replicate-append-replicate {A = ℕ} 8 (w - (k + 8)) 0) in
    ap (λ x. x ++ replicate (w - (k + 8)) 0) (take-add k 8 words ∙ ap (λ x. take k words ++ x) r) ∙ append_assoc (take k words) (replicate 8 0) (replicate (w - (k + 8)) 0) ∙ ap (λ x. take k words ++ x) (sym split)

-- ---- reading them

-- what reading makes of the rows from one on
pub record ReadsRows (w n : ℕ) (words : List ℕ) (before : List TextLine) (text : List ℕ) : Type 0 where
  pub floor : ℕ
  pub reads : Reads w (before ++ content_from n (pieces text)) words floor

words_fit : (words : List ℕ) (k m : ℕ) → AllByRecursion (λ w. w < 4294967296) words → AllByRecursion (λ w. w < 4294967296) (take m (drop k words))
words_fit [] zero zero h = tt
words_fit [] zero (suc m) h = tt
words_fit [] (suc k) zero h = tt
words_fit [] (suc k) (suc m) h = tt
words_fit (x ∷ xs) (suc k) m h = words_fit xs k m h.1
words_fit (x ∷ xs) zero zero h = tt
words_fit (x ∷ xs) zero (suc m) h = (h.0, words_fit xs zero m h.1)

abbrev rows_text : List ℕ → ℕ → ℕ → List ℕ
rows_text words r m = flat_map (λ r. row_lines (8 * r) (take 8 (drop (8 * r) words))) (range_with_len r m)

abbrev Continues : ℕ → List ℕ → ℕ → Type 0
Continues w words m = (n r floor : ℕ) (before : List TextLine) → 8 * r + 8 * m ≡ w → floor ≤ 8 * r → Reads w before (so_far w words (8 * r)) floor → ReadsRows w n words before (rows_text words r m)

zero_step : (w : ℕ) (words : List ℕ) (m : ℕ) → length words ≡ w → Continues w words m → (n r floor : ℕ) (before : List TextLine) → 8 * r + 8 * suc m ≡ w → floor ≤ 8 * r
    → Reads w before (so_far w words (8 * r)) floor → list_all (λ w. w == 0) (row words (8 * r)) ≡ true → ReadsRows w n words before (rows_text words r (suc m))
zero_step w words m len ih n r floor before e f reads z =
    let k : 8 * (r + 1) ≡ 8 * r + 8 = omega arith in
    let kept : so_far w words (8 * (r + 1)) ≡ so_far w words (8 * r) = ap (so_far w words) k ∙ so_far_zero w words (8 * r) len (omega arith) z in
    let rest = ih n (r + 1) floor before (omega arith) (omega arith) (rw kept reads) in
    rw z rest

row_step : (w : ℕ) (words : List ℕ) (m : ℕ) → length words ≡ w → w ≤ 1048576 → AllByRecursion (λ w. w < 4294967296) words → Continues w words m → (n r floor : ℕ) (before : List TextLine) → 8 * r + 8 * suc m ≡ w → floor ≤ 8 * r
    → Reads w before (so_far w words (8 * r)) floor → list_all (λ w. w == 0) (row words (8 * r)) ≡ false → ReadsRows w n words before (rows_text words r (suc m))
row_step w words m len small fit ih n r floor before e f reads z =
    let k : 8 * (r + 1) ≡ 8 * r + 8 = omega arith in
    let ws = row words (8 * r) in
    let l = length_row words (8 * r) (omega (arith, len)) in
    let shape = row_back (8 * r) ws (omega arith) l (words_fit words (8 * r) 8 fit) in
    let written : so_far w words (8 * (r + 1)) ≡ overwritten (so_far w words (8 * r)) (8 * r) ws = ap (so_far w words) k ∙ so_far_written w words (8 * r) len (omega arith) in
    let one = reads_push w before (n, row_text (8 * r) ws) (so_far w words (8 * r)) (so_far w words (8 * (r + 1))) floor (8 * r) ws reads shape (omega (arith, l)) f written in
    let rest = ih (n + 1) (r + 1) (8 * r + length ws) (before ++ (n, row_text (8 * r) ws) ∷ []) (omega arith) (omega (arith, l)) one in
    let text : rows_text words r (suc m) ≡ row_text (8 * r) ws ++ 10 ∷ rows_text words (r + 1) m = rw z (append_assoc (row_text (8 * r) ws) (10 ∷ []) (rows_text words (r + 1) m)) in
    let lines : before ++ content_from n (pieces (rows_text words r (suc m))) ≡ (before ++ (n, row_text (8 * r) ws) ∷ []) ++ content_from (n + 1) (pieces (rows_text words (r + 1) m)) =
    ap (λ t. before ++ content_from n (pieces t)) text ∙ ap (λ x. before ++ x) (row_first n (8 * r) ws (rows_text words (r + 1) m)) ∙ sym (append_assoc before ((n, row_text (8 * r) ws) ∷ []) (content_from (n + 1) (pieces (rows_text words (r + 1) m)))) in
    record { floor = rest.floor; reads = rw lines rest.reads }

rows_read : (w : ℕ) (words : List ℕ) → length words ≡ w → w ≤ 1048576 → AllByRecursion (λ w. w < 4294967296) words → (m : ℕ) → Continues w words m
rows_read w words len small fit zero n r floor before e f reads =
    let all : so_far w words (8 * r) ≡ words = ap (so_far w words) (let g : 8 * r ≡ w = omega arith in g) ∙ ap (λ x. x ++ replicate (w - w) 0) (take_all w words (omega (arith, len))) ∙ ap (λ m. words ++ replicate m 0) (let g : w - w ≡ 0 = omega arith in g) ∙ append-nil words in
    record { floor = floor; reads = rw (append-nil before, ← all) reads }
rows_read w words len small fit (suc m) n r floor before e f reads =
    elim (cases_Bool (list_all (λ w. w == 0) (row words (8 * r)))) [
      | inl z ↦ zero_step w words m len (rows_read w words len small fit m) n r floor before e f reads z
      | inr z ↦ row_step w words m len small fit (rows_read w words len small fit m) n r floor before e f reads z
    ]

-- The lines of a printed image are read as that image.
pub image_round_trip : (words : List ℕ) (rows : ℕ) → length words ≡ 8 * rows → length words ≤ 1048576 → AllByRecursion (λ w. w < 4294967296) words
    → IsFaultless (Breaks (length words)) (content_lines (image_text words)) × (image_of (length words) (content_lines (image_text words)) ≡ words)
image_round_trip words rows e small fit =
    let w = length words in
    let start : so_far w words (8 * 0) ≡ replicate w 0 = ap (λ m. replicate {A = ℕ} m 0) (let z : w - 0 ≡ w = omega arith in z) in
    let all = rows_read w words refl small fit rows 1 0 0 [] (omega (arith, e)) (omega arith) (reads_nothing w (so_far w words (8 * 0)) start) in
    let n : w / 8 ≡ rows = omega (arith, e) in
    rw n (all.reads.known.faultless, sym all.reads.image)
