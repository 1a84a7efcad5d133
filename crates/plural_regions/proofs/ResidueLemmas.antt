-- Multiples with a small remainder: one step of Euclid's descent.
use Rattle.std.proofs.Common.{ℕ, zero, suc, ◌≡◌, ◌+◌, ◌-◌, ◌*◌, ◌/◌, ◌%◌, ◌<◌, ◌≤◌, arith, sym, ap, ◌∙◌, ⊎_elim}
use Rattle.std.proofs.Math.Nat.{add-mod, mod-le, mod-add-mod, div-add-mod, add-mul-mod_self_left, mod-eq_of_lt, mul-le-mul_right, mul-le-mul_left}
use Rattle.std.proofs.lemmas.Nat.{mul-mod_first, mod-mul-add, le-div, div_below, div-add-mod', mod_below}
use Rattle.std.proofs.lemmas.Bool.{cases_lt}
use Rattle.plural_regions.specs.Residue.{IsLeastResidue, HasNoResidue}

-- A factor and a shift may be taken by their remainders.
pub reduced : (a b m x : ℕ) → (a * x + b) % m ≡ (a % m * x + b % m) % m
reduced a b m x =
    let l : (a * x + b) % m ≡ ((a * x) % m + b % m) % m = add-mod (a * x) b m in
    let r : ((a % m * x) % m + b % m) % m ≡ (a % m * x + b % m) % m = mod-add-mod (a % m * x) m (b % m) in
    l ∙ (ap (λ (y : ℕ). (y + b % m) % m) (sym (mul-mod_first a x m)) ∙ r)

-- The remainder of what a pass leaves, if v stands x steps after it.
left_after : (s hi v x y : ℕ) → v ≤ hi → y ≡ (hi - v) + s * x → y % s ≤ hi
left_after s hi v x y small e =
    let f : y % s ≡ (hi - v) % s = ap (λ (z : ℕ). z % s) e ∙ add-mul-mod_self_left (hi - v) s x in
    omega (arith, f, mod-le (hi - v) s)

-- A number whose remainder is small lies after a pass of the modulus, and that pass is followed by a small one.
pub to_pass : (s b m hi x : ℕ) → hi < b → b < m → (s * x + b) % m ≤ hi → (w : ℕ) × ((w + 1) * m ≤ s * x + b) × ((m * w + (hi + (m - b))) % s ≤ hi)
to_pass s b m hi x low high small = by_passes ((s * x + b) / m) (div-add-mod (s * x + b) m)
  where
    by_passes : (q : ℕ) → m * q + (s * x + b) % m ≡ s * x + b → (w : ℕ) × ((w + 1) * m ≤ s * x + b) × ((m * w + (hi + (m - b))) % s ≤ hi)
    by_passes zero e = absurd (omega arith)
    by_passes (suc w) e = (w, omega arith, left_after s hi ((s * x + b) % m) x (m * w + (hi + (m - b))) small (omega arith))

-- The first number after a pass stands less than one step after it.
pub first_after : (s t : ℕ) → 0 < s → 1 ≤ t → (v : ℕ) × (v < s) × (s * ((t - 1) / s + 1) ≡ t + v)
first_after s t p h =
    let e = div-add-mod (t - 1) s in
    let l : (t - 1) % s < s = mod_below (t - 1) s p in
    (s - 1 - (t - 1) % s, omega arith, omega arith)

-- If the first number after a pass stands v after it and the pass is followed by a small remainder, v is small.
small_after : (s hi v x y : ℕ) → v < s → y + v ≡ hi + s * x → 1 ≤ x → y % s ≤ hi → v ≤ hi
small_after s hi v zero y l e h small = absurd (omega arith)
small_after s hi v (suc x) y l e h small = ⊎_elim (λ (p : hi < v). absurd (large p)) (λ (p : v ≤ hi). p) (cases_lt hi v)
  where
    large : hi < v → ⊥
    large p =
        let f : y ≡ (s - (v - hi)) + s * x = omega arith in
        let g : y % s ≡ (s - (v - hi)) % s = ap (λ (z : ℕ). z % s) f ∙ add-mul-mod_self_left (s - (v - hi)) s x in
        let k : (s - (v - hi)) % s ≡ s - (v - hi) = mod-eq_of_lt (omega arith) in
        omega arith

-- The first number after a pass that is followed by a small remainder has this remainder.
pub from_pass : (s b m hi w : ℕ) → 0 < s → s < m → hi < b → b < m → (m * w + (hi + (m - b))) % s ≤ hi → (s * (((w + 1) * m - b - 1) / s + 1) + b) % m ≤ hi
from_pass s b m hi w p below low high small = by_first (first_after s ((w + 1) * m - b) p (omega arith))
  where
    by_first : (v : ℕ) × (v < s) × (s * (((w + 1) * m - b - 1) / s + 1) ≡ (w + 1) * m - b + v) → (s * (((w + 1) * m - b - 1) / s + 1) + b) % m ≤ hi
    by_first h =
        let v = h.0 in
        let l : v < s = h.1 in
        let e : s * (((w + 1) * m - b - 1) / s + 1) ≡ (w + 1) * m - b + v = h.2 in
        let x = ((w + 1) * m - b - 1) / s + 1 in
        let c : v ≤ hi = small_after s hi v x (m * w + (hi + (m - b))) l (omega arith) (omega arith) small in
        let f : s * x + b ≡ (w + 1) * m + v = omega arith in
        let g : (s * x + b) % m ≡ v = ap (λ (z : ℕ). z % m) f ∙ mod-mul-add (w + 1) m v (omega arith) in
        omega arith

-- The first number after a pass comes before any other after it.
pub pass_first : (s b m w y : ℕ) → 0 < s → b < m → (w + 1) * m ≤ s * y + b → ((w + 1) * m - b - 1) / s + 1 ≤ y
pass_first s b m w y p high h =
    let t : (w + 1) * m - b - 1 < y * s = omega arith in
    omega (arith, div_below ((w + 1) * m - b - 1) s y p t)

-- A pass that a number below n lies after is one of those counted.
pub pass_counted : (s b m n w x : ℕ) → 0 < m → x < n → (w + 1) * m ≤ s * x + b → w < (s * (n - 1) + b) / m
pass_counted s b m n w x p l h =
    let k : s * x ≤ s * (n - 1) = mul-le-mul_left s (omega arith) in
    omega (arith, le-div (w + 1) (s * (n - 1) + b) m p (omega arith))

-- A pass that is counted has a number below n after it.
pub counted_pass : (s b m n w : ℕ) → w < (s * (n - 1) + b) / m → (w + 1) * m ≤ s * (n - 1) + b
counted_pass s b m n w h =
    let k : (w + 1) * m ≤ (s * (n - 1) + b) / m * m = mul-le-mul_right m (omega arith) in
    omega (arith, div-add-mod' (s * (n - 1) + b) m)

-- The counted passes are fewer than n.
pub few_passes : (s b m n : ℕ) → 1 ≤ n → s < m → b < m → (s * (n - 1) + b) / m < n
few_passes s b m n h l k = by_last (n - 1) (omega arith)
  where
    by_last : (j : ℕ) → n ≡ j + 1 → (s * j + b) / m < n
    by_last j e =
        let f : s * j ≤ m * j = mul-le-mul_right j (omega arith) in
        let g : n * m ≡ (j + 1) * m = ap (λ (z : ℕ). z * m) e in
        div_below (s * j + b) m n (omega arith) (omega arith)

-- ---- the answers of one step

-- Without a step all remainders are the start.
pub none_still : (n a b m hi : ℕ) → 0 < m → a % m ≡ 0 → hi < b % m → HasNoResidue n a b m hi
none_still n a b m hi p e low = λ x l.
    let f = reduced a b m x in
    let g : a % m * x + b % m ≡ b % m = rw e (omega arith) in
    let h : (a % m * x + b % m) % m ≡ b % m % m = ap (λ (z : ℕ). z % m) g in
    let i : b % m % m ≡ b % m = mod-eq_of_lt (mod_below b m p) in
    omega arith

-- If no pass is followed by a small remainder, no number below n has one.
pub none_passes : (n a b m hi : ℕ) → 0 < m → hi < b % m → HasNoResidue ((a % m * (n - 1) + b % m) / m) m (hi + (m - b % m)) (a % m) hi → HasNoResidue n a b m hi
none_passes n a b m hi p low none = λ x l. rw (reduced a b m x) (⊎_elim (λ (h : hi < (a % m * x + b % m) % m). h) (λ (h : (a % m * x + b % m) % m ≤ hi). absurd (small x l h)) (cases_lt hi ((a % m * x + b % m) % m)))
  where
    small : (x : ℕ) → x < n → (a % m * x + b % m) % m ≤ hi → ⊥
    small x l h =
        let w = to_pass (a % m) (b % m) m hi x low (mod_below b m p) h in
        let k : hi < (m * w.0 + (hi + (m - b % m))) % (a % m) = none w.0 (pass_counted (a % m) (b % m) m n w.0 x p l w.1) in
        let i : (m * w.0 + (hi + (m - b % m))) % (a % m) ≤ hi = w.2 in
        omega arith

-- The number after the first pass that is followed by a small remainder is the least with one.
pub found_pass : (n a b m hi w : ℕ) → 0 < m → 1 ≤ n → hi < b % m → 0 < a % m → IsLeastResidue ((a % m * (n - 1) + b % m) / m) m (hi + (m - b % m)) (a % m) hi w
    → IsLeastResidue n a b m hi (((w + 1) * m - b % m - 1) / (a % m) + 1)
found_pass n a b m hi w p some low moves first = record {
  below =
      let c = counted_pass (a % m) (b % m) m n w first.below in
      let f = pass_first (a % m) (b % m) m w (n - 1) moves (mod_below b m p) c in
      omega arith;
  small = rw (reduced a b m (((w + 1) * m - b % m - 1) / (a % m) + 1)) (from_pass (a % m) (b % m) m hi w moves (mod_below a m p) low (mod_below b m p) first.small);
  least = λ y l. rw (reduced a b m y) (⊎_elim (λ (h : hi < (a % m * y + b % m) % m). h) (λ (h : (a % m * y + b % m) % m ≤ hi). absurd (earlier y l h)) (cases_lt hi ((a % m * y + b % m) % m)));
}
  where
    earlier : (y : ℕ) → y < ((w + 1) * m - b % m - 1) / (a % m) + 1 → (a % m * y + b % m) % m ≤ hi → ⊥
    earlier y l h = by_pass (to_pass (a % m) (b % m) m hi y low (mod_below b m p) h)
      where
        by_pass : (v : ℕ) × ((v + 1) * m ≤ a % m * y + b % m) × ((m * v + (hi + (m - b % m))) % (a % m) ≤ hi) → ⊥
        by_pass g = ⊎_elim
            (λ (k : g.0 < w).
            let i : hi < (m * g.0 + (hi + (m - b % m))) % (a % m) = first.least g.0 k in
            let j : (m * g.0 + (hi + (m - b % m))) % (a % m) ≤ hi = g.2 in
            absurd (omega arith))
            (λ (k : w ≤ g.0).
            let i : (w + 1) * m ≤ (g.0 + 1) * m = mul-le-mul_right m (omega arith) in
            let j : (g.0 + 1) * m ≤ a % m * y + b % m = g.1 in
            let f = pass_first (a % m) (b % m) m w y moves (mod_below b m p) (omega arith) in
            omega arith)
            (cases_lt g.0 w)
