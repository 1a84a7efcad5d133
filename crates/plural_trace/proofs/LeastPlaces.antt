-- The least place at which a test holds.
use Rattle.std.proofs.Common.{◌≡◌, ℕ, zero, suc, ◌+◌, ◌-◌, ◌<◌, ◌≤◌, Bool, true, false, eqb, cond, Option, Some, None, refl, sym, ap, subst, ◌∙◌, arith, eqb-true, inl, inr}
use Rattle.std.specs.Option.{option_or}
use Rattle.std.proofs.lemmas.Bool.{cases_Bool, cases_eq}
use Rattle.std.proofs.lemmas.Bool.Decides.{nat_tests}
use Rattle.std.proofs.Common.{⊎_elim}
use Rattle.plural_trace.specs.Least.{least, Nowhere, IsLeast}

-- One more place that hasn't the property.
pub nowhere_next : (P : ℕ → Type 0) (i : ℕ) → Nowhere P i → (P i → ⊥) → Nowhere P (i + 1)
nowhere_next P i below own j l h = elim (cases_eq j i) [
  | inl here ↦ own (subst P here h)
  | inr other ↦ below j (omega (arith, other)) h
]

-- One more place at which the test fails.
pub least_next : (p : ℕ → Bool) (i : ℕ) → least p i ≡ None → p i ≡ false → least p (i + 1) ≡ None
least_next p i e f =
    ap (least p) (let s : i + 1 ≡ suc i = omega arith in s)
    ∙ ap (λ (o : Option ℕ). option_or o (cond (p i) (Some i) None)) e ∙ ap (λ b. cond b (Some i) None) f

at_least : (p : ℕ → Bool) (i d : ℕ) → least p i ≡ None → p i ≡ true → least p (suc i + d) ≡ Some i
at_least p i zero e t = ap (least p) (let s : suc i + 0 ≡ suc i = omega arith in s) ∙ ap (λ (o : Option ℕ). option_or o (cond (p i) (Some i) None)) e ∙ ap (λ b. cond b (Some i) None) t
at_least p i (suc d) e t = ap (least p) (let s : suc i + suc d ≡ suc (suc i + d) = omega arith in s) ∙ ap (λ (o : Option ℕ). option_or o (cond (p (suc i + d)) (Some (suc i + d)) None)) (at_least p i d e t)

-- A place at which the test holds, after places at which it doesn't, is the least.
pub least_found : (p : ℕ → Bool) (i n : ℕ) → i < n → least p i ≡ None → p i ≡ true → Some i ≡ least p n
least_found p i n lt e t = sym (at_least p i (n - suc i) e t) ∙ ap (least p) (let s : suc i + (n - suc i) ≡ n = omega arith in s)

-- A test that fails at each place holds nowhere.
pub none_at_all : (p : ℕ → Bool) (n : ℕ) → ((i : ℕ) → i < n → p i ≡ false) → least p n ≡ None
none_at_all p zero h = refl
none_at_all p (suc n) h = ap (λ (o : Option ℕ). option_or o (cond (p n) (Some n) None)) (none_at_all p n (λ i l. h i (omega arith))) ∙ ap (λ b. cond b (Some n) None) (h n (omega arith))

-- Tests that agree below n have one least place there.
pub least_same : (p q : ℕ → Bool) (n : ℕ) → ((i : ℕ) → i < n → p i ≡ q i) → least p n ≡ least q n
least_same p q zero h = refl
least_same p q (suc n) h =
    ap (λ (o : Option ℕ). option_or o (cond (p n) (Some n) None)) (least_same p q n (λ i lt. h i (omega arith)))
    ∙ ap (λ b. option_or (least q n) (cond b (Some n) None)) (h n (omega arith))

least_more : (p : ℕ → Bool) (i m d : ℕ) → least p m ≡ Some i → least p (m + d) ≡ Some i
least_more p i m zero e = ap (least p) (let s : m + 0 ≡ m = omega arith in s) ∙ e
least_more p i m (suc d) e = ap (least p) (let s : m + suc d ≡ suc (m + d) = omega arith in s) ∙ ap (λ (o : Option ℕ). option_or o (cond (p (m + d)) (Some (m + d)) None)) (least_more p i m d e)

-- The least place stays so below a greater bound.
pub least_stays : (p : ℕ → Bool) (i m n : ℕ) → m ≤ n → Some i ≡ least p m → Some i ≡ least p n
least_stays p i m n le e = sym (least_more p i m (n - m) (sym e)) ∙ ap (least p) (let s : m + (n - m) ≡ n = omega arith in s)

-- If there is no least place the test fails.
pub least_none : (p : ℕ → Bool) (i n : ℕ) → i < n → least p n ≡ None → p i ≡ false
least_none p i n lt e = ⊎_elim (λ t. absurd (clash p i n lt t e)) (λ f. f) (cases_Bool (p i))
  where
    first : (p : ℕ → Bool) (n : ℕ) → least p (suc n) ≡ None → (least p n ≡ None) × (p n ≡ false)
    first p n e = parts (least p n) (p n) n e
      where
        parts : (o : Option ℕ) (b : Bool) (n : ℕ) → option_or o (cond b (Some n) None) ≡ None → (o ≡ None) × (b ≡ false)
        parts (Some i) b n h = absurd (cc h)
        parts None true n h = absurd (cc h)
        parts None false n h = (refl, refl)

    clash : (p : ℕ → Bool) (i n : ℕ) → i < n → p i ≡ true → least p n ≡ None → ⊥
    clash p i zero lt t e = omega arith
    clash p i (suc n) lt t e =
        let f = first p n e in
        ⊎_elim (λ k. let s : p i ≡ false = ap p (eqb-true i n k) ∙ f.1 in cc (sym t ∙ s)) (λ k. clash p i n (grind (arith, nat_tests)) t f.0) (cases_Bool (eqb i n))

-- What `least` finds is the least place at which the test holds.
pub least_is : (p : ℕ → Bool) (n : ℕ) (o : Option ℕ) → o ≡ least p n → IsLeast (λ i. p i ≡ true) n o
least_is p n None e = λ i l t. let f : true ≡ false = sym t ∙ least_none p i n l (sym e) in cc
least_is p n (Some i) e = found p n i e
  where
    found : (p : ℕ → Bool) (n i : ℕ) → Some i ≡ least p n → IsLeast (λ i. p i ≡ true) n (Some i)
    found p zero i e = absurd cc
    found p (suc n) i e = by (least p n) (p n) refl refl (λ e. found p n i e) (sym e)
      where
        by : (o : Option ℕ) (b : Bool) → least p n ≡ o → p n ≡ b → (Some i ≡ least p n → IsLeast (λ i. p i ≡ true) n (Some i)) → option_or o (cond b (Some n) None) ≡ Some i
            → IsLeast (λ i. p i ≡ true) (suc n) (Some i)
        by (Some j) b q t later h = let f = later (sym h ∙ sym q) in (omega (arith, f.0), f.1, f.2)
        by None false q t later h = absurd cc
        by None true q t later h =
            let same : n ≡ i = cc in
            (omega (arith, same), ap p (sym same) ∙ t, λ j l g. let f : true ≡ false = sym g ∙ least_none p j n (omega (arith, l, same)) q in cc)
