-- Lines have one first fault: its line is one, and its kind too if the rule gives a line one kind of each rank.
use Rattle.std.proofs.Common.{◌≡◌, ℕ, ◌≤◌, List, [], ◌∷◌, ◌++◌, refl, ap, sym, subst, ◌∙◌, arith, ◌⊎◌, inl, inr}
use Rattle.plural_bytes.specs.Lines.{TextLine}
use Rattle.plural_sections.specs.Faults.{IsFaultless, IsFirstFault}
use Rattle.plural_sections.specs.Texts.{LineRule}
use Rattle.plural_cli.specs.FaultLine.{fault_text, IsRefused}

-- The rule gives a line at most one kind of each rank.
abbrev pub Differ : {K : Type 0} → (rank : K → ℕ) → LineRule K → Type 0
Differ {K} rank Breaks = (before : List TextLine) (text : List ℕ) (k l : K) → Breaks before text k → Breaks before text l → rank k ≡ rank l → k ≡ l

-- What has a status and a text has one of each.
abbrev pub IsOne : (ℕ → List ℕ → Type 0) → Type 0
IsOne Is = (s : ℕ) (t : List ℕ) (s' : ℕ) (t' : List ℕ) → Is s t → Is s' t' → (s ≡ s') × (t ≡ t')

-- Two elements of a list stand at one place, or one of them stands before the other.
two_places : {A : Type 0} (xs ys : List A) (x y : A) (more rest : List A) → xs ++ x ∷ more ≡ ys ++ y ∷ rest
    → ((xs ≡ ys) × (x ≡ y)) ⊎ (((ws : List A) × (xs ≡ ys ++ y ∷ ws)) ⊎ ((ws : List A) × (ys ≡ xs ++ x ∷ ws)))
two_places [] [] x y more rest e = inl (refl, cc)
two_places [] (b ∷ ys) x y more rest e = let f : x ≡ b = cc in inr (inr (ys, rw f refl))
two_places (a ∷ xs) [] x y more rest e = let f : a ≡ y = cc in inr (inl (xs, rw f refl))
two_places (a ∷ xs) (b ∷ ys) x y more rest e =
    let f : a ≡ b = cc in
    let g : xs ++ x ∷ more ≡ ys ++ y ∷ rest = cc in
    elim (two_places xs ys x y more rest g) [
      | inl p ↦ inl (rw (f, p.0) refl, p.1)
      | inr (inl p) ↦ inr (inl (p.0, rw (f, p.1) refl))
      | inr (inr p) ↦ inr (inr (p.0, rw (f, p.1) refl))
    ]

-- Lines without a fault have no first one.
pub no_first : {K : Type 0} (rank : K → ℕ) (Breaks : LineRule K) (lines : List TextLine) (n : ℕ) (k : K) → IsFaultless Breaks lines → IsFirstFault rank Breaks lines n k → ⊥
no_first rank Breaks lines n k f g = f.none n k (record { before = g.before; text = g.text; after = g.after; whole = g.whole; breaks = g.breaks })

-- The first fault of lines is one.
pub one_fault : {K : Type 0} (rank : K → ℕ) (Breaks : LineRule K) (lines : List TextLine) (n m : ℕ) (k l : K) → Differ rank Breaks → IsFirstFault rank Breaks lines n k → IsFirstFault rank Breaks lines m l → (n ≡ m) × (k ≡ l)
one_fault {K} rank Breaks lines n m k l differ f g = elim (two_places f.before g.before (n, f.text) (m, g.text) f.after g.after (sym f.whole ∙ g.whole)) [
  | inl p ↦
      let text : f.text ≡ g.text = ap (λ (x : TextLine). x.1) p.1 in
      let moved : (j : K) → Breaks g.before g.text j → Breaks f.before f.text j = λ j b. subst (λ t. Breaks f.before t j) (sym text) (subst (λ x. Breaks x g.text j) (sym p.0) b) in
      let back : (j : K) → Breaks f.before f.text j → Breaks g.before g.text j = λ j b. subst (λ t. Breaks g.before t j) text (subst (λ x. Breaks x f.text j) p.0 b) in
      let low : rank k ≤ rank l = f.least l (moved l g.breaks) in
      let high : rank l ≤ rank k = g.least k (back k f.breaks) in
      (ap (λ (x : TextLine). x.0) p.1, differ f.before f.text k l f.breaks (moved l g.breaks) (omega (arith, low, high)))
  | inr (inl p) ↦ absurd (f.earlier.none m l (record { before = g.before; text = g.text; after = p.0; whole = p.1; breaks = g.breaks }))
  | inr (inr p) ↦ absurd (g.earlier.none n k (record { before = f.before; text = f.text; after = p.0; whole = p.1; breaks = f.breaks }))
]

-- The answer that tells the first fault of lines is one.
one_refusal : {K : Type 0} (rank : K → ℕ) (word : K → List ℕ) (Breaks : LineRule K) (lines : List TextLine) → Differ rank Breaks → IsOne (IsRefused rank word Breaks lines)
one_refusal rank word Breaks lines differ s t s' t' f g =
    let same = one_fault rank Breaks lines f.line g.line f.kind g.kind differ f.first g.first in
    (f.status_is ∙ sym g.status_is, f.text_is ∙ (λ i. fault_text (same.0 i) (word (same.1 i))) ∙ sym g.text_is)

-- So is the answer that is another's if no line has a fault, and else tells the first, if the other's is one.
pub one_or_refusal : {K : Type 0} (rank : K → ℕ) (word : K → List ℕ) (Breaks : LineRule K) (lines : List TextLine) (Is : ℕ → List ℕ → Type 0) → Differ rank Breaks
    → ((s : ℕ) (t : List ℕ) → Is s t → IsFaultless Breaks lines) → IsOne Is → IsOne (λ s t. Is s t ⊎ IsRefused rank word Breaks lines s t)
one_or_refusal rank word Breaks lines Is differ good one s t s' t' (inl a) (inl b) = one s t s' t' a b
one_or_refusal rank word Breaks lines Is differ good one s t s' t' (inl a) (inr r) = absurd (no_first rank Breaks lines r.line r.kind (good s t a) r.first)
one_or_refusal rank word Breaks lines Is differ good one s t s' t' (inr r) (inl b) = absurd (no_first rank Breaks lines r.line r.kind (good s' t' b) r.first)
one_or_refusal rank word Breaks lines Is differ good one s t s' t' (inr r) (inr q) = one_refusal rank word Breaks lines differ s t s' t' r q
