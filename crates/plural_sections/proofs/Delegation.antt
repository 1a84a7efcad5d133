-- A section's first fault is that of the whole, if the lines before the section have none.
use Rattle.std.proofs.Common.{◌≡◌, ℕ, List, [], ◌∷◌, ◌++◌, refl, ap, sym, ◌∙◌, append_assoc, ◌⊎◌, inl, inr}
use Rattle.plural_bytes.specs.Lines.{TextLine}
use Rattle.plural_sections.specs.Faults.{IsFaultless, IsFirstFault}

-- an element of two lists in a row stands in the first, or in the second
split_append : {A : Type 0} (xs ys bs : List A) (x : A) (zs : List A) → xs ++ ys ≡ bs ++ x ∷ zs → ((cs : List A) × (xs ≡ bs ++ x ∷ cs)) ⊎ ((cs : List A) × (bs ≡ xs ++ cs) × (ys ≡ cs ++ x ∷ zs))
split_append [] ys bs x zs e = inr (bs, refl, e)
split_append (a ∷ xs) ys [] x zs e = let f : a ≡ x = cc in inl (xs, rw f refl)
split_append (a ∷ xs) ys (b ∷ bs) x zs e =
    let f : a ≡ b = cc in
    let g : xs ++ ys ≡ bs ++ x ∷ zs = cc in
    elim (split_append xs ys bs x zs g) [
      | inl p ↦ inl (p.0, rw (f, p.1) refl)
      | inr p ↦ inr (p.0, rw (f, p.1) refl, p.2)
    ]

-- After these lines the whole's rule is the section's, whose kinds are named by `of`
pub record Delegates {K S : Type 0} (Whole : List TextLine → List ℕ → K → Type 0) (Part : List TextLine → List ℕ → S → Type 0) (of : S → K) (front section : List TextLine) : Type 0 where
  pub down : (before : List TextLine) (line : TextLine) (after : List TextLine) → section ≡ before ++ line ∷ after → (kind : K) → Whole (front ++ before) line.1 kind → (k : S) × (kind ≡ of k) × Part before line.1 k
  pub up : (before : List TextLine) (line : TextLine) (after : List TextLine) → section ≡ before ++ line ∷ after → (k : S) → Part before line.1 k → Whole (front ++ before) line.1 (of k)

-- Lines without a fault, and those of a section without one, have none in the whole.
pub faultless_section : {K S : Type 0} (Whole : List TextLine → List ℕ → K → Type 0) (Part : List TextLine → List ℕ → S → Type 0) (of : S → K) (front section : List TextLine)
    → Delegates Whole Part of front section → IsFaultless Whole front → IsFaultless Part section → IsFaultless Whole (front ++ section)
faultless_section Whole Part of front section d f s = record {
  none = λ n kind h. elim (split_append front section h.before (n, h.text) h.after h.whole) [
    | inl p ↦ f.none n kind (record { before = h.before; text = h.text; after = p.0; whole = p.1; breaks = h.breaks })
    | inr p ↦
        let down = d.down p.0 (n, h.text) h.after p.2 kind (rw p.1 at h.breaks) in
        s.none n down.0 (record { before = p.0; text = h.text; after = h.after; whole = p.2; breaks = down.2 })
  ];
}

-- a prefix of a section is a section
Delegates-front : {K S : Type 0} (Whole : List TextLine → List ℕ → K → Type 0) (Part : List TextLine → List ℕ → S → Type 0) (of : S → K) (front before after : List TextLine)
    → Delegates Whole Part of front (before ++ after) → Delegates Whole Part of front before
Delegates-front Whole Part of front before after d = record {
  down = λ b line a e. d.down b line (a ++ after) (ap (λ x. x ++ after) e ∙ append_assoc b (line ∷ a) after);
  up = λ b line a e. d.up b line (a ++ after) (ap (λ x. x ++ after) e ∙ append_assoc b (line ∷ a) after);
}

-- The first fault of a section is that of the whole.
pub first_in_section : {K S : Type 0} (rank : K → ℕ) (Whole : List TextLine → List ℕ → K → Type 0) (rank_s : S → ℕ) (Part : List TextLine → List ℕ → S → Type 0) (of : S → K) (front section back : List TextLine) (number : ℕ) (k : S)
    → ((s : S) → rank (of s) ≡ rank_s s) → Delegates Whole Part of front section → IsFaultless Whole front → IsFirstFault rank_s Part section number k
    → IsFirstFault rank Whole (front ++ (section ++ back)) number (of k)
first_in_section rank Whole rank_s Part of front section back number k same d f first =
    let line : TextLine = (number, first.text) in
    let shorter = Delegates-front Whole Part of front first.before (line ∷ first.after) (rw first.whole at d) in
    record {
      before = front ++ first.before;
      text = first.text;
      after = first.after ++ back;
      whole = ap (λ x. front ++ (x ++ back)) first.whole ∙ ap (λ x. front ++ x) (append_assoc first.before (line ∷ first.after) back) ∙ sym (append_assoc front first.before (line ∷ (first.after ++ back)));
      earlier = faultless_section Whole Part of front first.before shorter f first.earlier;
      breaks = d.up first.before line first.after first.whole k first.breaks;
      least = λ other b. let down = d.down first.before line first.after first.whole other b in rw (down.1, same k, same down.0) (first.least down.0 down.2);
    }
