-- Two rules that give the same kinds to each line after lines without a fault.
use Rattle.std.proofs.Common.{◌≡◌, ℕ, List, ◌∷◌, ◌++◌, ap, sym, subst, ◌∙◌, append_assoc}
use Rattle.plural_bytes.specs.Lines.{TextLine}
use Rattle.plural_sections.specs.Faults.{IsFaultless, IsFirstFault}

-- Lines of which none has a fault by one rule have none by the other.
pub faultless_agrees : {K : Type 0} (R Q : List TextLine → List ℕ → K → Type 0) (lines : List TextLine)
    → ((before : List TextLine) (line : TextLine) (after : List TextLine) → lines ≡ before ++ line ∷ after → IsFaultless R before → (kind : K) → Q before line.1 kind → R before line.1 kind)
    → IsFaultless R lines → IsFaultless Q lines
faultless_agrees R Q lines same f = record {
  none = λ number kind h.
      let earlier : IsFaultless R h.before = record {
        none = λ n k g.
            f.none n k (record { before = g.before; text = g.text; after = g.after ++ (number, h.text) ∷ h.after; whole = h.whole ∙ ap (λ x. x ++ (number, h.text) ∷ h.after) g.whole ∙ append_assoc g.before ((n, g.text) ∷ g.after) ((number, h.text) ∷ h.after); breaks = g.breaks });
      } in
      f.none number kind (record { before = h.before; text = h.text; after = h.after; whole = h.whole; breaks = same h.before (number, h.text) h.after h.whole earlier kind h.breaks });
}

-- The first fault by one rule is that by the other.
pub first_agrees : {K : Type 0} (rank : K → ℕ) (R Q : List TextLine → List ℕ → K → Type 0) (lines : List TextLine)
    → ((before : List TextLine) (line : TextLine) (after : List TextLine) → lines ≡ before ++ line ∷ after → IsFaultless R before → (kind : K) → R before line.1 kind ≡ Q before line.1 kind)
    → (number : ℕ) (kind : K) → IsFirstFault rank R lines number kind → IsFirstFault rank Q lines number kind
first_agrees {K} rank R Q lines same number kind f =
    let here : (k : K) → R f.before f.text k ≡ Q f.before f.text k = same f.before (number, f.text) f.after f.whole f.earlier in
    record {
      before = f.before;
      text = f.text;
      after = f.after;
      whole = f.whole;
      earlier = faultless_agrees R Q f.before
          (λ before line after e g k q.
          subst (λ X. X) (sym (same before line (after ++ (number, f.text) ∷ f.after) (f.whole ∙ ap (λ x. x ++ (number, f.text) ∷ f.after) e ∙ append_assoc before (line ∷ after) ((number, f.text) ∷ f.after)) g k)) q)
          f.earlier;
      breaks = subst (λ X. X) (here kind) f.breaks;
      least = λ other o. f.least other (subst (λ X. X) (sym (here other)) o);
    }
