-- The rule of a text of sections, and of each of its sections.
use Rattle.std.proofs.Common.{◌≡◌, ℕ, ◌≤◌, arith, Bool, true, false, List, [], ◌++◌, refl, ap, sym, subst, ◌∙◌, inl, inr}
use Rattle.std.specs.Prelude.{bytes_eq, ⊤, ◌⊎◌}
use Rattle.plural_bytes.specs.Lines.{TextLine}
use Rattle.plural_sections.specs.declared.fault.Fault.{Fault}
use Rattle.plural_sections.specs.declared.fault.Fault.TheVariants as fault
use Rattle.plural_sections.specs.declared.fault.Fault.TheVariants.{Form}
use Rattle.plural_sections.specs.Faults.{IsFaultless}
use Rattle.plural_sections.specs.Kinds.{rank}
use Rattle.plural_sections.specs.Sections.{closes}
use Rattle.plural_sections.specs.Texts.{LineRule, IsNot, Renamed, InSection, PartBreaks, WholePartBreaks, TextBreaks}

-- Form is the least kind.
pub rank_low : (f : Fault) → 1 ≤ rank f
rank_low fault.Form = omega arith
rank_low fault.Number = omega arith
rank_low fault.Address = omega arith
rank_low fault.Name = omega arith
rank_low fault.Count = omega arith
rank_low fault.Reach = omega arith
rank_low (fault.Outside k) = omega arith
rank_low (fault.Cycle names) = omega arith

-- The rule of a text: that of its lines, the lines at its head, which have no fault, and the rules of the sections after
-- them.
pub record TextRule : Type 1 where
  pub Breaks : LineRule Fault
  pub head : List TextLine
  pub good : IsFaultless Breaks head
  pub Sections : ℕ → LineRule Fault
  pub rule : (before : List TextLine) (text : List ℕ) (f : Fault) → Breaks (head ++ before) text f ≡ TextBreaks Sections before text f

-- The rule of a section of a text: its own kinds with their ranks, their names in the text, and the header that is due
-- after it, which has no fault exactly if the section is whole.
pub record SectionRule (K : Type 0) (t : TextRule) (n : ℕ) : Type 1 where
  pub Part : LineRule K
  pub of : K → Fault
  pub part_rank : K → ℕ
  pub ranks : (kind : K) → rank (of kind) ≡ part_rank kind
  pub due : List ℕ
  pub due_closes : closes due ≡ true
  pub Whole : List TextLine → Type 0
  pub stays : (before : List TextLine) (text : List ℕ) (f : Fault) → closes text ≡ false → t.Sections n before text f ≡ Renamed of (λ k. Part before text k) f
  pub missing : (before : List TextLine) (text : List ℕ) → closes text ≡ true → bytes_eq text due ≡ false → t.Sections n before text Form
  pub closing : (before : List TextLine) → Whole before → (f : Fault) → t.Sections n before due f → ⊥
  pub whole : (before : List TextLine) → ((f : Fault) → t.Sections n before due f → ⊥) → Whole before

-- What a section's rule says of a line that closes it.
pub in_closing : (b : Bool) (X Y : Type 0) → b ≡ true → InSection b X Y ≡ X
in_closing b X Y e = ap (λ t. InSection t X Y) e

-- What it says of another.
pub in_staying : (b : Bool) (X Y : Type 0) → b ≡ false → InSection b X Y ≡ Y
in_staying b X Y e = ap (λ t. InSection t X Y) e

-- A header that is due is no other text.
pub no_header : (due : List ℕ) (f : Fault) → bytes_eq due due ≡ true → IsNot due due f → ⊥
no_header due f e h = let g : true ≡ false = sym e ∙ h.1 in absurd cc

-- The n-th section of a text, by what the line that closes it has: form if it is another line than the header that is
-- due, and nothing if it is this header and the section is whole.
abbrev section_rule : {K : Type 0} (t : TextRule) (n : ℕ) (Part : LineRule K) (of : K → Fault) (part_rank : K → ℕ) (due : List ℕ)
    → ((kind : K) → rank (of kind) ≡ part_rank kind) → closes due ≡ true → (Closing : LineRule Fault) (Whole : List TextLine → Type 0)
    → ((before : List TextLine) (text : List ℕ) (f : Fault) → t.Sections n before text f ≡ InSection (closes text) (Closing before text f) (Renamed of (λ k. Part before text k) f))
    → ((before : List TextLine) (text : List ℕ) → bytes_eq text due ≡ false → Closing before text Form)
    → ((before : List TextLine) → Whole before → (f : Fault) → Closing before due f → ⊥)
    → ((before : List TextLine) → ((f : Fault) → Closing before due f → ⊥) → Whole before) → SectionRule K t n
section_rule t n Part of part_rank due ranks close Closing Whole same other fine whole =
    let closed : (before : List TextLine) (text : List ℕ) (f : Fault) → closes text ≡ true → t.Sections n before text f ≡ Closing before text f =
    λ before text f e. same before text f ∙ in_closing (closes text) _ _ e in
    record {
      Part = Part;
      of = of;
      part_rank = part_rank;
      ranks = ranks;
      due = due;
      due_closes = close;
      Whole = Whole;
      stays = λ before text f e. same before text f ∙ in_staying (closes text) _ _ e;
      missing = λ before text e o. subst (λ X. X) (sym (closed before text Form e)) (other before text o);
      closing = λ before w f b. fine before w f (subst (λ X. X) (closed before due f close) b);
      whole = λ before none. whole before (λ f b. none f (subst (λ X. X) (sym (closed before due f close)) b));
    }

-- The n-th section of a text, of which nothing has to hold when it is closed.
abbrev pub part_rule : {K : Type 0} (t : TextRule) (n : ℕ) (Part : LineRule K) (of : K → Fault) (part_rank : K → ℕ) (due : List ℕ)
    → ((kind : K) → rank (of kind) ≡ part_rank kind) → closes due ≡ true → bytes_eq due due ≡ true
    → ((before : List TextLine) (text : List ℕ) (f : Fault) → t.Sections n before text f ≡ PartBreaks of due Part before text f) → SectionRule K t n
part_rule t n Part of part_rank due ranks close own same =
    section_rule t n Part of part_rank due ranks close (λ before text f. IsNot due text f) (λ before. ⊤) same
    (λ before text o. (refl, o))
    (λ before w f b. no_header due f own b)
    (λ before none. tt)

-- The n-th section of a text, which has to be whole when it is closed.
abbrev pub whole_part_rule : {K : Type 0} (t : TextRule) (n : ℕ) (Part : LineRule K) (of : K → Fault) (part_rank : K → ℕ) (due : List ℕ)
    → ((kind : K) → rank (of kind) ≡ part_rank kind) → closes due ≡ true → bytes_eq due due ≡ true
    → ((before : List TextLine) (text : List ℕ) (f : Fault) → t.Sections n before text f ≡ WholePartBreaks of due Part before text f) → SectionRule K t n
whole_part_rule {K} t n Part of part_rank due ranks close own same =
    section_rule t n Part of part_rank due ranks close (λ before text f. IsNot due text f ⊎ Renamed of (λ k. Part before [] k) f) (λ before. (kind : K) → Part before [] kind → ⊥) same
    (λ before text o. inl (refl, o))
    (λ before w f b. elim b [
      | inl x ↦ no_header due f own x
      | inr x ↦ w x.0 x.2
    ])
    (λ before none kind b. none (of kind) (inr (kind, refl, b)))
