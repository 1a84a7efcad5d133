-- The section of a header, if no line before it is that header.
use Rattle.std.proofs.Common.{◌≡◌, ℕ, true, false, List, [], ◌∷◌, ◌++◌, refl, ap, sym, ◌∙◌, append_assoc, ◌⊎◌, inl, inr, Bool}
use Rattle.std.specs.Prelude.{bytes_eq}
use Rattle.std.specs.List.{AllByRecursion, after_first}
use Rattle.std.proofs.lemmas.Bool.{false_from_ne_true}
use Rattle.std.proofs.lemmas.Slice.Eq.{bytes_eq-Decides}
use Rattle.plural_base.proofs.ListTests.{HasNone, before_at, after_at, all_weaker}
use Rattle.plural_bytes.specs.Lines.{TextLine}
use Rattle.plural_sections.specs.Sections.{closes, up_to_header, section}
use Rattle.plural_sections.proofs.Closings.{NoneCloses}

-- None of the lines is this header.
abbrev pub Lacks : List ℕ → List TextLine → Type 0
Lacks header lines = AllByRecursion (λ l. bytes_eq l.1 header ≡ false) lines

-- Texts that a function tells apart differ.
pub apart : {X : Type 0} (f : List ℕ → X) (text header : List ℕ) → (f text ≡ f header → ⊥) → bytes_eq text header ≡ false
apart f text header h = false_from_ne_true (bytes_eq text header) (λ e. h (ap f ((bytes_eq-Decides text header).0 e)))

stays_apart : (text header : List ℕ) → closes header ≡ true → closes text ≡ false → bytes_eq text header ≡ false
stays_apart text header close stay = apart closes text header (λ e. let f : false ≡ true = sym stay ∙ e ∙ close in cc)

-- Lines that close no section aren't this header.
pub lines_lack : (header : List ℕ) (lines : List TextLine) → closes header ≡ true → NoneCloses lines → Lacks header lines
lines_lack header lines close h = all_weaker (λ l. closes l.1 ≡ false) (λ l. bytes_eq l.1 header ≡ false) lines (λ l e. stays_apart l.1 header close e) h

-- The section of a header is what follows its first line.
pub section_at : (header : List ℕ) (all before rest : List TextLine) (number : ℕ) → all ≡ before ++ (number, header) ∷ rest → Lacks header before → bytes_eq header header ≡ true
    → section header all ≡ up_to_header rest
section_at header all before rest number e lacks same =
    ap up_to_header (ap (after_first (λ l. bytes_eq l.1 header)) e ∙ after_at (λ l. bytes_eq l.1 header) before (number, header) rest lacks same)

-- No line passes a test, or one is the first that does.
pub first_passing : (p : TextLine → Bool) (lines : List TextLine)
    → HasNone p lines ⊎ ((before : List TextLine) × (line : TextLine) × (after : List TextLine) × (lines ≡ before ++ line ∷ after) × HasNone p before × (p line ≡ true))
first_passing p [] = inl tt
first_passing p (l ∷ ls) = by (p l) refl (first_passing p ls)
  where
    by : (b : Bool) → p l ≡ b
        → HasNone p ls ⊎ ((before : List TextLine) × (line : TextLine) × (after : List TextLine) × (ls ≡ before ++ line ∷ after) × HasNone p before × (p line ≡ true))
        → HasNone p (l ∷ ls) ⊎ ((before : List TextLine) × (line : TextLine) × (after : List TextLine) × (l ∷ ls ≡ before ++ line ∷ after) × HasNone p before × (p line ≡ true))
    by true e r = inr ([], l, ls, refl, tt, e)
    by false e (inl h) = inl (e, h)
    by false e (inr q) = inr (l ∷ q.0, q.1, q.2, ap (λ x. l ∷ x) q.3, (e, q.4), q.5)

-- What stands before the first header doesn't depend on what follows a line that is one.
pub up_to_same : (lines : List TextLine) (line : TextLine) (more other : List TextLine) → closes line.1 ≡ true → up_to_header (lines ++ line ∷ more) ≡ up_to_header (lines ++ line ∷ other)
up_to_same lines line more other close = elim (first_passing (λ l. closes l.1) lines) [
  | inl h ↦ before_at (λ l. closes l.1) lines line more h close ∙ sym (before_at (λ l. closes l.1) lines line other h close)
  | inr p ↦ at p.0 p.1 p.2 p.3 p.4 p.5 more ∙ sym (at p.0 p.1 p.2 p.3 p.4 p.5 other)
]
  where
    at : (before : List TextLine) (first : TextLine) (after : List TextLine) → lines ≡ before ++ first ∷ after → NoneCloses before → closes first.1 ≡ true
        → (xs : List TextLine) → up_to_header (lines ++ line ∷ xs) ≡ before
    at before first after whole none is xs =
        ap (λ x. up_to_header (x ++ line ∷ xs)) whole ∙ ap up_to_header (append_assoc before (first ∷ after) (line ∷ xs)) ∙ before_at (λ l. closes l.1) before first (after ++ line ∷ xs) none is
