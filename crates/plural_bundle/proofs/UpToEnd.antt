-- A bundle's rule over the lines of an input up to its end, and over all lines of the input.
use Rattle.std.proofs.Common.{◌≡◌, ℕ, zero, suc, ◌+◌, Bool, true, false, cond, List, [], ◌∷◌, ◌++◌, refl, ap, sym, subst, ◌∙◌, append_assoc, arith, inl, inr}
use Rattle.std.specs.Prelude.{Result, Ok, Err, codes, bytes_eq}
use Rattle.std.proofs.lemmas.Slice.Eq.{bytes_eq-Decides}
use Rattle.std.proofs.lemmas.List.Sums.{sum_by-cons}
use Rattle.plural_bytes.specs.Lines.{TextLine}
use Rattle.plural_sections.specs.Faults.{IsFaultless}
use Rattle.plural_sections.specs.Sections.{closes, closings, since}
use Rattle.plural_sections.specs.Borders.{IsHeaded}
use Rattle.plural_sections.specs.Texts.{PastBreaks}
use Rattle.plural_sections.proofs.Closings.{NoneCloses, begins_nothing, closings_more}
use Rattle.plural_sections.proofs.Headers.{first_passing, up_to_same}
use Rattle.plural_sections.proofs.TextRules.{in_closing}
use Rattle.plural_map_text.specs.Parts.{map_of}
use Rattle.plural_asm.specs.Labels.{names_of}
use Rattle.plural_sections.specs.declared.fault.Fault.{Fault}
use Rattle.plural_sections.specs.declared.fault.Fault.TheVariants as fault
use Rattle.plural_bundle.specs.Sections.{map_lines, kernel_lines}
use Rattle.plural_bundle.specs.FirstLine.{first_line, version_of, IsBegun}
use Rattle.plural_bundle.specs.Rules.{MapBreaks, KernelBreaks, ImageBreaks, SectionBreaks, Breaks}
use Rattle.plural_bundle.proofs.BundleRule.{past_sections}
use Rattle.plural_bundle.proofs.BundleSections.{map_is, kernels_is}

-- the rule of a section depends on the bundle's lines only by those of its map and its kernels, the map's only by the former
sections_same : (input xs ys : List TextLine) (version : ℕ) → map_lines xs ≡ map_lines ys → kernel_lines xs ≡ kernel_lines ys → (n : ℕ) (before : List TextLine) (text : List ℕ) (f : Fault)
    → SectionBreaks input xs version n before text f ≡ SectionBreaks input ys version n before text f
sections_same input xs ys version m k zero before text f = ap (λ l. MapBreaks version (names_of (kernel_lines input)) l before text f) m
sections_same input xs ys version m k (suc zero) before text f = ap (λ l. KernelBreaks l before text f) k
sections_same input xs ys version m k (suc (suc zero)) before text f = ap (λ l. ImageBreaks (map_of l).words before text f) m
sections_same input xs ys version m k (suc (suc (suc n))) before text f = refl

-- a text that has no fault as the header that is due is this header
is_due : (text due : List ℕ) → (bytes_eq text due ≡ false → ⊥) → text ≡ due
is_due text due h = by (bytes_eq text due) refl
  where
    by : (b : Bool) → bytes_eq text due ≡ b → text ≡ due
    by true e = (bytes_eq-Decides text due).0 e
    by false e = absurd (h e)

first_told : (input all : List TextLine) (first : TextLine) (more : List TextLine) → IsFaultless (Breaks input all) (first ∷ more) → (version : ℕ) × (first_line first.1 ≡ Ok version)
first_told input all first more f = by (first_line first.1) refl
  where
    by : (r : Result ℕ Fault) → first_line first.1 ≡ r → (version : ℕ) × (first_line first.1 ≡ Ok version)
    by (Ok version) e = (version, e)
    by (Err k) e = absurd (f.none first.0 k (record { before = []; text = first.1; after = more; whole = refl; breaks = e }))

-- ---- the lines before the end

module _ (input xs : List TextLine) (e : TextLine) (out : List TextLine) (close : closes e.1 ≡ true) where
  module _ (first : TextLine) (number : ℕ) (before cs : List TextLine) (whole : xs ≡ first ∷ (number, codes "[map]") ∷ (before ++ cs)) (version : ℕ) (good : first_line first.1 ≡ Ok version) where
    begun : (rest : List TextLine) → IsBegun (xs ++ e ∷ rest) ((number, codes "[map]") ∷ ((before ++ cs) ++ e ∷ rest)) version
    begun rest = record { first = first; whole = ap (λ x. x ++ e ∷ rest) whole; good = good }

    headed : (rest : List TextLine) → IsHeaded (codes "[map]") ((number, codes "[map]") ∷ ((before ++ cs) ++ e ∷ rest)) ((before ++ cs) ++ e ∷ rest)
    headed rest = record { number = number; whole = refl }

    maps_same : map_lines (xs ++ e ∷ []) ≡ map_lines (xs ++ e ∷ out)
    maps_same = map_is (begun []) (headed []) ∙ up_to_same (before ++ cs) e [] out close ∙ sym (map_is (begun out) (headed out))

    module _ (maps : List TextLine) (line : TextLine) (after : List TextLine) (split : before ≡ maps ++ line ∷ after) (none : NoneCloses maps) (due : line.1 ≡ codes "[kernels]") where
      split_at : (rest : List TextLine) → (before ++ cs) ++ e ∷ rest ≡ maps ++ (line.0, codes "[kernels]") ∷ ((after ++ cs) ++ e ∷ rest)
      split_at rest =
          ap (λ x. (x ++ cs) ++ e ∷ rest) (split ∙ (λ i. maps ++ (line.0, due i) ∷ after))
          ∙ ap (λ x. x ++ e ∷ rest) (append_assoc maps ((line.0, codes "[kernels]") ∷ after) cs)
          ∙ append_assoc maps ((line.0, codes "[kernels]") ∷ (after ++ cs)) (e ∷ rest)

      kernels_headed : (rest : List TextLine) → IsHeaded (codes "[kernels]") ((line.0, codes "[kernels]") ∷ ((after ++ cs) ++ e ∷ rest)) ((after ++ cs) ++ e ∷ rest)
      kernels_headed rest = record { number = line.0; whole = refl }

      kernels_same : kernel_lines (xs ++ e ∷ []) ≡ kernel_lines (xs ++ e ∷ out)
      kernels_same =
          kernels_is maps (begun []) (headed []) (split_at []) none (kernels_headed []) ∙ up_to_same (after ++ cs) e [] out close
          ∙ sym (kernels_is maps (begun out) (headed out) (split_at out) none (kernels_headed out))

    module _ (f : IsFaultless (Breaks input (xs ++ e ∷ [])) (first ∷ (number, codes "[map]") ∷ before)) where
      kernels_due : (maps : List TextLine) (line : TextLine) (after : List TextLine) → before ≡ maps ++ line ∷ after → NoneCloses maps → closes line.1 ≡ true → line.1 ≡ codes "[kernels]"
      kernels_due maps line after split none shut = is_due line.1 (codes "[kernels]") (λ o. f.none line.0 fault.Form (record {
        before = first ∷ (number, codes "[map]") ∷ maps;
        text = line.1;
        after = after;
        whole = ap (λ x. first ∷ (number, codes "[map]") ∷ x) split;
        breaks = subst (λ X. X) (sym (λ i. SectionBreaks input (xs ++ e ∷ []) (version_of first.1) (begins_nothing.count maps none i) (begins_nothing.last maps none i) line.1 fault.Form))
            (subst (λ X. X) (sym (in_closing (closes line.1) _ _ shut)) (inl (refl, o)));
      }))

      same_after : (text : List ℕ) (k : Fault) → Breaks input (xs ++ e ∷ []) (first ∷ (number, codes "[map]") ∷ before) text k ≡ Breaks input (xs ++ e ∷ out) (first ∷ (number, codes "[map]") ∷ before) text k
      same_after text k = elim (first_passing (λ l. closes l.1) before) [
        | inl none ↦
            let z = begins_nothing.count before none in
            ap (λ n. SectionBreaks input (xs ++ e ∷ []) (version_of first.1) n (since before) text k) z
            ∙ ap (λ l. MapBreaks (version_of first.1) (names_of (kernel_lines input)) l (since before) text k) maps_same
            ∙ sym (ap (λ n. SectionBreaks input (xs ++ e ∷ out) (version_of first.1) n (since before) text k) z)
        | inr p ↦
            sections_same input (xs ++ e ∷ []) (xs ++ e ∷ out) (version_of first.1) maps_same (kernels_same p.0 p.1 p.2 p.3 p.4 (kernels_due p.0 p.1 p.2 p.3 p.4 p.5)) (closings before) (since before) text k
      ]

  -- After lines without a fault, the kinds of a line are the same over the lines up to the end and over all of them.
  pub same_up_to_end : (before cs : List TextLine) → xs ≡ before ++ cs → IsFaultless (Breaks input (xs ++ e ∷ [])) before → (text : List ℕ) (k : Fault)
      → Breaks input (xs ++ e ∷ []) before text k ≡ Breaks input (xs ++ e ∷ out) before text k
  same_up_to_end [] cs whole f text k = refl
  same_up_to_end (first ∷ []) cs whole f text k = refl
  same_up_to_end (first ∷ second ∷ before) cs whole f text k =
      let due : second.1 ≡ codes "[map]" = is_due second.1 (codes "[map]") (λ o. f.none second.0 fault.Form (record { before = first ∷ []; text = second.1; after = before; whole = refl; breaks = (refl, o) })) in
      let header : second ≡ (second.0, codes "[map]") = λ i. (second.0, due i) in
      let told = first_told input (xs ++ e ∷ []) first (second ∷ before) f in
      same_after first second.0 before cs (whole ∙ ap (λ x. first ∷ x ∷ (before ++ cs)) header) told.0 told.1 (subst (λ x. IsFaultless (Breaks input (xs ++ e ∷ [])) (first ∷ x ∷ before)) header f) text k

-- ---- the line after the end

-- After lines without a fault, of which one is the header of the end, no line has a text.
pub past_end : (input all before : List TextLine) (number : ℕ) (after : List TextLine) → IsFaultless (Breaks input all) (before ++ (number, codes "[end]") ∷ after) → (text : List ℕ) (k : Fault)
    → Breaks input all (before ++ (number, codes "[end]") ∷ after) text k → PastBreaks text k
past_end input all [] number after f text k b = absurd (f.none number fault.Form (record { before = []; text = codes "[end]"; after = after; whole = refl; breaks = refl }))
past_end input all (first ∷ []) number after f text k b = absurd (f.none number fault.Form (record { before = first ∷ []; text = codes "[end]"; after = after; whole = refl; breaks = (refl, refl) }))
past_end input all (first ∷ second ∷ before) number after f text k b = by (closings before) refl
  where
    no_fault : SectionBreaks input all (version_of first.1) (closings before) (since before) (codes "[end]") fault.Form → ⊥
    no_fault o = f.none number fault.Form (record { before = first ∷ second ∷ before; text = codes "[end]"; after = after; whole = refl; breaks = o })

    count : (n : ℕ) → closings before ≡ n → closings (before ++ (number, codes "[end]") ∷ after) ≡ n + (1 + closings after)
    count n z = closings_more before ((number, codes "[end]") ∷ after) ∙ (λ i. z i + sum_by-cons (λ (m : TextLine). cond (closes m.1) 1 0) (number, codes "[end]") after i)

    at_section : (n : ℕ) → closings before ≡ n → SectionBreaks input all (version_of first.1) n (since before) (codes "[end]") fault.Form → PastBreaks text k
    at_section n z o = absurd (no_fault (subst (λ m. SectionBreaks input all (version_of first.1) m (since before) (codes "[end]") fault.Form) (sym z) o))

    by : (n : ℕ) → closings before ≡ n → PastBreaks text k
    by zero z = at_section 0 z (inl (refl, refl))
    by (suc zero) z = at_section 1 z (refl, refl)
    by (suc (suc zero)) z =
        let lines : List TextLine = before ++ (number, codes "[end]") ∷ after in
        let three : closings lines ≡ 3 + closings after = omega (arith, count 2 z) in
        subst (λ X. X) (ap (λ n. SectionBreaks input all (version_of first.1) n (since lines) text k) three ∙ past_sections input all (version_of first.1) (closings after) (since lines) text k) b
    by (suc (suc (suc n))) z = at_section (suc (suc (suc n))) z (refl, refl)
