-- The map of a bundle without a fault.
use Rattle.std.proofs.Common.{◌≡◌, ℕ, ◌<◌, ◌≤◌, arith, inl, inr, ⊎_elim, Bool, true, false, Option, Some, None, List, [], ◌∷◌, refl, sym, subst, ap, ◌∙◌, append-nil, if◌then◌else◌}
use Rattle.std.specs.Prelude.{◌⊎◌, Ok, Err, codes, bytes_eq}
use Rattle.std.specs.List.{AllByRecursion}
use Rattle.std.proofs.lemmas.Bool.{cases_lt}
use Rattle.plural_sections.specs.Numbers.{is_within}
use Rattle.plural_sections.proofs.Caps.{within_bounds}
use Rattle.plural_bytes.specs.Lines.{TextLine, has_text, tokens}
use Rattle.plural_bytes.specs.Numerals.{numeral}
use Rattle.plural_sections.specs.declared.fault.Fault.TheVariants as fault
use Rattle.plural_map.specs.Value.{MapValue}
use Rattle.plural_map.specs.Limits.{IsMap}
use Rattle.plural_map.proofs.Lookups.{AreNamed}
use Rattle.plural_map_text.specs.Rules.{IsMapText}
use Rattle.plural_map_text.specs.Parts.{map_of}
use Rattle.plural_asm.specs.Labels.{names_of}
use Rattle.plural_reread.proofs.FaultlessMaps.{map_fits, map_fits_2}
use Rattle.plural_bundle.specs.Answer.{IsBundle}
use Rattle.plural_bundle.specs.FirstLine.{version_read, version_told}
use Rattle.plural_bundle.specs.Value.{BundleValue, bundle_of}
use Rattle.plural_bundle.specs.Laws.{Parts, lines_of, AreGood, spelled_by}
use Rattle.plural_bundle.proofs.BundleParts.{parts_make_a_bundle, a_bundle_has_parts}

-- ---- the version

read_known : (o : Option ℕ) (version : ℕ) → version_read o ≡ Ok version → (version ≡ 1) ⊎ (version ≡ 2)
read_known None version e = absurd cc
read_known (Some n) version e = by (is_within 1 2 n) refl e
  where
    known : (1 ≤ n) × (n ≤ 2) → n ≡ version → (version ≡ 1) ⊎ (version ≡ 2)
    known h same = ⊎_elim (λ l. inl (let low = h.0 in omega arith)) (λ m. inr (let high = h.1 in omega arith)) (cases_lt n 2)

    by : (b : Bool) → is_within 1 2 n ≡ b → (if b then Ok n else Err fault.Number) ≡ Ok version → (version ≡ 1) ⊎ (version ≡ 2)
    by true h e = let same : n ≡ version = cc in known (within_bounds 1 2 n h) same
    by false h e = absurd cc

told_known : (ts : List (List ℕ)) (version : ℕ) → version_told ts ≡ Ok version → (version ≡ 1) ⊎ (version ≡ 2)
told_known [] version e = absurd cc
told_known (w ∷ []) version e = absurd cc
told_known (w ∷ v ∷ []) version e = by (bytes_eq w (codes "plural")) e
  where
    by : (b : Bool) → (if b then version_read (numeral v) else Err fault.Form) ≡ Ok version → (version ≡ 1) ⊎ (version ≡ 2)
    by true e = read_known (numeral v) version e
    by false e = absurd cc
told_known (w ∷ v ∷ x ∷ ts) version e = absurd cc

-- ---- the parts

-- A bundle, its parts, and what they spell.
pub record InParts (lines : List TextLine) : Type 0 where
  pub parts : Parts
  pub whole : lines ≡ lines_of parts
  pub good : AreGood parts
  pub value : bundle_of lines ≡ spelled_by parts

-- The lines of a bundle that have texts are its parts.
pub in_parts : (lines : List TextLine) (end : ℕ) → AllByRecursion (λ l. has_text l.1 ≡ true) lines → IsBundle lines lines end → InParts lines
in_parts lines end texts f =
    let h = a_bundle_has_parts lines [] end texts (subst (λ (x : List TextLine). IsBundle x lines end) (sym (append-nil lines)) f) in
    record { parts = h.0; whole = h.1; good = h.2; value = ap bundle_of h.1 ∙ (parts_make_a_bundle h.0 [] end h.2).1 }

-- A map that lines without a fault spell is one within all limits, and the names of its tasks are names.
lines_fit : (version : ℕ) (labels : List (List ℕ)) (lines : List TextLine) (end : ℕ) → (version ≡ 1) ⊎ (version ≡ 2) → IsMapText version labels lines end → IsMap (map_of lines) × AreNamed (map_of lines).tasks
lines_fit version labels lines end (inl one) text =
    let fits = map_fits labels lines end (subst (λ v. IsMapText v labels lines end) one text) in
    (fits.0, λ k d l. (fits.1.each k d l).name)
lines_fit version labels lines end (inr two) text =
    let fits = map_fits_2 labels lines end (subst (λ v. IsMapText v labels lines end) two text) in
    (fits.0, λ k d l. (fits.1 k d l).name)

-- So is that of a bundle.
pub map_fits_parts : (lines : List TextLine) → InParts lines → IsMap (bundle_of lines).program.map × AreNamed (bundle_of lines).program.map.tasks
map_fits_parts lines h =
    let p = h.parts in
    let fits = lines_fit p.version (names_of p.kernel_part) p.map_part p.at_kernels (told_known (tokens p.first.1) p.version h.good.first) h.good.map_good in
    let map_is : (bundle_of lines).program.map ≡ map_of p.map_part = ap (λ (b : BundleValue). b.program.map) h.value in
    subst (λ (m : MapValue). IsMap m × AreNamed m.tasks) (sym map_is) fits
