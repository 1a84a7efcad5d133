-- The faults of a verifier's input by those of its bundle and of its output.
use Rattle.std.proofs.Common.{◌≡◌, ℕ, ◌+◌, Bool, true, false, ◌||◌, List, [], ◌∷◌, ◌++◌, length, take, refl, ap, sym, subst, ◌∙◌, append_assoc, append-nil, take-append-drop, arith, ◌⊎◌, inl, inr}
use Rattle.std.specs.Prelude.{codes}
use Rattle.std.specs.List.{list_any, position_or_len, after_first}
use Rattle.std.proofs.lemmas.Slice.Eq.{bytes_eq-Decides}
use Rattle.std.proofs.lemmas.List.{take_at, take_all, length_push}
use Rattle.plural_base.proofs.ListTests.{HasNone, all_front, all_back, all_append, none_found, position_none, place_at, after_at}
use Rattle.plural_bytes.specs.Lines.{TextLine}
use Rattle.plural_sections.specs.declared.fault.Fault.{Fault}
use Rattle.plural_sections.specs.Kinds.{rank}
use Rattle.plural_sections.specs.Faults.{IsFaultless, IsFirstFault, closed}
use Rattle.plural_sections.proofs.FirstFaults.{first_before, split_last, last_none, last_first}
use Rattle.plural_sections.proofs.Delegation.{Delegates, faultless_section, first_in_section}
use Rattle.plural_sections.proofs.Headers.{first_passing}
use Rattle.plural_sections.proofs.Agreement.{faultless_agrees, first_agrees}
use Rattle.plural_bundle.specs.Rules as bundle
use Rattle.plural_bundle.specs.Answer.{IsBundle}
use Rattle.plural_bundle.specs.Value.{BundleValue, bundle_of}
use Rattle.plural_bundle.proofs.BundleParts.{HasParts, lines_then, bundle_parts, same_value}
use Rattle.plural_bundle.proofs.UpToEnd.{same_up_to_end, past_end}
use Rattle.plural_output.specs.Parts.{is_end, bundle_part, output_part}
use Rattle.plural_output.specs.Rules as output
use Rattle.plural_cli.specs.Lines.{IsFaulty}
use Rattle.plural_cli.specs.Reading.{IsWhole}
use Rattle.plural_cli.specs.Joint.{map_in, OnceEnded, Breaks, IsJoint}
use Rattle.plural_cli.specs.Verify.{IsOutputAnswer, IsJointAnswer}

-- ---- lines of which none is the end, and the first that is

any_none : (xs : List TextLine) → HasNone is_end xs → list_any is_end xs ≡ false
any_none [] h = refl
any_none (x ∷ xs) h = ap (λ b. b || list_any is_end xs) h.0 ∙ any_none xs h.1

or_true : (b : Bool) → (b || true) ≡ true
or_true true = refl
or_true false = refl

any_at : (xs : List TextLine) (e : TextLine) (ys : List TextLine) → is_end e ≡ true → list_any is_end (xs ++ e ∷ ys) ≡ true
any_at [] e ys h = ap (λ b. b || list_any is_end ys) h
any_at (x ∷ xs) e ys h = ap (λ b. is_end x || b) (any_at xs e ys h) ∙ or_true (is_end x)

part_none : (all : List TextLine) → HasNone is_end all → bundle_part all ≡ all
part_none all h = take_all (position_or_len is_end all + 1) all (omega (arith, none_found is_end all (position_none is_end all h)))

-- The bundle's lines end with the first that is an end.
pub part_at : (xs : List TextLine) (e : TextLine) (out : List TextLine) → HasNone is_end xs → is_end e ≡ true → bundle_part (xs ++ e ∷ out) ≡ xs ++ e ∷ []
part_at xs e out none h =
    ap (λ n. take (n + 1) (xs ++ e ∷ out)) (place_at is_end xs e out none h)
    ∙ ap (take (length xs + 1)) (sym (append_assoc xs (e ∷ []) out))
    ∙ take_at (xs ++ e ∷ []) out (length xs + 1) (length_push xs e)

module _ (all : List TextLine) where
  -- up to the first end the rule is the bundle's
  in_bundle : (before : List TextLine) → HasNone is_end before → (text : List ℕ) (k : Fault) → Breaks all before text k ≡ bundle.Breaks all all before text k
  in_bundle before h text k =
      ap (λ b. OnceEnded b (bundle.Breaks all all before text k) (output.Breaks (map_in all).tasks (map_in all).words (after_first is_end before) text k)) (any_none before h)

  -- after it the output's
  in_output : (xs : List TextLine) (e : TextLine) (before : List TextLine) → HasNone is_end xs → is_end e ≡ true → (text : List ℕ) (k : Fault)
      → Breaks all (xs ++ e ∷ before) text k ≡ output.Breaks (map_in all).tasks (map_in all).words before text k
  in_output xs e before none h text k =
      ap (λ b. OnceEnded b (bundle.Breaks all all (xs ++ e ∷ before) text k) (output.Breaks (map_in all).tasks (map_in all).words (after_first is_end (xs ++ e ∷ before)) text k)) (any_at xs e before h)
      ∙ ap (λ l. output.Breaks (map_in all).tasks (map_in all).words l text k) (after_at is_end xs e before none h)

-- ---- an input that has an end

-- an end is a line with this text
end_is : (e : TextLine) → is_end e ≡ true → e ≡ (e.0, codes "[end]")
end_is e h = let t : e.1 ≡ codes "[end]" = (bytes_eq-Decides e.1 (codes "[end]")).0 h in λ i. (e.0, t i)

module _ (all xs : List TextLine) (number : ℕ) (out : List TextLine) (whole : all ≡ xs ++ (number, codes "[end]") ∷ out) (none : HasNone is_end xs) where
  -- after lines of the bundle without a fault the kinds of a line are the same in the bundle and in the input
  agrees : (before : List TextLine) (line : TextLine) (after : List TextLine) → xs ++ (number, codes "[end]") ∷ [] ≡ before ++ line ∷ after
      → IsFaultless (bundle.Breaks all (xs ++ (number, codes "[end]") ∷ [])) before → (k : Fault) → bundle.Breaks all (xs ++ (number, codes "[end]") ∷ []) before line.1 k ≡ Breaks all before line.1 k
  agrees before line after e f k =
      let cut : (cs : List TextLine) × (xs ≡ before ++ cs) = elim (split_last xs before (number, codes "[end]") line after e) [
        | inl p ↦ ([], p.0 ∙ sym (append-nil before))
        | inr p ↦ (line ∷ p.0, p.1)
      ] in
      let lacks : HasNone is_end before = all_front (λ l. is_end l ≡ false) before cut.0 (subst (HasNone is_end) cut.1 none) in
      same_up_to_end all xs (number, codes "[end]") out refl before cut.0 cut.1 f line.1 k
      ∙ ap (λ x. bundle.Breaks all x before line.1 k) (sym whole)
      ∙ sym (in_bundle all before lacks line.1 k)

  all_closed : (end : ℕ) → closed all end ≡ (xs ++ (number, codes "[end]") ∷ []) ++ closed out end
  all_closed end =
      ap (λ x. closed x end) whole ∙ append_assoc xs ((number, codes "[end]") ∷ out) ((end, []) ∷ []) ∙ sym (append_assoc xs ((number, codes "[end]") ∷ []) (closed out end))

  part_first : (end line : ℕ) (k : Fault) → IsFirstFault rank (bundle.Breaks all (xs ++ (number, codes "[end]") ∷ [])) (closed (xs ++ (number, codes "[end]") ∷ []) end) line k → IsFirstFault rank (Breaks all) (closed all end) line k
  part_first end line k f = elim (last_first rank (bundle.Breaks all (xs ++ (number, codes "[end]") ∷ [])) (xs ++ (number, codes "[end]") ∷ []) (end, []) line k f) [
    | inl first ↦
        subst (λ x. IsFirstFault rank (Breaks all) x line k) (sym (all_closed end))
        (first_before rank (Breaks all) (xs ++ (number, codes "[end]") ∷ []) (closed out end) line k
        (first_agrees rank (bundle.Breaks all (xs ++ (number, codes "[end]") ∷ [])) (Breaks all) (xs ++ (number, codes "[end]") ∷ []) agrees line k first))
    | inr last ↦
        let past = past_end all (xs ++ (number, codes "[end]") ∷ []) xs number [] last.0 [] k last.2 in
        absurd (let e : false ≡ true = past.1 in cc)
  ]

  part_faultless : (end : ℕ) → IsFaultless (bundle.Breaks all (xs ++ (number, codes "[end]") ∷ [])) (closed (xs ++ (number, codes "[end]") ∷ []) end) → IsFaultless (Breaks all) (xs ++ (number, codes "[end]") ∷ [])
  part_faultless end f =
      faultless_agrees (bundle.Breaks all (xs ++ (number, codes "[end]") ∷ [])) (Breaks all) (xs ++ (number, codes "[end]") ∷ [])
      (λ before line after e g k b. subst (λ X. X) (sym (agrees before line after e g k)) b)
      (last_none (bundle.Breaks all (xs ++ (number, codes "[end]") ∷ [])) (xs ++ (number, codes "[end]") ∷ []) (end, []) f).0

  -- the lines after the end have the kinds of the output's
  delegates : (lines : List TextLine) → Delegates (Breaks all) (output.Breaks (map_in all).tasks (map_in all).words) (λ k. k) (xs ++ (number, codes "[end]") ∷ []) lines
  delegates lines =
      let here : (before : List TextLine) (text : List ℕ) (k : Fault) → Breaks all ((xs ++ (number, codes "[end]") ∷ []) ++ before) text k ≡ output.Breaks (map_in all).tasks (map_in all).words before text k =
      λ before text k. ap (λ x. Breaks all x text k) (append_assoc xs ((number, codes "[end]") ∷ []) before) ∙ in_output all xs (number, codes "[end]") before none refl text k in
      record {
        down = λ before line after e k b. (k, refl, subst (λ X. X) (here before line.1 k) b);
        up = λ before line after e k b. subst (λ X. X) (sym (here before line.1 k)) b;
      }

  output_faultless : (end : ℕ) → IsFaultless (Breaks all) (xs ++ (number, codes "[end]") ∷ []) → IsFaultless (output.Breaks (map_in all).tasks (map_in all).words) (closed out end) → IsJoint all end
  output_faultless end f o =
      subst (IsFaultless (Breaks all)) (sym (all_closed end))
      (faultless_section (Breaks all) (output.Breaks (map_in all).tasks (map_in all).words) (λ k. k) (xs ++ (number, codes "[end]") ∷ []) (closed out end) (delegates (closed out end)) f o)

  output_first : (end line : ℕ) (k : Fault) → IsFaultless (Breaks all) (xs ++ (number, codes "[end]") ∷ []) → IsFirstFault rank (output.Breaks (map_in all).tasks (map_in all).words) (closed out end) line k
      → IsFirstFault rank (Breaks all) (closed all end) line k
  output_first end line k f o =
      subst (λ x. IsFirstFault rank (Breaks all) x line k) (ap (λ x. (xs ++ (number, codes "[end]") ∷ []) ++ x) (append-nil (closed out end)) ∙ sym (all_closed end))
      (first_in_section rank (Breaks all) rank (output.Breaks (map_in all).tasks (map_in all).words) (λ k. k) (xs ++ (number, codes "[end]") ∷ []) (closed out end) [] line k (λ s. refl) (delegates (closed out end)) f o)

-- ---- an input

-- An input with an end, of which the bundle's lines are those up to it and the output's those after it; or one without.
record HasEnd (all : List TextLine) : Type 0 where
  xs : List TextLine
  number : ℕ
  out : List TextLine
  whole : all ≡ xs ++ (number, codes "[end]") ∷ out
  none : HasNone is_end xs
  bundle_is : bundle_part all ≡ xs ++ (number, codes "[end]") ∷ []
  output_is : output_part all ≡ out

by_end : (all : List TextLine) → HasNone is_end all ⊎ HasEnd all
by_end all = elim (first_passing is_end all) [
  | inl h ↦ inl h
  | inr p ↦
      let line : p.1 ≡ (p.1.0, codes "[end]") = end_is p.1 p.5 in
      let whole : all ≡ p.0 ++ (p.1.0, codes "[end]") ∷ p.2 = p.3 ∙ ap (λ x. p.0 ++ x ∷ p.2) line in
      inr (record {
        xs = p.0;
        number = p.1.0;
        out = p.2;
        whole = whole;
        none = p.4;
        bundle_is = ap bundle_part whole ∙ part_at p.0 (p.1.0, codes "[end]") p.2 p.4 refl;
        output_is = ap output_part whole ∙ after_at is_end p.0 (p.1.0, codes "[end]") p.2 p.4 refl;
      })
]

-- The first fault of the bundle's lines is that of the input.
pub bundle_first : (all : List TextLine) (end line : ℕ) (k : Fault) → IsFirstFault rank (bundle.Breaks all (bundle_part all)) (closed (bundle_part all) end) line k → IsFirstFault rank (Breaks all) (closed all end) line k
bundle_first all end line k f = elim (by_end all) [
  | inl none ↦
      let whole : IsFirstFault rank (bundle.Breaks all all) (closed all end) line k = subst (λ x. IsFirstFault rank (bundle.Breaks all x) (closed x end) line k) (part_none all none) f in
      let lacks : HasNone is_end (closed all end) = all_append (λ l. is_end l ≡ false) all ((end, []) ∷ []) none (refl, tt) in
      first_agrees rank (bundle.Breaks all all) (Breaks all) (closed all end)
      (λ before l after e g k. sym (in_bundle all before (all_front (λ x. is_end x ≡ false) before (l ∷ after) (subst (HasNone is_end) e lacks)) l.1 k)) line k whole
  | inr h ↦ part_first all h.xs h.number h.out h.whole h.none end line k (subst (λ x. IsFirstFault rank (bundle.Breaks all x) (closed x end) line k) h.bundle_is f)
]

-- An input whose first lines are a bundle has an end, and spells this bundle.
pub record Splits (all : List TextLine) : Type 0 where
  pub faultless : IsFaultless (Breaks all) (bundle_part all)
  pub value : bundle_of (bundle_part all) ≡ bundle_of all
  pub to_output : (end : ℕ) → IsFaultless (output.Breaks (map_in all).tasks (map_in all).words) (closed (output_part all) end) → IsJoint all end
  pub to_first : (end line : ℕ) (k : Fault) → IsFirstFault rank (output.Breaks (map_in all).tasks (map_in all).words) (closed (output_part all) end) line k → IsFirstFault rank (Breaks all) (closed all end) line k

-- lines with an end have one
never : (all : List TextLine) (h : HasParts all) → HasNone is_end all → ⊥
never all h none =
    let p = h.parts in
    let lines : HasNone is_end (lines_then p h.rest) = subst (HasNone is_end) h.whole none in
    let kernels = all_back (λ l. is_end l ≡ false) p.map_part _ lines.1.1 in
    let image = all_back (λ l. is_end l ≡ false) p.kernel_part _ kernels.1 in
    let last = all_back (λ l. is_end l ≡ false) p.image_part ((p.at_end, codes "[end]") ∷ h.rest) image.1 in
    let f : true ≡ false = last.0 in absurd cc

-- A bundle up to the first `[end]` splits the lines there.
pub bundle_splits : (all : List TextLine) (end : ℕ) → IsBundle all (bundle_part all) end → Splits all
bundle_splits all end f =
    let whole : bundle_part all ++ output_part all ≡ all = take-append-drop (position_or_len is_end all + 1) all in
    let parts : HasParts (bundle_part all) = bundle_parts (bundle_part all) (output_part all) end (subst (λ x. IsBundle x (bundle_part all) end) (sym whole) f) in
    elim (by_end all) [
      | inl none ↦ absurd (never (bundle_part all) parts (subst (HasNone is_end) (sym (part_none all none)) none))
      | inr h ↦
          let good : IsFaultless (Breaks all) (h.xs ++ (h.number, codes "[end]") ∷ []) = part_faultless all h.xs h.number h.out h.whole h.none end (subst (λ x. IsFaultless (bundle.Breaks all x) (closed x end)) h.bundle_is f) in
          record {
            faultless = subst (IsFaultless (Breaks all)) (sym h.bundle_is) good;
            value = same_value (bundle_part all) (output_part all) parts ∙ ap bundle_of whole;
            to_output = λ end o. output_faultless all h.xs h.number h.out h.whole h.none end good (subst (λ x. IsFaultless (output.Breaks (map_in all).tasks (map_in all).words) (closed x end)) h.output_is o);
            to_first = λ end line k o. output_first all h.xs h.number h.out h.whole h.none end line k good (subst (λ x. IsFirstFault rank (output.Breaks (map_in all).tasks (map_in all).words) (closed x end) line k) h.output_is o);
          }
    ]

-- ---- answers

-- The answer that tells the first fault of the bundle's lines tells that of the input.
pub refused_in_bundle : (all : List TextLine) (end status : ℕ) (text : List ℕ) → IsFaulty all (bundle_part all) end status text → IsJointAnswer all end status text
refused_in_bundle all end status text h = inr (record {
  line = h.line;
  kind = h.kind;
  first = bundle_first all end h.line h.kind h.first;
  status_is = h.status_is;
  text_is = h.text_is;
})

-- the answer to the output after a bundle is that to the input
answered_in_output : (all : List TextLine) (end status : ℕ) (text : List ℕ) → IsBundle all (bundle_part all) end → IsOutputAnswer (bundle_of (bundle_part all)) (output_part all) end status text
    → IsJointAnswer all end status text
answered_in_output all end status text f a =
    let s = bundle_splits all end f in
    let answer : IsOutputAnswer (bundle_of all) (output_part all) end status text = subst (λ (b : BundleValue). IsOutputAnswer b (output_part all) end status text) s.value a in
    elim answer [
      | inl w ↦ inl (s.to_output end w.output, w.answer)
      | inr r ↦ inr (record { line = r.line; kind = r.kind; first = s.to_first end r.line r.kind r.first; status_is = r.status_is; text_is = r.text_is })
    ]

-- The answer to the lines after those that were read as a bundle is that to the input.
pub answered_whole : (all lines others : List TextLine) (end : ℕ) (b : BundleValue) → lines ≡ bundle_part all → others ≡ output_part all → IsWhole all lines end b
    → (status : ℕ) (text : List ℕ) → IsOutputAnswer b others end status text → IsJointAnswer all end status text
answered_whole all lines others end b l o w status text a =
    answered_in_output all end status text (subst (λ (ls : List TextLine). IsBundle all ls end) l w.bundle)
    (subst (λ (v : BundleValue). IsOutputAnswer v (output_part all) end status text) (w.value ∙ ap bundle_of l)
    (subst (λ (ls : List TextLine). IsOutputAnswer b ls end status text) o a))
