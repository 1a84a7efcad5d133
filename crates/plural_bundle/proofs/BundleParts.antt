-- Bundles and their parts.
use Rattle.std.proofs.Common.{◌≡◌, ℕ, Bool, true, false, List, [], ◌∷◌, ◌++◌, refl, ap, sym, subst, ◌∙◌, append_assoc, append-nil, arith}
use Rattle.std.specs.Prelude.{Result, Ok, Err, codes, bytes_eq}
use Rattle.std.specs.List.{AllByRecursion}
use Rattle.plural_base.proofs.ListTests.{before_at, all_back}
use Rattle.plural_bytes.specs.Lines.{TextLine, has_text}
use Rattle.plural_sections.specs.Faults.{IsFaultless, closed}
use Rattle.plural_sections.specs.Sections.{closes}
use Rattle.plural_sections.specs.Borders.{head_of, IsHeaded}
use Rattle.plural_sections.proofs.FirstFaults.{faultless_push}
use Rattle.plural_sections.proofs.Stages.{Stage, front, stage_closed, past_here, tail_of, head_tail, headed_by, advance}
use Rattle.plural_map_text.specs.Rules as map
use Rattle.plural_map_text.specs.Parts.{map_of}
use Rattle.plural_asm.specs.Rules as asm
use Rattle.plural_asm.specs.Labels.{names_of}
use Rattle.plural_asm.specs.Words.{code_of, labels_of}
use Rattle.plural_image.specs.Image as image
use Rattle.plural_image.specs.Image.{image_of}
use Rattle.plural_sections.specs.declared.fault.Fault.{Fault}
use Rattle.plural_sections.specs.declared.fault.Fault.TheVariants as fault
use Rattle.plural_bundle.specs.Sections.{map_lines, kernel_lines}
use Rattle.plural_bundle.specs.FirstLine.{first_line, IsBegun}
use Rattle.plural_bundle.specs.Rules.{Breaks}
use Rattle.plural_bundle.specs.Answer.{IsBundle}
use Rattle.plural_bundle.specs.Value.{program_with, bundle_of}
use Rattle.plural_bundle.specs.Laws.{Parts, lines_of, AreGood, spelled_by, PartsMakeABundle, ABundleHasParts}
use Rattle.plural_bundle.proofs.BundleRule.{bundle_rule, stage_map, map_part, kernel_part, image_part, past_sections}
use Rattle.plural_bundle.proofs.BundleSections.{kernels_is, kernels_in, map_is}
use Rattle.plural_bundle.proofs.ReadBundle.{AtImage, is_bundle, value_is}

-- ---- the lines of parts

-- The lines of parts from each header on, and what follows them.
abbrev pub from_end : Parts → List TextLine → List TextLine
from_end p rest = (p.at_end, codes "[end]") ∷ rest

abbrev pub from_image : Parts → List TextLine → List TextLine
from_image p rest = (p.at_image, codes "[image]") ∷ (p.image_part ++ from_end p rest)

abbrev pub from_kernels : Parts → List TextLine → List TextLine
from_kernels p rest = (p.at_kernels, codes "[kernels]") ∷ (p.kernel_part ++ from_image p rest)

abbrev pub from_map : Parts → List TextLine → List TextLine
from_map p rest = (p.at_map, codes "[map]") ∷ (p.map_part ++ from_kernels p rest)

-- The lines of parts, and what follows them.
abbrev pub lines_then : Parts → List TextLine → List TextLine
lines_then p rest = p.first ∷ from_map p rest

-- more lines after them follow them
then_more : (p : Parts) (rest more : List TextLine) → lines_then p rest ++ more ≡ lines_then p (rest ++ more)
then_more p rest more =
    ap (λ x. p.first ∷ (p.at_map, codes "[map]") ∷ x)
    (append_assoc p.map_part (from_kernels p rest) more
    ∙ ap (λ x. p.map_part ++ (p.at_kernels, codes "[kernels]") ∷ x)
    (append_assoc p.kernel_part (from_image p rest) more
    ∙ ap (λ x. p.kernel_part ++ (p.at_image, codes "[image]") ∷ x) (append_assoc p.image_part (from_end p rest) more)))

module _ (p : Parts) (g : AreGood p) where
  begun : (rest : List TextLine) → IsBegun (lines_then p rest) (from_map p rest) p.version
  begun rest = record { first = p.first; whole = refl; good = g.first }

  map_headed : (rest : List TextLine) → IsHeaded (codes "[map]") (from_map p rest) (p.map_part ++ from_kernels p rest)
  map_headed rest = record { number = p.at_map; whole = refl }

  kernels_headed : (rest : List TextLine) → IsHeaded (codes "[kernels]") (from_kernels p rest) (p.kernel_part ++ from_image p rest)
  kernels_headed rest = record { number = p.at_kernels; whole = refl }

  image_headed : (rest : List TextLine) → IsHeaded (codes "[image]") (from_image p rest) (p.image_part ++ from_end p rest)
  image_headed rest = record { number = p.at_image; whole = refl }

  kernels_of : (rest more : List TextLine) → kernel_lines (lines_then p rest ++ more) ≡ p.kernel_part
  kernels_of rest more = kernels_in p.map_part (begun rest) (map_headed rest) refl g.map_stays (kernels_headed rest) p.kernel_part refl g.kernels_stay (image_headed rest) more

  -- the parts as what was read of their lines
  at_parts : (input rest : List TextLine) → kernel_lines input ≡ p.kernel_part
      → AtImage input (lines_then p rest) (from_map p rest) (p.map_part ++ from_kernels p rest) p.map_part (from_kernels p rest) (p.kernel_part ++ from_image p rest) p.kernel_part (from_image p rest) (p.image_part ++ from_end p rest) p.image_part
      (from_end p rest) (names_of p.kernel_part) p.version p.at_kernels (map_of p.map_part)
  at_parts input rest own = record {
    at_kernels = record {
      at_map = record {
        begun = begun rest;
        header = map_headed rest;
        names = ap names_of (sym own);
        own = sym (before_at (λ m. closes m.1) p.map_part (p.at_kernels, codes "[kernels]") (p.kernel_part ++ from_image p rest) g.map_stays refl);
        whole = refl;
        shut = refl;
      };
      good = g.map_good;
      value = refl;
      header = kernels_headed rest;
      own = sym (before_at (λ m. closes m.1) p.kernel_part (p.at_image, codes "[image]") (p.image_part ++ from_end p rest) g.kernels_stay refl);
      whole = refl;
      shut = refl;
    };
    good = g.kernels_good;
    header = image_headed rest;
    own = sym (before_at (λ m. closes m.1) p.image_part (p.at_end, codes "[end]") rest g.image_stays refl);
    whole = refl;
    shut = refl;
  }

  value_of : (rest : List TextLine) → bundle_of (lines_then p rest) ≡ spelled_by p
  value_of rest =
      let own : kernel_lines (lines_then p rest) ≡ p.kernel_part = ap kernel_lines (sym (append-nil (lines_then p rest))) ∙ kernels_of rest [] in
      sym (value_is (at_parts (lines_then p rest) rest own) (map_of p.map_part).words (map_of p.map_part) (code_of p.kernel_part p.kernel_part) (labels_of p.kernel_part)
      (program_with (map_of p.map_part) (code_of p.kernel_part p.kernel_part) (labels_of p.kernel_part)) (image_of (map_of p.map_part).words p.image_part) refl refl refl refl refl refl)

-- ---- parts make a bundle

-- Parts without a fault, one after the other, are a bundle.
pub parts_make_a_bundle : PartsMakeABundle
parts_make_a_bundle p more end g =
    let headed : IsHeaded (codes "[end]") (from_end p []) [] = record { number = p.at_end; whole = refl } in
    (is_bundle (at_parts p g (lines_of p ++ more) [] (kernels_of p g [] more)) end (map_of p.map_part).words refl g.image_good headed tt, value_of p g [])

-- ---- a bundle has parts

first_of : (input lines : List TextLine) (end : ℕ) → IsBundle input lines end → (rest : List TextLine) × (version : ℕ) × IsBegun lines rest version
first_of input [] end f = absurd (f.none end fault.Form (record { before = []; text = []; after = []; whole = refl; breaks = refl }))
first_of input (l ∷ ls) end f = let v = by (first_line l.1) refl in (ls, v.0, record { first = l; whole = refl; good = v.1 })
  where
    by : (r : Result ℕ Fault) → first_line l.1 ≡ r → (version : ℕ) × (first_line l.1 ≡ Ok version)
    by (Ok version) e = (version, e)
    by (Err k) e = absurd (f.none l.0 k (record { before = []; text = l.1; after = closed ls end; whole = refl; breaks = e }))

map_header : (input : List TextLine) {lines rest : List TextLine} {version : ℕ} (end : ℕ) → IsBundle input lines end → IsBegun lines rest version → (more : List TextLine) × IsHeaded (codes "[map]") rest more
map_header input {lines} {rest} end f b = headed_by rest end (codes "[map]") (omega arith) (by (bytes_eq (head_of rest end).1 (codes "[map]")) refl)
  where
    by : (t : Bool) → bytes_eq (head_of rest end).1 (codes "[map]") ≡ t → bytes_eq (head_of rest end).1 (codes "[map]") ≡ true
    by true e = e
    by false e =
        absurd (f.none (head_of rest end).0 fault.Form (record { before = b.first ∷ []; text = (head_of rest end).1; after = tail_of rest end; whole = ap (λ x. closed x end) b.whole ∙ ap (λ x. b.first ∷ x) (head_tail rest end); breaks = (refl, e) }))

-- The parts of a bundle with which an input begins, and what follows them, which has no text.
pub record HasParts (lines : List TextLine) : Type 0 where
  pub parts : Parts
  pub rest : List TextLine
  pub whole : lines ≡ lines_then parts rest
  pub good : AreGood parts
  pub texts : AllByRecursion (λ l. has_text l.1 ≡ true) lines → rest ≡ []

nothing_left : (input : List TextLine) {all r1 r2 rest : List TextLine} {version : ℕ} (end : ℕ) (b : IsBegun all r1 version) (h : IsHeaded (codes "[map]") r1 r2)
    → Stage (bundle_rule input b h) all 3 rest → AllByRecursion (λ l. has_text l.1 ≡ true) rest → IsBundle input all end → rest ≡ []
nothing_left input {rest = []} end b h s t f = refl
nothing_left input {all} {rest = l ∷ ls} {version} end b h s t f = absurd (f.none l.0 fault.Form (record {
  before = front s;
  text = l.1;
  after = closed ls end;
  whole = stage_closed s end;
  breaks = subst (λ X. X) (ap (λ x. Breaks input all x l.1 fault.Form) (append-nil (front s))) (subst (λ X. X) (sym (past_here s (past_sections input all version) [] l.1 fault.Form)) (refl, t.0));
}))

-- A bundle with which an input begins has parts.
pub bundle_parts : (lines more : List TextLine) (end : ℕ) → IsBundle (lines ++ more) lines end → HasParts lines
bundle_parts lines more end f =
    let input : List TextLine = lines ++ more in
    let first = first_of input lines end f in
    let b = first.2 in
    let header = map_header input end f b in
    let h = header.1 in
    let a0 = advance (stage_map input b h) (map_part input b h) end f (omega arith) in
    let a1 = advance a0.next (kernel_part input b h) end f (omega arith) in
    let a2 = advance a1.next (image_part input b h) end f (omega arith) in
    let kernel_own : kernel_lines lines ≡ a1.lines = kernels_is a0.lines b h a0.whole a0.none a0.headed ∙ sym a1.own in
    let map_own : map_lines lines ≡ a0.lines = map_is b h ∙ sym a0.own in
    let names_own : kernel_lines input ≡ a1.lines = kernels_in a0.lines b h a0.whole a0.none a0.headed a1.lines a1.whole a1.none a1.headed more in
    let map_good : IsFaultless (map.Breaks first.1 (names_of (kernel_lines input)) (map_lines lines)) (closed a0.lines a0.headed.number) =
    faultless_push (map.Breaks first.1 (names_of (kernel_lines input)) (map_lines lines)) a0.lines (a0.headed.number, []) a0.good a0.is_whole in
    let parts : Parts =
    record { first = b.first; version = first.1; at_map = h.number; map_part = a0.lines; at_kernels = a0.headed.number; kernel_part = a1.lines; at_image = a1.headed.number; image_part = a2.lines; at_end = a2.headed.number } in
    let from_image : a1.back ≡ (a1.headed.number, codes "[image]") ∷ (a2.lines ++ (a2.headed.number, codes "[end]") ∷ a2.more) = a1.headed.whole ∙ ap (λ x. (a1.headed.number, codes "[image]") ∷ x) (a2.whole ∙ ap (λ x. a2.lines ++ x) a2.headed.whole) in
    let from_kernels : a0.back ≡ (a0.headed.number, codes "[kernels]") ∷ (a1.lines ++ (a1.headed.number, codes "[image]") ∷ (a2.lines ++ (a2.headed.number, codes "[end]") ∷ a2.more)) =
    a0.headed.whole ∙ ap (λ x. (a0.headed.number, codes "[kernels]") ∷ x) (a1.whole ∙ ap (λ x. a1.lines ++ x) from_image) in
    record {
      parts = parts;
      rest = a2.more;
      whole = b.whole ∙ ap (λ x. b.first ∷ x) (h.whole ∙ ap (λ x. (h.number, codes "[map]") ∷ x) (a0.whole ∙ ap (λ x. a0.lines ++ x) from_kernels));
      good = record {
        first = b.good;
        map_stays = a0.none;
        map_good = subst (λ l. IsFaultless (map.Breaks first.1 (names_of l) a0.lines) (closed a0.lines a0.headed.number)) names_own
            (subst (λ x. IsFaultless (map.Breaks first.1 (names_of (kernel_lines input)) x) (closed a0.lines a0.headed.number)) map_own map_good);
        kernels_stay = a1.none;
        kernels_good = subst (λ l. IsFaultless (asm.Breaks l) a1.lines) kernel_own a1.good;
        image_stays = a2.none;
        image_good = subst (λ l. IsFaultless (image.Breaks (map_of l).words) a2.lines) map_own a2.good;
      };
      texts = λ texts. nothing_left input end b h a2.next (all_back (λ l. has_text l.1 ≡ true) (front a2.next) a2.more (subst (AllByRecursion (λ l. has_text l.1 ≡ true)) a2.next.whole texts)) f;
    }

-- A bundle with which an input begins is the same as the one that the input spells.
pub same_value : (lines more : List TextLine) → HasParts lines → bundle_of lines ≡ bundle_of (lines ++ more)
same_value lines more h =
    ap bundle_of h.whole ∙ value_of h.parts h.good h.rest
    ∙ sym (ap bundle_of (ap (λ x. x ++ more) h.whole ∙ then_more h.parts h.rest more) ∙ value_of h.parts h.good (h.rest ++ more))

-- A bundle is such parts.
pub a_bundle_has_parts : ABundleHasParts
a_bundle_has_parts lines more end texts f =
    let h = bundle_parts lines more end f in
    (h.parts, h.whole ∙ ap (lines_then h.parts) (h.texts texts), h.good)
