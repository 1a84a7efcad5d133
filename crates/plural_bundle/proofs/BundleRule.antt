-- The rule of a bundle's lines as that of a text of sections.
use Rattle.std.proofs.Common.{◌≡◌, ℕ, suc, ◌+◌, true, false, List, [], ◌∷◌, refl, ap, sym, ◌∙◌, subst, arith}
use Rattle.std.specs.Prelude.{Ok, Err, codes}
use Rattle.plural_bytes.specs.Lines.{TextLine}
use Rattle.plural_sections.specs.declared.line_error.LineError.{LineError}
use Rattle.plural_sections.specs.Faults.{IsFaultless, IsFirstFault, closed}
use Rattle.plural_sections.specs.Borders.{head_of, IsHeaded, IsMissing}
use Rattle.plural_sections.specs.Texts.{PastBreaks, TextBreaks}
use Rattle.plural_sections.proofs.FirstFaults.{faultless_nil, faultless_push}
use Rattle.plural_sections.proofs.TextRules.{TextRule, SectionRule, rank_low, part_rule, whole_part_rule}
use Rattle.plural_sections.proofs.Stages.{Stage, stage_first, tail_of, head_tail}
use Rattle.plural_map_text.specs.Rules as map
use Rattle.plural_map_text.specs.Parts.{map_of}
use Rattle.plural_map_text.specs.declared.fault.MapKind.{MapKind}
use Rattle.plural_map_text.specs.declared.fault.MapKind.TheVariants as map_kind
use Rattle.plural_asm.specs.Rules as kernels
use Rattle.plural_asm.specs.Labels.{names_of}
use Rattle.plural_asm.specs.declared.object.AsmKind.{AsmKind}
use Rattle.plural_asm.specs.declared.object.AsmKind.TheVariants as asm_kind
use Rattle.plural_image.specs.Image as image
use Rattle.plural_image.specs.declared.fault.ImageKind.{ImageKind}
use Rattle.plural_image.specs.declared.fault.ImageKind.TheVariants as image_kind
use Rattle.plural_sections.specs.declared.fault.Fault.{Fault}
use Rattle.plural_sections.specs.declared.fault.Fault.TheVariants as fault
use Rattle.plural_bundle.specs.Sections.{map_lines, kernel_lines}
use Rattle.plural_bundle.specs.FirstLine.{first_line, version_or_none, IsBegun, IsBadFirst}
use Rattle.plural_sections.specs.Kinds.{rank}
use Rattle.plural_map_text.specs.Kinds.{map_fault}
use Rattle.plural_asm.specs.Kinds.{kernel_fault}
use Rattle.plural_image.specs.Kinds.{image_fault}
use Rattle.plural_bundle.specs.Rules.{SectionBreaks, Breaks}
use Rattle.plural_bundle.specs.Answer.{Faults}

-- ---- kinds

-- A map line's kinds keep their order in a bundle.
pub map_rank : (k : MapKind) → rank (map_fault k) ≡ map.rank k
map_rank map_kind.Form = refl
map_rank map_kind.Number = refl
map_rank map_kind.Name = refl
map_rank map_kind.Count = refl
map_rank (map_kind.Outside k) = refl
map_rank (map_kind.Cycle names) = refl

-- And a kernel line's.
pub kernel_rank : (k : AsmKind) → rank (kernel_fault k) ≡ kernels.rank k
kernel_rank asm_kind.Form = refl
kernel_rank asm_kind.Number = refl
kernel_rank asm_kind.Name = refl
kernel_rank asm_kind.Count = refl
kernel_rank asm_kind.Reach = refl

-- And an image line's.
pub image_rank : (k : ImageKind) → rank (image_fault k) ≡ image.rank k
image_rank image_kind.Form = refl
image_rank image_kind.Address = refl

-- ---- the first two lines

-- A first line that tells a version has no fault.
pub first_good : (input all : List TextLine) (first : TextLine) (version : ℕ) → first_line first.1 ≡ Ok version → IsFaultless (Breaks input all) (first ∷ [])
first_good input all first version e =
    faultless_push (Breaks input all) [] first (faultless_nil (Breaks input all)) (λ k b. absurd (let f : Ok version ≡ Err k = sym e ∙ b in cc))

-- The fault of a first line is the first of the bundle.
pub first_bad : (input all : List TextLine) (end : ℕ) (error : LineError Fault) → IsBadFirst all end error → Faults input all end error
first_bad input all end error h =
    let first : IsFirstFault rank (Breaks input all) (closed all end) (head_of all end).0 h.fault = record {
      before = [];
      text = (head_of all end).1;
      after = tail_of all end;
      whole = head_tail all end;
      earlier = faultless_nil (Breaks input all);
      breaks = h.bad;
      least = λ other b. let same : Err h.fault ≡ Err other = sym h.bad ∙ b in let e : h.fault ≡ other = cc in rw e (omega arith);
    } in
    subst (Faults input all end) (sym h.is) first

-- The first fault is that of what stands after the first line, if it isn't the header of the map.
pub no_map : (input : List TextLine) {all rest : List TextLine} {version : ℕ} → IsBegun all rest version → (end : ℕ) (error : LineError Fault) → IsMissing (codes "[map]") rest end error
    → Faults input all end error
no_map input {all} {rest} {version} b end error m =
    let first : IsFirstFault rank (Breaks input all) (closed all end) (head_of rest end).0 fault.Form = record {
      before = b.first ∷ [];
      text = (head_of rest end).1;
      after = tail_of rest end;
      whole = ap (λ x. closed x end) b.whole ∙ ap (λ x. b.first ∷ x) (head_tail rest end);
      earlier = first_good input all b.first version b.good;
      breaks = (refl, m.other);
      least = λ other o. rank_low other;
    } in
    subst (Faults input all end) (sym m.is) first

-- ---- the sections after them

-- The rule of the lines after a first line and the header of the map.
abbrev pub bundle_rule : (input : List TextLine) {all rest more : List TextLine} {version : ℕ} → IsBegun all rest version → IsHeaded (codes "[map]") rest more → TextRule
bundle_rule input {all} {rest} {more} {version} b h = record {
  Breaks = Breaks input all;
  head = b.first ∷ (h.number, codes "[map]") ∷ [];
  good = faultless_push (Breaks input all) (b.first ∷ []) (h.number, codes "[map]") (first_good input all b.first version b.good) (λ k o. absurd (let f : true ≡ false = o.1 in cc));
  Sections = SectionBreaks input all version;
  rule = λ before text f. ap (λ v. TextBreaks (SectionBreaks input all (version_or_none v)) before text f) b.good;
}

-- Nothing is read yet of the sections.
pub stage_map : (input : List TextLine) {all rest more : List TextLine} {version : ℕ} (b : IsBegun all rest version) (h : IsHeaded (codes "[map]") rest more) → Stage (bundle_rule input b h) all 0 more
stage_map input {all} {rest} {more} b h = stage_first (bundle_rule input b h) all more (b.whole ∙ ap (λ x. b.first ∷ x) h.whole)

-- The map's section.
abbrev pub map_part : (input : List TextLine) {all rest more : List TextLine} {version : ℕ} (b : IsBegun all rest version) (h : IsHeaded (codes "[map]") rest more) → SectionRule MapKind (bundle_rule input b h) 0
map_part input {all} {rest} {more} {version} b h =
    whole_part_rule (bundle_rule input b h) 0 (map.Breaks version (names_of (kernel_lines input)) (map_lines all)) map_fault map.rank (codes "[kernels]") map_rank refl refl (λ before text f. refl)

-- The kernels' section.
abbrev pub kernel_part : (input : List TextLine) {all rest more : List TextLine} {version : ℕ} (b : IsBegun all rest version) (h : IsHeaded (codes "[map]") rest more) → SectionRule AsmKind (bundle_rule input b h) 1
kernel_part input {all} b h = part_rule (bundle_rule input b h) 1 (kernels.Breaks (kernel_lines all)) kernel_fault kernels.rank (codes "[image]") kernel_rank refl refl (λ before text f. refl)

-- The image's section.
abbrev pub image_part : (input : List TextLine) {all rest more : List TextLine} {version : ℕ} (b : IsBegun all rest version) (h : IsHeaded (codes "[map]") rest more) → SectionRule ImageKind (bundle_rule input b h) 2
image_part input {all} b h =
    part_rule (bundle_rule input b h) 2 (image.Breaks (map_of (map_lines all)).words) image_fault image.rank (codes "[end]") image_rank refl refl (λ before text f. refl)

-- After three sections nothing follows.
pub past_sections : (input all : List TextLine) (version m : ℕ) (before : List TextLine) (text : List ℕ) (f : Fault) → SectionBreaks input all version (3 + m) before text f ≡ PastBreaks text f
past_sections input all version m before text f = let n : 3 + m ≡ suc (suc (suc m)) = omega arith in ap (λ k. SectionBreaks input all version k before text f) n
