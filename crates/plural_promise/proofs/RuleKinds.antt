-- The rules of lines give a line at most one kind of each rank.
use Rattle.std.proofs.Common.{◌≡◌, ℕ, zero, suc, ◌<◌, Bool, true, false, List, [], ◌∷◌, Some, None, Option, refl, ap, sym, ◌∙◌, arith, ◌⊎◌, inl, inr, if◌then◌else◌}
use Rattle.std.specs.Prelude.{Err, ◌==◌, codes, MatchOption, length}
use Rattle.std.specs.List.{list_any, after_first}
use Rattle.plural_bytes.specs.Lines.{TextLine}
use Rattle.plural_sections.specs.declared.fault.Fault.{Fault}
use Rattle.plural_sections.specs.declared.fault.Fault.TheVariants as fault
use Rattle.plural_sections.specs.Kinds.{rank}
use Rattle.plural_sections.specs.Sections.{closes, closings, since}
use Rattle.plural_sections.specs.Texts.{LineRule, IsNot, Renamed, InSection, PartBreaks, WholePartBreaks, PastBreaks}
use Rattle.plural_regions.specs.declared.region.Region.{Region}
use Rattle.plural_regions.specs.Bounds.{IsLeastOutside}
use Rattle.plural_map_text.specs.Rules as map
use Rattle.plural_map_text.specs.Shape as map_shape
use Rattle.plural_map_text.specs.Parts.{Parts, tasks_of, task_names, parts_of, map_of}
use Rattle.plural_map_text.specs.RegionOf.{region_of}
use Rattle.plural_map.specs.Value.{TaskValue}
use Rattle.plural_map.proofs.CycleLaws.{one_cycle}
use Rattle.plural_map_text.specs.Kinds.{map_fault}
use Rattle.plural_map_text.specs.declared.line.MapLine.{MapLine}
use Rattle.plural_map_text.specs.declared.line.MapLine.TheVariants as map_line
use Rattle.plural_map_text.specs.declared.fault.MapKind.{MapKind}
use Rattle.plural_map_text.specs.declared.fault.MapKind.TheVariants as map_kind
use Rattle.plural_asm.specs.Rules as kernels
use Rattle.plural_asm.specs.Kinds.{kernel_fault}
use Rattle.plural_asm.specs.declared.object.AsmKind.{AsmKind}
use Rattle.plural_asm.specs.declared.object.AsmKind.TheVariants as asm_kind
use Rattle.plural_image.specs.Image as image
use Rattle.plural_image.specs.Kinds.{image_fault}
use Rattle.plural_image.specs.declared.fault.ImageKind.{ImageKind}
use Rattle.plural_image.specs.declared.fault.ImageKind.TheVariants as image_kind
use Rattle.plural_log.specs.Faults as log
use Rattle.plural_log.specs.Kinds.{log_fault}
use Rattle.plural_log.specs.declared.fault.LogKind.{LogKind}
use Rattle.plural_log.specs.declared.fault.LogKind.TheVariants as log_kind
use Rattle.plural_bundle.specs.Rules as bundle
use Rattle.plural_asm.specs.Labels.{names_of}
use Rattle.plural_bundle.specs.Sections.{map_lines, kernel_lines}
use Rattle.plural_bundle.specs.FirstLine.{version_of}
use Rattle.plural_bundle.proofs.BundleRule as bundle_rule
use Rattle.plural_output.specs.Parts.{is_end}
use Rattle.plural_output.specs.Rules as output
use Rattle.plural_output.proofs.OutputRule as output_rule
use Rattle.plural_cli.specs.Joint as joint
use Rattle.plural_cli.specs.Joint.{map_in, OnceEnded}
use Rattle.plural_promise.proofs.OneFault.{Differ}

-- ---- kinds that their numbers tell apart

kernel_kind_of : ℕ → AsmKind
kernel_kind_of n = if n == 1 then asm_kind.Form else if n == 2 then asm_kind.Number else if n == 3 then asm_kind.Name else if n == 4 then asm_kind.Count else asm_kind.Reach

kernel_kind_back : (k : AsmKind) → kernel_kind_of (kernels.rank k) ≡ k
unfolding kernel_kind_of
kernel_kind_back asm_kind.Form = refl
kernel_kind_back asm_kind.Number = refl
kernel_kind_back asm_kind.Name = refl
kernel_kind_back asm_kind.Count = refl
kernel_kind_back asm_kind.Reach = refl

-- Kinds of kernel lines of one number are the same.
pub kernel_kinds : (Breaks : LineRule AsmKind) → Differ kernels.rank Breaks
kernel_kinds Breaks before text k l a b e = sym (kernel_kind_back k) ∙ ap kernel_kind_of e ∙ kernel_kind_back l

log_kind_of : ℕ → LogKind
log_kind_of n = if n == 1 then log_kind.Form else if n == 2 then log_kind.Number else if n == 3 then log_kind.Name else log_kind.Count

log_kind_back : (k : LogKind) → log_kind_of (log.rank k) ≡ k
unfolding log_kind_of
log_kind_back log_kind.Form = refl
log_kind_back log_kind.Number = refl
log_kind_back log_kind.Name = refl
log_kind_back log_kind.Count = refl

log_kinds : (Breaks : LineRule LogKind) → Differ log.rank Breaks
log_kinds Breaks before text k l a b e = sym (log_kind_back k) ∙ ap log_kind_of e ∙ log_kind_back l

image_kind_of : ℕ → ImageKind
image_kind_of n = if n == 1 then image_kind.Form else image_kind.Address

image_kind_back : (k : ImageKind) → image_kind_of (image.rank k) ≡ k
unfolding image_kind_of
image_kind_back image_kind.Form = refl
image_kind_back image_kind.Address = refl

image_kinds : (Breaks : LineRule ImageKind) → Differ image.rank Breaks
image_kinds Breaks before text k l a b e = sym (image_kind_back k) ∙ ap image_kind_of e ∙ image_kind_back l

-- ---- map lines, of which one kind tells an instance, and one a cycle

-- The instance that a kind tells, 0 if it tells none.
told : MapKind → ℕ
told map_kind.Form = 0
told map_kind.Number = 0
told map_kind.Name = 0
told map_kind.Count = 0
told (map_kind.Outside k) = k
told (map_kind.Cycle names) = 0

map_kind_of : ℕ → (k : ℕ) → MapKind
map_kind_of n k = if n == 1 then map_kind.Form else if n == 2 then map_kind.Number else if n == 3 then map_kind.Name else if n == 4 then map_kind.Count else map_kind.Outside k

-- Its number and the instance give a kind that tells no cycle.
map_kind_back : (k : MapKind) → (map.rank k ≡ 7 → ⊥) → map_kind_of (map.rank k) (told k) ≡ k
unfolding told map_kind_of
map_kind_back map_kind.Form h = refl
map_kind_back map_kind.Number h = refl
map_kind_back map_kind.Name h = refl
map_kind_back map_kind.Count h = refl
map_kind_back (map_kind.Outside k) h = refl
map_kind_back (map_kind.Cycle names) h = absurd (h refl)

-- Kinds of one number that tell one instance are the same.
map_kind_is : (k l : MapKind) → (map.rank k ≡ 7 → ⊥) → (map.rank l ≡ 7 → ⊥) → map.rank k ≡ map.rank l → told k ≡ told l → k ≡ l
map_kind_is k l h g e f = sym (map_kind_back k h) ∙ (λ i. map_kind_of (e i) (f i)) ∙ map_kind_back l g

-- The least instance outside a memory is one.
one_outside : (r : Region) (q w k l : ℕ) → IsLeastOutside r q w k → IsLeastOutside r q w l → k ≡ l
one_outside r q w k l f g =
    let low : k < l → ⊥ = λ h. let a = f.outside in let b : a.0 < w = g.least k h a.0 a.2 in omega (arith, a.1, b) in
    let high : l < k → ⊥ = λ h. let a = g.outside in let b : a.0 < w = f.least l h a.0 a.2 in omega (arith, a.1, b) in
    omega (arith, low, high)

outside_in : (o : Option TaskValue) (r : Region) (w k l : ℕ) → MatchOption o ⊥ (λ t. IsLeastOutside r t.quota w k) → MatchOption o ⊥ (λ t. IsLeastOutside r t.quota w l) → k ≡ l
outside_in None r w k l f g = absurd f
outside_in (Some t) r w k l f g = one_outside r t.quota w k l f g

outside_at : (p : Parts) (s : MapLine) (k l : ℕ) → map.IsOutsideAt p s k → map.IsOutsideAt p s l → k ≡ l
outside_at p (map_line.Region mode base stride count) k l f g = outside_in p.current (region_of mode base stride count) p.words k l f g
outside_at p (map_line.Memory words) k l f g = absurd f
outside_at p (map_line.Cache sets ways) k l f g = absurd f
outside_at p (map_line.Task name kind entry budget) k l f g = absurd f
outside_at p (map_line.After name when) k l f g = absurd f
outside_at p map_line.Join k l f g = absurd f

-- A line with a shape has no cycle.
in_table : (version : ℕ) (labels names : List (List ℕ)) (n : ℕ) (p : Parts) (s : MapLine) (k : MapKind) → map.HasKind version labels names n p s k → map.rank k ≡ 7 → ⊥
in_table version labels names n p s map_kind.Form f e = omega (arith, e)
in_table version labels names n p s map_kind.Number f e = omega (arith, e)
in_table version labels names n p s map_kind.Name f e = omega (arith, e)
in_table version labels names n p s map_kind.Count f e = omega (arith, e)
in_table version labels names n p s (map_kind.Outside k) f e = omega (arith, e)
in_table version labels names n p s (map_kind.Cycle cycle) f e = f

one_told : (version : ℕ) (labels names : List (List ℕ)) (n : ℕ) (p : Parts) (s : MapLine) (k l : MapKind) → map.HasKind version labels names n p s k → map.HasKind version labels names n p s l → map.rank k ≡ map.rank l → told k ≡ told l
unfolding told
one_told version labels names n p s (map_kind.Outside k) (map_kind.Outside l) f g e = outside_at p s k l f g
one_told version labels names n p s (map_kind.Outside k) map_kind.Form f g e = absurd (omega (arith, e))
one_told version labels names n p s (map_kind.Outside k) map_kind.Number f g e = absurd (omega (arith, e))
one_told version labels names n p s (map_kind.Outside k) map_kind.Name f g e = absurd (omega (arith, e))
one_told version labels names n p s (map_kind.Outside k) map_kind.Count f g e = absurd (omega (arith, e))
one_told version labels names n p s (map_kind.Outside k) (map_kind.Cycle cycle) f g e = absurd g
one_told version labels names n p s map_kind.Form (map_kind.Outside l) f g e = absurd (omega (arith, e))
one_told version labels names n p s map_kind.Number (map_kind.Outside l) f g e = absurd (omega (arith, e))
one_told version labels names n p s map_kind.Name (map_kind.Outside l) f g e = absurd (omega (arith, e))
one_told version labels names n p s map_kind.Count (map_kind.Outside l) f g e = absurd (omega (arith, e))
one_told version labels names n p s (map_kind.Cycle cycle) (map_kind.Outside l) f g e = absurd f
one_told version labels names n p s k l f g e = refl

-- The line that closes a section has one kind of each number: a cycle is one.
end_kinds : (version total n : ℕ) (p : Parts) (k l : MapKind) → map.EndKind version total n p k → map.EndKind version total n p l → map.rank k ≡ map.rank l → k ≡ l
end_kinds version total n p map_kind.Number l f g e = absurd f
end_kinds version total n p map_kind.Name l f g e = absurd f
end_kinds version total n p map_kind.Count l f g e = absurd f
end_kinds version total n p (map_kind.Outside i) l f g e = absurd f
end_kinds version total n p map_kind.Form map_kind.Form f g e = refl
end_kinds version total n p map_kind.Form map_kind.Number f g e = absurd g
end_kinds version total n p map_kind.Form map_kind.Name f g e = absurd g
end_kinds version total n p map_kind.Form map_kind.Count f g e = absurd g
end_kinds version total n p map_kind.Form (map_kind.Outside i) f g e = absurd g
end_kinds version total n p map_kind.Form (map_kind.Cycle b) f g e = absurd (omega (arith, e))
end_kinds version total n p (map_kind.Cycle a) map_kind.Form f g e = absurd (omega (arith, e))
end_kinds version total n p (map_kind.Cycle a) map_kind.Number f g e = absurd g
end_kinds version total n p (map_kind.Cycle a) map_kind.Name f g e = absurd g
end_kinds version total n p (map_kind.Cycle a) map_kind.Count f g e = absurd g
end_kinds version total n p (map_kind.Cycle a) (map_kind.Outside i) f g e = absurd g
end_kinds version total n p (map_kind.Cycle a) (map_kind.Cycle b) f g e = ap (λ (names : List (List ℕ)). map_kind.Cycle names) ((one_cycle (tasks_of p)).one a b f.2 g.2)

map_kinds : (version : ℕ) (labels : List (List ℕ)) (all : List TextLine) → Differ map.rank (map.Breaks version labels all)
map_kinds version labels all before [] k l a b e = end_kinds version (length all) (length before) (parts_of (task_names all) before) k l a b e
map_kinds version labels all before (c ∷ cs) k l a b e = by (map_shape.shape_of (c ∷ cs)) a b
  where
    names : List (List ℕ)
    names = task_names all

    by : (o : Option MapLine) → MatchOption o (k ≡ map_kind.Form) (λ s. map.HasKind version labels names (length before) (parts_of names before) s k) → MatchOption o (l ≡ map_kind.Form) (λ s. map.HasKind version labels names (length before) (parts_of names before) s l) → k ≡ l
    by None a b = a ∙ sym b
    by (Some s) a b =
        let n = length before in
        let p = parts_of names before in
        map_kind_is k l (in_table version labels names n p s k a) (in_table version labels names n p s l b) e (one_told version labels names n p s k l a b e)

-- The one of form is a fault of form.
end_form : (version : ℕ) (labels : List (List ℕ)) (all before : List TextLine) (k : MapKind) → map.Breaks version labels all before [] k → map.rank k ≡ 1 → map_fault k ≡ fault.Form
end_form version labels all before map_kind.Form b e = refl
end_form version labels all before map_kind.Number b e = absurd b
end_form version labels all before map_kind.Name b e = absurd b
end_form version labels all before map_kind.Count b e = absurd b
end_form version labels all before (map_kind.Outside k) b e = absurd b
end_form version labels all before (map_kind.Cycle names) b e = absurd (omega (arith, e))

-- ---- texts of sections

module _ {K : Type 0} (of : K → Fault) (rank_of : K → ℕ) (due : List ℕ) (Part : LineRule K) (same : (k : K) → rank (of k) ≡ rank_of k) (differ : Differ rank_of Part) where
  renamed_one : (before : List TextLine) (text : List ℕ) (f g : Fault) → Renamed of (λ k. Part before text k) f → Renamed of (λ k. Part before text k) g → rank f ≡ rank g → f ≡ g
  renamed_one before text f g a b e =
      let ranks : rank_of a.0 ≡ rank_of b.0 = sym (same a.0) ∙ sym (ap rank a.1) ∙ e ∙ ap rank b.1 ∙ same b.0 in
      a.1 ∙ ap of (differ before text a.0 b.0 a.2 b.2 ranks) ∙ sym b.1

  part_kinds : Differ rank (PartBreaks of due Part)
  part_kinds before text f g a b e = by (closes text) a b
    where
      by : (c : Bool) → InSection c (IsNot due text f) (Renamed of (λ k. Part before text k) f) → InSection c (IsNot due text g) (Renamed of (λ k. Part before text k) g) → f ≡ g
      by true a b = a.0 ∙ sym b.0
      by false a b = renamed_one before text f g a b e

  module _ (end_form : (before : List TextLine) (k : K) → Part before [] k → rank_of k ≡ 1 → of k ≡ fault.Form) where
    form : (before : List TextLine) (g : Fault) → Renamed of (λ k. Part before [] k) g → rank g ≡ 1 → g ≡ fault.Form
    form before g a e = a.1 ∙ end_form before a.0 a.2 (sym (same a.0) ∙ sym (ap rank a.1) ∙ e)

    closing : (due text : List ℕ) (before : List TextLine) (f g : Fault) → IsNot due text f ⊎ Renamed of (λ k. Part before [] k) f → IsNot due text g ⊎ Renamed of (λ k. Part before [] k) g → rank f ≡ rank g → f ≡ g
    closing due text before f g (inl a) (inl b) e = a.0 ∙ sym b.0
    closing due text before f g (inl a) (inr b) e = a.0 ∙ sym (form before g b (sym e ∙ ap rank a.0))
    closing due text before f g (inr a) (inl b) e = form before f a (e ∙ ap rank b.0) ∙ sym b.0
    closing due text before f g (inr a) (inr b) e = renamed_one before [] f g a b e

    whole_part_kinds : Differ rank (WholePartBreaks of due Part)
    whole_part_kinds before text f g a b e = by (closes text) a b
      where
        by : (c : Bool) → InSection c (IsNot due text f ⊎ Renamed of (λ k. Part before [] k) f) (Renamed of (λ k. Part before text k) f)
            → InSection c (IsNot due text g ⊎ Renamed of (λ k. Part before [] k) g) (Renamed of (λ k. Part before text k) g) → f ≡ g
        by true a b = closing due text before f g a b e
        by false a b = renamed_one before text f g a b e

past_kinds : (before : List TextLine) (text : List ℕ) (f g : Fault) → PastBreaks text f → PastBreaks text g → f ≡ g
past_kinds before text f g a b = a.0 ∙ sym b.0

bundle_sections : (input all : List TextLine) (version n : ℕ) → Differ rank (bundle.SectionBreaks input all version n)
bundle_sections input all version zero =
    let labels = names_of (kernel_lines input) in
    let lines = map_lines all in
    whole_part_kinds map_fault map.rank (codes "[kernels]") (map.Breaks version labels lines) bundle_rule.map_rank (map_kinds version labels lines) (end_form version labels lines)
bundle_sections input all version (suc zero) =
    part_kinds kernel_fault kernels.rank (codes "[image]") (kernels.Breaks (kernel_lines all)) bundle_rule.kernel_rank (kernel_kinds (kernels.Breaks (kernel_lines all)))
bundle_sections input all version (suc (suc zero)) =
    let words = (map_of (map_lines all)).words in
    part_kinds image_fault image.rank (codes "[end]") (image.Breaks words) bundle_rule.image_rank (image_kinds (image.Breaks words))
bundle_sections input all version (suc (suc (suc n))) = λ before text f g a b e. past_kinds before text f g a b

-- The rule of a bundle tells the kinds of a line apart by their numbers.
pub bundle_kinds : (input all : List TextLine) → Differ rank (bundle.Breaks input all)
bundle_kinds input all [] text f g a b e = let same : Err f ≡ Err g = sym a ∙ b in cc
bundle_kinds input all (first ∷ []) text f g a b e = a.0 ∙ sym b.0
bundle_kinds input all (first ∷ second ∷ before) text f g a b e = bundle_sections input all (version_of first.1) (closings before) (since before) text f g a b e

output_sections : (tasks : List TaskValue) (words n : ℕ) → Differ rank (output.SectionBreaks tasks words n)
output_sections tasks words zero =
    whole_part_kinds log_fault log.rank (codes "[image]") (log.Breaks tasks) output_rule.log_rank (log_kinds (log.Breaks tasks)) (λ before k b e. output_rule.only_form tasks before k b)
output_sections tasks words (suc zero) =
    part_kinds image_fault image.rank (codes "[end]") (image.Breaks words) output_rule.image_rank (image_kinds (image.Breaks words))
output_sections tasks words (suc (suc n)) = λ before text f g a b e. past_kinds before text f g a b

output_kinds : (tasks : List TaskValue) (words : ℕ) → Differ rank (output.Breaks tasks words)
output_kinds tasks words before text f g a b e = output_sections tasks words (closings before) (since before) text f g a b e

-- So does that of a bundle and an output in one text.
pub joint_kinds : (all : List TextLine) → Differ rank (joint.Breaks all)
joint_kinds all before text f g a b e = by (list_any is_end before) a b
  where
    by : (c : Bool) → OnceEnded c (bundle.Breaks all all before text f) (output.Breaks (map_in all).tasks (map_in all).words (after_first is_end before) text f)
        → OnceEnded c (bundle.Breaks all all before text g) (output.Breaks (map_in all).tasks (map_in all).words (after_first is_end before) text g) → f ≡ g
    by true a b = output_kinds (map_in all).tasks (map_in all).words (after_first is_end before) text f g a b e
    by false a b = bundle_kinds all all before text f g a b e
