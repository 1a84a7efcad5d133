-- The program of lines without a fault.
use Rattle.std.proofs.Common.{◌≡◌, ℕ, zero, suc, ◌+◌, ◌*◌, ◌%◌, ◌<◌, Bool, true, false, List, [], ◌∷◌, Option, Some, None, map, length, refl, sym, subst, arith}
use Rattle.std.specs.Prelude.{cond, bytes_eq, slice_index}
use Rattle.std.specs.List.{AllByRecursion, find}
use Rattle.std.specs.Option.{option_map_or}
use Rattle.std.proofs.lemmas.List.{length-map}
use Rattle.plural_base.proofs.ListTests.{all_append}
use Rattle.plural_bytes.specs.Lines.{TextLine}
use Rattle.plural_map.specs.Value.{MapValue, TaskValue}
use Rattle.plural_statement.specs.Statement.{label_of}
use Rattle.plural_asm.specs.Words.{gathered, label_at, labels_of}
use Rattle.plural_asm.specs.Labels.{size_of}
use Rattle.plural_asm.specs.declared.object.Label.{Label}
use Rattle.plural_serial.specs.Program.{HasEntries}
use Rattle.plural_bundle.specs.Value.{pc_of}

-- Each label's pc is a multiple of 4
abbrev pub AreAligned : List Label → Type 0
AreAligned labels = AllByRecursion (λ l. l.pc % 4 ≡ 0) labels

times_four : (n : ℕ) → 4 * n % 4 ≡ 0
times_four n = omega arith

aligned_at : (here : ℕ) (o : Option (List ℕ)) → AreAligned (label_at here o)
aligned_at here None = tt
aligned_at here (Some name) = (times_four here, tt)

aligned_from : (here : ℕ) (lines : List TextLine) → AreAligned (gathered (λ here text. label_at here (label_of text)) here lines)
aligned_from here [] = tt
aligned_from here (l ∷ ls) = all_append (λ l. l.pc % 4 ≡ 0) (label_at here (label_of l.1)) _ (aligned_at here (label_of l.1)) (aligned_from (here + size_of l.1) ls)

-- The labels of lines have such pcs.
pub labels_aligned : (lines : List TextLine) → AreAligned (labels_of lines)
labels_aligned lines = aligned_from 0 lines

pc_aligned : (labels : List Label) (name : List ℕ) → AreAligned labels → pc_of labels name % 4 ≡ 0
pc_aligned [] name h = refl
pc_aligned (l ∷ ls) name h = by (bytes_eq l.name name) h.0 (pc_aligned ls name h.1)
  where
    by : (b : Bool) → l.pc % 4 ≡ 0 → pc_of ls name % 4 ≡ 0 → option_map_or (λ (m : Label). m.pc) (cond b (Some l) (find (λ (m : Label). bytes_eq m.name name) ls)) 0 % 4 ≡ 0
    by true x y = x
    by false x y = y

entries_aligned : (labels : List Label) (tasks : List TaskValue) (t : ℕ) → AreAligned labels → t < length tasks → slice_index (map (λ (k : TaskValue). pc_of labels k.entry) tasks) t % 4 ≡ 0
entries_aligned labels [] t h l = absurd (omega arith)
entries_aligned labels (k ∷ ks) zero h l = pc_aligned labels k.entry h
entries_aligned labels (k ∷ ks) (suc t) h l = entries_aligned labels ks t h (omega arith)

-- Each task has one entry, a multiple of 4.
pub is_program : (m : MapValue) (code : List ℕ) (labels : List Label) (entries : List ℕ) → AreAligned labels → entries ≡ map (λ (k : TaskValue). pc_of labels k.entry) m.tasks → HasEntries (record { map = m; code = code; entries = entries })
is_program m code labels entries h e = subst (λ x. HasEntries (record { map = m; code = code; entries = x })) (sym e) (record {
  one_each = length-map m.tasks (λ (k : TaskValue). pc_of labels k.entry);
  aligned = λ t l. entries_aligned labels m.tasks t h (omega (arith, l, length-map m.tasks (λ (k : TaskValue). pc_of labels k.entry)));
})
