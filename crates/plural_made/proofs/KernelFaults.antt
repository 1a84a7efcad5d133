-- Kernel lines, walked one after the other: a test that computes whether one of them has a fault.
use Rattle.std.proofs.Common.{◌≡◌, ℕ, ◌+◌, Bool, false, Option, Some, None, List, [], ◌∷◌, ◌++◌, length, map, refl, ap, sym, subst, ◌∙◌, append_assoc, length-append}
use Rattle.std.specs.Prelude.{◌||◌, ◌&&◌, fold, is_some, is_none, nat_lt, nat_le, if◌then◌else◌}
use Rattle.std.proofs.lemmas.Bool.{or_parts, both_ways}
use Rattle.std.proofs.lemmas.List.{append-nil}
use Rattle.plural_bytes.specs.Lines.{TextLine}
use Rattle.plural_sections.specs.Faults.{IsFaultless}
use Rattle.plural_sections.proofs.FirstFaults.{faultless_nil, faultless_push}
use Rattle.plural_statement.specs.Statement.{label_of, line_of}
use Rattle.plural_statement.specs.declared.statement.KernelLine.{KernelLine}
use Rattle.plural_asm.specs.Labels.{words_in, size_of, is_option, has_label, place_after, place_of, noted}
use Rattle.plural_asm.specs.Words.{target_offset, label_at, labels_of}
use Rattle.plural_asm.specs.Rules.{is_out_of_range, is_defined, is_unknown, is_far, HasKind, Breaks}
use Rattle.plural_asm.specs.declared.offset.Offset.{Offset}
use Rattle.plural_asm.specs.declared.object.AsmKind.{AsmKind}
use Rattle.plural_asm.specs.declared.object.AsmKind.TheVariants as kinds
use Rattle.plural_asm.proofs.LabelPlaces.{place_after_push, place_of_push}
use Rattle.plural_asm.proofs.LineSums.{gathered_push}

-- What is known after some lines: the places of labels, how many words they make, and how many labels they have.
pub record Known : Type 0 where
  pub places : List ℕ → Option ℕ
  pub here : ℕ
  pub labels : ℕ

-- After no line.
abbrev pub start : Known
start = record { places = λ q. None; here = 0; labels = 0 }

-- After one more line.
abbrev pub after : Known → KernelLine → Known
after b line = record {
  places = λ q. noted (b.places q) (is_option line.label q) b.here;
  here = b.here + words_in line.statement;
  labels = b.labels + (if is_some line.label then 1 else 0);
}

-- The line has a fault of some kind, by the offset of its target.
abbrev pub has_kind : Known → KernelLine → Option Offset → Bool
has_kind b line offset =
    is_none line.statement
    || (is_out_of_range line.statement
    || ((is_defined b.places line.label || is_unknown offset)
    || ((nat_lt 16384 (b.here + words_in line.statement) || (is_some line.label && nat_le 16384 b.labels))
    || is_far offset)))

-- One of the lines has a fault, if all labels have these places.
abbrev pub has_fault : (List ℕ → Option ℕ) → Known → List KernelLine → Bool
has_fault all b [] = false
has_fault all b (l ∷ ls) = has_kind b l (target_offset all b.here l.statement) || has_fault all (after b l) ls

-- One of the lines has a fault, if they are all.
abbrev pub is_faulty : List KernelLine → Bool
is_faulty lines = has_fault (fold after start lines).places start lines

-- The lines as the assembler takes them.
abbrev pub taken : List TextLine → List KernelLine
taken lines = map (λ l. line_of l.1) lines

-- ---- it computes what the rules say

-- What is known after these lines is right.
record Knows (before : List TextLine) (b : Known) : Type 0 where
  places : (q : List ℕ) → place_of before q ≡ b.places q
  here : place_after before ≡ b.here
  labels : length (labels_of before) ≡ b.labels

knows_start : Knows [] start
knows_start = record { places = λ q. refl; here = refl; labels = refl }

label_count : (here : ℕ) (o : Option (List ℕ)) → length (label_at here o) ≡ (if is_some o then 1 else 0)
label_count here None = refl
label_count here (Some name) = refl

knows_more : (before : List TextLine) (l : TextLine) (b : Known) → Knows before b → Knows (before ++ l ∷ []) (after b (line_of l.1))
knows_more before l b k = record {
  places = λ q. place_of_push before l q ∙ (λ i. noted (k.places q i) (has_label q l) (k.here i));
  here = place_after_push before l ∙ ap (λ n. n + size_of l.1) k.here;
  labels =
      ap length (gathered_push (λ here text. label_at here (label_of text)) 0 before l) ∙ length-append (labels_of before) (label_at (0 + place_after before) (label_of l.1))
      ∙ (λ i. k.labels i + label_count (0 + place_after before) (label_of l.1) i);
}

knows_all : (before lines : List TextLine) (b : Known) → Knows before b → Knows (before ++ lines) (fold after b (taken lines))
knows_all before [] b k = subst (λ ls. Knows ls b) (sym (append-nil before)) k
knows_all before (l ∷ ls) b k = subst (λ all. Knows all (fold after (after b (line_of l.1)) (taken ls))) (append_assoc before (l ∷ []) ls) (knows_all (before ++ l ∷ []) ls (after b (line_of l.1)) (knows_more before l b k))

-- A line for which the test fails has none of the kinds.
no_kind : (b : Known) (line : KernelLine) (offset : Option Offset) → has_kind b line offset ≡ false → (kind : AsmKind) → HasKind b.places b.here b.labels line offset kind → ⊥
no_kind b line offset h kind k =
    let p = or_parts (is_none line.statement) _ h in
    let q = or_parts (is_out_of_range line.statement) _ p.1 in
    let r = or_parts (is_defined b.places line.label || is_unknown offset) _ q.1 in
    let s = or_parts (nat_lt 16384 (b.here + words_in line.statement) || (is_some line.label && nat_le 16384 b.labels)) _ r.1 in
    by kind k p.0 q.0 r.0 s.0 s.1
  where
    by : (kind : AsmKind) → HasKind b.places b.here b.labels line offset kind → is_none line.statement ≡ false → is_out_of_range line.statement ≡ false → (is_defined b.places line.label || is_unknown offset) ≡ false
        → (nat_lt 16384 (b.here + words_in line.statement) || (is_some line.label && nat_le 16384 b.labels)) ≡ false → is_far offset ≡ false → ⊥
    by kinds.Form k p q r s t = both_ways _ p k
    by kinds.Number k p q r s t = both_ways _ q k
    by kinds.Name k p q r s t = both_ways _ r k
    by kinds.Count k p q r s t = both_ways _ s k
    by kinds.Reach k p q r s t = both_ways _ t k

sound : (all before : List TextLine) (text : List ℕ) (places : List ℕ → Option ℕ) (b : Known) → ((q : List ℕ) → place_of all q ≡ places q) → Knows before b
    → has_kind b (line_of text) (target_offset places b.here (line_of text).statement) ≡ false → (kind : AsmKind) → Breaks all before text kind → ⊥
sound all before text places b e k h kind f =
    no_kind b (line_of text) (target_offset places b.here (line_of text).statement) h kind
    (subst (λ X. X) (λ i. HasKind (λ q. k.places q i) (k.here i) (k.labels i) (line_of text) (target_offset (λ q. e q i) (k.here i) (line_of text).statement) kind) f)

walked : (all before lines : List TextLine) (places : List ℕ → Option ℕ) (b : Known) → ((q : List ℕ) → place_of all q ≡ places q) → Knows before b → IsFaultless (Breaks all) before → has_fault places b (taken lines) ≡ false → IsFaultless (Breaks all) (before ++ lines)
walked all before [] places b e k f h = subst (IsFaultless (Breaks all)) (sym (append-nil before)) f
walked all before (l ∷ ls) places b e k f h =
    let p = or_parts (has_kind b (line_of l.1) (target_offset places b.here (line_of l.1).statement)) (has_fault places (after b (line_of l.1)) (taken ls)) h in
    subst (IsFaultless (Breaks all)) (append_assoc before (l ∷ []) ls)
    (walked all (before ++ l ∷ []) ls places (after b (line_of l.1)) e (knows_more before l b k) (faultless_push (Breaks all) before l f (sound all before l.1 places b e k p.0)) p.1)

-- Lines for which the test fails have no fault.
pub not_faulty : (lines : List TextLine) → is_faulty (taken lines) ≡ false → IsFaultless (Breaks lines) lines
not_faulty lines h = walked lines [] lines (fold after start (taken lines)).places start (knows_all [] lines start knows_start).places knows_start (faultless_nil (Breaks lines)) h

-- The places of labels.
pub places_are : (lines : List TextLine) (q : List ℕ) → place_of lines q ≡ (fold after start (taken lines)).places q
places_are lines q = (knows_all [] lines start knows_start).places q
