-- Assembling kernel lines one after the other.
use Rattle.std.proofs.Common.{◌≡◌, ℕ, ◌+◌, ◌<◌, ◌≤◌, Bool, true, inl, inr, Option, List, ◌++◌, length, take, get_or, refl, ap, sym, ◌∙◌, arith}
use Rattle.std.specs.Prelude.{nat_lt, ◌||◌}
use Rattle.std.proofs.lemmas.Bool.{cases_lt, lt-ltb}
use Rattle.std.proofs.lemmas.List.{map_more}
use Rattle.plural_bytes.specs.Lines.{TextLine}
use Rattle.plural_bytes.specs.declared.lines.Line.{Line}
use Rattle.plural_bytes.specs.Spelled.{text_line, text_lines}
use Rattle.plural_sections.specs.Faults.{IsFirstFault}
use Rattle.plural_sections.specs.LineKinds.{HasNone, IsLeast}
use Rattle.plural_sections.proofs.ReadLines as reading
use Rattle.plural_statement.specs.Statement.{label_of, line_of}
use Rattle.plural_asm.specs.Labels.{words_in, is_option, place_after, place_of, noted}
use Rattle.plural_asm.specs.Words.{target_offset, words_at, code_of, label_at, labels_of}
use Rattle.plural_asm.specs.Rules.{HasKind, Breaks, rank}
use Rattle.plural_statement.specs.declared.statement.KernelLine.{KernelLine}
use Rattle.plural_asm.specs.declared.offset.Offset.{Offset}
use Rattle.plural_asm.specs.declared.object.Label.{Label}
use Rattle.plural_asm.specs.declared.object.AsmKind.{AsmKind}
use Rattle.plural_asm.proofs.LabelPlaces.{known_more, place_more}
use Rattle.plural_asm.proofs.LineSums.{gathered_push}

-- What is known after some of all lines.
pub record Reads (all lines : List TextLine) (earlier : List ℕ → Option ℕ) (here : ℕ) (words : List ℕ) (labels : List Label) : Type 0 where
  pub read : reading.Reads (Breaks all) (code_of all) lines words
  pub known : (q : List ℕ) → earlier q ≡ place_of lines q
  pub place : here ≡ place_after lines
  pub marks : labels ≡ labels_of lines

-- What is known of the i-th line.
pub record Facts (xs : List Line) (i : ℕ) (d : Line) (all : List ℕ → Option ℕ) (here : ℕ) (line : KernelLine) (offset : Option Offset) : Type 0 where
  pub inside : i < length xs
  pub places : (q : List ℕ) → all q ≡ place_of (text_lines xs) q
  pub line_is : line ≡ line_of (get_or xs i d).text.now
  pub offset_is : offset ≡ target_offset all here line.statement

kind_same : (e f : List ℕ → Option ℕ) (h h2 n n2 : ℕ) (l l2 : KernelLine) (o o2 : Option Offset) → e ≡ f → h ≡ h2 → n ≡ n2 → l ≡ l2 → o ≡ o2 → (k : AsmKind) → HasKind e h n l o k ≡ HasKind f h2 n2 l2 o2 k
kind_same e f h h2 n n2 l l2 o o2 p q r s t k = λ i. HasKind (p i) (q i) (r i) (s i) (t i) k

by_shape : (xs : List Line) (i : ℕ) (d : Line) (all earlier : List ℕ → Option ℕ) (here : ℕ) (words : List ℕ) (labels : List Label) (n : ℕ) (line : KernelLine) (offset : Option Offset) → Facts xs i d all here line offset → Reads (text_lines xs) (text_lines (take i xs)) earlier here words labels → n ≡ length labels
    → (k : AsmKind) → HasKind earlier here n line offset k ≡ Breaks (text_lines xs) (text_lines (take i xs)) (get_or xs i d).text.now k
by_shape xs i d all earlier here words labels n line offset f r c k =
    let before = text_lines (take i xs) in
    let a : all ≡ (λ q. place_of (text_lines xs) q) = λ j. λ q. f.places q j in
    let e : earlier ≡ (λ q. place_of before q) = λ j. λ q. r.known q j in
    let o : target_offset all here line.statement ≡ target_offset (λ q. place_of (text_lines xs) q) (place_after before) (line_of (get_or xs i d).text.now).statement = λ j. target_offset (a j) (r.place j) (f.line_is j).statement in
    kind_same earlier (λ q. place_of before q) here (place_after before) n (length (labels_of before)) line (line_of (get_or xs i d).text.now) offset _ e r.place (c ∙ ap length r.marks) f.line_is (f.offset_is ∙ o) k

-- The kind of the first line with a verdict is the first fault.
pub verdict_first : (xs : List Line) (i : ℕ) (d : Line) (all earlier : List ℕ → Option ℕ) (here : ℕ) (words : List ℕ) (labels : List Label) (n : ℕ) (line : KernelLine) (offset : Option Offset) (kind : AsmKind) → Facts xs i d all here line offset
    → Reads (text_lines xs) (text_lines (take i xs)) earlier here words labels → n ≡ length labels → IsLeast rank (HasKind earlier here n line offset) kind → IsFirstFault rank (Breaks (text_lines xs)) (text_lines xs) (get_or xs i d).number kind
verdict_first xs i d all earlier here words labels n line offset kind f r c v =
    let same = by_shape xs i d all earlier here words labels n line offset f r c in
    reading.line_first rank (Breaks (text_lines xs)) (code_of (text_lines xs)) xs i d words kind f.inside r.read (rw (sym (same kind)) v.0, λ k b. v.1 k (rw (sym (same k)) at b))

-- What is known after one more line without a fault.
pub reads_more : (xs : List Line) (i : ℕ) (d : Line) (all earlier next : List ℕ → Option ℕ) (here size : ℕ) (words more : List ℕ) (labels marks : List Label) (n : ℕ) (line : KernelLine) (offset : Option Offset) → Facts xs i d all here line offset
    → Reads (text_lines xs) (text_lines (take i xs)) earlier here words labels → n ≡ length labels → HasNone (HasKind earlier here n line offset)
    → ((q : List ℕ) → next q ≡ noted (earlier q) (is_option line.label q) here) → more ≡ words ++ words_at all here line.statement → marks ≡ labels ++ label_at here line.label → size ≡ words_in line.statement
    → Reads (text_lines xs) (text_lines (take (i + 1) xs)) next (here + size) more marks
reads_more xs i d all earlier next here size words more labels marks n line offset f r c v t w m s =
    let same = by_shape xs i d all earlier here words labels n line offset f r c in
    let before = text_lines (take i xs) in
    let l = text_line (get_or xs i d) in
    let a : all ≡ (λ q. place_of (text_lines xs) q) = λ j. λ q. f.places q j in
    let place : here ≡ 0 + place_after before = omega (arith, r.place) in
    let here_words : words_at all here line.statement ≡ words_at (λ q. place_of (text_lines xs) q) (0 + place_after before) (line_of l.1).statement = λ j. words_at (a j) (place j) (f.line_is j).statement in
    let here_labels : label_at here line.label ≡ label_at (0 + place_after before) (label_of l.1) = λ j. label_at (place j) (f.line_is j).label in
    record {
      read =
          reading.reads_more rank (Breaks (text_lines xs)) (code_of (text_lines xs)) xs i d words more f.inside r.read (λ k b. v k (rw (sym (same k)) at b))
          (w ∙ (λ j. r.read.spelled j ++ here_words j) ∙ sym (gathered_push (λ h text. words_at (λ q. place_of (text_lines xs) q) h (line_of text).statement) 0 before l));
      known = λ q. t q ∙ known_more xs i d q (earlier q) (is_option line.label q) here f.inside (r.known q) r.place (ap (λ (k : KernelLine). is_option k.label q) (sym f.line_is));
      place = ap (λ m. here + m) (s ∙ ap (λ (k : KernelLine). words_in k.statement) f.line_is) ∙ place_more xs i d here f.inside r.place;
      marks =
          m ∙ (λ j. r.marks j ++ here_labels j) ∙ sym (gathered_push (λ h text. label_at h (label_of text)) 0 before l)
          ∙ ap (λ ls. labels_of ls) (sym (map_more text_line xs i d f.inside));
    }

-- A line without a fault of count leaves no more than 16,384 words
pub counted : (n : ℕ) (b : Bool) → ((nat_lt 16384 n || b) ≡ true → ⊥) → n ≤ 16384
counted n b h = elim (cases_lt 16384 n) [
  | inl lt ↦ absurd (h (rw (lt-ltb 16384 n lt) refl))
  | inr le ↦ le
]
