-- Reading the lines of a format one after the other.
use Rattle.std.proofs.Common.{◌≡◌, ℕ, ◌+◌, ◌<◌, ◌≤◌, List, [], ◌∷◌, ◌++◌, Option, Some, None, length, take, get_or, refl, ap, sym, subst, ◌∙◌, arith}
use Rattle.std.specs.Option.{option_map_or}
use Rattle.std.proofs.lemmas.Bool.{ltb-true}
use Rattle.std.proofs.lemmas.List.{map_more, take_all}
use Rattle.std.proofs.lemmas.List.Sums.{fold_push}
use Rattle.plural_bytes.specs.Lines.{TextLine}
use Rattle.plural_bytes.specs.declared.lines.Line.{Line}
use Rattle.plural_bytes.specs.Spelled.{text_line, text_lines}
use Rattle.plural_sections.specs.Faults.{IsFaultless, IsFirstFault, closed}
use Rattle.plural_sections.specs.LineKinds.{HasNone, IsLeast, KindsOf, IsLineFault, BreaksBy, BreaksClosed, IsClosedFault, spelled_by}
use Rattle.plural_sections.proofs.FirstFaults.{faultless_nil, faultless_push, first_fault, first_before}

-- ---- what is known after some lines

-- The lines have no fault by this rule, and they spell this value.
pub record Reads {V K : Type 0} (Breaks : List TextLine → List ℕ → K → Type 0) (value : List TextLine → V) (lines : List TextLine) (v : V) : Type 0 where
  pub faultless : IsFaultless Breaks lines
  pub spelled : v ≡ value lines

module _ {V K : Type 0} (rank : K → ℕ) (Breaks : List TextLine → List ℕ → K → Type 0) (value : List TextLine → V) where
  -- Before any line.
  pub reads_nothing : (v : V) → v ≡ value [] → Reads Breaks value [] v
  reads_nothing v e = record { faultless = faultless_nil Breaks; spelled = e }

  -- The least kind of a line after lines without a fault is the first fault.
  pub line_first : (xs : List Line) (i : ℕ) (d : Line) (v : V) (kind : K) → i < length xs → Reads Breaks value (text_lines (take i xs)) v
      → IsLeast rank (Breaks (text_lines (take i xs)) (get_or xs i d).text.now) kind → IsFirstFault rank Breaks (text_lines xs) (get_or xs i d).number kind
  line_first xs i d v kind l r f = first_fault rank Breaks text_line xs i d kind l r.faultless f.0 f.1

  -- It is the first fault of a section that is closed after these lines, too.
  pub closed_first : (xs : List Line) (end i : ℕ) (d : Line) (v : V) (kind : K) → i < length xs → Reads Breaks value (text_lines (take i xs)) v
      → IsLeast rank (Breaks (text_lines (take i xs)) (get_or xs i d).text.now) kind → IsFirstFault rank Breaks (closed (text_lines xs) end) (get_or xs i d).number kind
  closed_first xs end i d v kind l r f = first_before rank Breaks (text_lines xs) ((end, []) ∷ []) (get_or xs i d).number kind (line_first xs i d v kind l r f)

  -- One more line without a kind, and what is spelled with it.
  pub reads_push : (lines : List TextLine) (line : TextLine) (v next : V) → Reads Breaks value lines v → HasNone (Breaks lines line.1) → next ≡ value (lines ++ line ∷ [])
      → Reads Breaks value (lines ++ line ∷ []) next
  reads_push lines line v next r none n = record { faultless = faultless_push Breaks lines line r.faultless none; spelled = n }

  -- The same of the i-th of the code's lines.
  pub reads_more : (xs : List Line) (i : ℕ) (d : Line) (v next : V) → i < length xs → Reads Breaks value (text_lines (take i xs)) v
      → HasNone (Breaks (text_lines (take i xs)) (get_or xs i d).text.now) → next ≡ value (text_lines (take i xs) ++ text_line (get_or xs i d) ∷ []) → Reads Breaks value (text_lines (take (i + 1) xs)) next
  reads_more xs i d v next l r none n = rw (map_more text_line xs i d l) (reads_push (text_lines (take i xs)) (text_line (get_or xs i d)) v next r none n)

  -- All lines were read.
  pub reads_all : (xs : List Line) (i : ℕ) (v : V) → length xs ≤ i → Reads Breaks value (text_lines (take i xs)) v → Reads Breaks value (text_lines xs) v
  reads_all xs i v h r = subst (λ (ys : List Line). Reads Breaks value (text_lines ys) v) (take_all i xs h) r

  -- The least kind of the line that closes a section without a fault is the section's first fault.
  pub closing_first : (lines : List TextLine) (end : ℕ) (v : V) (kind : K) → Reads Breaks value lines v → IsLeast rank (Breaks lines []) kind → IsFirstFault rank Breaks (closed lines end) end kind
  closing_first lines end v kind r f = record { before = lines; text = []; after = []; whole = refl; earlier = r.faultless; breaks = f.0; least = f.1 }

  -- Without a kind of that line the section has no fault.
  pub closed_faultless : (lines : List TextLine) (end : ℕ) (v : V) → Reads Breaks value lines v → HasNone (Breaks lines []) → IsFaultless Breaks (closed lines end)
  closed_faultless lines end v r none = faultless_push Breaks lines (end, []) r.faultless none

-- ---- the kinds of a line by the table of its format

module _ {S V K : Type 0} (rank : K → ℕ) (shape_of : List ℕ → Option S) (form : K) (value : List TextLine → V) (Table : ℕ → V → S → K → Type 0) where
  least_of : (Has : S → K → Type 0) (shape : Option S) (kind : K) → IsLineFault rank form Has shape kind → IsLeast rank (KindsOf form Has shape) kind
  least_of Has None kind f = (f, λ other o. rw (f, o) (omega arith))
  least_of Has (Some s) kind f = f

  -- The fault of a line after n lines that spell v is the least of its kinds.
  pub least_by : (before : List TextLine) (text : List ℕ) (n : ℕ) (v : V) (kind : K) → n ≡ length before → v ≡ value before → IsLineFault rank form (Table n v) (shape_of text) kind
      → IsLeast rank (BreaksBy shape_of form value Table before text) kind
  least_by before text n v kind e f h = least_of (Table (length before) (value before)) (shape_of text) kind (rw (← e, ← f) h)

  -- A line whose shape has no kind has none.
  pub none_by : (before : List TextLine) (text : List ℕ) (n : ℕ) (v : V) (s : S) → n ≡ length before → v ≡ value before → shape_of text ≡ Some s → HasNone (Table n v s)
      → HasNone (BreaksBy shape_of form value Table before text)
  none_by before text n v s e f shape none k b = none k (rw (shape, ← e, ← f) at b)

-- ---- a section with the line that closes it

module _ {K : Type 0} (rank : K → ℕ) (form : K) (least : ℕ) (Lines : List TextLine → List ℕ → K → Type 0) where
  -- The fault of a line is the least of its kinds, if form is the least of all kinds.
  pub least_closed : ((k : K) → rank form ≤ rank k) → (IsFault : List ℕ → K → Type 0) (before : List TextLine) (text : List ℕ) (n : ℕ) (kind : K) → n ≡ length before
      → ((t : List ℕ) → IsFault t kind → IsLeast rank (Lines before t) kind) → IsClosedFault form least n IsFault text kind → IsLeast rank (BreaksClosed form least Lines before text) kind
  least_closed low IsFault before [] n kind e f h = ((h.0, rw (← e) h.1), λ k b. subst (λ (x : K). rank x ≤ rank k) (sym h.0) (low k))
  least_closed low IsFault before (c ∷ cs) n kind e f h = f (c ∷ cs) h

  -- The line that closes a section after enough lines has no kind.
  pub none_closing : (before : List TextLine) (text : List ℕ) → text ≡ [] → least ≤ length before → HasNone (BreaksClosed form least Lines before text)
  none_closing before text e l k b =
      let early = rw e at b in
      let few : length before < least = ltb-true (length before) least early.1 in
      omega arith

  -- Another line has none if it has none by the format's rule.
  pub none_other : (before : List TextLine) (text : List ℕ) → (text ≡ [] → ⊥) → HasNone (Lines before text) → HasNone (BreaksClosed form least Lines before text)
  none_other before [] some none k b = absurd (some refl)
  none_other before (c ∷ cs) some none k b = none k b

-- One more line adds what its shape says.
pub spelled_more : {S V : Type 0} (shape_of : List ℕ → Option S) (with_line : V → S → V) (nothing : V) (lines : List TextLine) (line : TextLine) (s : S) → shape_of line.1 ≡ Some s
    → spelled_by shape_of with_line nothing (lines ++ line ∷ []) ≡ with_line (spelled_by shape_of with_line nothing lines) s
spelled_more shape_of with_line nothing lines line s e =
    fold_push (λ v l. option_map_or (with_line v) (shape_of l.1) v) nothing lines line
    ∙ ap (λ o. option_map_or (with_line (spelled_by shape_of with_line nothing lines)) o (spelled_by shape_of with_line nothing lines)) e

-- One without a shape adds nothing.
pub spelled_same : {S V : Type 0} (shape_of : List ℕ → Option S) (with_line : V → S → V) (nothing : V) (lines : List TextLine) (line : TextLine) → shape_of line.1 ≡ None
    → spelled_by shape_of with_line nothing (lines ++ line ∷ []) ≡ spelled_by shape_of with_line nothing lines
spelled_same shape_of with_line nothing lines line e =
    fold_push (λ v l. option_map_or (with_line v) (shape_of l.1) v) nothing lines line
    ∙ ap (λ o. option_map_or (with_line (spelled_by shape_of with_line nothing lines)) o (spelled_by shape_of with_line nothing lines)) e
