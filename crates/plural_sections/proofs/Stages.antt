-- How far a text of sections was read without a fault, and what its next lines mean for the whole.
use Rattle.std.proofs.Common.{◌≡◌, ℕ, ◌+◌, ◌<◌, Bool, true, false, List, [], ◌∷◌, ◌++◌, length, drop, refl, ap, sym, subst, ◌∙◌, append_assoc, append-nil, take-append-drop, inl, inr}
use Rattle.std.specs.Prelude.{bytes_eq, ◌⊎◌}
use Rattle.std.specs.List.{position_or_len}
use Rattle.std.proofs.lemmas.Bool.{true≢false}
use Rattle.std.proofs.lemmas.Slice.Eq.{bytes_eq-Decides}
use Rattle.plural_base.proofs.ListTests.{all_front, all_back, all_append, none_before}
use Rattle.plural_bytes.specs.Lines.{TextLine, has_text}
use Rattle.plural_sections.specs.declared.fault.Fault.{Fault}
use Rattle.plural_sections.specs.declared.fault.Fault.TheVariants.{Form}
use Rattle.plural_sections.specs.declared.line_error.LineError.{LineError}
use Rattle.plural_sections.specs.declared.line_error.LineError.TheVariants.{At, Memory}
use Rattle.plural_sections.specs.Faults.{IsFaultless, IsFirstFault, closed}
use Rattle.plural_sections.specs.Kinds.{rank}
use Rattle.plural_sections.specs.Errors.{Tells, renamed}
use Rattle.plural_sections.specs.Sections.{closes, closings, since, up_to_header}
use Rattle.plural_sections.specs.Borders.{head_of, IsClosed, IsHeaded, IsMissing, AllBlank, IsLeftOver}
use Rattle.plural_sections.specs.Texts.{IsNot, Renamed, WholePartBreaks, PastBreaks}
use Rattle.plural_sections.proofs.FirstFaults.{faultless_push, last_first, last_least}
use Rattle.plural_sections.proofs.Delegation.{Delegates, faultless_section, first_in_section}
use Rattle.plural_sections.proofs.Closings.{NoneCloses, Begins, begins_nothing, begins_next, closings_more}
use Rattle.plural_sections.proofs.Cuts.{empty_apart, rest_closed}
use Rattle.plural_sections.proofs.TextRules.{TextRule, SectionRule, rank_low, in_closing, no_header}

-- ---- the end of the lines

-- What follows the first of lines, with the line that closes them.
abbrev pub tail_of : List TextLine → ℕ → List TextLine
tail_of [] end = []
tail_of (l ∷ ls) end = closed ls end

-- Closed lines are what stands first, and what follows it.
pub head_tail : (ls : List TextLine) (end : ℕ) → closed ls end ≡ head_of ls end ∷ tail_of ls end
head_tail [] end = refl
head_tail (l ∷ ls) end = refl

-- What stands first after a section closes it.
pub head_closes : (ls : List TextLine) (end : ℕ) → IsClosed ls → closes (head_of ls end).1 ≡ true
head_closes [] end h = refl
head_closes (l ∷ ls) end h = h

-- What stands first after lines without a fault has a fault of form: it is the first.
pub form_first : (t : TextRule) (all front rest : List TextLine) (end : ℕ) → closed all end ≡ front ++ closed rest end → IsFaultless t.Breaks front
    → t.Breaks front (head_of rest end).1 Form → IsFirstFault rank t.Breaks (closed all end) (head_of rest end).0 Form
form_first t all front rest end whole f b = record {
  before = front;
  text = (head_of rest end).1;
  after = tail_of rest end;
  whole = whole ∙ ap (λ x. front ++ x) (head_tail rest end);
  earlier = f;
  breaks = b;
  least = λ other o. rank_low other;
}

-- ---- how far a text was read

-- After the head and the body so many sections are closed, no line of them has a fault, and the rest follows.
pub record Stage (t : TextRule) (all : List TextLine) (n : ℕ) (rest : List TextLine) : Type 0 where
  pub body : List TextLine
  pub whole : all ≡ (t.head ++ body) ++ rest
  pub faultless : IsFaultless t.Breaks (t.head ++ body)
  pub begins : Begins body n

-- The lines that were read.
abbrev pub front : {t : TextRule} {all rest : List TextLine} {n : ℕ} → Stage t all n rest → List TextLine
front {t} s = t.head ++ s.body

-- After the head no section is closed.
pub stage_first : (t : TextRule) (all rest : List TextLine) → all ≡ t.head ++ rest → Stage t all 0 rest
stage_first t all rest e = record {
  body = [];
  whole = e ∙ ap (λ x. x ++ rest) (sym (append-nil t.head));
  faultless = subst (IsFaultless t.Breaks) (sym (append-nil t.head)) t.good;
  begins = begins_nothing;
}

-- All lines with the one that closes them are those that were read, and the rest with it.
pub stage_closed : {t : TextRule} {all rest : List TextLine} {n : ℕ} (s : Stage t all n rest) (end : ℕ) → closed all end ≡ front s ++ closed rest end
stage_closed {t} {all} {rest} {n} s end = ap (λ x. closed x end) s.whole ∙ append_assoc (front s) rest ((end, []) ∷ [])

-- A line after those that were read, and after others that close no section, has the kinds of its section.
pub rule_at : {t : TextRule} {all rest : List TextLine} {n : ℕ} (s : Stage t all n rest) (before : List TextLine) → NoneCloses before → (text : List ℕ) (f : Fault)
    → t.Breaks (front s ++ before) text f ≡ t.Sections n before text f
rule_at {t} {all} {rest} {n} s before h text f =
    ap (λ x. t.Breaks x text f) (append_assoc t.head s.body before)
    ∙ t.rule (s.body ++ before) text f
    ∙ (λ i. t.Sections (s.begins.count before h i) (s.begins.last before h i) text f)

-- ---- a section

module _ {K : Type 0} {t : TextRule} {all rest : List TextLine} {n : ℕ} (s : Stage t all n rest) (c : SectionRule K t n) where
  delegates : (lines : List TextLine) → NoneCloses lines → Delegates t.Breaks c.Part c.of (front s) lines
  delegates lines h = record {
    down = λ before line after e kind b.
        let g : NoneCloses (before ++ line ∷ after) = subst NoneCloses e h in
        let x = all_front (λ l. closes l.1 ≡ false) before (line ∷ after) g in
        let y = (all_back (λ l. closes l.1 ≡ false) before (line ∷ after) g).0 in
        subst (λ X. X) (rule_at s before x line.1 kind ∙ c.stays before line.1 kind y) b;
    up = λ before line after e k p.
        let g : NoneCloses (before ++ line ∷ after) = subst NoneCloses e h in
        let x = all_front (λ l. closes l.1 ≡ false) before (line ∷ after) g in
        let y = (all_back (λ l. closes l.1 ≡ false) before (line ∷ after) g).0 in
        subst (λ X. X) (sym (rule_at s before x line.1 (c.of k) ∙ c.stays before line.1 (c.of k) y)) (k, refl, p);
  }

  section_faultless : (lines : List TextLine) → NoneCloses lines → IsFaultless c.Part lines → IsFaultless t.Breaks (front s ++ lines)
  section_faultless lines h f = faultless_section t.Breaks c.Part c.of (front s) lines (delegates lines h) s.faultless f

  -- all lines by the section's and those from the one on that closes it
  section_closed : (lines back : List TextLine) (end : ℕ) → rest ≡ lines ++ back → closed all end ≡ front s ++ (lines ++ closed back end)
  section_closed lines back end e = stage_closed s end ∙ ap (λ x. front s ++ x) (ap (λ x. closed x end) e ∙ append_assoc lines back ((end, []) ∷ []))

  -- the line that closes the section has a fault of form
  closing_first : (lines back : List TextLine) (end : ℕ) → NoneCloses lines → rest ≡ lines ++ back → IsFaultless c.Part lines → t.Sections n lines (head_of back end).1 Form
      → IsFirstFault rank t.Breaks (closed all end) (head_of back end).0 Form
  closing_first lines back end h e f b =
      form_first t all (front s ++ lines) back end (section_closed lines back end e ∙ sym (append_assoc (front s) lines (closed back end))) (section_faultless lines h f)
      (subst (λ X. X) (sym (rule_at s lines h (head_of back end).1 Form)) b)

  -- The first fault of a section's lines is that of the text.
  pub section_first : (lines back : List TextLine) (end number : ℕ) (kind : K) → NoneCloses lines → rest ≡ lines ++ back
      → IsFirstFault c.part_rank c.Part lines number kind → IsFirstFault rank t.Breaks (closed all end) number (c.of kind)
  section_first lines back end number kind h e f =
      subst (λ x. IsFirstFault rank t.Breaks x number (c.of kind)) (sym (section_closed lines back end e))
      (first_in_section rank t.Breaks c.part_rank c.Part c.of (front s) lines (closed back end) number kind c.ranks (delegates lines h) s.faultless f)

  -- What an error says of a section's lines, it says of the text, with its kind under the name there.
  pub section_tells : (lines back : List TextLine) (end : ℕ) → NoneCloses lines → rest ≡ lines ++ back
      → (e : LineError K) → Tells c.part_rank c.Part lines e → Tells rank t.Breaks (closed all end) (renamed c.of e)
  section_tells lines back end h w Memory f = tt
  section_tells lines back end h w (At number kind) f = section_first lines back end number kind h w f

  -- What closes the section isn't the header that is due.
  pub section_missing : (lines back : List TextLine) (end : ℕ) → NoneCloses lines → rest ≡ lines ++ back → IsFaultless c.Part lines → IsClosed back
      → (e : LineError Fault) → IsMissing c.due back end e → Tells rank t.Breaks (closed all end) e
  section_missing lines back end h w f x e m =
      subst (Tells rank t.Breaks (closed all end)) (sym m.is)
      (closing_first lines back end h w f (c.missing lines (head_of back end).1 (head_closes back end x) m.other))

  -- It is, and the section is whole: one more is closed.
  pub stage_next : (lines back more : List TextLine) → NoneCloses lines → rest ≡ lines ++ back → IsFaultless c.Part lines → c.Whole lines → IsHeaded c.due back more → Stage t all (n + 1) more
  stage_next lines back more h e f w b =
      let line : TextLine = (b.number, c.due) in
      let split : (front s ++ lines) ++ line ∷ [] ≡ t.head ++ (s.body ++ (lines ++ line ∷ [])) =
      append_assoc (front s) lines (line ∷ []) ∙ append_assoc t.head s.body (lines ++ line ∷ []) in
      record {
        body = s.body ++ (lines ++ line ∷ []);
        whole = s.whole
            ∙ ap (λ y. front s ++ y) (e ∙ ap (λ y. lines ++ y) b.whole)
            ∙ sym (append_assoc (front s) lines (line ∷ more))
            ∙ sym (append_assoc (front s ++ lines) (line ∷ []) more)
            ∙ ap (λ y. y ++ more) split;
        faultless =
            subst (IsFaultless t.Breaks) split
            (faultless_push t.Breaks (front s ++ lines) line (section_faultless lines h f) (λ k o. c.closing lines w k (subst (λ X. X) (rule_at s lines h c.due k) o)));
        begins = begins_next s.body lines n line s.begins h c.due_closes;
      }

  -- The first fault of a section that has to be whole, with the line that closes it, is that of the text, if this kind is
  -- form there for that line.
  pub whole_section_form : ((before : List TextLine) (text : List ℕ) (f : Fault) → t.Sections n before text f ≡ WholePartBreaks c.of c.due c.Part before text f)
      → (lines back : List TextLine) (end number : ℕ) → NoneCloses lines → rest ≡ lines ++ back → IsClosed back → number ≡ (head_of back end).0
      → (line : ℕ) (kind : K) → (c.Part lines [] kind → c.of kind ≡ Form) → IsFirstFault c.part_rank c.Part (closed lines number) line kind → IsFirstFault rank t.Breaks (closed all end) line (c.of kind)
  whole_section_form same lines back end number h w shut at line kind only f = elim (last_first c.part_rank c.Part lines (number, []) line kind f) [
    | inl first ↦ section_first lines back end line kind h w first
    | inr last ↦
        let form : c.of kind ≡ Form = only last.2 in
        let here : t.Sections n lines (head_of back end).1 Form =
        subst (λ X. X) (sym (same lines (head_of back end).1 Form ∙ in_closing (closes (head_of back end).1) _ _ (head_closes back end shut))) (inr (kind, sym form, last.2)) in
        let first : IsFirstFault rank t.Breaks (closed all end) (head_of back end).0 Form = closing_first lines back end h w last.0 here in
        subst (λ x. IsFirstFault rank t.Breaks (closed all end) x (c.of kind)) (sym (last.1 ∙ at))
        (subst (IsFirstFault rank t.Breaks (closed all end) (head_of back end).0) (sym form) first)
  ]

  -- It is, too, if the header that is due closes the section.
  pub whole_section_due : ((before : List TextLine) (text : List ℕ) (f : Fault) → t.Sections n before text f ≡ WholePartBreaks c.of c.due c.Part before text f)
      → bytes_eq c.due c.due ≡ true → (lines back more : List TextLine) (end number : ℕ) → NoneCloses lines → rest ≡ lines ++ back → IsHeaded c.due back more → number ≡ (head_of back end).0
      → (line : ℕ) (kind : K) → IsFirstFault c.part_rank c.Part (closed lines number) line kind → IsFirstFault rank t.Breaks (closed all end) line (c.of kind)
  whole_section_due same own lines back more end number h w b at line kind f = elim (last_least c.part_rank c.Part lines (number, []) line kind f) [
    | inl first ↦ section_first lines back end line kind h w first
    | inr least ↦ elim (last_first c.part_rank c.Part lines (number, []) line kind f) [
      | inl first ↦ section_first lines back end line kind h w first
      | inr last ↦
          let due_is : (head_of back end).1 ≡ c.due = ap (λ (ls : List TextLine). (head_of ls end).1) b.whole in
          let rule : (g : Fault) → t.Breaks (front s ++ lines) c.due g ≡ (IsNot c.due c.due g ⊎ Renamed c.of (λ k. c.Part lines [] k) g) =
          λ g. rule_at s lines h c.due g ∙ same lines c.due g ∙ in_closing (closes c.due) _ _ c.due_closes in
          let first : IsFirstFault rank t.Breaks (closed all end) (head_of back end).0 (c.of kind) = record {
            before = front s ++ lines;
            text = c.due;
            after = tail_of back end;
            whole = section_closed lines back end w ∙ sym (append_assoc (front s) lines (closed back end)) ∙ ap (λ x. (front s ++ lines) ++ x) (head_tail back end) ∙ ap (λ (x : List ℕ). (front s ++ lines) ++ ((head_of back end).0, x) ∷ tail_of back end) due_is;
            earlier = section_faultless lines h last.0;
            breaks = subst (λ X. X) (sym (rule (c.of kind))) (inr (kind, refl, last.2));
            least = λ other o. elim (subst (λ X. X) (rule other) o) [
              | inl x ↦ absurd (no_header c.due other own x)
              | inr x ↦ rw (x.1, c.ranks kind, c.ranks x.0) (least x.0 x.2)
            ];
          } in
          subst (λ x. IsFirstFault rank t.Breaks (closed all end) x (c.of kind)) (sym (last.1 ∙ at)) first
    ]
  ]

  -- What an error says of a section that has to be whole, with the line that closes it, it says of the text; that line's
  -- only fault as a line of the section is of form.
  pub whole_section_tells : ((before : List TextLine) (text : List ℕ) (f : Fault) → t.Sections n before text f ≡ WholePartBreaks c.of c.due c.Part before text f)
      → ((before : List TextLine) (kind : K) → c.Part before [] kind → c.of kind ≡ Form)
      → (lines back : List TextLine) (end number : ℕ) → NoneCloses lines → rest ≡ lines ++ back → IsClosed back → number ≡ (head_of back end).0
      → (e : LineError K) → Tells c.part_rank c.Part (closed lines number) e → Tells rank t.Breaks (closed all end) (renamed c.of e)
  whole_section_tells same only lines back end number h w shut at Memory f = tt
  whole_section_tells same only lines back end number h w shut at (At line kind) f = whole_section_form same lines back end number h w shut at line kind (only lines kind) f

-- ---- after the last section

module _ {t : TextRule} {all rest : List TextLine} {n : ℕ} (s : Stage t all n rest)
    (past : (m : ℕ) (before : List TextLine) (text : List ℕ) (f : Fault) → t.Sections (n + m) before text f ≡ PastBreaks text f) where
  -- A line after the last section has the kinds of such a line.
  pub past_here : (before : List TextLine) (text : List ℕ) (f : Fault) → t.Breaks (front s ++ before) text f ≡ PastBreaks text f
  past_here before text f =
      let count : closings (s.body ++ before) ≡ n + closings before = closings_more s.body before ∙ ap (λ m. m + closings before) (sym (ap closings (append-nil s.body)) ∙ s.begins.count [] tt) in
      ap (λ x. t.Breaks x text f) (append_assoc t.head s.body before)
      ∙ t.rule (s.body ++ before) text f
      ∙ ap (λ m. t.Sections m (since (s.body ++ before)) text f) count
      ∙ past (closings before) (since (s.body ++ before)) text f

  -- lines without a text have no fault there
  past_blank : (done lines : List TextLine) → AllBlank lines → IsFaultless t.Breaks (front s ++ done) → IsFaultless t.Breaks (front s ++ (done ++ lines))
  past_blank done [] h f = subst (λ x. IsFaultless t.Breaks (front s ++ x)) (sym (append-nil done)) f
  past_blank done (l ∷ ls) h f =
      let one = faultless_push t.Breaks (front s ++ done) l f (λ k b. let p : PastBreaks l.1 k = subst (λ X. X) (past_here done l.1 k) b in absurd (let e : false ≡ true = sym h.0 ∙ p.1 in cc)) in
      subst (λ x. IsFaultless t.Breaks (front s ++ x)) (append_assoc done (l ∷ []) ls) (past_blank (done ++ l ∷ []) ls h.1 (subst (IsFaultless t.Breaks) (append_assoc (front s) done (l ∷ [])) one))

  front_good : IsFaultless t.Breaks (front s ++ [])
  front_good = subst (IsFaultless t.Breaks) (sym (append-nil (front s))) s.faultless

  -- If no line has a text after the last section, the text has no fault.
  pub past_none : (end : ℕ) → AllBlank rest → IsFaultless t.Breaks (closed all end)
  past_none end h =
      subst (IsFaultless t.Breaks) (sym (stage_closed s end))
      (past_blank [] (closed rest end) (all_append (λ l. has_text l.1 ≡ false) rest ((end, []) ∷ []) h (refl, tt)) front_good)

  -- The first line with a text after the last section has a fault of form.
  pub past_first : (end : ℕ) (e : LineError Fault) → IsLeftOver rest e → Tells rank t.Breaks (closed all end) e
  past_first end e l =
      let first : IsFirstFault rank t.Breaks (closed all end) l.line.0 Form = record {
        before = front s ++ l.before;
        text = l.line.1;
        after = closed l.after end;
        whole = stage_closed s end ∙ ap (λ x. front s ++ closed x end) l.whole ∙ ap (λ x. front s ++ x) (append_assoc l.before (l.line ∷ l.after) ((end, []) ∷ [])) ∙ sym (append_assoc (front s) l.before (l.line ∷ closed l.after end));
        earlier = past_blank [] l.before l.blank front_good;
        breaks = subst (λ X. X) (sym (past_here l.before l.line.1 Form)) (refl, l.text);
        least = λ other b. rank_low other;
      } in
      subst (Tells rank t.Breaks (closed all end)) (sym l.is) first

-- ---- a text without a fault

-- What a section without a fault and the header after it are.
pub record Advance {K : Type 0} (t : TextRule) (all rest : List TextLine) (n : ℕ) (c : SectionRule K t n) : Type 0 where
  pub lines : List TextLine
  pub back : List TextLine
  pub more : List TextLine
  pub headed : IsHeaded c.due back more
  pub own : lines ≡ up_to_header rest
  pub whole : rest ≡ lines ++ back
  pub none : NoneCloses lines
  pub good : IsFaultless c.Part lines
  pub is_whole : c.Whole lines
  pub next : Stage t all (n + 1) more

-- What stands first is a header, and what follows it.
pub headed_by : (back : List TextLine) (end : ℕ) (due : List ℕ) → 0 < length due → bytes_eq (head_of back end).1 due ≡ true → (more : List TextLine) × IsHeaded due back more
headed_by [] end due l e = absurd (true≢false (sym e ∙ empty_apart due l))
headed_by (x ∷ xs) end due l e = let t : x.1 ≡ due = (bytes_eq-Decides x.1 due).0 e in (xs, record { number = x.0; whole = λ i. (x.0, t i) ∷ xs })

module _ {K : Type 0} {t : TextRule} {all rest : List TextLine} {n : ℕ} (s : Stage t all n rest) (c : SectionRule K t n) (end : ℕ) (f : IsFaultless t.Breaks (closed all end)) where
  no_fault : (before after : List TextLine) (line : TextLine) (k : Fault) → closed all end ≡ front s ++ (before ++ line ∷ after) → t.Breaks (front s ++ before) line.1 k → ⊥
  no_fault before after line k e b = f.none line.0 k (record { before = front s ++ before; text = line.1; after = after; whole = e ∙ sym (append_assoc (front s) before (line ∷ after)); breaks = b })

  advance_from : (lines back : List TextLine) → lines ≡ up_to_header rest → rest ≡ lines ++ back → NoneCloses lines → IsClosed back → 0 < length c.due → Advance t all rest n c
  advance_from lines back own whole none shut l =
      record { lines = lines; back = back; more = after.0; headed = after.1; own = own; whole = whole; none = none; good = good; is_whole = is_whole; next = stage_next s c lines back after.0 none whole good is_whole after.1 }
    where
      all_is : closed all end ≡ front s ++ (lines ++ closed back end)
      all_is = section_closed s c lines back end whole

      good : IsFaultless c.Part lines
      good = record {
        none = λ number k h.
            no_fault h.before (h.after ++ closed back end) (number, h.text) (c.of k)
            (all_is ∙ ap (λ x. front s ++ x) (ap (λ x. x ++ closed back end) h.whole ∙ append_assoc h.before ((number, h.text) ∷ h.after) (closed back end)))
            ((delegates s c lines none).up h.before (number, h.text) h.after h.whole k h.breaks);
      }

      at_head : (k : Fault) → t.Breaks (front s ++ lines) (head_of back end).1 k → ⊥
      at_head k b = no_fault lines (tail_of back end) (head_of back end) k (all_is ∙ ap (λ x. front s ++ (lines ++ x)) (head_tail back end)) b

      by_due : (b : Bool) → bytes_eq (head_of back end).1 c.due ≡ b → bytes_eq (head_of back end).1 c.due ≡ true
      by_due true e = e
      by_due false e = absurd (at_head Form (subst (λ X. X) (sym (rule_at s lines none (head_of back end).1 Form)) (c.missing lines (head_of back end).1 (head_closes back end shut) e)))

      is_due : bytes_eq (head_of back end).1 c.due ≡ true
      is_due = by_due (bytes_eq (head_of back end).1 c.due) refl

      after : (more : List TextLine) × IsHeaded c.due back more
      after = headed_by back end c.due l is_due

      is_whole : c.Whole lines
      is_whole =
          c.whole lines
          (λ k o. at_head k (subst (λ x. t.Breaks (front s ++ lines) x k) (sym ((bytes_eq-Decides (head_of back end).1 c.due).0 is_due)) (subst (λ X. X) (sym (rule_at s lines none c.due k)) o)))

  -- The next section of a text without a fault has none, and the header after it is the one that is due.
  pub advance : 0 < length c.due → Advance t all rest n c
  advance l =
      advance_from (up_to_header rest) (drop (position_or_len (λ m. closes m.1) rest) rest) refl (sym (take-append-drop (position_or_len (λ m. closes m.1) rest) rest)) (none_before (λ m. closes m.1) rest) (rest_closed rest) l
