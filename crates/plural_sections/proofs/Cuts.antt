-- The cuts of the code as cuts of the definitions' lines, and what stands first in lines.
use Rattle.std.proofs.Common.{◌≡◌, ℕ, ◌+◌, ◌-◌, ◌<◌, Bool, true, false, List, [], ◌∷◌, ◌++◌, Some, None, length, take, drop, refl, ap, sym, subst, ◌∙◌, arith, take-append-drop, get_or}
use Rattle.std.specs.Prelude.{bytes_eq, position}
use Rattle.std.specs.List.{position_or_len, before_first, after_first}
use Rattle.std.proofs.lemmas.List.{map-append, take-map, drop-map, length-map, length-drop, take_all}
use Rattle.std.proofs.lemmas.List.Sums.{passes_at_first}
use Rattle.std.proofs.lemmas.Bool.{true≢false}
use Rattle.std.proofs.lemmas.Slice.Eq.{bytes_eq-Decides}
use Rattle.plural_sections.proofs.FirstFaults.{round}
use Rattle.plural_bytes.specs.Lines.{TextLine, has_text}
use Rattle.plural_bytes.specs.declared.lines.Line.{Line}
use Rattle.plural_bytes.specs.Spelled.{text_line, text_lines}
use Rattle.plural_base.proofs.ListTests.{from_yes, from_no, found, none_found, position_map, none_before}
use Rattle.plural_sections.specs.Sections.{closes, up_to_header, section}
use Rattle.plural_sections.specs.Borders.{head_of, IsClosed, IsHeaded, AllBlank, IsLeftOver}
use Rattle.plural_sections.specs.declared.line_error.LineError.TheVariants.{At}
use Rattle.plural_sections.specs.declared.fault.Fault.TheVariants.{Form}

-- ---- a section

-- The lines before the first that closes a section are the section.
pub cut_lines : (xs : List Line) (n : ℕ) → n ≡ position_or_len (λ (l : Line). closes l.text.now) xs → text_lines (take n xs) ≡ up_to_header (text_lines xs)
cut_lines xs n e = sym (take-map text_line n xs) ∙ ap (λ m. take m (text_lines xs)) (e ∙ sym (position_map (λ l. closes l.1) text_line xs))

-- What is left from the first line on that closes a section is closed.
pub rest_closed : (ls : List TextLine) → IsClosed (drop (position_or_len (λ l. closes l.1) ls) ls)
rest_closed [] = tt
rest_closed (l ∷ ls) = by (closes l.1) refl (rest_closed ls)
  where
    by : (b : Bool) → closes l.1 ≡ b → IsClosed (drop (position_or_len (λ m. closes m.1) ls) ls) → IsClosed (drop (position_or_len (λ m. closes m.1) (l ∷ ls)) (l ∷ ls))
    by true e h = subst IsClosed (sym (from_yes (λ m. closes m.1) l ls e)) e
    by false e h = subst IsClosed (sym (from_no (λ m. closes m.1) l ls e)) h

-- The rest begins with a line that closes a section, if there is one.
pub cut_closed : (xs : List Line) (n : ℕ) → n ≡ position_or_len (λ (l : Line). closes l.text.now) xs → IsClosed (text_lines (drop n xs))
cut_closed xs n e =
    let same : text_lines (drop n xs) ≡ drop (position_or_len (λ l. closes l.1) (text_lines xs)) (text_lines xs) = sym (drop-map text_line n xs) ∙ ap (λ m. drop m (text_lines xs)) (e ∙ sym (position_map (λ l. closes l.1) text_line xs)) in
    subst IsClosed (sym same) (rest_closed (text_lines xs))

-- The lines are the section and the rest.
pub cut_whole : (xs : List Line) (n : ℕ) → text_lines xs ≡ text_lines (take n xs) ++ text_lines (drop n xs)
cut_whole xs n = ap text_lines (sym (take-append-drop n xs)) ∙ map-append text_line (take n xs) (drop n xs)

-- ---- the section of a header

-- The section of a header is cut from the lines after it.
pub section_from : (header : List ℕ) (xs : List Line) (n : ℕ) → drop n xs ≡ after_first (λ (l : Line). bytes_eq l.text.now header) xs → up_to_header (text_lines (drop n xs)) ≡ section header (text_lines xs)
section_from header xs n e =
    ap (λ ys. up_to_header (text_lines ys)) e
    ∙ ap up_to_header (sym (drop-map text_line (position_or_len (λ (l : Line). bytes_eq l.text.now header) xs + 1) xs) ∙ ap (λ m. drop (m + 1) (text_lines xs)) (sym (position_map (λ l. bytes_eq l.1 header) text_line xs)))

-- ---- what stands first

-- No text is no header.
pub empty_apart : (header : List ℕ) → 0 < length header → bytes_eq [] header ≡ false
empty_apart [] l = absurd (omega arith)
empty_apart (c ∷ cs) l = refl

-- A header that is due stands first.
pub after_header : (xs : List Line) (header : List ℕ) → 0 < length header → bytes_eq (head_of (text_lines xs) 0).1 header ≡ true → IsHeaded header (text_lines xs) (text_lines (take (length xs - 1) (drop 1 xs)))
after_header [] header l e = absurd (true≢false (sym e ∙ empty_apart header l))
after_header (x ∷ xs) header l e =
    let t : x.text.now ≡ header = (bytes_eq-Decides x.text.now header).0 e in
    let n : take (length (x ∷ xs) - 1) (drop 1 (x ∷ xs)) ≡ xs = take_all (length (x ∷ xs) - 1) xs (omega arith) in
    record { number = x.number; whole = (λ i. (x.number, t i) ∷ text_lines xs) ∙ ap (λ ys. (x.number, header) ∷ text_lines ys) (sym n) }

-- ---- a line that has a text

-- No line has a text if none is found.
pub all_blank : (xs : List Line) → position (λ (l : Line). has_text l.text.now) xs ≡ None → AllBlank (text_lines xs)
all_blank xs e =
    let n : position_or_len (λ l. has_text l.1) (text_lines xs) ≡ length (text_lines xs) = position_map (λ l. has_text l.1) text_line xs ∙ none_found (λ (l : Line). has_text l.text.now) xs e ∙ sym (length-map xs text_line) in
    let all : before_first (λ l. has_text l.1) (text_lines xs) ≡ text_lines xs = take_all (position_or_len (λ l. has_text l.1) (text_lines xs)) (text_lines xs) (omega (arith, n)) in
    subst AllBlank all (none_before (λ l. has_text l.1) (text_lines xs))

-- The line that is found is the first with a text.
pub left_over : (xs : List Line) (n : ℕ) (d : Line) → position (λ (l : Line). has_text l.text.now) xs ≡ Some n → IsLeftOver (text_lines xs) (At (get_or xs n d).number Form)
left_over xs n d e =
    let f = found (λ (l : Line). has_text l.text.now) xs n e in
    let before : before_first (λ l. has_text l.1) (text_lines xs) ≡ text_lines (take n xs) = ap (λ m. take m (text_lines xs)) (position_map (λ l. has_text l.1) text_line xs ∙ f.0) ∙ take-map text_line n xs in
    record {
      before = text_lines (take n xs);
      line = text_line (get_or xs n d);
      after = text_lines (drop (n + 1) xs);
      whole = round text_line xs n d f.1;
      blank = subst AllBlank before (none_before (λ l. has_text l.1) (text_lines xs));
      text = subst (λ m. has_text (get_or xs m d).text.now ≡ true) f.0 (passes_at_first (λ (l : Line). has_text l.text.now) xs d (omega (arith, f.0, f.1)));
      is = refl;
    }

-- a slice to the end
pub cut_rest : (xs : List Line) (n : ℕ) → take (length xs - n) (drop n xs) ≡ drop n xs
cut_rest xs n = take_all (length xs - n) (drop n xs) (omega (arith, length-drop n xs))
