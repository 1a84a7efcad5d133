-- Reading words one after the other.
use Rattle.std.proofs.Common.{◌≡◌, ℕ, ◌+◌, ◌<◌, ◌≤◌, Some, None, List, [], ◌∷◌, ◌++◌, length, take, get_or, ap, sym, ◌∙◌, arith}
use Rattle.std.specs.Prelude.{flat_map}
use Rattle.std.specs.Option.{option_map_or}
use Rattle.std.proofs.lemmas.List.{length-append, flat_map_more, map_more}
use Rattle.plural_bytes.specs.Lines.{TextLine}
use Rattle.plural_bytes.specs.declared.lines.Line.{Line}
use Rattle.plural_bytes.specs.Spelled.{text_line, text_lines}
use Rattle.plural_sections.specs.Faults.{IsFaultless, IsFirstFault}
use Rattle.plural_sections.proofs.FirstFaults.{first_fault, faultless_more}
use Rattle.plural_sections.specs.Numbers.{word_token}
use Rattle.plural_asm.specs.Rules.{rank}
use Rattle.plural_asm.specs.declared.object.AsmKind.{AsmKind}
use Rattle.plural_asm.specs.declared.object.AsmKind.TheVariants as kinds
use Rattle.plural_cli.specs.Dis.{dis_breaks, word_line, dis_text}

-- ---- what stands at a line, by its shape

no_fault : (before : List TextLine) (text : List ℕ) (word : ℕ) → word_token text ≡ Some word → length before < 16384 → (k : AsmKind) → dis_breaks before text k → ⊥
no_fault before text word e h kinds.Form b = absurd (let f : None ≡ Some word = sym b ∙ e in cc)
no_fault before text word e h kinds.Number b = b
no_fault before text word e h kinds.Name b = b
no_fault before text word e h kinds.Count b = omega (arith, h, b)
no_fault before text word e h kinds.Reach b = b

form_least : (before : List TextLine) (text : List ℕ) (k : AsmKind) → dis_breaks before text k → rank kinds.Form ≤ rank k
form_least before text kinds.Form b = omega arith
form_least before text kinds.Number b = omega arith
form_least before text kinds.Name b = omega arith
form_least before text kinds.Count b = omega arith
form_least before text kinds.Reach b = omega arith

count_least : (before : List TextLine) (text : List ℕ) (word : ℕ) → word_token text ≡ Some word → (k : AsmKind) → dis_breaks before text k → rank kinds.Count ≤ rank k
count_least before text word e kinds.Form b = absurd (let f : None ≡ Some word = sym b ∙ e in cc)
count_least before text word e kinds.Number b = absurd b
count_least before text word e kinds.Name b = absurd b
count_least before text word e kinds.Count b = omega arith
count_least before text word e kinds.Reach b = omega arith

-- ---- what the reader knows after some lines

pub record Words (lines : List TextLine) (count : ℕ) (text : List ℕ) : Type 0 where
  pub faultless : IsFaultless dis_breaks lines
  pub count_is : count ≡ length lines
  pub text_is : text ≡ dis_text lines

-- A line that is no word, after lines without a fault, is the first fault, of form.
pub form_first : (xs : List Line) (i : ℕ) (d : Line) (count : ℕ) (text : List ℕ) → i < length xs → Words (text_lines (take i xs)) count text
    → None ≡ word_token (get_or xs i d).text.now → IsFirstFault rank dis_breaks (text_lines xs) (get_or xs i d).number kinds.Form
form_first xs i d count text l r shape =
    first_fault rank dis_breaks text_line xs i d kinds.Form l r.faultless (sym shape) (form_least (text_lines (take i xs)) (get_or xs i d).text.now)

-- A word after 16,384 words is the first fault, of count.
pub count_first : (xs : List Line) (i : ℕ) (d : Line) (count : ℕ) (text : List ℕ) (word : ℕ) → i < length xs → Words (text_lines (take i xs)) count text
    → Some word ≡ word_token (get_or xs i d).text.now → 16384 ≤ count → IsFirstFault rank dis_breaks (text_lines xs) (get_or xs i d).number kinds.Count
count_first xs i d count text word l r shape h =
    first_fault rank dis_breaks text_line xs i d kinds.Count l r.faultless (omega (arith, h, r.count_is)) (count_least (text_lines (take i xs)) (get_or xs i d).text.now word (sym shape))

abbrev dis_line : TextLine → List ℕ
dis_line l = option_map_or word_line (word_token l.1) []

-- A word more is read, and its line put.
pub words_more : (xs : List Line) (i : ℕ) (d : Line) (count : ℕ) (text new : List ℕ) (word : ℕ) → i < length xs → Words (text_lines (take i xs)) count text
    → Some word ≡ word_token (get_or xs i d).text.now → count < 16384 → new ≡ text ++ word_line word → Words (text_lines (take (i + 1) xs)) (count + 1) new
words_more xs i d count text new word l r shape h e =
    let lines = text_lines (take i xs) in
    let line = text_line (get_or xs i d) in
    let here : word_line word ≡ dis_line line = ap (λ o. option_map_or word_line o []) shape in
    record {
      faultless = faultless_more dis_breaks text_line xs i d l r.faultless (no_fault lines line.1 word (sym shape) (omega (arith, h, r.count_is)));
      count_is = omega (arith, r.count_is, ap length (map_more text_line xs i d l), length-append lines (line ∷ []));
      text_is = e ∙ (λ j. r.text_is j ++ here j) ∙ flat_map_more dis_line [] lines line ∙ ap (λ ls. flat_map dis_line ls) (sym (map_more text_line xs i d l));
    }
