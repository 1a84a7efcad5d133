-- Lines that say words, one each, assemble to those words.
use Rattle.std.proofs.Common.{◌≡◌, ℕ, ◌+◌, ◌^◌, ◌<◌, ◌≤◌, Bool, true, false, ltb, leb, List, [], ◌∷◌, ◌++◌, length, map, refl, ap, sym, subst, ◌∙◌, arith, append_assoc}
use Rattle.std.specs.Prelude.{◌||◌, ◌&&◌, ⊤, is_none, is_some}
use Rattle.std.specs.List.{AllByRecursion, enumerate_from}
use Rattle.std.proofs.lemmas.Bool.{both_ways, or_from, le-ltb}
use Rattle.plural_bytes.specs.Lines.{TextLine, pieces, content_from, content_lines}
use Rattle.plural_bytes.proofs.PrintedLines.{line_first}
use Rattle.plural_statement.specs.Statement.{label_of, instruction, line_of}
use Rattle.plural_asm.specs.Labels.{words_in, size_of, place_after, place_of}
use Rattle.plural_asm.specs.Words.{target_offset, words_at, gathered, label_at, labels_of}
use Rattle.plural_asm.specs.Rules.{is_out_of_range, is_defined, is_unknown, is_far, Breaks}
use Rattle.plural_asm.specs.WordText.{word_text}
use Rattle.plural_asm.specs.Laws.{Makes, words_text}
use Rattle.plural_asm.specs.declared.object.AsmKind.{AsmKind}
use Rattle.plural_asm.specs.declared.object.AsmKind.TheVariants as kinds
use Rattle.plural_asm.proofs.LineSums.{place_first}
use Rattle.plural_asm.proofs.UnlabelledLines.{no_label, all_left}
use Rattle.plural_asm.proofs.Texts.{Spells, spells}

-- ---- one line

statement_is : (w : ℕ) (text : List ℕ) (h : Spells w text) → (line_of text).statement ≡ h.statement
statement_is w text h = ap instruction (all_left text h.line) ∙ h.is

size_is : (w : ℕ) (text : List ℕ) → Spells w text → size_of text ≡ 1
size_is w text h = ap words_in (statement_is w text h) ∙ h.says.one

neither : (a b : Bool) → a ≡ false → b ≡ false → (a || b) ≡ true → ⊥
neither a b e f h = both_ways (a || b) (or_from a b e f) h

-- the line of a word has no fault after fewer than 16,384 words
sound : (all before : List TextLine) (w : ℕ) (text : List ℕ) → Spells w text → place_after before < 16384 → (kind : AsmKind) → Breaks all before text kind → ⊥
sound all before w text h l kinds.Form b = let f : false ≡ true = sym (ap is_none (statement_is w text h) ∙ h.says.formed) ∙ b in absurd cc
sound all before w text h l kinds.Number b = let f : false ≡ true = sym (ap is_out_of_range (statement_is w text h) ∙ h.says.ranged) ∙ b in absurd cc
sound all before w text h l kinds.Name b =
    let place = λ (q : List ℕ). place_of all q in
    let offset = target_offset place (place_after before) (line_of text).statement in
    neither (is_defined (λ q. place_of before q) (label_of text)) (is_unknown offset)
    (ap (is_defined (λ q. place_of before q)) (no_label text h.line))
    (ap (λ s. is_unknown (target_offset place (place_after before) s)) (statement_is w text h) ∙ h.says.placed place (place_after before)) b
sound all before w text h l kinds.Count b =
    let some = leb 16384 (length (labels_of before)) in
    neither (ltb 16384 (place_after before + words_in (line_of text).statement)) (is_some (label_of text) && some)
    (le-ltb 16384 (place_after before + words_in (line_of text).statement) (omega (arith, size_is w text h)))
    (ap (λ o. is_some o && some) (no_label text h.line)) b
sound all before w text h l kinds.Reach b =
    let place = λ (q : List ℕ). place_of all q in
    let f : false ≡ true = sym (ap (λ s. is_far (target_offset place (place_after before) s)) (statement_is w text h) ∙ h.says.near place (place_after before)) ∙ b in
    absurd cc

-- ---- lines

-- each line says the word at its place
abbrev pub AllSay : List TextLine → List ℕ → Type 0
AllSay [] [] = ⊤
AllSay [] (w ∷ ws) = ⊥
AllSay (l ∷ ls) [] = ⊥
AllSay (l ∷ ls) (w ∷ ws) = Spells w l.1 × AllSay ls ws

all_code : (all : List TextLine) (here : ℕ) (ls : List TextLine) (ws : List ℕ) → AllSay ls ws → gathered (λ here text. words_at (λ q. place_of all q) here (line_of text).statement) here ls ≡ ws
all_code all here [] [] h = refl
all_code all here [] (w ∷ ws) h = absurd h
all_code all here (l ∷ ls) [] h = absurd h
all_code all here (l ∷ ls) (w ∷ ws) h =
    let place = λ (q : List ℕ). place_of all q in
    let one : words_at place here (line_of l.1).statement ≡ w ∷ [] = ap (words_at place here) (statement_is w l.1 h.0) ∙ h.0.says.words place here in
    ap (λ x. x ++ gathered (λ here text. words_at place here (line_of text).statement) (here + size_of l.1) ls) one ∙ ap (λ x. w ∷ x) (all_code all (here + size_of l.1) ls ws h.1)

no_labels : (here : ℕ) (ls : List TextLine) (ws : List ℕ) → AllSay ls ws → gathered (λ here text. label_at here (label_of text)) here ls ≡ []
no_labels here [] [] h = refl
no_labels here [] (w ∷ ws) h = absurd h
no_labels here (l ∷ ls) [] h = absurd h
no_labels here (l ∷ ls) (w ∷ ws) h = ap (λ o. label_at here o ++ gathered (λ here text. label_at here (label_of text)) (here + size_of l.1) ls) (no_label l.1 h.0.line) ∙ no_labels (here + size_of l.1) ls ws h.1

-- a line among those that say words: its word, and how many words stand before it
record Placed (before : List TextLine) (text : List ℕ) (ws : List ℕ) : Type 0 where
  word : ℕ
  says : Spells word text
  place : place_after before ≡ length before
  short : length before < length ws

placed_at : (before : List TextLine) (l : TextLine) (after : List TextLine) (ws : List ℕ) → AllSay (before ++ l ∷ after) ws → Placed before l.1 ws
placed_at [] l after [] h = absurd h
placed_at [] l after (w ∷ ws) h = record { word = w; says = h.0; place = refl; short = omega arith }
placed_at (b ∷ bs) l after [] h = absurd h
placed_at (b ∷ bs) l after (w ∷ ws) h =
    let i = placed_at bs l after ws h.1 in
    record { word = i.word; says = i.says; place = omega (arith, place_first b bs, size_is w b.1 h.0, i.place); short = omega (arith, i.short) }

-- lines that say at most 16,384 words make them
pub makes : (ls : List TextLine) (ws : List ℕ) → AllSay ls ws → length ws ≤ 16384 → Makes ls ws
makes ls ws h l = record {
  faultless = record {
    none = λ n kind f.
        let at = placed_at f.before (n, f.text) f.after ws (subst (λ xs. AllSay xs ws) f.whole h) in
        sound ls f.before at.word f.text at.says (omega (arith, at.place, at.short)) kind f.breaks;
  };
  code = all_code ls 0 ls ws h;
  unlabelled = no_labels 0 ls ws h;
}

-- The line of a word makes the word.
pub word_round_trip : (n w : ℕ) → w < 2 ^ 32 → (content_lines (word_text w ++ 10 ∷ []) ≡ (1, word_text w) ∷ []) × Makes ((n, word_text w) ∷ []) (w ∷ [])
word_round_trip n w l = (line_first 1 (word_text w) [] (spells w l).line.line, makes ((n, word_text w) ∷ []) (w ∷ []) (spells w l, tt) (omega arith))

-- ---- the text of words

abbrev AllWords : List ℕ → Type 0
AllWords ws = AllByRecursion (λ w. w < 2 ^ 32) ws

stay_from : (n : ℕ) (ws : List ℕ) → AllWords ws → content_from n (pieces (words_text ws)) ≡ enumerate_from n (map word_text ws)
stay_from n [] h = refl
stay_from n (w ∷ ws) h =
    ap (λ t. content_from n (pieces t)) (append_assoc (word_text w) (10 ∷ []) (words_text ws))
    ∙ line_first n (word_text w) (words_text ws) (spells w h.0).line.line
    ∙ ap (λ ls. (n, word_text w) ∷ ls) (stay_from (n + 1) ws h.1)

-- The content lines of the texts of words are these texts.
pub texts_are_lines : (ws : List ℕ) → AllWords ws → content_lines (words_text ws) ≡ enumerate_from 1 (map word_text ws)
texts_are_lines ws h = stay_from 1 ws h

all_say : (n : ℕ) (ws : List ℕ) → AllWords ws → AllSay (enumerate_from n (map word_text ws)) ws
all_say n [] h = tt
all_say n (w ∷ ws) h = (spells w h.0, all_say (n + 1) ws h.1)

-- The lines of words make the words.
pub words_round_trip : (ws : List ℕ) → AllWords ws → length ws ≤ 16384 → Makes (content_lines (words_text ws)) ws
words_round_trip ws h l = subst (λ ls. Makes ls ws) (sym (texts_are_lines ws h)) (makes (enumerate_from 1 (map word_text ws)) ws (all_say 1 ws h) l)
