-- What lists of lines give, one more line.
use Rattle.std.proofs.Common.{◌≡◌, ℕ, ◌+◌, ◌<◌, Bool, true, false, Option, Some, None, List, [], ◌∷◌, ◌++◌, length, take, get_or, refl, ap, sym, ◌∙◌, arith, append_assoc, length-append}
use Rattle.std.specs.Prelude.{◌||◌, ◌==◌, ◌%◌, cond}
use Rattle.std.specs.List.{cons_option}
use Rattle.std.proofs.lemmas.List.{append-nil, map_more}
use Rattle.std.proofs.lemmas.List.Elements.{filter_map-append}
use Rattle.std.proofs.lemmas.List.Sums.{sum_by-append}
use Rattle.plural_bytes.specs.Lines.{TextLine}
use Rattle.plural_bytes.specs.declared.lines.Line.{Line}
use Rattle.plural_bytes.specs.Spelled.{text_line, text_lines}
use Rattle.plural_statement.specs.Statement.{label_of, line_of}
use Rattle.plural_asm.specs.Labels.{names_of, is_short, li_size, words_in, size_of, place_after, place_of}
use Rattle.plural_asm.specs.Words.{li_words, words_at, gathered, code_of}
use Rattle.plural_statement.specs.declared.statement.Statement.{Statement}
use Rattle.plural_statement.specs.declared.statement.Statement.TheVariants.{Nothing, Known, Li, Jump, Branch}

-- the names of one more line
pub names_more : (xs : List Line) (i : ℕ) (d : Line) (o : Option (List ℕ)) → i < length xs → o ≡ label_of (get_or xs i d).text.now → names_of (text_lines (take (i + 1) xs)) ≡ names_of (text_lines (take i xs)) ++ cons_option o []
names_more xs i d o l e = rw e (ap names_of (map_more text_line xs i d l) ∙ filter_map-append (λ l. label_of l.1) (text_lines (take i xs)) (text_line (get_or xs i d) ∷ []))

-- the place after a first line and others
pub place_first : (l : TextLine) (ls : List TextLine) → place_after (l ∷ ls) ≡ size_of l.1 + place_after ls
place_first l ls = sum_by-append (λ x. size_of x.1) (l ∷ []) ls ∙ omega arith

-- what one more line gives
pub gathered_push : {A : Type 0} (make : ℕ → List ℕ → List A) (here : ℕ) (ls : List TextLine) (l : TextLine) → gathered make here (ls ++ l ∷ []) ≡ gathered make here ls ++ make (here + place_after ls) l.1
gathered_push make here [] l = append-nil (make here l.1) ∙ ap (λ n. make n l.1) (let e : here ≡ here + 0 = omega arith in e)
gathered_push make here (x ∷ xs) l =
    let e : here + size_of x.1 + place_after xs ≡ here + place_after (x ∷ xs) = omega (arith, place_first x xs) in
    ap (λ zs. make here x.1 ++ zs) (gathered_push make (here + size_of x.1) xs l) ∙ sym (append_assoc (make here x.1) _ _) ∙ ap (λ n. (make here x.1 ++ gathered make (here + size_of x.1) xs) ++ make n l.1) e

li_length : (rd w : ℕ) → length (li_words rd w) ≡ li_size w
li_length rd w = by _ _ _ (is_short w) (w % 4096 == 0)
  where
    by : (x y z : ℕ) (b e : Bool) → length (cond b (x ∷ []) (cond e (y ∷ []) (y ∷ z ∷ []))) ≡ cond (b || e) 1 2
    by x y z true e = refl
    by x y z false true = refl
    by x y z false false = refl

-- an instruction makes as many words as it counts for
pub words_length : (place : List ℕ → Option ℕ) (here : ℕ) (s : Option Statement) → length (words_at place here s) ≡ words_in s
words_length place here None = refl
words_length place here (Some Nothing) = refl
words_length place here (Some (Known word)) = refl
words_length place here (Some (Li rd None)) = refl
words_length place here (Some (Li rd (Some w))) = li_length rd w
words_length place here (Some (Jump rd t)) = refl
words_length place here (Some (Branch op rs1 rs2 t)) = refl

code_length_from : (all : List TextLine) (here : ℕ) (ls : List TextLine) → length (gathered (λ h text. words_at (λ q. place_of all q) h (line_of text).statement) here ls) ≡ place_after ls
code_length_from all here [] = refl
code_length_from all here (l ∷ ls) =
    length-append (words_at (λ q. place_of all q) here (line_of l.1).statement) _
    ∙ omega (arith, words_length (λ q. place_of all q) here (line_of l.1).statement, code_length_from all (here + size_of l.1) ls, place_first l ls)

-- the code is as long as its lines' words
pub code_length : (all ls : List TextLine) → length (code_of all ls) ≡ place_after ls
code_length all ls = code_length_from all 0 ls
