-- The content lines of a bundle's text are the lines of its parts.
use Rattle.std.proofs.Common.{◌≡◌, ℕ, ◌+◌, Bool, true, false, List, [], ◌∷◌, ◌++◌, length, refl, ap, sym, ◌∙◌, arith, append_assoc}
use Rattle.std.specs.Prelude.{codes, flat_map, filter, map}
use Rattle.std.specs.List.{enumerate_from, onto_first}
use Rattle.std.proofs.lemmas.List.{append-nil, map-append}
use Rattle.std.proofs.lemmas.List.Elements.{filter-append}
use Rattle.plural_bytes.specs.Lines.{TextLine, is_line_end, pieces, content, has_text, content_from, content_lines}
use Rattle.plural_bundle.specs.Laws.{Parts, lines_of}
use Rattle.plural_made.proofs.LineNumbers.{lines_from}

-- ---- lines of a text that others follow

-- The lines of the text end where it ends, so that what follows it begins with a line of its own.
abbrev pub EndsLine : List ℕ → Type 0
EndsLine text = (rest : List ℕ) → pieces (text ++ rest) ≡ pieces text ++ pieces rest

-- A text and its LF are some lines, whatever follows.
record Lines (text : List ℕ) : Type 0 where
  first : List ℕ
  more : List (List ℕ)
  are : (rest : List ℕ) → pieces (text ++ 10 ∷ rest) ≡ (first ∷ more) ++ pieces rest

one_more : (c : ℕ) (cs : List ℕ) (b : Bool) → is_line_end c ≡ b → Lines cs → Lines (c ∷ cs)
one_more c cs true e l = record { first = []; more = l.first ∷ l.more; are = λ rest. rw e (ap (λ x. [] ∷ x) (l.are rest)) }
one_more c cs false e l = record { first = c ∷ l.first; more = l.more; are = λ rest. rw e (ap (onto_first c) (l.are rest)) }

lines : (text : List ℕ) → Lines text
lines [] = record { first = []; more = []; are = λ rest. refl }
lines (c ∷ cs) = one_more c cs (is_line_end c) refl (lines cs)

-- A text with an LF at its end ends its lines.
pub ends_with : (text : List ℕ) → EndsLine (text ++ 10 ∷ [])
ends_with text rest =
    let l = lines text in
    ap pieces (append_assoc text (10 ∷ []) rest) ∙ l.are rest ∙ ap (λ x. x ++ pieces rest) (sym (l.are [] ∙ append-nil (l.first ∷ l.more)))

-- The empty text ends its lines.
pub ends_nothing : EndsLine []
ends_nothing rest = refl

-- Two texts that end their lines do so together.
pub ends_both : (s t : List ℕ) → EndsLine s → EndsLine t → EndsLine (s ++ t)
ends_both s t e f rest = ap pieces (append_assoc s t rest) ∙ e (t ++ rest) ∙ ap (λ x. pieces s ++ x) (f rest) ∙ sym (append_assoc (pieces s) (pieces t) (pieces rest)) ∙ ap (λ x. x ++ pieces rest) (sym (e t))

-- Texts that end their lines do so all together.
pub ends_each : {A : Type 0} (f : A → List ℕ) (xs : List A) → ((x : A) → EndsLine (f x)) → EndsLine (flat_map f xs)
ends_each f [] e = ends_nothing
ends_each f (x ∷ xs) e = ends_both (f x) (flat_map f xs) (e x) (ends_each f xs e)

-- ---- content lines

enumerate_append : {A : Type 0} (n : ℕ) (xs ys : List A) → enumerate_from n (xs ++ ys) ≡ enumerate_from n xs ++ enumerate_from (n + length xs) ys
enumerate_append n [] ys = ap (λ m. enumerate_from m ys) (let e : n ≡ n + 0 = omega arith in e)
enumerate_append n (x ∷ xs) ys =
    let e : n + 1 + length xs ≡ n + length (x ∷ xs) = omega arith in
    ap (λ zs. (n, x) ∷ zs) (enumerate_append (n + 1) xs ys ∙ ap (λ m. enumerate_from (n + 1) xs ++ enumerate_from m ys) e)

-- The content lines among some pieces, and others after them.
pub content_append : (n : ℕ) (ps qs : List (List ℕ)) → content_from n (ps ++ qs) ≡ content_from n ps ++ content_from (n + length ps) qs
content_append n ps qs =
    let f : TextLine → TextLine = λ l. (l.0, content l.1) in
    let p = λ (l : TextLine). has_text l.1 in
    ap (λ ls. filter p (map f ls)) (enumerate_append n ps qs) ∙ ap (filter p) (map-append f (enumerate_from n ps) (enumerate_from (n + length ps) qs)) ∙ filter-append p (map f (enumerate_from n ps)) (map f (enumerate_from (n + length ps) qs))

-- The content lines of a text that ends its lines, and of one that follows it.
pub lines_both : (n : ℕ) (s t : List ℕ) → EndsLine s → lines_from n (s ++ t) ≡ lines_from n s ++ lines_from (n + length (pieces s)) t
lines_both n s t e = ap (content_from n) (e t) ∙ content_append n (pieces s) (pieces t)

-- ---- a whole bundle

-- The text of a bundle of the texts of its sections.
abbrev pub text_with : (maps kernels words : List ℕ) → List ℕ
text_with maps kernels words = codes "plural 1\n[map]\n" ++ (maps ++ (codes "[kernels]\n" ++ (kernels ++ (codes "[image]\n" ++ (words ++ codes "[end]\n")))))

-- The parts of that text, by the numbers of the lines of its last three headers.
abbrev pub parts_with : (maps kernels words : List ℕ) (at_kernels at_image at_end : ℕ) → Parts
parts_with maps kernels words at_kernels at_image at_end = record {
  first = (1, codes "plural 1");
  version = 1;
  at_map = 2;
  map_part = lines_from 3 maps;
  at_kernels = at_kernels;
  kernel_part = lines_from (at_kernels + 1) kernels;
  at_image = at_image;
  image_part = lines_from (at_image + 1) words;
  at_end = at_end;
}

-- The content lines of an image's text between its header and the header of the end.
pub image_cut : (n end : ℕ) (words : List ℕ) → EndsLine words → end ≡ n + 1 + length (pieces words)
    → lines_from n (codes "[image]\n" ++ (words ++ codes "[end]\n")) ≡ (n, codes "[image]") ∷ (lines_from (n + 1) words ++ (end, codes "[end]") ∷ [])
image_cut n end words e h =
    ap (λ x. (n, codes "[image]") ∷ x) (lines_both (n + 1) words (codes "[end]\n") e) ∙ ap (λ (m : ℕ). (n, codes "[image]") ∷ (lines_from (n + 1) words ++ (m, codes "[end]") ∷ [])) (sym h)

kernels_cut : (n next : ℕ) (kernels rest : List ℕ) → EndsLine kernels → next ≡ n + 1 + length (pieces kernels)
    → lines_from n (codes "[kernels]\n" ++ (kernels ++ rest)) ≡ (n, codes "[kernels]") ∷ (lines_from (n + 1) kernels ++ lines_from next rest)
kernels_cut n next kernels rest e h =
    ap (λ x. (n, codes "[kernels]") ∷ x) (lines_both (n + 1) kernels rest e) ∙ ap (λ m. (n, codes "[kernels]") ∷ (lines_from (n + 1) kernels ++ lines_from m rest)) (sym h)

map_cut : (next : ℕ) (maps rest : List ℕ) → EndsLine maps → next ≡ 3 + length (pieces maps)
    → content_lines (codes "plural 1\n[map]\n" ++ (maps ++ rest)) ≡ (1, codes "plural 1") ∷ (2, codes "[map]") ∷ (lines_from 3 maps ++ lines_from next rest)
map_cut next maps rest e h =
    ap (λ x. (1, codes "plural 1") ∷ (2, codes "[map]") ∷ x) (lines_both 3 maps rest e) ∙ ap (λ m. (1, codes "plural 1") ∷ (2, codes "[map]") ∷ (lines_from 3 maps ++ lines_from m rest)) (sym h)

-- The content lines of the text are the lines of its parts: each header stands after the section before it.
pub cut : (maps kernels words : List ℕ) (at_kernels at_image at_end : ℕ) → EndsLine maps → EndsLine kernels → EndsLine words
    → at_kernels ≡ 3 + length (pieces maps) → at_image ≡ at_kernels + 1 + length (pieces kernels) → at_end ≡ at_image + 1 + length (pieces words)
    → content_lines (text_with maps kernels words) ≡ lines_of (parts_with maps kernels words at_kernels at_image at_end)
cut maps kernels words at_kernels at_image at_end e f g h k l =
    let rest = codes "[image]\n" ++ (words ++ codes "[end]\n") in
    map_cut at_kernels maps (codes "[kernels]\n" ++ (kernels ++ rest)) e h
    ∙ ap (λ x. (1, codes "plural 1") ∷ (2, codes "[map]") ∷ (lines_from 3 maps ++ x))
    (kernels_cut at_kernels at_image kernels rest f k ∙ ap (λ x. (at_kernels, codes "[kernels]") ∷ (lines_from (at_kernels + 1) kernels ++ x)) (image_cut at_image at_end words g l))
