-- A word that a text begins with is its first token if nothing or a blank follows.
use Rattle.std.proofs.Common.{◌≡◌, ℕ, ◌<◌, Bool, true, false, List, [], ◌∷◌, ◌++◌, length, take, drop, refl, sym, ap, ◌∙◌, arith, append_assoc}
use Rattle.std.specs.Prelude.{not, bytes_eq, filter}
use Rattle.std.specs.List.{list_all, slice_split, onto_first}
use Rattle.std.proofs.lemmas.Bool.{and_parts, not-true, lt-ltb, ltb-true, cond-true, cond-false}
use Rattle.std.proofs.lemmas.List.{take-append-drop, length-append, append-nil}
use Rattle.std.proofs.lemmas.Slice.Eq.{bytes_eq-Decides}
use Rattle.plural_bytes.specs.Lines.{is_blank, has_text, drop_while, tokens}
use Rattle.plural_bytes.specs.Words.{is_one_word, ends_token, spaced}
use Rattle.plural_bytes.proofs.Cuts.{tokens_trimmed}

-- ---- the first piece of a text

record Cut (text : List ℕ) : Type 0 where
  first : List ℕ
  others : List (List ℕ)
  is : slice_split is_blank text ≡ first ∷ others
  prefix : take (length first) text ≡ first

cut : (text : List ℕ) → Cut text
cut [] = record { first = []; others = []; is = refl; prefix = refl }
cut (c ∷ cs) = by (is_blank c) refl (cut cs)
  where
    by : (b : Bool) → is_blank c ≡ b → Cut cs → Cut (c ∷ cs)
    by true e h = record { first = []; others = slice_split is_blank cs; is = rw e refl; prefix = refl }
    by false e h = record { first = c ∷ h.first; others = h.others; is = rw (e, h.is) refl; prefix = ap (λ (x : List ℕ). c ∷ x) h.prefix }

-- Before a text at which a token ends the first piece is empty.
none_first : (r : List ℕ) (h : Cut r) → ends_token r ≡ true → h.first ≡ []
none_first [] h e = let is = h.is in cc
none_first (c ∷ cs) h e = let f : [] ∷ slice_split is_blank cs ≡ h.first ∷ h.others = (rw e at h.is) in cc

-- Before another text it has a byte.
some_first : (r : List ℕ) (h : Cut r) → ends_token r ≡ false → 0 < length h.first
some_first [] h e = absurd cc
some_first (c ∷ cs) h e =
    let k = cut cs in
    let f : (c ∷ k.first) ∷ k.others ≡ h.first ∷ h.others = (rw (e, k.is) at h.is) in
    let first : h.first ≡ c ∷ k.first = cc in
    rw first (omega arith)

-- A word before a text is a prefix of the first piece.
word_cut : (w r : List ℕ) (h : Cut r) → list_all (λ c. not (is_blank c)) w ≡ true → slice_split is_blank (w ++ r) ≡ (w ++ h.first) ∷ h.others
word_cut [] r h e = h.is
word_cut (c ∷ cs) r h e =
    let p = and_parts (not (is_blank c)) (list_all (λ c. not (is_blank c)) cs) e in
    cond-false _ _ _ (not-true (is_blank c) p.0) ∙ ap (onto_first c) (word_cut cs r h p.1)

kept : (t : List ℕ) (ts : List (List ℕ)) → 0 < length t → filter has_text (t ∷ ts) ≡ t ∷ filter has_text ts
kept t ts l = cond-true _ _ _ (lt-ltb 0 (length t) l)

-- ---- the tokens of a text that begins with a word

word_tokens : (w r : List ℕ) (h : Cut r) → is_one_word w ≡ true → tokens (w ++ r) ≡ (w ++ h.first) ∷ filter has_text h.others
word_tokens w r h word =
    let p = and_parts (has_text w) (list_all (λ c. not (is_blank c)) w) word in
    let some : 0 < length w = ltb-true 0 (length w) p.0 in
    let long : 0 < length (w ++ h.first) = omega (arith, length-append w h.first) in
    ap (filter has_text) (word_cut w r h p.1) ∙ kept (w ++ h.first) h.others long

-- If nothing or a blank follows the word, it is the first token.
pub word_ahead : (w r : List ℕ) → is_one_word w ≡ true → ends_token r ≡ true → tokens (w ++ r) ≡ w ∷ tokens r
word_ahead w r word ends =
    let h = cut r in
    let none : h.first ≡ [] = none_first r h ends in
    let later : tokens r ≡ filter has_text h.others = ap (filter has_text) h.is ∙ rw none refl in
    word_tokens w r h word ∙ rw none (ap (λ (x : List ℕ). x ∷ filter has_text h.others) (append-nil w)) ∙ ap (λ (ts : List (List ℕ)). w ∷ ts) (sym later)

-- If another byte follows the word, it isn't.
pub word_longer : (w r : List ℕ) (ts : List (List ℕ)) → is_one_word w ≡ true → ends_token r ≡ false → tokens (w ++ r) ≡ w ∷ ts → ⊥
word_longer w r ts word ends f =
    let h = cut r in
    let some : 0 < length h.first = some_first r h ends in
    let g : (w ++ h.first) ∷ filter has_text h.others ≡ w ∷ ts = sym (word_tokens w r h word) ∙ f in
    let longer : w ++ h.first ≡ w = cc in
    omega (arith, length-append w h.first, ap length longer)

-- A text that begins with a word is the word and what follows it.
pub prefix_word : (t w : List ℕ) → bytes_eq (take (length w) t) w ≡ true → w ++ drop (length w) t ≡ t
prefix_word t w e = ap (λ (x : List ℕ). x ++ drop (length w) t) (sym ((bytes_eq-Decides (take (length w) t) w).0 e)) ∙ take-append-drop (length w) t

-- A word that stands between two spaces at the beginning of a text is its first token.
pub spaced_ahead : (text printed w rest : List ℕ) → printed ≡ spaced w → is_one_word w ≡ true → bytes_eq (take (length printed) text) printed ≡ true → rest ≡ drop (length printed) text → tokens text ≡ w ∷ tokens rest
spaced_ahead text printed w rest e word begins r =
    let whole : 32 ∷ (w ++ 32 ∷ rest) ≡ text = ap (λ (x : List ℕ). 32 ∷ x) (sym (append_assoc w (32 ∷ []) rest)) ∙ ap (λ x. x ++ rest) (sym e) ∙ ap (λ x. printed ++ x) r ∙ prefix_word text printed begins in
    ap tokens (sym whole) ∙ word_ahead w (32 ∷ rest) word refl

-- ---- a text that doesn't

-- Without its first blanks a text at which a token ends is empty.
trimmed_ends : (text : List ℕ) → ends_token (drop_while is_blank text) ≡ true → drop_while is_blank text ≡ []
trimmed_ends [] e = refl
trimmed_ends (c ∷ cs) e = by (is_blank c) refl (trimmed_ends cs) e
  where
    by : (b : Bool) → is_blank c ≡ b → (ends_token (drop_while is_blank cs) ≡ true → drop_while is_blank cs ≡ []) → ends_token (drop_while is_blank (c ∷ cs)) ≡ true → drop_while is_blank (c ∷ cs) ≡ []
    by true e ih = rw e ih
    by false e ih = λ h. absurd (let f : false ≡ true = sym e ∙ (rw e at h) in cc)

-- If a text, without its first blanks, doesn't begin with a word, the word isn't its first token.
pub word_missed : (text w : List ℕ) (ts : List (List ℕ)) → bytes_eq (take (length w) (drop_while is_blank text)) w ≡ false → tokens text ≡ w ∷ ts → ⊥
word_missed text w ts e f = by (ends_token t) refl
  where
    t : List ℕ
    t = drop_while is_blank text

    first_token : tokens t ≡ w ∷ ts
    first_token = tokens_trimmed text ∙ f

    by : (b : Bool) → ends_token t ≡ b → ⊥
    by true ends =
        let none : t ≡ [] = trimmed_ends text ends in
        let g : [] ≡ w ∷ ts = ap tokens (sym none) ∙ first_token in
        cc
    by false ends =
        let h = cut t in
        let g : h.first ∷ filter has_text h.others ≡ w ∷ ts = sym (ap (filter has_text) h.is ∙ kept h.first h.others (some_first t h ends)) ∙ first_token in
        let first : h.first ≡ w = cc in
        let same : take (length w) t ≡ w = (λ i. take (length (sym first i)) t) ∙ h.prefix ∙ first in
        let g : true ≡ false = sym ((bytes_eq-Decides (take (length w) t) w).1 same) ∙ e in
        cc
