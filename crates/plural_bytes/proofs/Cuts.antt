-- Cutting at the elements that pass a test: the lines of a text, and the tokens of a line.
use Rattle.std.proofs.Common.{◌≡◌, ℕ, zero, suc, ◌+◌, ◌<◌, ◌≤◌, Bool, true, false, List, [], ◌∷◌, ◌++◌, length, take, drop, refl, ap, ◌∙◌, arith, Some, None}
use Rattle.std.specs.Prelude.{position, filter}
use Rattle.std.specs.List.{position_or_len, slice_split}
use Rattle.std.proofs.lemmas.Bool.{cond-false, lt-ltb}
use Rattle.std.proofs.lemmas.List.{length-take}
use Rattle.std.proofs.lemmas.List.Splits.{slice_split_first}
use Rattle.plural_bytes.specs.Lines.{pieces, is_line_end, is_blank, drop_while, has_text, tokens}
use Rattle.plural_base.proofs.ListTests.{HasNone, found, none_found, none_when}

-- ---- at each element that passes

-- A list with an element that passes after some that don't is cut there.
pub cut_at : {A : Type 0} (p : A → Bool) (xs : List A) (y : A) (ys : List A) → HasNone p xs → p y ≡ true → slice_split p (xs ++ y ∷ ys) ≡ xs ∷ slice_split p ys
cut_at p [] y ys h e = rw e refl
cut_at p (x ∷ xs) y ys h e = rw (h.0, cut_at p xs y ys h.1 e) refl

-- A list of which none passes is one piece.
pub uncut : {A : Type 0} (p : A → Bool) (xs : List A) → HasNone p xs → slice_split p xs ≡ xs ∷ []
uncut p [] h = refl
uncut p (x ∷ xs) h = rw (h.0, uncut p xs h.1) refl

-- The same by the answer of `position`.
pub cut_found : (p : ℕ → Bool) (xs : List ℕ) (i : ℕ) → position p xs ≡ Some i → slice_split p xs ≡ take i xs ∷ slice_split p (drop (i + 1) xs)
cut_found p xs i e = let f = found p xs i e in slice_split_first p xs 0 (omega (arith, f.0, f.1)) ∙ ap (λ n. take n xs ∷ slice_split p (drop (n + 1) xs)) f.0

-- A list of which none passes is one piece.
pub uncut_whole : {A : Type 0} (p : A → Bool) (xs : List A) → position p xs ≡ None → slice_split p xs ≡ xs ∷ []
uncut_whole p xs e = uncut p xs (none_when p xs e)

-- ---- lines

abbrev CutsAt : List ℕ → Type 0
CutsAt text = (n : ℕ) → position_or_len is_line_end text ≡ n → n < length text → pieces text ≡ take n text ∷ pieces (drop (n + 1) text)

cut_step : (c : ℕ) (cs : List ℕ) (b : Bool) → is_line_end c ≡ b → CutsAt cs → CutsAt (c ∷ cs)
cut_step c cs true t ih zero e h = rw t refl
cut_step c cs true t ih (suc n) e h = absurd (let z : 0 ≡ suc n = (rw t at e) in omega arith)
cut_step c cs false t ih zero e h = absurd (let z : 1 + position_or_len is_line_end cs ≡ 0 = (rw t at e) in omega arith)
cut_step c cs false t ih (suc n) e h =
    let z : 1 + position_or_len is_line_end cs ≡ suc n = (rw t at e) in
    let i = ih n (omega arith) (omega arith) in
    let k : suc n + 1 ≡ suc (n + 1) = omega arith in
    rw (t, i, k) refl

pieces_cut : (text : List ℕ) → CutsAt text
pieces_cut [] n e h = absurd (omega arith)
pieces_cut (c ∷ cs) n e h = cut_step c cs (is_line_end c) refl (pieces_cut cs) n e h

-- The first line ends at the first line end.
pub pieces_at : (text : List ℕ) (i : ℕ) → position is_line_end text ≡ Some i → pieces text ≡ take i text ∷ pieces (drop (i + 1) text)
pieces_at text i e = let f = found is_line_end text i e in pieces_cut text i f.0 f.1

abbrev IsWhole : List ℕ → Type 0
IsWhole text = length text ≤ position_or_len is_line_end text → 0 < length text → pieces text ≡ text ∷ []

whole_step : (c : ℕ) (cs : List ℕ) (b : Bool) → is_line_end c ≡ b → IsWhole cs → IsWhole (c ∷ cs)
whole_step c cs true t ih h l = absurd (let z : suc (length cs) ≤ 0 = (rw t at h) in omega arith)
whole_step c [] false t ih h l = rw t refl
whole_step c (d ∷ ds) false t ih h l =
    let z : suc (suc (length ds)) ≤ 1 + position_or_len is_line_end (d ∷ ds) = (rw t at h) in
    let i = ih (omega arith) (omega arith) in
    rw (t, i) refl

pieces_whole : (text : List ℕ) → IsWhole text
pieces_whole [] h l = absurd (omega arith)
pieces_whole (c ∷ cs) h l = whole_step c cs (is_line_end c) refl (pieces_whole cs) h l

-- A text without a line end is one line.
pub pieces_rest : (text : List ℕ) → position is_line_end text ≡ None → 0 < length text → pieces text ≡ text ∷ []
pieces_rest text e l = pieces_whole text (omega (arith, none_found is_line_end text e)) l

-- ---- tokens

blank_step : (c : ℕ) (cs : List ℕ) (b : Bool) → is_blank c ≡ b → tokens (drop_while is_blank cs) ≡ tokens cs → tokens (drop_while is_blank (c ∷ cs)) ≡ tokens (c ∷ cs)
blank_step c cs true t ih = rw t ih
blank_step c cs false t ih = rw (cond-false _ _ _ t) refl

-- Blanks before a text make no token.
pub tokens_trimmed : (text : List ℕ) → tokens (drop_while is_blank text) ≡ tokens text
tokens_trimmed [] = refl
tokens_trimmed (c ∷ cs) = blank_step c cs (is_blank c) refl (tokens_trimmed cs)

-- what is left begins with no blank
pub record Begins (text : List ℕ) : Type 0 where
  -- A text without its first blanks is empty or begins with another byte.
  pub begins : 0 < length text → position_or_len is_blank text ≡ 0 → ⊥

begins_step : (c : ℕ) (cs : List ℕ) (b : Bool) → is_blank c ≡ b → Begins (drop_while is_blank cs) → Begins (drop_while is_blank (c ∷ cs))
begins_step c cs true t ih = rw t ih
begins_step c cs false t ih = rw t (record { begins = λ l e. let z : 1 + position_or_len is_blank cs ≡ 0 = (rw t at e) in omega arith })

-- A text without its first blanks is empty or begins with another byte.
pub begins : (text : List ℕ) → Begins (drop_while is_blank text)
begins [] = record { begins = λ l e. omega arith }
begins (c ∷ cs) = begins_step c cs (is_blank c) refl (begins cs)

shorter_step : (c : ℕ) (cs : List ℕ) (b : Bool) → is_blank c ≡ b → length (drop_while is_blank cs) ≤ length cs → length (drop_while is_blank (c ∷ cs)) ≤ length (c ∷ cs)
shorter_step c cs true t ih = rw t (omega arith)
shorter_step c cs false t ih = rw t (omega arith)

-- It is no longer than the text.
pub drop_while_shorter : (text : List ℕ) → length (drop_while is_blank text) ≤ length text
drop_while_shorter [] = omega arith
drop_while_shorter (c ∷ cs) = shorter_step c cs (is_blank c) refl (drop_while_shorter cs)

kept : (t : List ℕ) (ts : List (List ℕ)) → 0 < length t → filter has_text (t ∷ ts) ≡ t ∷ filter has_text ts
kept t ts l = rw (lt-ltb 0 (length t) l) refl

-- The first token ends at the first blank.
pub tokens_at : (text : List ℕ) (i : ℕ) → Begins text → position is_blank text ≡ Some i → tokens text ≡ take i text ∷ tokens (drop (i + 1) text)
tokens_at text i b e =
    let f = found is_blank text i e in
    let some : 0 < length text = omega (arith, f.1) in
    let nonzero : position_or_len is_blank text ≡ 0 → ⊥ = b.begins some in
    let long : 0 < length (take i text) = omega (arith, length-take i text, f.0, f.1, nonzero) in
    ap (filter has_text) (cut_found is_blank text i e) ∙ kept (take i text) (slice_split is_blank (drop (i + 1) text)) long

-- A text without a blank is one token.
pub tokens_whole : (text : List ℕ) → position is_blank text ≡ None → 0 < length text → tokens text ≡ text ∷ []
tokens_whole text e l = ap (filter has_text) (uncut_whole is_blank text e) ∙ kept text [] l
