-- A text on a line of its own is the content of that line.
use Rattle.std.proofs.Common.{◌≡◌, ℕ, ◌+◌, ◌-◌, ◌<◌, Bool, true, false, eqb, List, [], ◌∷◌, ◌++◌, length, get_or, reverse, refl, ap, sym, ◌∙◌, arith, append_assoc}
use Rattle.std.specs.Prelude.{not, ◌&&◌, ◌==◌}
use Rattle.std.specs.List.{list_all, before_first}
use Rattle.std.proofs.lemmas.Bool.{and_from, and_parts, not-true, lt-ltb, cond-true, cond-false}
use Rattle.std.proofs.lemmas.List.{length_push, get_or_at, reverse-append, reverse-reverse}
use Rattle.std.proofs.lemmas.List.Folds.{list_all-append}
use Rattle.plural_bytes.specs.Lines.{is_blank, is_hash, is_line_end, has_text, pieces, content, content_from, trimmed, without_cr, drop_while}
use Rattle.plural_base.proofs.ListTests.{list_all_weaker, none_pass, before_none}

-- ---- bytes

-- A byte that stays in a line and in a token.
abbrev pub is_token_byte : ℕ → Bool
is_token_byte c = not (is_line_end c) && not (is_hash c) && not (is_blank c) && not (c == 13)

-- Such a byte, or a blank.
abbrev pub is_inner : ℕ → Bool
is_inner c = not (is_line_end c) && not (is_hash c) && not (c == 13)

-- What is known of a plain byte.
pub record IsTokenByte (c : ℕ) : Type 0 where
  pub inner : is_inner c ≡ true
  pub full : is_blank c ≡ false
  pub no_cr : eqb c 13 ≡ false

-- A byte of a token is printable, no blank and no `#`.
pub plain_parts : (c : ℕ) → is_token_byte c ≡ true → IsTokenByte c
plain_parts c h =
    let p = and_parts (not (is_line_end c) && not (is_hash c) && not (is_blank c)) (not (c == 13)) h in
    let q = and_parts (not (is_line_end c) && not (is_hash c)) (not (is_blank c)) p.0 in
    record { inner = and_from _ _ q.0 p.1; full = not-true (is_blank c) q.1; no_cr = not-true (eqb c 13) p.1 }

inner_no_end : (c : ℕ) → is_inner c ≡ true → is_line_end c ≡ false
inner_no_end c h = not-true (is_line_end c) (and_parts (not (is_line_end c)) (not (is_hash c)) (and_parts (not (is_line_end c) && not (is_hash c)) (not (c == 13)) h).0).0

inner_no_hash : (c : ℕ) → is_inner c ≡ true → is_hash c ≡ false
inner_no_hash c h = not-true (is_hash c) (and_parts (not (is_line_end c)) (not (is_hash c)) (and_parts (not (is_line_end c) && not (is_hash c)) (not (c == 13)) h).0).1

-- Bytes of tokens may stand inside a line.
pub all_inner : (xs : List ℕ) → list_all is_token_byte xs ≡ true → list_all is_inner xs ≡ true
all_inner xs h = list_all_weaker is_token_byte is_inner (λ c p. (plain_parts c p).inner) xs h

-- ---- the first and the last byte

-- The first byte of a text is no blank.
pub record Begins (text : List ℕ) : Type 0 where
  pub first : ℕ
  pub rest : List ℕ
  pub whole : text ≡ first ∷ rest
  pub full : is_blank first ≡ false

-- The last byte of a text is plain.
pub record EndsInToken (text : List ℕ) : Type 0 where
  pub init : List ℕ
  pub last : ℕ
  pub whole : text ≡ init ++ last ∷ []
  pub plain : is_token_byte last ≡ true

-- A text that begins with a token begins with no blank.
pub begins_of : (xs ys : List ℕ) → list_all is_token_byte xs ≡ true → 0 < length xs → Begins (xs ++ ys)
begins_of [] ys h l = absurd (omega arith)
begins_of (x ∷ xs) ys h l = record { first = x; rest = xs ++ ys; whole = refl; full = (plain_parts x (and_parts (is_token_byte x) (list_all is_token_byte xs) h).0).full }

-- A text ends as its last part does.
pub ends_after : (prefix xs : List ℕ) → EndsInToken xs → EndsInToken (prefix ++ xs)
ends_after prefix xs e = record { init = prefix ++ e.init; last = e.last; whole = ap (λ t. prefix ++ t) e.whole ∙ sym (append_assoc prefix e.init (e.last ∷ [])); plain = e.plain }

-- A token ends with no blank and no CR.
pub ends_of : (xs : List ℕ) → list_all is_token_byte xs ≡ true → 0 < length xs → EndsInToken xs
ends_of [] h l = absurd (omega arith)
ends_of (x ∷ []) h l = record { init = []; last = x; whole = refl; plain = (and_parts (is_token_byte x) true h).0 }
ends_of (x ∷ y ∷ ys) h l = ends_after (x ∷ []) (y ∷ ys) (ends_of (y ∷ ys) (and_parts (is_token_byte x) (list_all is_token_byte (y ∷ ys)) h).1 (omega arith))

-- ---- lines

-- A text that stays whole on a line of its own: plain bytes and blanks, of which the first and the last are plain.
pub record IsLine (text : List ℕ) : Type 0 where
  pub inner : list_all is_inner text ≡ true
  pub begins : Begins text
  pub ends : EndsInToken text

-- A token is a line.
pub plain_line : (xs : List ℕ) → list_all is_token_byte xs ≡ true → 0 < length xs → IsLine xs
plain_line [] h l = absurd (omega arith)
plain_line (x ∷ xs) h l = record {
  inner = all_inner (x ∷ xs) h;
  begins = record { first = x; rest = xs; whole = refl; full = (plain_parts x (and_parts (is_token_byte x) (list_all is_token_byte xs) h).0).full };
  ends = ends_of (x ∷ xs) h l;
}

-- Plain bytes, and after a blank more that ends with one.
pub line_more : (xs ys : List ℕ) → list_all is_token_byte xs ≡ true → 0 < length xs → list_all is_inner ys ≡ true → EndsInToken ys → IsLine (xs ++ 32 ∷ ys)
line_more xs ys h l inner ends = record {
  inner = list_all-append is_inner xs (32 ∷ ys) ∙ and_from _ _ (all_inner xs h) inner;
  begins = begins_of xs (32 ∷ ys) h l;
  ends = ends_after xs (32 ∷ ys) (ends_after (32 ∷ []) ys ends);
}

-- ---- the content of a line

no_cr_at : (ds : List ℕ) (e : ℕ) → eqb e 13 ≡ false → without_cr (ds ++ e ∷ []) ≡ ds ++ e ∷ []
no_cr_at ds e h =
    let n : length (ds ++ e ∷ []) - 1 ≡ length ds = omega (arith, length_push ds e) in
    let g : get_or (ds ++ e ∷ []) (length ds) 0 ≡ e = get_or_at ds e [] 0 (length ds) refl in
    let t : eqb (get_or (ds ++ e ∷ []) (length (ds ++ e ∷ []) - 1) 0) 13 ≡ false = rw (n, g) h in
    cond-false _ _ _ t

no_cr : (text : List ℕ) → EndsInToken text → without_cr text ≡ text
no_cr text e = ap without_cr e.whole ∙ no_cr_at e.init e.last (plain_parts e.last e.plain).no_cr ∙ sym e.whole

no_comment : (text : List ℕ) → list_all is_inner text ≡ true → before_first is_hash text ≡ text
no_comment text h = before_none is_hash text (none_pass is_inner is_hash inner_no_hash text h)

-- A text that begins with no blank is itself without its first blanks.
pub no_first_blanks : (text : List ℕ) → Begins text → drop_while is_blank text ≡ text
no_first_blanks text b = ap (drop_while is_blank) b.whole ∙ cond-false _ _ _ b.full ∙ sym b.whole

no_back : (text : List ℕ) → EndsInToken text → drop_while is_blank (reverse text) ≡ reverse text
no_back text e =
    let back : reverse text ≡ e.last ∷ reverse e.init = ap reverse e.whole ∙ reverse-append e.init (e.last ∷ []) in
    ap (drop_while is_blank) back ∙ cond-false _ _ _ (plain_parts e.last e.plain).full ∙ sym back

no_blanks : (text : List ℕ) → Begins text → EndsInToken text → trimmed text ≡ text
no_blanks text b e = ap (λ t. reverse (drop_while is_blank (reverse t))) (no_first_blanks text b) ∙ ap reverse (no_back text e) ∙ reverse-reverse text

-- The content of a printed line is the line.
pub content_is : (text : List ℕ) → IsLine text → content text ≡ text
content_is text h = ap (λ t. trimmed (before_first is_hash t)) (no_cr text h.ends) ∙ ap trimmed (no_comment text h.inner) ∙ no_blanks text h.begins h.ends

-- ---- the lines of a text that begins with it

-- A line and its line end are the first piece of a text.
pub pieces_cons : (text rest : List ℕ) → list_all is_inner text ≡ true → pieces (text ++ 10 ∷ rest) ≡ text ∷ pieces rest
pieces_cons [] rest h = refl
pieces_cons (c ∷ cs) rest h =
    let p = and_parts (is_inner c) (list_all is_inner cs) h in
    rw (cond-false _ _ _ (inner_no_end c p.0), pieces_cons cs rest p.1) refl

has_some : (text : List ℕ) → Begins text → has_text text ≡ true
has_some text b = ap has_text b.whole ∙ lt-ltb 0 (length (b.first ∷ b.rest)) (omega arith)

-- The content lines of the text are this one, and those after it.
pub line_first : (n : ℕ) (text rest : List ℕ) → IsLine text → content_from n (pieces (text ++ 10 ∷ rest)) ≡ (n, text) ∷ content_from (n + 1) (pieces rest)
line_first n text rest h =
    let c = content_is text h in
    let s = has_some text h.begins in
    ap (content_from n) (pieces_cons text rest h.inner) ∙ rw c (cond-true _ _ _ s)
