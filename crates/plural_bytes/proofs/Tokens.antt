-- Lines that are printed as tokens with single spaces are read as these tokens.
use Rattle.std.proofs.Common.{◌≡◌, ℕ, ◌+◌, ◌<◌, Bool, true, false, eqb, ltb, leb, Some, List, [], ◌∷◌, ◌++◌, length, refl, ap, ◌∙◌, arith}
use Rattle.std.specs.Prelude.{◌&&◌, filter, decimal, nat_lt}
use Rattle.std.specs.List.{list_all, slice_split}
use Rattle.std.specs.Char.{is_ascii_digit}
use Rattle.std.proofs.lemmas.Fmt.{decimal_nonempty}
use Rattle.std.proofs.lemmas.Bool.{agree_below_at, eqb-true, ltb-true, lt-ltb, and_from, and_parts, or_left, cond-true, false_from_ne_true, both_ways}
use Rattle.plural_bytes.specs.Lines.{is_blank, has_text, tokens, pieces, content_from}
use Rattle.plural_base.specs.Names.{begins_name, continues_name, is_name, name_of}
use Rattle.plural_bytes.specs.Hexadecimal.{hex_digit, hex_text}
use Rattle.plural_base.proofs.ListTests.{HasNone, list_all_weaker, none_pass}
use Rattle.plural_bytes.proofs.Cuts.{cut_at, uncut}
use Rattle.plural_bytes.proofs.Decimals.{all_decimal}
use Rattle.plural_bytes.proofs.Hexadecimals.{all_hex}
use Rattle.plural_bytes.proofs.PrintedLines.{is_token_byte, IsLine, plain_parts, plain_line, line_more, line_first}

-- ---- tokens

-- A token has a byte, and neither blanks nor bytes that end a line or begin a comment.
abbrev pub is_token : List ℕ → Bool
is_token t = nat_lt 0 (length t) && list_all is_token_byte t

token_plain : (t : List ℕ) → is_token t ≡ true → list_all is_token_byte t ≡ true
token_plain t h = (and_parts (nat_lt 0 (length t)) (list_all is_token_byte t) h).1

token_some : (t : List ℕ) → is_token t ≡ true → 0 < length t
token_some t h = ltb-true 0 (length t) (and_parts (nat_lt 0 (length t)) (list_all is_token_byte t) h).0

-- Each is a token.
abbrev pub AreTokens : List (List ℕ) → Type 0
AreTokens [] = Unit {0}
AreTokens (t ∷ ts) = (is_token t ≡ true) × AreTokens ts

-- Each of several tokens is one.
pub all_tokens : (ts : List (List ℕ)) → AreTokens ts → list_all is_token ts ≡ true
all_tokens [] h = refl
all_tokens (t ∷ ts) h = and_from _ _ h.0 (all_tokens ts h.1)

-- ---- a line of tokens

-- Tokens with one space between each two.
abbrev pub joined : List (List ℕ) → List ℕ
joined [] = []
joined (t ∷ []) = t
joined (t ∷ u ∷ ts) = t ++ 32 ∷ joined (u ∷ ts)

no_blank : (t : List ℕ) → list_all is_token_byte t ≡ true → HasNone is_blank t
no_blank t h = none_pass is_token_byte is_blank (λ c p. (plain_parts c p).full) t h

-- Plain bytes and what stands after a space.
pub split_cons : (xs ys : List ℕ) → list_all is_token_byte xs ≡ true → slice_split is_blank (xs ++ 32 ∷ ys) ≡ xs ∷ slice_split is_blank ys
split_cons xs ys h = cut_at is_blank xs 32 ys (no_blank xs h) refl

-- A token alone is one piece.
pub split_end : (xs : List ℕ) → list_all is_token_byte xs ≡ true → slice_split is_blank xs ≡ xs ∷ []
split_end xs h = uncut is_blank xs (no_blank xs h)

split_joined : (t : List ℕ) (ts : List (List ℕ)) → list_all is_token (t ∷ ts) ≡ true → slice_split is_blank (joined (t ∷ ts)) ≡ t ∷ ts
split_joined t [] h = split_end t (token_plain t (and_parts (is_token t) true h).0)
split_joined t (u ∷ ts) h =
    let p = and_parts (is_token t) (list_all is_token (u ∷ ts)) h in
    split_cons t (joined (u ∷ ts)) (token_plain t p.0) ∙ ap (λ x. t ∷ x) (split_joined u ts p.1)

all_stay : (ts : List (List ℕ)) → list_all is_token ts ≡ true → filter has_text ts ≡ ts
all_stay [] h = refl
all_stay (t ∷ ts) h =
    let p = and_parts (is_token t) (list_all is_token ts) h in
    let some = (and_parts (nat_lt 0 (length t)) (list_all is_token_byte t) p.0).0 in
    cond-true _ _ _ some ∙ ap (λ x. t ∷ x) (all_stay ts p.1)

-- The tokens of tokens with single spaces between them are these tokens.
pub tokens_joined : (t : List ℕ) (ts : List (List ℕ)) → list_all is_token (t ∷ ts) ≡ true → tokens (joined (t ∷ ts)) ≡ t ∷ ts
tokens_joined t ts h = ap (filter has_text) (split_joined t ts h) ∙ all_stay (t ∷ ts) h

joined_line : (t : List ℕ) (ts : List (List ℕ)) → list_all is_token (t ∷ ts) ≡ true → IsLine (joined (t ∷ ts))
joined_line t [] h = let p = (and_parts (is_token t) true h).0 in plain_line t (token_plain t p) (token_some t p)
joined_line t (u ∷ ts) h =
    let p = and_parts (is_token t) (list_all is_token (u ∷ ts)) h in
    let rest = joined_line u ts p.1 in
    line_more t (joined (u ∷ ts)) (token_plain t p.0) (token_some t p.0) rest.inner rest.ends

-- The content lines of a text that begins with a line of tokens.
pub line_next : (n : ℕ) (t : List ℕ) (ts : List (List ℕ)) (rest : List ℕ) → list_all is_token (t ∷ ts) ≡ true
    → content_from n (pieces (joined (t ∷ ts) ++ 10 ∷ rest)) ≡ (n, joined (t ∷ ts)) ∷ content_from (n + 1) (pieces rest)
line_next n t ts rest h = line_first n (joined (t ∷ ts)) rest (joined_line t ts h)

-- ---- numbers

-- A number's decimal digits are a token.
pub decimal_token : (n : ℕ) → n < 4294967296 → is_token (decimal n) ≡ true
decimal_token n small =
    and_from _ _ (lt-ltb 0 (length (decimal n)) (decimal_nonempty n (omega arith))) (all_decimal is_token_byte (λ d l. agree_below_at (λ d. is_token_byte (48 + d)) (λ d. true) 10 d refl l) n (omega arith))

-- The text of a word may be a token.
pub hex_plain : (k n : ℕ) → list_all is_token_byte (hex_text k n) ≡ true
hex_plain k n = all_hex is_token_byte (λ d l. agree_below_at (λ d. is_token_byte (hex_digit d)) (λ d. true) 16 d refl l) k n

-- The eight hexadecimal digits of a word are a token.
pub hex_token : (n : ℕ) → is_token (hex_text 8 n) ≡ true
hex_token n = and_from _ _ refl (hex_plain 8 n)

-- ---- names

-- The bytes of a name are that name.
pub name_back : (name : List ℕ) → is_name name ≡ true → name_of name ≡ Some name
name_back name h = rw h refl

-- A byte that passes a test which another fails is not that one.
apart : (p : ℕ → Bool) (c k : ℕ) → p k ≡ false → p c ≡ true → eqb c k ≡ false
apart p c k f t = false_from_ne_true (eqb c k) (λ e. both_ways (p c) (ap p (eqb-true c k e) ∙ f) t)

name_plain : (c : ℕ) → continues_name c ≡ true → is_token_byte c ≡ true
name_plain c h =
    rw (apart continues_name c 10 refl h, apart continues_name c 35 refl h, apart continues_name c 32 refl h, apart continues_name c 9 refl h, apart continues_name c 13 refl h) refl

-- A name is a token.
pub name_token : (name : List ℕ) → is_name name ≡ true → is_token name ≡ true
name_token [] h = absurd cc
name_token (c ∷ cs) h =
    let p = and_parts (leb (length cs) 23 && begins_name c) (list_all continues_name cs) h in
    let q = and_parts (leb (length cs) 23) (begins_name c) p.0 in
    let some : ltb 0 (length (c ∷ cs)) ≡ true = lt-ltb 0 (length (c ∷ cs)) (omega arith) in
    and_from _ _ some (and_from _ _ (name_plain c (or_left (begins_name c) (is_ascii_digit c) q.1)) (list_all_weaker continues_name is_token_byte name_plain cs p.1))
