-- The bytes of words and of operands, and the operands between commas.
use Rattle.std.proofs.Common.{◌≡◌, ℕ, ◌<◌, Bool, true, false, eqb, ltb, List, [], ◌∷◌, ◌++◌, length, map, refl, ap, ◌∙◌, arith}
use Rattle.std.specs.Prelude.{not, ◌&&◌, ◌==◌, nat_lt}
use Rattle.std.specs.List.{list_all}
use Rattle.std.proofs.lemmas.Bool.{and_from, and_parts, not-true, not_from_false, ltb-true, lt-ltb, ne_eqb}
use Rattle.plural_bytes.specs.Lines.{is_blank, tokens}
use Rattle.plural_base.proofs.ListTests.{HasNone, list_all_weaker, none_pass}
use Rattle.plural_bytes.proofs.Cuts.{cut_at, uncut}
use Rattle.plural_bytes.proofs.PrintedLines.{is_token_byte, plain_parts}
use Rattle.plural_bytes.proofs.Tokens.{is_token, tokens_joined}
use Rattle.plural_statement.specs.Operands.{is_comma, is_open, alone, operands}
use Rattle.plural_statement.specs.Statement.{is_colon}

-- ---- bytes

-- a byte of a mnemonic, of a register's name or of a number
abbrev pub is_word : ℕ → Bool
is_word c = nat_lt 44 c && not (c == 58)

-- a byte of an operand
abbrev pub is_solid : ℕ → Bool
is_solid c = nat_lt 39 c && not (c == 44) && not (c == 58)

-- what is known of a byte of an operand
record IsSolid (c : ℕ) : Type 0 where
  above : 39 < c
  no_comma : is_comma c ≡ false
  no_colon : is_colon c ≡ false

solid_parts : (c : ℕ) → is_solid c ≡ true → IsSolid c
solid_parts c h =
    let p = and_parts (ltb 39 c && not (eqb c 44)) (not (eqb c 58)) h in
    let q = and_parts (ltb 39 c) (not (eqb c 44)) p.0 in
    record { above = ltb-true 39 c q.0; no_comma = not-true (eqb c 44) q.1; no_colon = not-true (eqb c 58) p.1 }

solid_plain : (c : ℕ) → is_solid c ≡ true → is_token_byte c ≡ true
solid_plain c h =
    let l = (solid_parts c h).above in
    rw (ne_eqb c 10 (λ e. omega arith), ne_eqb c 35 (λ e. omega arith), ne_eqb c 32 (λ e. omega arith), ne_eqb c 9 (λ e. omega arith), ne_eqb c 13 (λ e. omega arith)) refl

-- A byte of an operand is no colon.
pub solid_no_colon : (c : ℕ) → is_solid c ≡ true → is_colon c ≡ false
solid_no_colon c h = (solid_parts c h).no_colon

word_above : (c : ℕ) → is_word c ≡ true → 44 < c
word_above c h = ltb-true 44 c (and_parts (ltb 44 c) (not (eqb c 58)) h).0

word_solid : (c : ℕ) → is_word c ≡ true → is_solid c ≡ true
word_solid c h =
    let p = and_parts (ltb 44 c) (not (eqb c 58)) h in
    let l : 44 < c = word_above c h in
    and_from _ _ (and_from _ _ (lt-ltb 39 c (omega arith)) (not_from_false (eqb c 44) (ne_eqb c 44 (λ e. omega arith)))) p.1

-- A byte of a word is no parenthesis.
pub word_no_open : (c : ℕ) → is_word c ≡ true → is_open c ≡ false
word_no_open c h = let l : 44 < c = word_above c h in ne_eqb c 40 (λ e. omega arith)

-- ---- texts of them

-- A word has bytes of an operand alone.
pub solid_of : (xs : List ℕ) → list_all is_word xs ≡ true → list_all is_solid xs ≡ true
solid_of xs h = list_all_weaker is_word is_solid word_solid xs h

-- An operand has token bytes alone.
pub plain_of : (xs : List ℕ) → list_all is_solid xs ≡ true → list_all is_token_byte xs ≡ true
plain_of xs h = list_all_weaker is_solid is_token_byte solid_plain xs h

-- A word has no blank.
pub no_blank : (xs : List ℕ) → list_all is_word xs ≡ true → HasNone is_blank xs
no_blank xs h = none_pass is_token_byte is_blank (λ c p. (plain_parts c p).full) xs (plain_of xs (solid_of xs h))

-- an operand: one byte or more, and none that ends an operand
pub record IsOperand (t : List ℕ) : Type 0 where
  pub solid : list_all is_solid t ≡ true
  pub some : 0 < length t

no_comma : (t : List ℕ) → IsOperand t → HasNone is_comma t
no_comma t h = none_pass is_solid is_comma (λ c s. (solid_parts c s).no_comma) t h.solid

token : (t : List ℕ) → IsOperand t → alone (tokens t) ≡ t
token t h =
    let is : is_token t ≡ true = and_from _ _ (lt-ltb 0 (length t) h.some) (plain_of t h.solid) in
    ap alone (tokens_joined t [] (and_from _ _ is refl))

-- ---- operands between commas, each but the first after a blank

-- An operand is one operand.
pub one_operand : (x : List ℕ) → IsOperand x → operands x ≡ x ∷ []
one_operand x h = ap (map (λ piece. alone (tokens piece))) (uncut is_comma x (no_comma x h)) ∙ ap (λ t. t ∷ []) (token x h)

next_operand : (x : List ℕ) → IsOperand x → operands (32 ∷ x) ≡ x ∷ []
next_operand x h = ap (map (λ piece. alone (tokens piece))) (uncut is_comma (32 ∷ x) (refl, no_comma x h)) ∙ ap (λ t. t ∷ []) (token x h)

-- Two operands with a comma and a blank between them are two operands.
pub two_operands : (x y : List ℕ) → IsOperand x → IsOperand y → operands (x ++ 44 ∷ 32 ∷ y) ≡ x ∷ y ∷ []
two_operands x y hx hy =
    ap (map (λ piece. alone (tokens piece))) (cut_at is_comma x 44 (32 ∷ y) (no_comma x hx) refl)
    ∙ ap (λ t. t ∷ operands (32 ∷ y)) (token x hx)
    ∙ ap (λ ts. x ∷ ts) (next_operand y hy)

-- Three operands with commas and blanks between them are three operands.
pub three_operands : (x y z : List ℕ) → IsOperand x → IsOperand y → IsOperand z → operands (x ++ 44 ∷ 32 ∷ (y ++ 44 ∷ 32 ∷ z)) ≡ x ∷ y ∷ z ∷ []
three_operands x y z hx hy hz =
    ap (map (λ piece. alone (tokens piece))) (cut_at is_comma x 44 (32 ∷ (y ++ 44 ∷ 32 ∷ z)) (no_comma x hx) refl)
    ∙ ap (λ t. t ∷ operands (32 ∷ (y ++ 44 ∷ 32 ∷ z))) (token x hx)
    ∙ ap (λ ps. x ∷ map (λ piece. alone (tokens piece)) ps) (cut_at is_comma (32 ∷ y) 44 (32 ∷ z) (refl, no_comma y hy) refl)
    ∙ ap (λ t. x ∷ t ∷ operands (32 ∷ z)) (token y hy)
    ∙ ap (λ ts. x ∷ y ∷ ts) (next_operand z hz)
