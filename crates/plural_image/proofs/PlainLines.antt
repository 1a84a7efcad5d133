-- An image line has printable bytes and blanks alone.
use Rattle.std.proofs.Common.{◌≡◌, ℕ, ◌+◌, ◌<◌, ◌≤◌, Bool, true, false, cond, ltb, leb, Some, None, Option, List, [], ◌∷◌, ◌++◌, length, take, drop, get_or, refl, ap, sym, ◌∙◌, arith, inl, inr}
use Rattle.std.specs.Prelude.{not, ◌&&◌, ◌||◌, ◌==◌, option_map, option_and_then}
use Rattle.std.specs.List.{list_all}
use Rattle.std.specs.Char.{is_digit}
use Rattle.std.proofs.lemmas.Bool.{agree_below_at, and_parts, and_from, le-ltb, cases_lt, eqb-true}
use Rattle.std.proofs.lemmas.List.{take-append-drop, drop_more, drop_all}
use Rattle.std.proofs.lemmas.List.Folds.{list_all-append}
use Rattle.plural_bytes.specs.Lines.{tokens}
use Rattle.plural_bytes.specs.Laws.{is_printable}
use Rattle.plural_bytes.specs.Numerals.{value_of, are_digits, spelled}
use Rattle.plural_base.proofs.ListTests.{list_all_weaker}
use Rattle.plural_bytes.proofs.PlainBytes.{tokens_are_plain}
use Rattle.plural_sections.specs.Numbers.{word_token}
use Rattle.plural_image.specs.Shape.{address_token, all_words, one_to_eight, line_of}
use Rattle.plural_image.specs.Laws.{LinesArePlain}

small_digit : (c : ℕ) → c < 128 → (not (is_digit c 16) || is_printable c) ≡ true
small_digit c l = agree_below_at (λ c. not (is_digit c 16) || is_printable c) (λ c. true) 128 c refl l

from_either : (a b : Bool) → (not a || b) ≡ true → a ≡ true → b ≡ true
from_either true b h e = h
from_either false b h e = absurd cc

large_digit : (c : ℕ) → 128 ≤ c → is_digit c 16 ≡ false
large_digit c l = rw (le-ltb c 48 (omega arith), le-ltb c 58 (omega arith), le-ltb c 65 (omega arith), le-ltb c 91 (omega arith), le-ltb c 97 (omega arith), le-ltb c 123 (omega arith)) refl

digit_printable : (c : ℕ) → is_digit c 16 ≡ true → is_printable c ≡ true
digit_printable c h = elim (cases_lt c 128) [
  | inl l ↦ from_either (is_digit c 16) (is_printable c) (small_digit c l) h
  | inr l ↦ absurd (let f : true ≡ false = sym h ∙ large_digit c l in cc)
]

digits_printable : (t : List ℕ) → list_all (λ c. is_digit c 16) t ≡ true → list_all is_printable t ≡ true
digits_printable t h = list_all_weaker (λ c. is_digit c 16) is_printable digit_printable t h

-- a choice that has a value was made by a test that holds
chosen : {A : Type 0} (b : Bool) (o : Option A) (a : A) → cond b o None ≡ Some a → (b ≡ true) × (o ≡ Some a)
chosen true o a e = (refl, e)
chosen false o a e = absurd cc

word_printable : (t : List ℕ) (w : ℕ) → word_token t ≡ Some w → list_all is_printable t ≡ true
word_printable t w e =
    let p = chosen (length t == 8) (spelled 16 t) w e in
    let q = chosen (are_digits 16 t) (Some (value_of 16 t)) w p.1 in
    digits_printable t (and_parts (ltb 0 (length t)) (list_all (λ c. is_digit c 16) t) q.0).1

with_both : {A B C : Type 0} (f : A → B → C) (o : Option A) (p : Option B) (c : C) → option_and_then (λ a. option_map (f a) p) o ≡ Some c → ((a : A) × (o ≡ Some a)) × ((b : B) × (p ≡ Some b))
with_both f None p c e = absurd cc
with_both f (Some a) None c e = absurd cc
with_both f (Some a) (Some b) c e = ((a, refl), (b, refl))

words_printable : (ts : List (List ℕ)) (ws : List ℕ) → all_words ts ≡ Some ws → list_all (λ t. list_all is_printable t) ts ≡ true
words_printable [] ws e = refl
words_printable (t ∷ ts) ws e =
    let p = with_both (λ (w : ℕ) (vs : List ℕ). w ∷ vs) (word_token t) (all_words ts) ws e in
    and_from _ _ (word_printable t p.0.0 p.0.1) (words_printable ts p.1.0 p.1.1)

address_printable : (t : List ℕ) (a : ℕ) → address_token t ≡ Some a → list_all is_printable t ≡ true
address_printable t a e =
    let p = chosen (length t == 9 && get_or t 8 0 == 58) (word_token (take 8 t)) a e in
    let q = and_parts (length t == 9) (get_or t 8 0 == 58) p.0 in
    let n : length t ≡ 9 = eqb-true (length t) 9 q.0 in
    let c : get_or t 8 0 ≡ 58 = eqb-true (get_or t 8 0) 58 q.1 in
    let back : drop 8 t ≡ 58 ∷ [] = drop_more t 8 0 (omega (arith, n)) ∙ rw (c, drop_all (8 + 1) t (omega (arith, n))) refl in
    let whole : take 8 t ++ 58 ∷ [] ≡ t = ap (λ x. take 8 t ++ x) (sym back) ∙ take-append-drop 8 t in
    ap (list_all is_printable) (sym whole) ∙ list_all-append is_printable (take 8 t) (58 ∷ []) ∙ and_from _ _ (word_printable (take 8 t) a p.1) refl

line_printable : (ts : List (List ℕ)) (p : ℕ × List ℕ) → line_of ts ≡ Some p → list_all (λ t. list_all is_printable t) ts ≡ true
line_printable [] p e = refl
line_printable (t ∷ ts) p e =
    let q = with_both (λ (a : ℕ) (ws : List ℕ). (a, ws)) (address_token t) (one_to_eight ts) p e in
    let r = chosen (ltb 0 (length ts) && leb (length ts) 8) (all_words ts) q.1.0 q.1.1 in
    and_from _ _ (address_printable t q.0.0 q.0.1) (words_printable ts q.1.0 r.1)

-- An image line has plain bytes alone.
pub lines_are_plain : LinesArePlain
lines_are_plain text p e = tokens_are_plain text (line_printable (tokens text) p e)
