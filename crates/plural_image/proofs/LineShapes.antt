-- A token that is no word, and the words of tokens one after the other.
use Rattle.std.proofs.Common.{◌≡◌, ℕ, ◌<◌, ◌≤◌, Bool, true, false, cond, leb, ltb, List, [], ◌∷◌, ◌++◌, length, Option, Some, None, refl, ap, sym, ◌∙◌, arith, append_assoc}
use Rattle.std.specs.Prelude.{option_map, option_and_then, ◌&&◌}
use Rattle.std.proofs.lemmas.Bool.{and_right, and_from, le-leb, lt-leb, lt-ltb, le-ltb}
use Rattle.std.proofs.lemmas.List.{append-nil}
use Rattle.plural_sections.specs.Numbers.{word_token}
use Rattle.plural_image.specs.Shape.{all_words, one_to_eight}

-- the words so far, and those that the tokens after them spell
abbrev pub onto : List ℕ → Option (List ℕ) → Option (List ℕ)
onto items o = option_map (λ ws. items ++ ws) o

regroup : (items : List ℕ) (w : ℕ) (o : Option (List ℕ)) → onto items (option_map (λ ws. w ∷ ws) o) ≡ onto (items ++ w ∷ []) o
regroup items w None = refl
regroup items w (Some ws) = ap (λ (x : List ℕ). Some x) (simp append_assoc)

-- One more token that is a word gives one more word.
pub onto_more : (items : List ℕ) (t : List ℕ) (ts all : List (List ℕ)) (w : ℕ) → word_token t ≡ Some w → onto items (all_words (t ∷ ts)) ≡ all_words all → onto (items ++ w ∷ []) (all_words ts) ≡ all_words all
onto_more items t ts all w e h =
    let one : all_words (t ∷ ts) ≡ option_map (λ ws. w ∷ ws) (all_words ts) = ap (option_and_then (λ v. option_map (λ ws. v ∷ ws) (all_words ts))) e in
    sym (ap (onto items) one ∙ regroup items w (all_words ts)) ∙ h

nothing : (b : Bool) (o : Option (List ℕ)) → o ≡ None → cond b o None ≡ None
nothing true o e = e
nothing false o e = refl

-- A token that is no word leaves no words.
pub onto_none : (items : List ℕ) (t : List ℕ) (ts all : List (List ℕ)) → word_token t ≡ None → onto items (all_words (t ∷ ts)) ≡ all_words all → None ≡ one_to_eight all
onto_none items t ts all e h =
    let one : all_words (t ∷ ts) ≡ None = ap (option_and_then (λ v. option_map (λ ws. v ∷ ws) (all_words ts))) e in
    sym (nothing (ltb 0 (length all) && leb (length all) 8) (all_words all) (sym h ∙ ap (onto items) one))

-- More than eight tokens are no words of a line.
pub too_many : (all : List (List ℕ)) → 8 < length all → None ≡ one_to_eight all
too_many all l = rw (and_right (ltb 0 (length all)) (leb (length all) 8) (lt-leb (length all) 8 l)) refl

-- No token at all is no word of a line.
pub too_few : (all : List (List ℕ)) → length all ≡ 0 → None ≡ one_to_eight all
too_few all l = rw (le-ltb 0 (length all) (omega (arith, l))) refl

-- One to eight tokens that are words are the words of a line.
pub just_right : (items : List ℕ) (all : List (List ℕ)) → 0 < length all → length all ≤ 8 → onto items (all_words []) ≡ all_words all → Some items ≡ one_to_eight all
just_right items all some few h = rw (and_from _ _ (lt-ltb 0 (length all) some) (le-leb (length all) 8 few)) (ap (λ (x : List ℕ). Some x) (sym (append-nil items)) ∙ h)
