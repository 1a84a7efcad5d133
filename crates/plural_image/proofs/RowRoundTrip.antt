-- A printed row is read again.
use Rattle.std.proofs.Common.{◌≡◌, ℕ, ◌+◌, ◌<◌, true, false, Some, List, [], ◌∷◌, ◌++◌, length, map, refl, ap, sym, ◌∙◌}
use Rattle.std.specs.Prelude.{flat_map, option_map, option_and_then}
use Rattle.std.specs.List.{list_all, AllByRecursion}
use Rattle.std.proofs.lemmas.Bool.{and_from}
use Rattle.std.proofs.lemmas.List.{append-nil, length-map}
use Rattle.std.proofs.lemmas.List.Folds.{list_all-append}
use Rattle.plural_bytes.specs.Lines.{is_blank, tokens, pieces, content, content_from}
use Rattle.plural_bytes.specs.Numerals.{are_digits}
use Rattle.plural_bytes.specs.Hexadecimal.{hex_text}
use Rattle.plural_bytes.proofs.Hexadecimals.{hex_digits, hex_back}
use Rattle.plural_bytes.proofs.PrintedLines as lined
use Rattle.plural_bytes.proofs.Tokens.{is_token, joined, hex_plain, hex_token, tokens_joined, line_next}
use Rattle.plural_sections.specs.Numbers.{word_token}
use Rattle.plural_image.specs.Shape.{all_words, one_to_eight, line_of, image_line}
use Rattle.plural_image.specs.Print.{row_text}
pub use Rattle.plural_bytes.proofs.PrintedLines.{is_token_byte, is_inner, EndsInToken, pieces_cons}
pub use Rattle.plural_bytes.proofs.Tokens.{split_cons, split_end}

-- ---- words

-- The text of a word is read as the word.
pub word_back : (n : ℕ) → n < 4294967296 → word_token (hex_text 8 n) ≡ Some n
word_back n l =
    let are : are_digits 16 (hex_text 8 n) ≡ true = hex_digits 8 n in
    rw (are, hex_back 8 n l) refl

words_back : (ws : List ℕ) → AllByRecursion (λ w. w < 4294967296) ws → all_words (map (hex_text 8) ws) ≡ Some ws
words_back [] h = refl
words_back (w ∷ ws) h =
    ap (option_and_then (λ v. option_map (λ vs. v ∷ vs) (all_words (map (hex_text 8) ws)))) (word_back w h.0) ∙ ap (option_map (λ vs. w ∷ vs)) (words_back ws h.1)

-- ---- a row is its tokens with single spaces

row_from : (t : List ℕ) (ws : List ℕ) → t ++ flat_map (λ w. 32 ∷ hex_text 8 w) ws ≡ joined (t ∷ map (hex_text 8) ws)
row_from t [] = append-nil t
row_from t (w ∷ ws) = ap (λ x. t ++ 32 ∷ x) (row_from (hex_text 8 w) ws)

row_joined : (a : ℕ) (ws : List ℕ) → row_text a ws ≡ joined ((hex_text 8 a ++ 58 ∷ []) ∷ map (hex_text 8) ws)
row_joined a ws = row_from (hex_text 8 a ++ 58 ∷ []) ws

words_all : (ws : List ℕ) → list_all is_token (map (hex_text 8) ws) ≡ true
words_all [] = refl
words_all (w ∷ ws) = and_from _ _ (hex_token w) (words_all ws)

row_all : (a : ℕ) (ws : List ℕ) → list_all is_token ((hex_text 8 a ++ 58 ∷ []) ∷ map (hex_text 8) ws) ≡ true
row_all a ws =
    let plain : list_all is_token_byte (hex_text 8 a ++ 58 ∷ []) ≡ true = list_all-append is_token_byte (hex_text 8 a) (58 ∷ []) ∙ and_from _ _ (hex_plain 8 a) refl in
    and_from _ _ (and_from _ _ refl plain) (words_all ws)

row_tokens : (a : ℕ) (ws : List ℕ) → tokens (row_text a ws) ≡ (hex_text 8 a ++ 58 ∷ []) ∷ map (hex_text 8) ws
row_tokens a ws = ap tokens (row_joined a ws) ∙ tokens_joined (hex_text 8 a ++ 58 ∷ []) (map (hex_text 8) ws) (row_all a ws)

-- The text of a row is read as its address and words.
pub row_back : (a : ℕ) (ws : List ℕ) → a < 4294967296 → length ws ≡ 8 → AllByRecursion (λ w. w < 4294967296) ws → image_line (row_text a ws) ≡ Some (a, ws)
row_back a ws l n h = ap line_of (row_tokens a ws) ∙ ap (option_and_then (λ b. option_map (λ vs. (b, vs)) (one_to_eight (map (hex_text 8) ws)))) (word_back a l) ∙ ap (option_map (λ vs. (a, vs))) few
  where
    few : one_to_eight (map (hex_text 8) ws) ≡ Some ws
    few = rw (length-map ws (hex_text 8), n) (words_back ws h)

-- The content lines of a text that begins with the line of a row.
pub row_first : (n : ℕ) (a : ℕ) (ws : List ℕ) (rest : List ℕ) → content_from n (pieces (row_text a ws ++ 10 ∷ rest)) ≡ (n, row_text a ws) ∷ content_from (n + 1) (pieces rest)
row_first n a ws rest =
    let e = row_joined a ws in
    ap (λ t. content_from n (pieces (t ++ 10 ∷ rest))) e ∙ line_next n (hex_text 8 a ++ 58 ∷ []) (map (hex_text 8) ws) rest (row_all a ws) ∙ ap (λ t. (n, t) ∷ content_from (n + 1) (pieces rest)) (sym e)

-- ---- the content of a line that begins with no blank

-- A text without outer blanks and without a comment is its own content.
pub content_is : (d : ℕ) (cs : List ℕ) → list_all is_inner (d ∷ cs) ≡ true → is_blank d ≡ false → EndsInToken (d ∷ cs) → content (d ∷ cs) ≡ d ∷ cs
content_is d cs inner full ends = lined.content_is (d ∷ cs) (record { inner = inner; begins = record { first = d; rest = cs; whole = refl; full = full }; ends = ends })
