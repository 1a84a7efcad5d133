-- The lines of words assemble to the words again.
use Rattle.std.specs.Prelude.{◌≡◌, ℕ, ◌^◌, ◌<◌, ◌≤◌, List, [], ◌∷◌, ◌++◌, length, flat_map, map}
use Rattle.std.specs.List.{AllByRecursion, enumerate_from}
use Rattle.plural_bytes.specs.Lines.{TextLine, content_lines}
use Rattle.plural_sections.specs.Faults.{IsFaultless}
use Rattle.plural_asm.specs.Rules.{Breaks}
use Rattle.plural_asm.specs.Words.{code_of, labels_of}
use Rattle.plural_asm.specs.WordText.{word_text}

-- Lines without a fault that make these words and no labels.
pub record Makes (lines : List TextLine) (words : List ℕ) : Type 0 where
  pub faultless : IsFaultless (Breaks lines) lines
  pub code : code_of lines lines ≡ words
  pub unlabelled : labels_of lines ≡ []

-- The texts of words, each with a line end after it.
abbrev pub words_text : List ℕ → List ℕ
words_text words = flat_map (λ w. word_text w ++ 10 ∷ []) words

-- The text of a word is its own content line, and a line that makes this one word, whatever its number.
abbrev pub WordRoundTrip : Type 0
WordRoundTrip =
    (n w : ℕ) → w < 2 ^ 32
    → (content_lines (word_text w ++ 10 ∷ []) ≡ (1, word_text w) ∷ []) × Makes ((n, word_text w) ∷ []) (w ∷ [])

-- The content lines of the texts of words are these texts, with the numbers from 1.
abbrev pub TextsAreLines : Type 0
TextsAreLines =
    (words : List ℕ) → AllByRecursion (λ w. w < 2 ^ 32) words
    → content_lines (words_text words) ≡ enumerate_from 1 (map word_text words)

-- The content lines of the texts of at most 16,384 words make these words.
abbrev pub WordsRoundTrip : Type 0
WordsRoundTrip =
    (words : List ℕ) → AllByRecursion (λ w. w < 2 ^ 32) words → length words ≤ 16384
    → Makes (content_lines (words_text words)) words
