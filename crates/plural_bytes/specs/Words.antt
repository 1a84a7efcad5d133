-- Words that a text begins with.
use Rattle.std.specs.Prelude.{ℕ, ◌-◌, Bool, true, not, ◌&&◌, List, [], ◌∷◌, ◌++◌, take, drop, length}
use Rattle.std.specs.List.{list_all}
use Rattle.plural_bytes.specs.Lines.{is_blank, has_text}

-- A word has a byte, and no blank.
abbrev pub is_one_word : List ℕ → Bool
is_one_word w = has_text w && list_all (λ c. not (is_blank c)) w

-- A token that stands before this text ends there: the text is empty, or begins with a blank.
abbrev pub ends_token : List ℕ → Bool
ends_token [] = true
ends_token (c ∷ cs) = is_blank c

-- A word as it is printed between others: with a space before and after it.
abbrev pub spaced : List ℕ → List ℕ
spaced w = 32 ∷ (w ++ 32 ∷ [])

-- A text without its first byte and its last.
abbrev pub inner : List ℕ → List ℕ
inner text = take (length text - 1 - 1) (drop 1 text)
