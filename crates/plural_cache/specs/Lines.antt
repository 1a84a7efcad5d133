-- The lines present in a set, the one whose last load access is newest first.
use Rattle.std.specs.Prelude.{ℕ, ◌≡◌, ◌<◌, ◌==◌, false, if◌then◌else◌, List, [], ◌∷◌, ◌++◌, length, map, take, Option, Some, None, slice_index, slice_set}
use Rattle.plural_cache.specs.declared.set.Line.{Line}
use Rattle.plural_cache.specs.Miss.{is_in}

-- The numbers of these lines.
abbrev pub keys : List Line → List ℕ
keys ls = map (λ (l : Line). l.line) ls

-- The words of line x, if it is present.
abbrev pub look : ℕ → List Line → Option (List ℕ)
look x [] = None
look x (l ∷ ls) = (if l.line == x then Some l.words else look x ls)

-- Line x alone, if it is present.
abbrev pub chosen : ℕ → List Line → List Line
chosen x [] = []
chosen x (l ∷ ls) = (if l.line == x then l ∷ [] else chosen x ls)

-- The lines other than x.
abbrev pub others : ℕ → List Line → List Line
others x [] = []
others x (l ∷ ls) = (if l.line == x then ls else l ∷ others x ls)

-- Line x is the newest, if it is present.
abbrev pub brought : ℕ → List Line → List Line
brought x ls = chosen x ls ++ others x ls

-- Word w of line x is v, if the line is present.
abbrev pub updated : (x w v : ℕ) → List Line → List Line
updated x w v [] = []
updated x w v (l ∷ ls) = (if l.line == x then record l { words = slice_set l.words w v } ∷ ls else l ∷ updated x w v ls)

-- The words of the newest line.
abbrev pub front : List Line → List ℕ
front [] = []
front (l ∷ ls) = l.words

-- The line at place p is the first that is line x.
pub record IsFirst (x p : ℕ) (ls : List Line) : Type 0 where
  pub within : p < length ls
  pub is : slice_index (keys ls) p ≡ x
  pub first : is_in x (take p (keys ls)) ≡ false
