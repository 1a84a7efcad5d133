-- Laws over lines and tokens.
use Rattle.std.specs.Prelude.{ℕ, ◌+◌, ◌<◌, ◌≤◌, Bool, ◌||◌, ◌&&◌, ◌==◌, List, [], ◌∷◌, ⊤, length, nat_le, IsTrue}
use Rattle.std.specs.List.{list_all}
use Rattle.plural_bytes.specs.Lines.{TextLine, pieces, content_lines, tokens}

-- The numbers of lines rise, are at least `floor`, and are below `top`.
abbrev pub Rises : ℕ → ℕ → List TextLine → Type 0
Rises floor top [] = ⊤
Rises floor top (l ∷ ls) = (floor ≤ l.0) × (l.0 < top) × Rises (l.0 + 1) top ls

-- The numbers of a text's content lines rise, from 1 to the number of its lines.
abbrev pub LinesRise : Type 0
LinesRise = (text : List ℕ) → Rises 1 (length (pieces text) + 1) (content_lines text)

-- A byte from 0x20 to 0x7E.
abbrev pub is_printable : ℕ → Bool
is_printable c = nat_le 32 c && nat_le c 126

-- A byte that a content line may have: a tab, or a printable byte.
abbrev pub is_plain : ℕ → Bool
is_plain c = c == 9 || is_printable c

-- A line whose tokens have printable bytes alone has plain bytes alone.
abbrev pub TokensArePlain : Type 0
TokensArePlain = (text : List ℕ) → IsTrue (list_all (λ t. list_all is_printable t) (tokens text))
    → IsTrue (list_all is_plain text)
