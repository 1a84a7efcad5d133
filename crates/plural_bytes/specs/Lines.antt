-- The lines of a text and the tokens of a line.
use Rattle.std.specs.Prelude.{ℕ, ◌-◌, Bool, ◌||◌, List, [], ◌∷◌, take, length, reverse, filter, map, slice_index, nat_lt, if◌then◌else◌, ◌==◌}
use Rattle.std.specs.List.{slice_split, onto_first, before_first, enumerate_from}

abbrev pub LF : ℕ
LF = 10

abbrev pub CR : ℕ
CR = 13

abbrev pub HASH : ℕ
HASH = 35

-- A byte that ends a line.
abbrev pub is_line_end : ℕ → Bool
is_line_end c = c == LF

-- A byte that begins a comment.
abbrev pub is_hash : ℕ → Bool
is_hash c = c == HASH

-- A blank is a space or a tab.
abbrev pub is_blank : ℕ → Bool
is_blank c = c == 32 || c == 9

-- The lines of a text are the pieces that it is cut into at each LF; a last piece without one counts if it isn't
-- empty.
abbrev pub pieces : List ℕ → List (List ℕ)
pieces [] = []
pieces (c ∷ cs) = if is_line_end c then [] ∷ pieces cs else onto_first c (pieces cs)

-- A line without the CR at its end, if it has one.
abbrev pub without_cr : List ℕ → List ℕ
without_cr piece = if slice_index piece (length piece - 1) == CR then take (length piece - 1) piece else piece

-- A list without those before its first element that fails a test.
abbrev pub drop_while : (ℕ → Bool) → List ℕ → List ℕ
drop_while p [] = []
drop_while p (c ∷ cs) = if p c then drop_while p cs else c ∷ cs

-- A text without its outer blanks.
abbrev pub trimmed : List ℕ → List ℕ
trimmed text = reverse (drop_while is_blank (reverse (drop_while is_blank text)))

-- The content of a line is what is left without the CR at its end, the first `#` with all that follows it, and outer
-- blanks.
abbrev pub content : List ℕ → List ℕ
content piece = trimmed (before_first is_hash (without_cr piece))

-- A text that isn't empty.
abbrev pub has_text : List ℕ → Bool
has_text t = nat_lt 0 (length t)

-- A line as its number and its text.
abbrev pub TextLine : Type 0
TextLine = ℕ × List ℕ

-- The content lines among lines of which the first has this number.
abbrev pub content_from : ℕ → List (List ℕ) → List TextLine
content_from n ps = filter (λ l. has_text l.1) (map (λ l. (l.0, content l.1)) (enumerate_from n ps))

-- The content lines of a text are the contents that aren't empty, with the numbers of their lines, counted from 1.
abbrev pub content_lines : List ℕ → List TextLine
content_lines text = content_from 1 (pieces text)

-- The tokens of a line are its longest pieces without blanks.
abbrev pub tokens : List ℕ → List (List ℕ)
tokens text = filter has_text (slice_split is_blank text)
