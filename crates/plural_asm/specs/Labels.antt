-- The labels of kernel lines, in order, and their places.
use Rattle.std.specs.Prelude.{ℕ, ◌≡◌, ◌%◌, Bool, false, ◌||◌, List, Option, Some, None, take, sum_by, position, option_map, bytes_eq, nat_lt, nat_le, if◌then◌else◌, ◌==◌}
use Rattle.std.specs.List.{filter_map}
use Rattle.plural_bytes.specs.Lines.{TextLine}
use Rattle.plural_statement.specs.Statement.{label_of, line_of}
use Rattle.plural_statement.specs.declared.statement.Statement.{Statement}
use Rattle.plural_statement.specs.declared.statement.Statement.TheVariants.{Nothing, Known, Li, Jump, Branch}

-- The names at the label positions of lines.
abbrev pub names_of : List TextLine → List (List ℕ)
names_of lines = filter_map (λ l. label_of l.1) lines

-- A word modulo 2^32 is from -2048 to 2047 as a signed number.
abbrev pub is_short : ℕ → Bool
is_short w = nat_lt w 2048 || nat_le 4294965248 w

-- How many words `li` makes: one if its value is short or its low part is 0, else two.
abbrev pub li_size : ℕ → ℕ
li_size w = if is_short w || w % 4096 == 0 then 1 else 2

-- How many words an instruction makes; one with a fault of form or number counts as one.
abbrev pub words_in : Option Statement → ℕ
words_in None = 1
words_in (Some Nothing) = 0
words_in (Some (Known word)) = 1
words_in (Some (Li rd None)) = 1
words_in (Some (Li rd (Some w))) = li_size w
words_in (Some (Jump rd target)) = 1
words_in (Some (Branch op rs1 rs2 target)) = 1

-- How many words a line makes.
abbrev pub size_of : List ℕ → ℕ
size_of text = words_in (line_of text).statement

-- How many words stand before the line after these.
abbrev pub place_after : List TextLine → ℕ
place_after lines = sum_by (λ l. size_of l.1) lines

-- The name is the one that there may be.
abbrev pub is_option : Option (List ℕ) → List ℕ → Bool
is_option None name = false
is_option (Some n) name = bytes_eq n name

-- The line has this label.
abbrev pub has_label : List ℕ → TextLine → Bool
has_label name l = is_option (label_of l.1) name

-- The first place of a label, in words.
abbrev pub place_of : List TextLine → List ℕ → Option ℕ
place_of lines name = option_map (λ i. place_after (take i lines)) (position (has_label name) lines)

-- What is known of a label after one more line.
abbrev pub noted : Option ℕ → Bool → ℕ → Option ℕ
noted (Some p) here place = Some p
noted None here place = if here then Some place else None

-- What was kept of a place, if anything, is the place.
abbrev pub AgreesWith : Option ℕ → Option ℕ → Type 0
AgreesWith None place = Unit {0}
AgreesWith (Some p) place = place ≡ Some p
