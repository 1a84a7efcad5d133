-- Names of tasks and labels.
use Rattle.std.specs.Prelude.{ℕ, Bool, false, ◌||◌, ◌&&◌, List, [], ◌∷◌, Option, Some, None, length, nat_le, if◌then◌else◌, ◌==◌}
use Rattle.std.specs.List.{list_all}
use Rattle.std.specs.Char.{is_ascii_digit, is_ascii_alphabetic}

-- A letter or `_`.
abbrev pub begins_name : ℕ → Bool
begins_name c = is_ascii_alphabetic c || c == 95

-- A letter, a digit or `_`.
abbrev pub continues_name : ℕ → Bool
continues_name c = begins_name c || is_ascii_digit c

-- A name has 1 to 24 bytes, of which the first is a letter or `_`, and the others are letters, digits or `_`.
abbrev pub is_name : List ℕ → Bool
is_name [] = false
is_name (c ∷ cs) = nat_le (length cs) 23 && begins_name c && list_all continues_name cs

-- The name that a text is, if it is one.
abbrev pub name_of : List ℕ → Option (List ℕ)
name_of text = if is_name text then Some text else None
