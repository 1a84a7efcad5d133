-- What stands after a command's name: the command's own words, and options with their values.
use Rattle.std.specs.Prelude.{ℕ, if◌then◌else◌, List, [], ◌∷◌, codes, bytes_eq, drop, nat_eq}
use Rattle.std.specs.List.{starts_with}

-- The command's own words, and the values that each option is given, each in their order.
pub record Arguments : Type 0 where
  pub words : List (List ℕ)
  pub cores : List (List ℕ)
  pub order : List (List ℕ)

-- Nothing stands after the name.
abbrev pub nothing : Arguments
nothing = record { words = []; cores = []; order = [] }

-- A word of the command's own stands before other arguments.
abbrev pub with_word : List ℕ → Arguments → Arguments
with_word w a = record { words = w ∷ a.words; cores = a.cores; order = a.order }

-- A value of `--cores` stands before other arguments.
abbrev pub with_cores : List ℕ → Arguments → Arguments
with_cores value a = record { words = a.words; cores = value ∷ a.cores; order = a.order }

-- A value of `--order` stands before other arguments.
abbrev pub with_order : List ℕ → Arguments → Arguments
with_order value a = record { words = a.words; cores = a.cores; order = value ∷ a.order }

-- An argument of one word: an option and its value with `=` between them, or a word of the command's own.
abbrev pub with_one : List ℕ → Arguments → Arguments
with_one w a =
    if starts_with nat_eq w (codes "--cores=") then with_cores (drop 8 w) a
    else if starts_with nat_eq w (codes "--order=") then with_order (drop 8 w) a
    else with_word w a

-- What words say as arguments, in any order: an option and its value are two words, or one word with `=` between them.
abbrev pub arguments : List (List ℕ) → Arguments
arguments [] = nothing
arguments (w ∷ []) = with_one w nothing
arguments (w ∷ value ∷ rest) =
    if bytes_eq w (codes "--cores") then with_cores value (arguments rest)
    else if bytes_eq w (codes "--order") then with_order value (arguments rest)
    else with_one w (arguments (value ∷ rest))
