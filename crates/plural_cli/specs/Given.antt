-- Arguments as the program keeps them: each is there at most once.
use Rattle.std.specs.Prelude.{ℕ, ◌≡◌, ◌≤◌, ◌⊎◌, List, ◌∷◌, Option, Some, None, String, string_bytes, IsSome, length, map}
use Rattle.std.specs.declared.alloc.Global.{Global}
use Rattle.plural_cli.specs.Arguments.{Arguments, nothing, with_word, with_cores, with_order, arguments}
use Rattle.plural_cli.specs.declared.arguments.Argument.{Argument}
use Rattle.plural_cli.specs.declared.arguments.Argument.TheVariants as argument
use Rattle.plural_cli.specs.declared.arguments.Given.{Given}

-- The bytes of each word.
abbrev pub texts : List (String Global) → List (List ℕ)
texts words = map string_bytes words

-- An argument stands before others.
abbrev pub with_argument : Argument → Arguments → Arguments
with_argument (argument.Word w) a = with_word w.now a
with_argument (argument.Cores value) a = with_cores value.now a
with_argument (argument.Order value) a = with_order value.now a

-- What is kept, if anything is, stands before other words.
abbrev pub before : {A : Type 0} → (A → List ℕ) → Option A → List (List ℕ) → List (List ℕ)
before text None ws = ws
before text (Some w) ws = text w ∷ ws

-- The arguments that are kept stand before others.
abbrev pub with_given : Given → Arguments → Arguments
with_given g a = record {
  words = before (λ w. w.now) g.word a.words;
  cores = before (λ value. value.now) g.cores a.cores;
  order = before (λ value. value.now) g.order a.order;
}

-- What is kept, as arguments.
abbrev pub kept : Given → Arguments
kept g = with_given g nothing

-- One more argument is kept: it stands after those before it.
abbrev pub IsWith : Given → Argument → Given → Type 0
IsWith g argument more = (a : Arguments) → with_given more a ≡ with_given g (with_argument argument a)

-- Words are an argument, and other words after it.
abbrev pub Begins : (words : List (List ℕ)) → Argument → (others : List (List ℕ)) → Type 0
Begins words argument others = arguments words ≡ with_argument argument (arguments others)

-- The place of an argument is taken.
abbrev pub IsTaken : Given → Argument → Type 0
IsTaken g (argument.Word w) = IsSome g.word
IsTaken g (argument.Cores value) = IsSome g.cores
IsTaken g (argument.Order value) = IsSome g.order

-- A word of the command's own, or an option, is there twice.
abbrev pub IsTwice : Arguments → Type 0
IsTwice a = (2 ≤ length a.words) ⊎ ((2 ≤ length a.cores) ⊎ (2 ≤ length a.order))
