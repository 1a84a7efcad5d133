-- Reading arguments one after another, and arguments that are there twice, which name no command.
use Rattle.std.proofs.Common.{ℕ, ◌≡◌, ◌≤◌, ◌⊎◌, inl, inr, Bool, true, false, Some, None, Option, List, [], ◌∷◌, length, map, take, drop, get_or, ◌-◌, refl, sym, ap, ◌∙◌, arith}
use Rattle.std.specs.Prelude.{if◌then◌else◌, codes, bytes_eq, IsSome}
use Rattle.std.proofs.lemmas.List.{take_rest}
use Rattle.plural_cli.specs.Arguments.{Arguments, arguments}
use Rattle.plural_cli.specs.Given.{with_argument, before, with_given, IsTaken, IsTwice}
use Rattle.plural_cli.specs.declared.arguments.Argument.{Argument}
use Rattle.plural_cli.specs.declared.arguments.Argument.TheVariants as argument
use Rattle.plural_cli.specs.declared.arguments.Given.{Given}
use Rattle.plural_cli.specs.declared.command.Command.{Command}
use Rattle.plural_cli.specs.Command.{run_with, make_with, name_alone, command_with, command_of}

-- One of three lists has two elements or more.
abbrev SomeTwice : (words cores order : List (List ℕ)) → Type 0
SomeTwice words cores order = (2 ≤ length words) ⊎ ((2 ≤ length cores) ⊎ (2 ≤ length order))

-- The lists of at most one element each are no such lists.
none_twice : (m n k : ℕ) → m ≤ 1 → n ≤ 1 → k ≤ 1 → (2 ≤ m) ⊎ ((2 ≤ n) ⊎ (2 ≤ k)) → ⊥
none_twice m n k a b c (inl h) = omega (arith, a, h)
none_twice m n k a b c (inr (inl h)) = omega (arith, b, h)
none_twice m n k a b c (inr (inr h)) = omega (arith, c, h)

run_never : (words cores order : List (List ℕ)) → SomeTwice words cores order → None ≡ run_with words cores order
run_never [] [] order h = refl
run_never [] (v ∷ []) [] h = absurd (none_twice 0 1 0 (omega arith) (omega arith) (omega arith) h)
run_never [] (v ∷ []) (o ∷ []) h = absurd (none_twice 0 1 1 (omega arith) (omega arith) (omega arith) h)
run_never [] (v ∷ []) (o ∷ p ∷ os) h = refl
run_never [] (v ∷ w ∷ vs) order h = refl
run_never (w ∷ ws) cores order h = refl

make_never : (words cores order : List (List ℕ)) → SomeTwice words cores order → None ≡ make_with words cores order
make_never [] cores order h = refl
make_never (w ∷ []) [] [] h = absurd (none_twice 1 0 0 (omega arith) (omega arith) (omega arith) h)
make_never (w ∷ []) [] (o ∷ os) h = refl
make_never (w ∷ []) (v ∷ []) [] h = absurd (none_twice 1 1 0 (omega arith) (omega arith) (omega arith) h)
make_never (w ∷ []) (v ∷ []) (o ∷ os) h = refl
make_never (w ∷ []) (v ∷ x ∷ vs) order h = refl
make_never (w ∷ x ∷ ws) cores order h = refl

name_never : (name : List ℕ) (words cores order : List (List ℕ)) → SomeTwice words cores order → None ≡ name_alone name words cores order
name_never name [] [] [] h = absurd (none_twice 0 0 0 (omega arith) (omega arith) (omega arith) h)
name_never name [] [] (o ∷ os) h = refl
name_never name [] (v ∷ vs) order h = refl
name_never name (w ∷ ws) cores order h = refl

choice_never : (b c : Bool) (x y z : Option Command) → None ≡ x → None ≡ y → None ≡ z → None ≡ (if b then x else if c then y else z)
choice_never true c x y z p q r = p
choice_never false true x y z p q r = q
choice_never false false x y z p q r = r

-- Arguments of which one is there twice name no command.
twice_never : (name : List ℕ) (a : Arguments) → IsTwice a → None ≡ command_with name a
twice_never name a h =
    choice_never (bytes_eq name (codes "run")) (bytes_eq name (codes "make")) _ _ _ (run_never a.words a.cores a.order h) (make_never a.words a.cores a.order h) (name_never name a.words a.cores a.order h)

-- ---- one argument after another

-- The elements after the first.
abbrev pub after_first : {A : Type 0} → List A → List A
after_first xs = take (length xs - 1) (drop 1 xs)

first_word : {A : Type 0} (xs : List A) (x : A) → 1 ≤ length xs → x ≡ get_or xs 0 x → xs ≡ x ∷ after_first xs
first_word [] x h e = absurd (omega (arith, h))
first_word (y ∷ ys) x h e = λ i. sym e i ∷ sym (take_rest (y ∷ ys) 1) i

-- If the next words begin with an argument, it stands after those that are kept.
pub next_argument : {A : Type 0} (f : A → List ℕ) (words rest : List A) (w : A) (g : Given) (arg : Argument) (others : Arguments) → arguments (map f words) ≡ with_given g (arguments (map f rest)) → 1 ≤ length rest
    → w ≡ get_or rest 0 w → arguments (f w ∷ map f (after_first rest)) ≡ with_argument arg others → arguments (map f words) ≡ with_given g (with_argument arg others)
next_argument f words rest w g arg others so_far long here e =
    so_far ∙ ap (with_given g) (ap (λ xs. arguments (map f xs)) (first_word rest w long here) ∙ e)

two_before : {A : Type 0} (text : A → List ℕ) (o : Option A) (w : List ℕ) (ws : List (List ℕ)) → IsSome o → 2 ≤ length (before text o (w ∷ ws))
two_before text None w ws h = absurd cc
two_before text (Some v) w ws h = omega arith

-- An argument whose place is taken is there twice.
pub taken_twice : (g : Given) (arg : Argument) (others : Arguments) → IsTaken g arg → IsTwice (with_given g (with_argument arg others))
taken_twice g (argument.Word w) others h = inl (two_before (λ w. w.now) g.word w.now others.words h)
taken_twice g (argument.Cores value) others h = inr (inl (two_before (λ value. value.now) g.cores value.now others.cores h))
taken_twice g (argument.Order value) others h = inr (inr (two_before (λ value. value.now) g.order value.now others.order h))

-- Words after whose first one an argument is there twice name no command.
pub none_named : {A : Type 0} (f : A → List ℕ) (words : List A) (w : A) → 1 ≤ length words → w ≡ get_or words 0 w → IsTwice (arguments (map f (after_first words))) → None ≡ command_of (map f words)
none_named f words w long here h =
    twice_never (f w) (arguments (map f (after_first words))) h ∙ sym (ap (λ xs. command_of (map f xs)) (first_word words w long here))
