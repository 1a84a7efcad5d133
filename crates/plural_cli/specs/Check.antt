-- What `check` answers to a bundle, and what `run` answers to one that clashes.
use Rattle.std.specs.Prelude.{ℕ, ◌≡◌, ◌⊎◌, List, [], ◌∷◌, ◌++◌, codes, length, sum_by, Option, Some, None}
use Rattle.std.specs.Fmt.{decimal}
use Rattle.plural_map.specs.Value.{TaskValue}
use Rattle.plural_map.specs.Lookup.{name_at}
use Rattle.plural_crew.specs.Clashes.{IsAccepted, IsFirstClash}
use Rattle.plural_cli.specs.declared.answer.Answer.{Answer}
use Rattle.plural_cli.specs.Lines.{ToBundle}

-- The line for tasks without a clash: how many they are, and how many instances.
abbrev pub accepted_text : List TaskValue → List ℕ
accepted_text tasks =
    (((codes "accepted: tasks " ++ decimal (length tasks)) ++ codes " instances ")
    ++ decimal (sum_by (λ t. t.quota) tasks))
    ++ 10 ∷ []

-- An instance by its task's name and its number.
abbrev pub instance_text : List TaskValue → (t k : ℕ) → List ℕ
instance_text tasks t k = (name_at tasks t ++ codes " ") ++ decimal k

-- The line for a clash: the two instances and the word.
abbrev pub clash_text : List TaskValue → (t k u l a : ℕ) → List ℕ
clash_text tasks t k u l a =
    (((((codes "clash: " ++ instance_text tasks t k) ++ codes " and ") ++ instance_text tasks u l)
    ++ codes " at word ") ++ decimal a)
    ++ 10 ∷ []

-- The tasks have a clash: status 4, and the line of the first.
pub record IsClashing (tasks : List TaskValue) (status : ℕ) (text : List ℕ) : Type 0 where
  pub t : ℕ
  pub k : ℕ
  pub u : ℕ
  pub l : ℕ
  pub a : ℕ
  pub first : IsFirstClash tasks t k u l a
  pub status_is : status ≡ 4
  pub text_is : text ≡ clash_text tasks t k u l a

-- The tasks have no clash: status 0, and the line that counts them.
pub record IsClean (tasks : List TaskValue) (status : ℕ) (text : List ℕ) : Type 0 where
  pub accepted : IsAccepted tasks
  pub status_is : status ≡ 0
  pub text_is : text ≡ accepted_text tasks

-- There is no answer if the tasks have no clash; else the answer tells the first.
abbrev pub IsClashAnswer : List TaskValue → Option Answer → Type 0
IsClashAnswer tasks None = IsAccepted tasks
IsClashAnswer tasks (Some a) = IsClashing tasks a.status a.text.items

-- Tasks without a clash are counted, and of others the first clash is told.
abbrev pub IsMapAnswer : List TaskValue → (status : ℕ) (text : List ℕ) → Type 0
IsMapAnswer tasks status text = IsClean tasks status text ⊎ IsClashing tasks status text

-- `check` answers a bundle by whether its map has a clash; nothing is run.
abbrev pub IsCheckAnswer : (bytes : List ℕ) (status : ℕ) (text : List ℕ) → Type 0
IsCheckAnswer bytes status text = ToBundle (λ b. IsMapAnswer b.program.map.tasks) bytes status text
