-- Tasks found by their names.
use Rattle.std.proofs.Common.{◌≡◌, ℕ, zero, suc, ◌<◌, ◌≢◌, true, false, List, [], ◌∷◌, ◌++◌, length, get_or, refl, ◌∙◌, arith}
use Rattle.std.specs.Prelude.{bytes_eq, position, unwrap_or, IsTrue}
use Rattle.std.specs.List.{All, AllPairs}
use Rattle.std.proofs.lemmas.Bool.{false_from_ne_true, or_right}
use Rattle.std.proofs.lemmas.List.Elements.{All-head, All-tail}
use Rattle.std.proofs.lemmas.Slice.Eq.{bytes_eq-Decides}
use Rattle.plural_base.specs.Names.{is_name}
use Rattle.plural_base.proofs.ListTests.{unwrap_found}
use Rattle.plural_map.specs.Value.{TaskValue}
use Rattle.plural_map.specs.Lookup.{number_of, name_at, has_task}

-- The first place of a name, or the length if there is none, is its number.
pub found : (ts : List TaskValue) (n : List ℕ) → unwrap_or (position (λ t. bytes_eq t.name n) ts) (length ts) ≡ number_of n ts
found ts n = unwrap_found (λ t. bytes_eq t.name n) ts

-- A name is the same as itself.
pub same_name : (a : List ℕ) → bytes_eq a a ≡ true
same_name a = (bytes_eq-Decides a a).1 refl

-- Names that differ aren't the same.
pub other_name : (a b : List ℕ) → a ≢ b → bytes_eq a b ≡ false
other_name a b h = false_from_ne_true (bytes_eq a b) (λ e. h ((bytes_eq-Decides a b).0 e))

-- ---- the name of a task by its number

-- The name of a number below the count is that of the task there.
pub name_is : (tasks : List TaskValue) (t : ℕ) (d : TaskValue) → t < length tasks → name_at tasks t ≡ (get_or tasks t d).name
name_is [] t d l = absurd (omega arith)
name_is (x ∷ xs) zero d l = refl
name_is (x ∷ xs) (suc t) d l = name_is xs t d (omega arith)

-- It is the same among more tasks.
pub name_before : (pre ts : List TaskValue) (t : ℕ) → t < length pre → name_at (pre ++ ts) t ≡ name_at pre t
name_before [] ts t l = absurd (omega arith)
name_before (x ∷ xs) ts zero l = refl
name_before (x ∷ xs) ts (suc t) l = name_before xs ts t (omega arith)

-- Some task has it.
pub has_at : (tasks : List TaskValue) (t : ℕ) → t < length tasks → has_task tasks (name_at tasks t) ≡ true
has_at [] t l = absurd (omega arith)
has_at (x ∷ xs) zero l = rw (same_name x.name) refl
has_at (x ∷ xs) (suc t) l = or_right (bytes_eq x.name (name_at xs t)) (has_task xs (name_at xs t)) (has_at xs t (omega arith))

-- ---- tasks whose names differ

-- The names of these tasks differ.
abbrev pub Differ : List TaskValue → Type 0
Differ tasks = AllPairs (λ (t u : TaskValue). t.name ≢ u.name) tasks

-- A task's number is found by its name.
pub number_at : (tasks : List TaskValue) (t : ℕ) → Differ tasks → t < length tasks → number_of (name_at tasks t) tasks ≡ t
number_at [] t h l = absurd (omega arith)
number_at (x ∷ xs) zero h l = rw (same_name x.name) refl
number_at (x ∷ xs) (suc t) h l =
    let other : bytes_eq x.name (name_at xs t) ≡ false = other_name x.name (name_at xs t) (λ e. h 0 (suc t) x (omega arith) l (e ∙ name_is xs t x (omega arith))) in
    rw other (let k = number_at xs t (λ i j d a b. h (suc i) (suc j) d (omega arith) (omega arith)) (omega arith) in omega arith)

-- ---- tasks whose names are names

-- The names of these tasks are names.
abbrev pub AreNamed : List TaskValue → Type 0
AreNamed tasks = All (λ (t : TaskValue). IsTrue (is_name t.name)) tasks

-- The name of a number below the count is a name.
pub named_at : (tasks : List TaskValue) (t : ℕ) → AreNamed tasks → t < length tasks → is_name (name_at tasks t) ≡ true
named_at [] t h l = absurd (omega arith)
named_at (x ∷ xs) zero h l = All-head (λ (t : TaskValue). IsTrue (is_name t.name)) x xs h
named_at (x ∷ xs) (suc t) h l = named_at xs t (All-tail (λ (t : TaskValue). IsTrue (is_name t.name)) x xs h) (omega arith)
