-- What the dependencies of a task give, by what the tasks that they name have.
use Rattle.std.proofs.Common.{ℕ, ◌≡◌, ◌⊎◌, ◌<◌, length, get_or, arith, Bool, true, false, List, [], ◌∷◌, Option, Some, None, refl, sym, ap, ◌∙◌, inl, inr, ⊎_elim, eq-eqb}
use Rattle.std.specs.Prelude.{◌&&◌, ◌||◌, ◌==◌}
use Rattle.std.specs.List.{list_any, list_all}
use Rattle.std.specs.Option.{option_map_or}
use Rattle.std.proofs.lemmas.Bool.{eqb-true}
use Rattle.std.proofs.lemmas.Option.{slice_get_cases, get_or_from_slice_get}
use Rattle.plural_reach.specs.declared.set.TaskSet.{TaskSet}
use Rattle.plural_reach.specs.Sets.{has}
use Rattle.plural_reach.specs.Rows.{row}
use Rattle.plural_map.specs.declared.outcome.Dep.{Dep}
use Rattle.plural_reach.specs.Branches.{Family, code_of, gives, all_give, is_given}

-- ---- tests

-- A true disjunction has a true part.
pub or_cases : (a b : Bool) → (a || b) ≡ true → (a ≡ true) ⊎ (b ≡ true)
or_cases true b h = inl refl
or_cases false b h = inr h

-- A disjunction is true by its first part.
pub or_left : (a b : Bool) → a ≡ true → (a || b) ≡ true
or_left true b h = refl
or_left false b h = absurd cc

-- A disjunction is true by its second part.
pub or_right : (a b : Bool) → b ≡ true → (a || b) ≡ true
or_right true b h = refl
or_right false b h = h

and_left : (a b : Bool) → (a && b) ≡ true → a ≡ true
and_left true b h = refl
and_left false b h = absurd cc

and_right : (a b : Bool) → (a && b) ≡ true → b ≡ true
and_right true b h = h
and_right false b h = absurd cc

and_both : (a b : Bool) → a ≡ true → b ≡ true → (a && b) ≡ true
and_both true b p q = q
and_both false b p q = absurd cc

-- ---- the tasks that dependencies name

-- A dependency is on task t.
abbrev pub names : List Dep → ℕ → Bool
names deps t = list_any (λ d. d.task == t) deps

-- Dependencies name the task of the first.
pub names_first : (d : Dep) (ds : List Dep) → names (d ∷ ds) d.task ≡ true
names_first d ds = or_left (d.task == d.task) (names ds d.task) (eq-eqb d.task d.task refl)

-- They name what the later ones name.
pub names_later : (d : Dep) (ds : List Dep) (t : ℕ) → names ds t ≡ true → names (d ∷ ds) t ≡ true
names_later d ds t h = or_right (d.task == t) (names ds t) h

-- Two tests that agree at each dependency agree on the list.
pub any_same : (f g : Dep → Bool) (ds : List Dep) → ((d : Dep) → names ds d.task ≡ true → f d ≡ g d) → list_any f ds ≡ list_any g ds
any_same f g [] h = refl
any_same f g (d ∷ ds) h = rw (h d (names_first d ds), any_same f g ds (λ e m. h e (names_later d ds e.task m))) refl

all_same : (f g : Dep → Bool) (ds : List Dep) → ((d : Dep) → names ds d.task ≡ true → f d ≡ g d) → list_all f ds ≡ list_all g ds
all_same f g [] h = refl
all_same f g (d ∷ ds) h = rw (h d (names_first d ds), all_same f g ds (λ e m. h e (names_later d ds e.task m))) refl

-- A test that passes wherever another does passes on the list if the other does.
pub any_weaker : (f g : Dep → Bool) (ds : List Dep) → ((d : Dep) → names ds d.task ≡ true → f d ≡ true → g d ≡ true) → list_any f ds ≡ true → list_any g ds ≡ true
any_weaker f g [] h a = a
any_weaker f g (d ∷ ds) h a = ⊎_elim
    (λ (p : f d ≡ true). or_left (g d) (list_any g ds) (h d (names_first d ds) p))
    (λ (p : list_any f ds ≡ true). or_right (g d) (list_any g ds) (any_weaker f g ds (λ e m. h e (names_later d ds e.task m)) p))
    (or_cases (f d) (list_any f ds) a)

-- The same for a test that has to pass at each.
pub all_weaker : (f g : Dep → Bool) (ds : List Dep) → ((d : Dep) → names ds d.task ≡ true → f d ≡ true → g d ≡ true) → list_all f ds ≡ true → list_all g ds ≡ true
all_weaker f g [] h a = refl
all_weaker f g (d ∷ ds) h a = and_both (g d) (list_all g ds) (h d (names_first d ds) (and_left (f d) (list_all f ds) a))
    (all_weaker f g ds (λ e m. h e (names_later d ds e.task m)) (and_right (f d) (list_all f ds) a))

-- A test that passes at all dependencies passes at one that names a task, if it looks at the task alone.
pub all_at : (f : ℕ → Bool) (ds : List Dep) (t : ℕ) → list_all (λ d. f d.task) ds ≡ true → names ds t ≡ true → f t ≡ true
all_at f [] t a m = absurd cc
all_at f (d ∷ ds) t a m = ⊎_elim
    (λ (p : (d.task == t) ≡ true). ap f (sym (eqb-true d.task t p)) ∙ and_left (f d.task) (list_all (λ e. f e.task) ds) a)
    (λ (p : names ds t ≡ true). all_at f ds t (and_right (f d.task) (list_all (λ e. f e.task) ds) a) p)
    (or_cases (d.task == t) (names ds t) m)

-- ---- pairs that are given

given_same_at : (o : Option ℕ) (a x y : Bool) (c : ℕ) → x ≡ y → option_map_or (λ code. (a && code == c) || x) o false ≡ option_map_or (λ code. (a && code == c) || y) o false
given_same_at None a x y c h = refl
given_same_at (Some code) a x y c h = ap (λ (z : Bool). (a && code == c) || z) h

given_weaker_at : (o : Option ℕ) (a x y : Bool) (c : ℕ) → (x ≡ true → y ≡ true) → option_map_or (λ code. (a && code == c) || x) o false ≡ true → option_map_or (λ code. (a && code == c) || y) o false ≡ true
given_weaker_at None a x y c h e = absurd cc
given_weaker_at (Some code) a x y c h e = ⊎_elim
    (λ (p : (a && code == c) ≡ true). or_left (a && code == c) y p) (λ (p : x ≡ true). or_right (a && code == c) y (h p)) (or_cases (a && code == c) x e)

all_give_same : (f g : Family) (p c : ℕ) (ds : List Dep) → ((t : ℕ) → names ds t ≡ true → f t p c ≡ g t p c) → all_give f p c ds ≡ all_give g p c ds
all_give_same f g p c [] h = refl
all_give_same f g p c (d ∷ ds) h = all_same (gives f p c) (gives g p c) (d ∷ ds) (λ e m. given_same_at (code_of e.when) (e.task == p) (f e.task p c) (g e.task p c) c (h e.task m))

all_give_weaker : (f g : Family) (p c : ℕ) (ds : List Dep) → ((t : ℕ) → names ds t ≡ true → f t p c ≡ true → g t p c ≡ true) → all_give f p c ds ≡ true → all_give g p c ds ≡ true
all_give_weaker f g p c [] h a = a
all_give_weaker f g p c (d ∷ ds) h a = all_weaker (gives f p c) (gives g p c) (d ∷ ds) (λ e m. given_weaker_at (code_of e.when) (e.task == p) (f e.task p c) (g e.task p c) c (h e.task m)) a

-- What a task is given depends on the sets of the tasks that it depends on alone.
pub given_same : (f g : Family) (p c : ℕ) (some : Bool) (ds : List Dep) → ((t : ℕ) → names ds t ≡ true → f t p c ≡ g t p c) → is_given f p c some ds ≡ is_given g p c some ds
given_same f g p c true ds h = all_give_same f g p c ds h
given_same f g p c false ds h = any_same (gives f p c) (gives g p c) ds (λ e m. given_same_at (code_of e.when) (e.task == p) (f e.task p c) (g e.task p c) c (h e.task m))

-- If these sets grow, a task is given no less.
pub given_weaker : (f g : Family) (p c : ℕ) (some : Bool) (ds : List Dep) → ((t : ℕ) → names ds t ≡ true → f t p c ≡ true → g t p c ≡ true) → is_given f p c some ds ≡ true → is_given g p c some ds ≡ true
given_weaker f g p c true ds h a = all_give_weaker f g p c ds h a
given_weaker f g p c false ds h a = any_weaker (gives f p c) (gives g p c) ds (λ e m. given_weaker_at (code_of e.when) (e.task == p) (f e.task p c) (g e.task p c) c (h e.task m)) a

-- ---- rows

-- The row of a number within the table is the set that stands there.
pub row_at : (sets : List TaskSet) (t p : ℕ) (d : TaskSet) → t < length sets → row sets t p ≡ has (get_or sets t d) p
row_at sets t p d h = ⊎_elim
    (λ c. ap (λ o. option_map_or (λ s. has s p) o false) c.2 ∙ ap (λ s. has s p) (sym (get_or_from_slice_get sets t c.0 d c.2)))
    (λ c. absurd (omega (arith, c.0)))
    ((slice_get_cases sets t).1)
