-- A table of predecessors that is made along the order holds exactly the chains.
use Rattle.std.proofs.Common.{ℕ, ◌≡◌, ◌⊎◌, Bool, true, false, List, [], ◌∷◌, Some, ap, subst, ◌∙◌, inl, inr, ⊎_elim, ◌<◌, length, ◌↔◌}
use Rattle.std.specs.Prelude.{◌||◌, ◌==◌, slice_get}
use Rattle.std.specs.List.{list_any}
use Rattle.std.proofs.lemmas.Bool.{eqb-true}
use Rattle.std.proofs.lemmas.Option.{slice_get_within, slice_get_cases, get_or_from_slice_get}
use Rattle.std.proofs.lemmas.List.{get_or_past}
use Rattle.plural_map.specs.declared.outcome.Dep.{Dep}
use Rattle.plural_map.specs.Value.{TaskValue, no_task}
use Rattle.plural_map.specs.Order.{is_among, order_of}
use Rattle.plural_reach.specs.Chains.{deps_of, DependsOn, LeadsBack, Before}
use Rattle.plural_reach.proofs.DepLemmas.{or_cases, or_left, or_right, names, names_first, names_later, any_same, any_weaker}
use Rattle.plural_reach.proofs.Solutions.{Step, IsLocal, Solves, solved_by}

-- A task's entry: the tasks that it depends on, and those in their entries.
abbrev pub chain_step : Step
chain_step f task p = list_any (λ d. d.task == p || f d.task p) task.deps

-- What comes before a task is made from what comes before those that it depends on.
pub chain_local : IsLocal chain_step
chain_local = record {
  same = λ f g task p h. any_same (λ d. d.task == p || f d.task p) (λ d. d.task == p || g d.task p) task.deps (λ d m. ap (λ (b : Bool). d.task == p || b) (h d.task m));
}

-- A dependency on w puts what w's entry has into the entry.
through : (f : ℕ → ℕ → Bool) (ds : List Dep) (w p : ℕ) → names ds w ≡ true → f w p ≡ true → list_any (λ d. d.task == p || f d.task p) ds ≡ true
through f [] w p m h = absurd cc
through f (d ∷ ds) w p m h = ⊎_elim
    (λ (e : (d.task == w) ≡ true). or_left (d.task == p || f d.task p) (list_any (λ d. d.task == p || f d.task p) ds) (or_right (d.task == p) (f d.task p) (ap (λ (x : ℕ). f x p) (eqb-true d.task w e) ∙ h)))
    (λ (e : names ds w ≡ true). or_right (d.task == p || f d.task p) (list_any (λ d. d.task == p || f d.task p) ds) (through f ds w p e h))
    (or_cases (d.task == w) (names ds w) m)

-- What is in an entry is depended on, or in the entry of a task that is.
split : (f : ℕ → ℕ → Bool) (ds : List Dep) (p : ℕ) → list_any (λ d. d.task == p || f d.task p) ds ≡ true → (names ds p ≡ true) ⊎ ((w : ℕ) × (names ds w ≡ true) × (f w p ≡ true))
split f [] p h = absurd cc
split f (d ∷ ds) p h = ⊎_elim first (λ e. more (split f ds p e)) (or_cases (d.task == p || f d.task p) (list_any (λ d. d.task == p || f d.task p) ds) h)
  where
    first : (d.task == p || f d.task p) ≡ true → (names (d ∷ ds) p ≡ true) ⊎ ((w : ℕ) × (names (d ∷ ds) w ≡ true) × (f w p ≡ true))
    first e = ⊎_elim (λ (k : (d.task == p) ≡ true). inl (or_left (d.task == p) (names ds p) k)) (λ (k : f d.task p ≡ true). inr (d.task, names_first d ds, k)) (or_cases (d.task == p) (f d.task p) e)

    more : (names ds p ≡ true) ⊎ ((w : ℕ) × (names ds w ≡ true) × (f w p ≡ true)) → (names (d ∷ ds) p ≡ true) ⊎ ((w : ℕ) × (names (d ∷ ds) w ≡ true) × (f w p ≡ true))
    more (inl k) = inl (names_later d ds p k)
    more (inr k) = inr (k.0, names_later d ds k.0 k.1, k.2)

-- The dependencies of a number are those of its task.
pub deps_at : (tasks : List TaskValue) (u : ℕ) (task : TaskValue) → slice_get tasks u ≡ Some task → deps_of tasks u ≡ task.deps
deps_at tasks u task e = ap (λ (x : TaskValue). x.deps) (get_or_from_slice_get tasks u task no_task e)

-- A number that depends on another is that of a task.
pub dependent : (tasks : List TaskValue) (u t : ℕ) → DependsOn tasks u t → (task : TaskValue) × (slice_get tasks u ≡ Some task) × (names task.deps t ≡ true)
dependent tasks u t h = ⊎_elim
    (λ c. (c.0, c.2, subst (λ (ds : List Dep). names ds t ≡ true) (deps_at tasks u c.0 c.2) h))
    (λ c.
    let f : false ≡ true = subst (λ (ds : List Dep). names ds t ≡ true) (ap (λ (x : TaskValue). x.deps) (get_or_past tasks u no_task c.0)) h in
    absurd cc)
    ((slice_get_cases tasks u).1)

-- What a chain leads from is in the entry.
in_entry : (tasks : List TaskValue) (f : ℕ → ℕ → Bool) → ((t : ℕ) (task : TaskValue) → slice_get tasks t ≡ Some task → (p : ℕ) → f t p ≡ chain_step f task p)
    → (between : List ℕ) (u p : ℕ) → LeadsBack tasks u between p → f u p ≡ true
in_entry tasks f equal [] u p h =
    let k = dependent tasks u p h in
    equal u k.0 k.1 p ∙ any_weaker (λ d. d.task == p) (λ d. d.task == p || f d.task p) k.0.deps (λ d m e. or_left (d.task == p) (f d.task p) e) k.2
in_entry tasks f equal (w ∷ between) u p h =
    let k = dependent tasks u w h.0 in
    equal u k.0 k.1 p ∙ through f k.0.deps w p k.2 (in_entry tasks f equal between w p h.1)

-- The finished table has exactly the chains.
pub chains_exact : (tasks : List TaskValue) (f : ℕ → ℕ → Bool) → ((t : ℕ) → t < length tasks → is_among t (order_of tasks) ≡ true) → Solves chain_step tasks (order_of tasks) f
    → (t u : ℕ) → u < length tasks → (f u t ≡ true) ↔ Before tasks t u
chains_exact tasks f reaches solved t u l = (sound u t (reaches u l), (λ h. in_entry tasks f equal h.0 u t h.1))
  where
    equal : (t : ℕ) (task : TaskValue) → slice_get tasks t ≡ Some task → (p : ℕ) → f t p ≡ chain_step f task p
    equal t task e p = solved.equal t task (reaches t (slice_get_within tasks t task e)) e p

    keeps : (u : ℕ) (task : TaskValue) (p : ℕ) → slice_get tasks u ≡ Some task → ((t : ℕ) → names task.deps t ≡ true → f t p ≡ true → Before tasks p t) → chain_step f task p ≡ true → Before tasks p u
    keeps u task p e before h = by_split (split f task.deps p h)
      where
        depends : (w : ℕ) → names task.deps w ≡ true → DependsOn tasks u w
        depends w m = rw (deps_at tasks u task e) m

        by_split : (names task.deps p ≡ true) ⊎ ((w : ℕ) × (names task.deps w ≡ true) × (f w p ≡ true)) → Before tasks p u
        by_split (inl m) = ([], depends p m)
        by_split (inr m) = let b = before m.0 m.1 m.2 in (m.0 ∷ b.0, (depends m.0 m.1, b.1))

    sound : (u p : ℕ) → is_among u (order_of tasks) ≡ true → f u p ≡ true → Before tasks p u
    sound = solved_by chain_step tasks f (λ u p. Before tasks p u) solved keeps
