-- A table of needs that is made along the order holds exactly the least closed family.
use Rattle.std.proofs.Common.{ℕ, ◌≡◌, ◌≢◌, ◌⊎◌, Bool, true, List, Some, refl, sym, ap, ◌∙◌, inl, inr, ⊎_elim, ◌<◌, length, get_or, arith, ◌↔◌, eq-eqb}
use Rattle.std.specs.Prelude.{◌==◌, slice_get, if◌then◌else◌}
use Rattle.std.proofs.lemmas.Bool.{cases_eq, ne_eqb}
use Rattle.std.proofs.lemmas.Option.{slice_get_within}
use Rattle.plural_map.specs.Value.{TaskValue}
use Rattle.plural_map.specs.Order.{is_among, order_of}
use Rattle.plural_reach.specs.Branches.{Family, is_given, IsClosed, NeedsCode, Exclusive}
use Rattle.plural_reach.specs.declared.tables.Needs.{Needs}
use Rattle.plural_reach.specs.declared.set.TaskSet.{TaskSet}
use Rattle.plural_reach.specs.Sets.{has}
use Rattle.plural_reach.specs.Tables.{IsNeedsOf}
use Rattle.plural_reach.proofs.DepLemmas.{row_at, names, given_same, given_weaker}
use Rattle.plural_reach.proofs.Solutions.{Step, IsLocal, Solves, solved_by}

-- A task's entry for a code: the tasks whose code it is given.
abbrev pub need_step : ℕ → Step
need_step c f task p = is_given (λ t q code. f t q) p c task.some task.deps

-- What a task needs is made from what the tasks that it depends on need.
pub need_local : (c : ℕ) → IsLocal (need_step c)
need_local c = record {
  same = λ f g task p h. given_same (λ t q code. f t q) (λ t q code. g t q) p c task.some task.deps h;
}

-- The table as a family in which only the code c is told.
at_code : ℕ → (ℕ → ℕ → Bool) → Family
at_code c f = λ t p code. if code == c then f t p else true

at_code_same : (c : ℕ) (f : ℕ → ℕ → Bool) (t p : ℕ) → at_code c f t p c ≡ f t p
unfolding at_code
at_code_same c f t p = rw (eq-eqb c c refl) refl

at_code_other : (c code : ℕ) (f : ℕ → ℕ → Bool) (t p : ℕ) → code ≢ c → at_code c f t p code ≡ true
unfolding at_code
at_code_other c code f t p h = rw (ne_eqb code c h) refl

-- The finished table has exactly the needs.
pub needs_exact : (c : ℕ) (tasks : List TaskValue) (f : ℕ → ℕ → Bool) → ((t : ℕ) → t < length tasks → is_among t (order_of tasks) ≡ true) → Solves (need_step c) tasks (order_of tasks) f
    → (t p : ℕ) → t < length tasks → (f t p ≡ true) ↔ NeedsCode tasks t p c
needs_exact c tasks f reaches solved t p l = (sound t p (reaches t l), (λ h. sym (at_code_same c f t p) ∙ h (at_code c f) closed))
  where
    equal : (t : ℕ) (task : TaskValue) → slice_get tasks t ≡ Some task → (p : ℕ) → f t p ≡ need_step c f task p
    equal t task e p = solved.equal t task (reaches t (slice_get_within tasks t task e)) e p

    has_given : (t p code : ℕ) (task : TaskValue) → slice_get tasks t ≡ Some task → is_given (at_code c f) p code task.some task.deps ≡ true → (code ≡ c) ⊎ (code ≢ c) → at_code c f t p code ≡ true
    has_given t p code task e h (inl k) =
        let same : is_given (at_code c f) p code task.some task.deps ≡ is_given (λ t q code. f t q) p code task.some task.deps
        = given_same (at_code c f) (λ t q code. f t q) p code task.some task.deps (λ u m. ap (at_code c f u p) k ∙ at_code_same c f u p) in
        let here : is_given (λ t q code. f t q) p code task.some task.deps ≡ is_given (λ t q code. f t q) p c task.some task.deps
        = ap (λ (x : ℕ). is_given (λ t q code. f t q) p x task.some task.deps) k in
        ap (at_code c f t p) k ∙ (at_code_same c f t p ∙ (equal t task e p ∙ (sym here ∙ (sym same ∙ h))))
    has_given t p code task e h (inr k) = at_code_other c code f t p k

    closed : IsClosed tasks (at_code c f)
    closed = record { has_given = λ t p code task e h. has_given t p code task e h (cases_eq code c) }

    keeps : (u : ℕ) (task : TaskValue) (p : ℕ) → slice_get tasks u ≡ Some task → ((t : ℕ) → names task.deps t ≡ true → f t p ≡ true → NeedsCode tasks t p c) → need_step c f task p ≡ true → NeedsCode tasks u p c
    keeps u task p e before h = λ sets k. k.has_given u p c task e (given_weaker (λ t q code. f t q) sets p c task.some task.deps (λ t m a. before t m a sets k) h)

    sound : (u p : ℕ) → is_among u (order_of tasks) ≡ true → f u p ≡ true → NeedsCode tasks u p c
    sound = solved_by (need_step c) tasks f (λ u p. NeedsCode tasks u p c) solved keeps

-- The sets of two tasks in two tables have a task in common.
abbrev Faces : (a b : List TaskSet) → (t u : ℕ) → Type 0
Faces a b t u = (p : ℕ) × (has (get_or a t (record { low = 0; high = 0 })) p ≡ true) × (has (get_or b u (record { low = 0; high = 0 })) p ≡ true)

-- If the tables are those of the tasks, tasks that face each other are exclusive.
pub exclusive_when : (tasks : List TaskValue) (n : Needs) (t u : ℕ) → IsNeedsOf n tasks → length n.zero ≡ 256 → length n.one ≡ 256 → t < 256 → u < 256 → t < length tasks → u < length tasks → t ≢ u
    → Faces n.zero n.one t u ⊎ Faces n.one n.zero t u → Exclusive tasks t u
exclusive_when tasks n t u is z o v w k l differ (inl h) = (
  differ,
  h.0,
  inl ((is.zero t h.0 k).0 (row_at n.zero t h.0 (record { low = 0; high = 0 }) (omega arith) ∙ h.1), (is.one u h.0 l).0 (row_at n.one u h.0 (record { low = 0; high = 0 }) (omega arith) ∙ h.2)),
)
exclusive_when tasks n t u is z o v w k l differ (inr h) = (
  differ,
  h.0,
  inr ((is.one t h.0 k).0 (row_at n.one t h.0 (record { low = 0; high = 0 }) (omega arith) ∙ h.1), (is.zero u h.0 l).0 (row_at n.zero u h.0 (record { low = 0; high = 0 }) (omega arith) ∙ h.2)),
)

-- Exclusive tasks face each other.
pub exclusive_in : (tasks : List TaskValue) (n : Needs) (t u : ℕ) → IsNeedsOf n tasks → length n.zero ≡ 256 → length n.one ≡ 256 → t < 256 → u < 256 → t < length tasks → u < length tasks
    → Exclusive tasks t u → Faces n.zero n.one t u ⊎ Faces n.one n.zero t u
exclusive_in tasks n t u is z o v w k l h = ⊎_elim
    (λ (c : NeedsCode tasks t h.1 0 × NeedsCode tasks u h.1 1).
    inl (h.1, sym (row_at n.zero t h.1 (record { low = 0; high = 0 }) (omega arith)) ∙ (is.zero t h.1 k).1 c.0, sym (row_at n.one u h.1 (record { low = 0; high = 0 }) (omega arith)) ∙ (is.one u h.1 l).1 c.1))
    (λ (c : NeedsCode tasks t h.1 1 × NeedsCode tasks u h.1 0).
    inr (h.1, sym (row_at n.one t h.1 (record { low = 0; high = 0 }) (omega arith)) ∙ (is.one t h.1 k).1 c.0, sym (row_at n.zero u h.1 (record { low = 0; high = 0 }) (omega arith)) ∙ (is.zero u h.1 l).1 c.1))
    h.2
