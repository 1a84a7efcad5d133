-- What a step changes: one word of the counters, and the duties of one view.
use Rattle.std.specs.Prelude.{◌≡◌, ℕ, ◌+◌, ◌<◌, ◌≤◌, ◌⊎◌, ◌==◌, nat_lt, false, cond, List, [], ◌∷◌, ◌++◌, length, map}
use Rattle.std.specs.List.{Contains}
use Rattle.plural_map.specs.declared.outcome.Outcome.{Outcome}
use Rattle.plural_map.specs.declared.outcome.Outcome.TheVariants as outcome
use Rattle.plural_map.specs.declared.outcome.Decision.{Decision}
use Rattle.plural_map.specs.declared.outcome.Decision.TheVariants as decision
use Rattle.plural_order.specs.Sums.{sum_over}
use Rattle.plural_order.specs.TaskGraph.{TaskGraph}
use Rattle.plural_counters.specs.Counters.{Counters, IsCounted}
use Rattle.plural_counters.specs.declared.duty.Duty.{Duty}
use Rattle.plural_counters.specs.declared.duty.Duty.TheVariants.{Tell, Arm, Told}

-- ---- words

-- f with n at t.
abbrev pub set_at : (f : ℕ → ℕ) → (t n : ℕ) → ℕ → ℕ
set_at f t n u = cond (u == t) n (f u)

-- f with n at (t, k).
abbrev pub set_at_pair : (f : ℕ → ℕ → ℕ) → (t k n : ℕ) → ℕ → ℕ → ℕ
set_at_pair f t k n u l = cond (u == t) (set_at (f u) k n l) (f u l)

-- The counters with n for alloc of task t.
abbrev pub with_alloc : Counters → (t n : ℕ) → Counters
with_alloc c t n = record c { alloc = set_at c.alloc t n }

-- The counters with n for done of instance k of task t.
abbrev pub with_done : Counters → (t k n : ℕ) → Counters
with_done c t k n = record c { done = set_at_pair c.done t k n }

-- The counters with n for flags of task t.
abbrev pub with_flags : Counters → (t n : ℕ) → Counters
with_flags c t n = record c { flags = set_at c.flags t n }

-- The counters with n for left of task t.
abbrev pub with_left : Counters → (t n : ℕ) → Counters
with_left c t n = record c { left = set_at c.left t n }

-- The counters with n for state of task t.
abbrev pub with_state : Counters → (t n : ℕ) → Counters
with_state c t n = record c { state = set_at c.state t n }

-- The counters with n open dependencies of task t.
abbrev pub with_open : Counters → (t n : ℕ) → Counters
with_open c t n = record c { open_deps = set_at c.open_deps t n }

-- The counters d say the same as c, of all tasks and instances of the graph.
pub record IsSame (g : TaskGraph) (c d : Counters) : Type 0 where
  pub alloc : (t : ℕ) → t < g.tasks → d.alloc t ≡ c.alloc t
  pub done : (t k : ℕ) → t < g.tasks → k < g.quota t → d.done t k ≡ c.done t k
  pub flags : (t : ℕ) → t < g.tasks → d.flags t ≡ c.flags t
  pub left : (t : ℕ) → t < g.tasks → d.left t ≡ c.left t
  pub state : (t : ℕ) → t < g.tasks → d.state t ≡ c.state t
  pub open_deps : (t : ℕ) → t < g.tasks → d.open_deps t ≡ c.open_deps t

-- ---- duties

-- The list m has the duties of l with `new` in place of `old`, in any order: each sum over them moves by what comes
-- less what goes; what goes was there; and what is there then came, or was there.
pub record Replaces (l m old new : List Duty) : Type 0 where
  pub sums : (f : Duty → ℕ) → sum_over f m + sum_over f old ≡ sum_over f l + sum_over f new
  pub part : (f : Duty → ℕ) → sum_over f old ≤ sum_over f l
  pub had : (p : Duty) → Contains old p → Contains l p
  pub kept : (p : Duty) → Contains m p → Contains new p ⊎ Contains l p

-- A step that replaces `old` by `new`, and after which the counters are e, keeps the rule.
abbrev pub Keeps : TaskGraph → List Duty → (old new : List Duty) → (e : Counters) → Type 0
Keeps g l old new e = (m : List Duty) (d : Counters) → Replaces l m old new → IsSame g e d → IsCounted g d m

-- What there is of a task that begins to be told: it is told to its first successor, or was told if it has none.
abbrev pub tell_first : (successors : List ℕ) → (t : ℕ) → Outcome → List Duty
tell_first [] t o = Told t o ∷ []
tell_first (x ∷ xs) t o = Tell t o 0 false ∷ []

-- What there is of it after its successor at place e: it is told to the next one, or was told if there is none.
abbrev pub tell_next : (successors : List ℕ) → (t : ℕ) → Outcome → (e : ℕ) → List Duty
tell_next successors t o e =
    cond (nat_lt (e + 1) (length successors)) (Tell t o (e + 1) false ∷ []) (Told t o ∷ [])

-- What there is of a task once it is decided: it is to be armed, or begins to be told as skipped or failed.
abbrev pub on_decision : TaskGraph → (u : ℕ) → Decision → List Duty
on_decision g u decision.Run = Arm u ∷ []
on_decision g u decision.Skip = tell_first (g.successors u) u outcome.Skipped
on_decision g u decision.Fail = tell_first (g.successors u) u outcome.Failed

-- ---- the two lists of a view

-- The tasks that a view was told, as duties.
abbrev pub as_duties : (told : List (ℕ × Outcome)) → List Duty
as_duties told = map (λ x. Told x.0 x.1) told

-- What of a duty is owed: all but a task that was told.
abbrev pub owed_of : Duty → List Duty
owed_of (Told t o) = []
owed_of p = p ∷ []

-- What of a duty is told: nothing, but a task that was told.
abbrev pub told_of : Duty → List (ℕ × Outcome)
told_of (Told t o) = (t, o) ∷ []
told_of p = []

-- What of these duties is owed.
abbrev pub owed_in : List Duty → List Duty
owed_in [] = []
owed_in (p ∷ l) = owed_of p ++ owed_in l

-- What of these duties is told.
abbrev pub told_in : List Duty → List (ℕ × Outcome)
told_in [] = []
told_in (p ∷ l) = told_of p ++ told_in l
