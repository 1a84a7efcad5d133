-- Steps of a seat that settles tasks, on their counters.
use Rattle.std.proofs.Common.{◌≡◌, ℕ, ◌+◌, ◌-◌, ◌%◌, ◌^◌, true, false, cond, eqb, List, [], ◌∷◌, ◌++◌, Contains, get_or, set, sym, refl, ap, subst, arith, Some, slice_get}
use Rattle.std.specs.Int.Bits.{bit_or}
use Rattle.std.proofs.lemmas.Option.{get_or_from_slice_get}
use mathlib.Core.Option.{none, some}
use lib.ListN.{get_elem?}
use Rattle.atomic_table.specs.Table.{step, Allows}
use Rattle.plural_map.specs.declared.outcome.Outcome.{Outcome}
use Rattle.plural_order.specs.TaskGraph.{decision_by}
use Rattle.plural_counters.specs.Counters.{IsSound}
use Rattle.plural_counters.specs.Steps.{tell_first, tell_next, on_decision}
use Rattle.plural_counters.specs.declared.duty.Duty.{Duty}
use Rattle.plural_counters.specs.declared.duty.Duty.TheVariants.{Flag, Count, Close, Tell, Decide, Arm}
use Rattle.plural_rule.specs.Opening.{Opening, graph_in, ends_of, edges_of, outcome_of}
use Rattle.plural_rule.specs.Layout.{alloc_at, flags_at, left_at, state_at, open_deps_at}
use Rattle.plural_rule.specs.Kept.{Kept, duties}
use Rattle.plural_rule.specs.Steps.{gives_way, armed}
use Rattle.plural_rule.specs.declared.view.View.{View}
use Rattle.plural_rule.specs.declared.view.Role.TheVariants.{Seat}
use Rattle.plural_rule.proofs.Places.{set_here}
use Rattle.plural_rule.proofs.SettlingLaws.{duties_sound, marks_end, counts_instance, loads_flags, marks_dependency, counts_dependency, loads_state, arms_task}
use Rattle.plural_words.specs.Settling.{settled, armed_now}
use Rattle.plural_words.specs.Tells.{Holds, Token, TellsMark, TellsCount, TellsFlags, TellsMarkEdge, TellsCountEdge, TellsState, TellsArm}
use Rattle.plural_words.proofs.Moves.{loads, writes}
use Rattle.plural_words.proofs.Owed.{parted}

-- The duties of a view that was set are sound.
sound : (o : Opening) (ws : List ℕ) (views : List View) (id : ℕ) (v w : View) → Kept o ws (set views id w) → get_elem? views id ≡ some v → IsSound (graph_in o) (duties w)
sound o ws views id v w kept at = duties_sound o ws (set views id w) id w kept (set_here views id v w at)

module _ (o : Opening) (n id : ℕ) (m : Token) (core : ℕ) (is : m.0.opening ≡ o) (role : m.0.role ≡ Seat core) where
  abbrev p : Opening
  p = m.0.opening

  -- ---- the instances of a task

  -- The bits of an end join the flags.
  pub mark_allowed : (t k bits i : ℕ) → i ≡ flags_at o.program t → Contains m.0.owes (Flag t k) → bits ≡ ends_of o t k
      → Allows (Holds o) n id m i (λ y. bit_or y bits) (TellsMark t k (step n i bits 0 none) m)
  mark_allowed t k bits i at owes ends =
      let P : Opening → Type 0 = λ x. bits ≡ ends_of x t k → Allows (Holds x) n id m (flags_at x.program t) (λ y. bit_or y bits) (TellsMark t k (step n (flags_at x.program t) bits 0 none) m) in
      let Q : ℕ → Type 0 = λ j. Allows (Holds o) n id m j (λ y. bit_or y bits) (TellsMark t k (step n j bits 0 none) m) in
      let j : ℕ = flags_at p.program t in
      let part = parted (Flag t k) m.0.owes owes in
      let new = Count t k ∷ [] in
      let w : View = settled m.0 (Flag t k) new in
      let own : P p = λ e. writes p n id m j (TellsMark t k (step n j bits 0 none) m) (λ y. bit_or y bits) (λ ws views kept there few.
      let one = marks_end p ws views id m.0 core kept there role t k part.first part.rest part.all in
      let after = subst (λ (b : ℕ). Kept p (set ws j (bit_or (get_or ws j 0) b)) (set views id w)) (sym e)
      (subst (λ (l : List Duty). Kept p (set ws j (bit_or (get_or ws j 0) (ends_of p t k))) (set views id (gives_way m.0 new l))) (sym part.others) one) in
      (w, after, (refl, sound p (set ws j (bit_or (get_or ws j 0) bits)) views id m.0 w after there))) in
      subst Q (sym at) (subst P is own ends)

  -- An instance is counted off.
  pub count_allowed : (t k i : ℕ) → i ≡ left_at o.program t → Contains m.0.owes (Count t k)
      → Allows (Holds o) n id m i (λ y. (y + (2 ^ 64 - 1)) % 2 ^ 64) (TellsCount t k (step n i 1 0 none) m)
  count_allowed t k i at owes =
      let P : Opening → Type 0 = λ x. Allows (Holds x) n id m (left_at x.program t) (λ y. (y + (2 ^ 64 - 1)) % 2 ^ 64) (TellsCount t k (step n (left_at x.program t) 1 0 none) m) in
      let Q : ℕ → Type 0 = λ j. Allows (Holds o) n id m j (λ y. (y + (2 ^ 64 - 1)) % 2 ^ 64) (TellsCount t k (step n j 1 0 none) m) in
      let j : ℕ = left_at p.program t in
      let part = parted (Count t k) m.0.owes owes in
      let own : P p = writes p n id m j (TellsCount t k (step n j 1 0 none) m) (λ y. (y + (2 ^ 64 - 1)) % 2 ^ 64) (λ ws views kept there few.
      let left : ℕ = get_or ws j 0 in
      let new = cond (eqb left 1) (Close t ∷ []) [] in
      let w : View = settled m.0 (Count t k) new in
      let one = counts_instance p ws views id m.0 core kept there role t k part.first part.rest part.all in
      let value : (left + (2 ^ 64 - 1)) % 2 ^ 64 ≡ left - 1 = omega (arith, one.some_left, few) in
      let after = subst (λ (y : ℕ). Kept p (set ws j y) (set views id w)) (sym value)
      (subst (λ (l : List Duty). Kept p (set ws j (left - 1)) (set views id (gives_way m.0 new l))) (sym part.others) one.kept) in
      (w, after, (refl, sound p (set ws j ((left + (2 ^ 64 - 1)) % 2 ^ 64)) views id m.0 w after there))) in
      subst Q (sym at) (subst P is own)

  -- The flags of a task to be closed are loaded.
  pub flags_allowed : (t i : ℕ) → i ≡ flags_at o.program t → Contains m.0.owes (Close t)
      → Allows (Holds o) n id m i (λ y. y) (TellsFlags t (step n i 0 0 none) m)
  flags_allowed t i at owes =
      let P : Opening → Type 0 = λ x. Allows (Holds x) n id m (flags_at x.program t) (λ y. y) (TellsFlags t (step n (flags_at x.program t) 0 0 none) m) in
      let Q : ℕ → Type 0 = λ j. Allows (Holds o) n id m j (λ y. y) (TellsFlags t (step n j 0 0 none) m) in
      let j : ℕ = flags_at p.program t in
      let part = parted (Close t) m.0.owes owes in
      let new = tell_first ((graph_in p).successors t) t (outcome_of p t) in
      let w : View = settled m.0 (Close t) new in
      let own : P p = loads p n id m j (TellsFlags t (step n j 0 0 none) m) (λ ws views kept there.
      let one = loads_flags p ws views id m.0 core kept there role t part.first part.rest part.all in
      let after = subst (λ (l : List Duty). Kept p ws (set views id (gives_way m.0 new l))) (sym part.others) one.kept in
      (w, after, (refl, sound p ws views id m.0 w after there, one.outcome))) in
      subst Q (sym at) (subst P is own)

  -- ---- the dependencies on a task

  -- The bits of a dependency join the state.
  pub mark_edge_allowed : (t : ℕ) (outcome : Outcome) (e u bits i : ℕ) → i ≡ state_at o.program u → Contains m.0.owes (Tell t outcome e false) → slice_get ((graph_in o).successors t) e ≡ Some u → bits ≡ edges_of o t u
      → Allows (Holds o) n id m i (λ y. bit_or y bits) (TellsMarkEdge t outcome e (step n i bits 0 none) m)
  mark_edge_allowed t outcome e u bits i at owes place edges =
      let P : Opening → Type 0 = λ x. slice_get ((graph_in x).successors t) e ≡ Some u → bits ≡ edges_of x t u → Allows (Holds x) n id m (state_at x.program u) (λ y. bit_or y bits) (TellsMarkEdge t outcome e (step n (state_at x.program u) bits 0 none) m) in
      let Q : ℕ → Type 0 = λ j. Allows (Holds o) n id m j (λ y. bit_or y bits) (TellsMarkEdge t outcome e (step n j bits 0 none) m) in
      let j : ℕ = state_at p.program u in
      let part = parted (Tell t outcome e false) m.0.owes owes in
      let new = Tell t outcome e true ∷ [] in
      let w : View = settled m.0 (Tell t outcome e false) new in
      let own : P p = λ h q. writes p n id m j (TellsMarkEdge t outcome e (step n j bits 0 none) m) (λ y. bit_or y bits) (λ ws views kept there few.
      let one = marks_dependency p ws views id m.0 core kept there role t outcome e u part.first part.rest part.all h in
      let after = subst (λ (b : ℕ). Kept p (set ws j (bit_or (get_or ws j 0) b)) (set views id w)) (sym q)
      (subst (λ (l : List Duty). Kept p (set ws j (bit_or (get_or ws j 0) (edges_of p t u))) (set views id (gives_way m.0 new l))) (sym part.others) one) in
      (w, after, (refl, sound p (set ws j (bit_or (get_or ws j 0) bits)) views id m.0 w after there))) in
      subst Q (sym at) (subst P is own place edges)

  -- A dependency is counted off.
  pub count_edge_allowed : (t : ℕ) (outcome : Outcome) (e u i : ℕ) → i ≡ open_deps_at o.program u → Contains m.0.owes (Tell t outcome e true) → slice_get ((graph_in o).successors t) e ≡ Some u
      → Allows (Holds o) n id m i (λ y. (y + (2 ^ 64 - 1)) % 2 ^ 64) (TellsCountEdge t outcome e (step n i 1 0 none) m)
  count_edge_allowed t outcome e u i at owes place =
      let P : Opening → Type 0 = λ x. slice_get ((graph_in x).successors t) e ≡ Some u → Allows (Holds x) n id m (open_deps_at x.program u) (λ y. (y + (2 ^ 64 - 1)) % 2 ^ 64) (TellsCountEdge t outcome e (step n (open_deps_at x.program u) 1 0 none) m) in
      let Q : ℕ → Type 0 = λ j. Allows (Holds o) n id m j (λ y. (y + (2 ^ 64 - 1)) % 2 ^ 64) (TellsCountEdge t outcome e (step n j 1 0 none) m) in
      let j : ℕ = open_deps_at p.program u in
      let part = parted (Tell t outcome e true) m.0.owes owes in
      let own : P p = λ h. writes p n id m j (TellsCountEdge t outcome e (step n j 1 0 none) m) (λ y. (y + (2 ^ 64 - 1)) % 2 ^ 64) (λ ws views kept there few.
      let left : ℕ = get_or ws j 0 in
      let N : ℕ → List Duty = λ x. cond (eqb left 1) (Decide x ∷ []) [] ++ tell_next ((graph_in p).successors t) t outcome e in
      let w : View = settled m.0 (Tell t outcome e true) (N u) in
      let one = counts_dependency p ws views id m.0 core kept there role t outcome e u part.first part.rest part.all h in
      let value : (left + (2 ^ 64 - 1)) % 2 ^ 64 ≡ left - 1 = omega (arith, one.some_open, few) in
      let after = subst (λ (y : ℕ). Kept p (set ws j y) (set views id w)) (sym value)
      (subst (λ (l : List Duty). Kept p (set ws j (left - 1)) (set views id (gives_way m.0 (N u) l))) (sym part.others) one.kept) in
      let successor : get_or ((graph_in p).successors t) e 0 ≡ u = get_or_from_slice_get ((graph_in p).successors t) e u 0 h in
      (w, after, (ap (λ (x : ℕ). let a : Token = (settled m.0 (Tell t outcome e true) (N x), m.1) in a) (sym successor), sound p (set ws j ((left + (2 ^ 64 - 1)) % 2 ^ 64)) views id m.0 w after there))) in
      subst Q (sym at) (subst P is own place)

  -- ---- a task whose dependencies are counted

  -- The state of a task to be decided is loaded.
  pub state_allowed : (u i : ℕ) → i ≡ state_at o.program u → Contains m.0.owes (Decide u)
      → Allows (Holds o) n id m i (λ y. y) (TellsState u (step n i 0 0 none) m)
  state_allowed u i at owes =
      let P : Opening → Type 0 = λ x. Allows (Holds x) n id m (state_at x.program u) (λ y. y) (TellsState u (step n (state_at x.program u) 0 0 none) m) in
      let Q : ℕ → Type 0 = λ j. Allows (Holds o) n id m j (λ y. y) (TellsState u (step n j 0 0 none) m) in
      let j : ℕ = state_at p.program u in
      let part = parted (Decide u) m.0.owes owes in
      let new = on_decision (graph_in p) u (decision_by (graph_in p) u) in
      let w : View = settled m.0 (Decide u) new in
      let own : P p = loads p n id m j (TellsState u (step n j 0 0 none) m) (λ ws views kept there.
      let one = loads_state p ws views id m.0 core kept there role u part.first part.rest part.all in
      let after = subst (λ (l : List Duty). Kept p ws (set views id (gives_way m.0 new l))) (sym part.others) one.kept in
      (w, after, (refl, sound p ws views id m.0 w after there, one.decision))) in
      subst Q (sym at) (subst P is own)

  -- The task is armed.
  pub arm_allowed : (t i : ℕ) → i ≡ alloc_at o.program t → Contains m.0.owes (Arm t)
      → Allows (Holds o) n id m i (λ _. 1) (λ _. TellsArm t (step n i 1 0 none) m 1)
  arm_allowed t i at owes =
      let P : Opening → Type 0 = λ x. Allows (Holds x) n id m (alloc_at x.program t) (λ _. 1) (λ _. TellsArm t (step n (alloc_at x.program t) 1 0 none) m 1) in
      let Q : ℕ → Type 0 = λ j. Allows (Holds o) n id m j (λ _. 1) (λ _. TellsArm t (step n j 1 0 none) m 1) in
      let j : ℕ = alloc_at p.program t in
      let part = parted (Arm t) m.0.owes owes in
      let w : View = armed_now m.0 t in
      let own : P p = writes p n id m j (λ _. TellsArm t (step n j 1 0 none) m 1) (λ _. 1) (λ ws views kept there few.
      let one = arms_task p ws views id m.0 core kept there role t part.first part.rest part.all in
      let after = subst (λ (l : List Duty). Kept p (set ws j 1) (set views id (armed m.0 t l))) (sym part.others) one.kept in
      (w, after, (refl, sound p (set ws j 1) views id m.0 w after there, one.unarmed))) in
      subst Q (sym at) (subst P is own)
