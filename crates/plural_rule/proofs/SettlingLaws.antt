-- The steps that settle a task, and arm the next ones, keep the rule.
use Rattle.std.proofs.Common.{◌≡◌, ℕ, ◌+◌, ◌-◌, ◌<◌, ◌≤◌, ◌==◌, cond, false, true, List, [], ◌∷◌, ◌++◌, set, Contains, sym, refl, ap, ◌∙◌, subst, inr, arith, length-set, get_or-set_other, Some, slice_get}
use mathlib.Core.Logic.{dite}
use native.Mathlib.Decide.{ℕ_discrete}
use mathlib.Core.Option.{some}
use lib.ListN.{get_elem?}
use Rattle.std.specs.Int.Bits.{bit_or}
use Rattle.std.proofs.lemmas.List.Elements.{All-contains, Contains-append_left, Contains-append_right}
use Rattle.plural_order.specs.Sums.{times}
use Rattle.plural_order.specs.TaskGraph.{decision_by}
use Rattle.plural_counters.specs.Counters.{Fits, Counted, duties_of}
use Rattle.plural_counters.specs.Duties.{unarmed_of}
use Rattle.plural_counters.specs.Steps.{Replaces, IsSame, as_duties, tell_first, tell_next, on_decision}
use Rattle.plural_counters.specs.declared.duty.Duty.{Duty}
use Rattle.plural_counters.specs.declared.duty.Duty.TheVariants.{Flag, Count, Close, Tell, Decide, Arm}
use Rattle.plural_counters.proofs.Sums.{one_same, sign_no, term_in}
use Rattle.plural_counters.proofs.Duties.{times_next, times_take}
use Rattle.plural_counters.proofs.Instances.{mark, count, load_flags, pending_done}
use Rattle.plural_counters.proofs.Edges.{mark_edge, count_edge}
use Rattle.plural_counters.proofs.Decisions.{load_state, arm}
use Rattle.plural_counters.proofs.Views.{one_duty_replaces, duty_there}
use Rattle.plural_counters.proofs.SoundViews.{views_are_sound}
use Rattle.plural_rule.specs.Opening.{Opening, graph_in, ends_of, edges_of, outcome_of, task_count, quota_of}
use Rattle.plural_rule.specs.Layout.{counters_at, alloc_at, flags_at, left_at, state_at, open_deps_at, clock_at}
use Rattle.plural_rule.specs.Content.{content}
use Rattle.plural_rule.specs.Rule.{IsArmed}
use Rattle.plural_rule.specs.Steps.{gives_way, armed}
use Rattle.plural_rule.specs.Kept.{duties, counters, Kept}
use Rattle.plural_rule.specs.Laws.{MarksEnd, CountsInstance, LoadsFlags, MarksDependency, CountsDependency, LoadsState, ArmsTask, DutiesSound}
use Rattle.plural_rule.specs.declared.view.View.{View}
use Rattle.plural_rule.specs.declared.view.Role.TheVariants.{Seat}
use Rattle.plural_rule.proofs.Writes.{SameAlloc, high_mem, high_done, high_fields, alloc_here, alloc_else, alloc_clock}
use Rattle.plural_rule.proofs.CounterWrites.{same_flags, same_left, same_state, same_open, same_alloc}
use Rattle.plural_rule.proofs.Live.{done_armed}
use Rattle.plural_rule.proofs.Arms.{settles, arms}
use Rattle.plural_rule.proofs.InstanceLaws.{narrow_high}

-- The duties of each view are sound.
pub duties_sound : DutiesSound
duties_sound o ws views id v k at = views_are_sound duties (graph_in o) (counters (content o.program ws)) views id v k.counted at

-- A task to be armed isn't.
arm_unarmed : (o : Opening) (ws : List ℕ) (views : List View) → Kept o ws views → (t : ℕ) → t < task_count o.program → Contains (duties_of duties views) (Arm t) → (content o.program ws).alloc t ≡ 0
arm_unarmed o ws views k t small there = let n = (content o.program ws).alloc t in
    sign_no n (omega (arith, term_in (unarmed_of t) (duties_of duties views) (Arm t) there, one_same t t refl, k.counted.unarmed t small))

-- Of a task that isn't armed nothing is done.
unarmed_undone : (o : Opening) (ws : List ℕ) (views : List View) → Kept o ws views → (t : ℕ) → t < task_count o.program → (content o.program ws).alloc t ≡ 0 → (n : ℕ) → n < quota_of o.program t → (content o.program ws).done t n ≡ 0
unarmed_undone o ws views k t small none n few = let c = content o.program ws in
    dite (ℕ_discrete (c.done t n) 0) (λ z. z) (λ ne. absurd (omega (arith, none, done_armed o c views t n k.rule.held (small, few) (omega (arith, ne)))))

-- What stands at a place of a list is in it.
stands_in : (l : List ℕ) (e u : ℕ) → slice_get l e ≡ Some u → 1 ≤ times u l
stands_in l e u place = omega (arith, times_next l e u u place, one_same u u refl, times_take l (e + 1) u)

module _ (o : Opening) (ws : List ℕ) (views : List View) (id : ℕ) (v : View) (core : ℕ) (k : Kept o ws views) (at : get_elem? views id ≡ some v) (seat : v.role ≡ Seat core) (duty : Duty) (first rest : List Duty) (owes : v.owes ≡ first ++ duty ∷ rest) where
  -- The duty is one of all views.
  there : Contains (duties_of duties views) duty
  there = duty_there duties views id v duty at (subst (λ (l : List Duty). Contains (l ++ as_duties v.told) duty) (sym owes)
      (Contains-append_left (first ++ duty ∷ rest) (as_duties v.told) duty (Contains-append_right first (duty ∷ rest) duty (0, omega arith, refl))))

  -- It fits the graph and the counters.
  fits : Fits (graph_in o) (counters (content o.program ws)) duty
  fits = All-contains (Fits (graph_in o) (counters (content o.program ws))) (duties_of duties views) duty k.counted.fits there

  -- It gives way to others.
  replaced : (new : List Duty) → Replaces (duties_of duties views) (duties_of duties (set views id (gives_way v new (first ++ rest)))) (duty ∷ []) new
  replaced new = one_duty_replaces duties views id v (gives_way v new (first ++ rest)) duty new first rest v.told at (ap (λ (l : List Duty). l ++ as_duties v.told) owes) refl

  -- A step that writes a counter other than alloc.
  written : (new : List Duty) (i x : ℕ) → counters_at o.program ≤ i → (content o.program (set ws i x)).clock ≡ (content o.program ws).clock → SameAlloc o.program (content o.program ws) (content o.program (set ws i x))
      → Counted duties (graph_in o) (counters (content o.program (set ws i x))) (set views id (gives_way v new (first ++ rest))) → Kept o (set ws i x) (set views id (gives_way v new (first ++ rest)))
  written new i x high clock alloc counted = let p = o.program in record {
    long = length-set ws i x ∙ k.long;
    narrow = narrow_high p.map.words ws x i (omega (arith, high)) k.narrow;
    rule = settles o (content p ws) (content p (set ws i x)) views id v core new (first ++ rest) at k.rule seat (high_mem p ws x i high) clock alloc (high_done p ws x i high) (high_fields p ws x i high);
    counted = counted;
  }

  -- A step that writes nothing.
  loaded : (new : List Duty) → Counted duties (graph_in o) (counters (content o.program ws)) (set views id (gives_way v new (first ++ rest))) → Kept o ws (set views id (gives_way v new (first ++ rest)))
  loaded new counted = record {
    long = k.long;
    narrow = k.narrow;
    rule = settles o (content o.program ws) (content o.program ws) views id v core new (first ++ rest) at k.rule seat (λ a h. refl) refl (λ t h. refl) (λ t l i. refl) (λ t l f i h. refl);
    counted = counted;
  }

  same_here : IsSame (graph_in o) (counters (content o.program ws)) (counters (content o.program ws))
  same_here = record { alloc = λ t h. refl; done = λ t n h i. refl; flags = λ t h. refl; left = λ t h. refl; state = λ t h. refl; open_deps = λ t h. refl }

-- The bits of an end join the flags of its task.
pub marks_end : MarksEnd
marks_end o ws views id v core k at seat t n first rest owes =
    let p = o.program in let c = content p ws in let i = flags_at p t in let x : ℕ = bit_or (c.flags t) (ends_of o t n) in
    let small = (fits o ws views id v core k at seat (Flag t n) first rest owes).0 in
    written o ws views id v core k at seat (Flag t n) first rest owes (Count t n ∷ []) i x (omega arith)
    (get_or-set_other ws i (clock_at p) x 0 (λ e. omega (arith, small))) (λ u h. get_or-set_other ws i (alloc_at p u) x 0 (λ e. omega arith))
    (mark (graph_in o) (counters c) _ t n k.counted _ (counters (content p (set ws i x))) (replaced o ws views id v core k at seat (Flag t n) first rest owes (Count t n ∷ [])) (same_flags o ws x t small k.long))

-- An instance is counted.
pub counts_instance : CountsInstance
counts_instance o ws views id v core k at seat t n first rest owes =
    let p = o.program in let c = content p ws in let i = left_at p t in let x : ℕ = c.left t - 1 in let duty = Count t n in
    let fit = fits o ws views id v core k at seat duty first rest owes in let small = fit.0 in
    let new = cond (c.left t == 1) (Close t ∷ []) [] in
    let out : 1 ≤ c.alloc t = done_armed o c views t n k.rule.held fit (pending_done (graph_in o) (counters c) _ t n k.counted (inr (there o ws views id v core k at seat duty first rest owes))).0 in
    let off = count (graph_in o) (counters c) _ t n k.counted (there o ws views id v core k at seat duty first rest owes) out in
    record {
      some_left = off.some_left;
      kept = written o ws views id v core k at seat duty first rest owes new i x (omega arith)
          (get_or-set_other ws i (clock_at p) x 0 (λ e. omega (arith, small))) (λ u h. get_or-set_other ws i (alloc_at p u) x 0 (λ e. omega arith))
          (off.keeps _ (counters (content p (set ws i x))) (replaced o ws views id v core k at seat duty first rest owes new) (same_left o ws x t small k.long));
    }

-- A task is closed.
pub loads_flags : LoadsFlags
loads_flags o ws views id v core k at seat t first rest owes =
    let c = content o.program ws in let duty = Close t in
    let fit = fits o ws views id v core k at seat duty first rest owes in
    let may = k.rule.tasks.armed t fit.0 fit.1 in
    let closed = load_flags (graph_in o) (counters c) _ t k.counted (there o ws views id v core k at seat duty first rest owes) (record { runs = may.runs; earlier = may.past }) in
    let new = tell_first ((graph_in o).successors t) t (outcome_of o t) in
    record {
      outcome = closed.outcome;
      kept = loaded o ws views id v core k at seat duty first rest owes new (closed.keeps _ (counters c) (replaced o ws views id v core k at seat duty first rest owes new) (same_here o ws views id v core k at seat duty first rest owes));
    }

-- The bits of a dependency join the state of its successor.
pub marks_dependency : MarksDependency
marks_dependency o ws views id v core k at seat t outcome e u first rest owes place =
    let p = o.program in let c = content p ws in let i = state_at p u in let x : ℕ = bit_or (c.state u) (edges_of o t u) in let duty = Tell t outcome e false in
    let small : u < task_count p = k.counted.graph.successor_task t u (stands_in ((graph_in o).successors t) e u place) in
    let new = Tell t outcome e true ∷ [] in
    written o ws views id v core k at seat duty first rest owes new i x (omega arith)
    (get_or-set_other ws i (clock_at p) x 0 (λ q. omega (arith, small))) (λ y h. get_or-set_other ws i (alloc_at p y) x 0 (λ q. omega arith))
    (mark_edge (graph_in o) (counters c) _ t outcome e u k.counted place _ (counters (content p (set ws i x))) (replaced o ws views id v core k at seat duty first rest owes new) (same_state o ws x u small k.long))

-- A dependency is counted.
pub counts_dependency : CountsDependency
counts_dependency o ws views id v core k at seat t outcome e u first rest owes place =
    let p = o.program in let c = content p ws in let i = open_deps_at p u in let x : ℕ = c.open_deps u - 1 in let duty = Tell t outcome e true in
    let off = count_edge (graph_in o) (counters c) _ t outcome e u k.counted (there o ws views id v core k at seat duty first rest owes) place in
    let small = off.task in
    let new = cond (c.open_deps u == 1) (Decide u ∷ []) [] ++ tell_next ((graph_in o).successors t) t outcome e in
    record {
      some_open = off.some_open;
      kept = written o ws views id v core k at seat duty first rest owes new i x (omega arith)
          (get_or-set_other ws i (clock_at p) x 0 (λ q. omega (arith, small))) (λ y h. get_or-set_other ws i (alloc_at p y) x 0 (λ q. omega arith))
          (off.keeps _ (counters (content p (set ws i x))) (replaced o ws views id v core k at seat duty first rest owes new) (same_open o ws x u small k.long));
    }

-- A task is decided.
pub loads_state : LoadsState
loads_state o ws views id v core k at seat u first rest owes =
    let c = content o.program ws in let duty = Decide u in
    let decided = load_state (graph_in o) (counters c) _ u k.counted (there o ws views id v core k at seat duty first rest owes) in
    let new = on_decision (graph_in o) u (decision_by (graph_in o) u) in
    record {
      decision = decided.decision;
      kept = loaded o ws views id v core k at seat duty first rest owes new (decided.keeps _ (counters c) (replaced o ws views id v core k at seat duty first rest owes new) (same_here o ws views id v core k at seat duty first rest owes));
    }

-- A task is armed.
pub arms_task : ArmsTask
arms_task o ws views id v core k at seat t first rest owes =
    let p = o.program in let c = content p ws in let i = alloc_at p t in let d = content p (set ws i 1) in let duty = Arm t in
    let fit = fits o ws views id v core k at seat duty first rest owes in let small = fit.0 in
    let undone = unarmed_undone o ws views k t small (arm_unarmed o ws views k t small (there o ws views id v core k at seat duty first rest owes)) in
    let arming = arm (graph_in o) (counters c) _ t k.counted (there o ws views id v core k at seat duty first rest owes) undone in
    let may : IsArmed o c.done t = record { runs = arming.may_run.runs; past = arming.may_run.earlier } in
    let high : counters_at p ≤ i = omega arith in
    record {
      unarmed = omega (arith, k.rule.found.most id v at t small, arming.unarmed);
      kept = record {
        long = length-set ws i 1 ∙ k.long;
        narrow = narrow_high p.map.words ws 1 i (omega arith) k.narrow;
        rule = arms o c d views id v core t (first ++ rest) at k.rule seat small arming.unarmed may (alloc_here p ws 1 t small k.long) (λ u ne. alloc_else p ws 1 t small u ne) (high_mem p ws 1 i high) (alloc_clock p ws 1 t small) (high_done p ws 1 i high) (high_fields p ws 1 i high);
        counted = arming.keeps _ (counters d) (one_duty_replaces duties views id v (armed v t (first ++ rest)) (Arm t) [] first rest v.told at (ap (λ (l : List Duty). l ++ as_duties v.told) owes) refl) (same_alloc o ws 1 t small k.long);
      };
    }
