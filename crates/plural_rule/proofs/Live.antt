-- Instances under way: no two share a word that one may write, and each begins and ends as in the serial run.
use Rattle.std.proofs.Common.{◌≡◌, ℕ, ◌<◌, ◌≤◌, List, length, get_or, sym, ap, ◌∙◌, ⊎_elim, arith, true, false, lt-ltb, le-ltb}
use mathlib.Core.Logic.{dite}
use native.Mathlib.Decide.{ℕ_discrete}
use mathlib.Core.Option.{some}
use lib.ListN.{get_elem?}
use Rattle.std.proofs.lemmas.Bool.{both_ways, cases_Bool, false_from_ne_true}
use Rattle.plural_serial.specs.Instances.{Inst as Instance, same}
use Rattle.plural_order.specs.World.{leaves, value_at}
use Rattle.plural_order.specs.Laws.{PastDone, NoneAfter, value_now}
use Rattle.plural_order.specs.Sums.{sum_over}
use Rattle.plural_order.proofs.Instances.{same_is}
use Rattle.plural_order.proofs.WorldLaws.{lone_writer, value_at_start, store_by_store}
use Rattle.plural_counters.proofs.Sums.{term_at, sum_le, sign_some, sign_no}
use Rattle.plural_rule.specs.Opening.{Opening, HasSerialRun, IsInstance, Runs, MayWrite, MayRead, world_in, stores_of}
use Rattle.plural_rule.specs.Content.{Content}
use Rattle.plural_rule.specs.Stages.{holds, has_begun}
use Rattle.plural_rule.specs.Rule.{IsArmed, TasksInTurn, HeldOnce, is_done, NoWriter}
use Rattle.plural_rule.specs.declared.view.View.{View}
use Rattle.plural_rule.specs.declared.view.Stage.{Stage}
use Rattle.plural_rule.specs.declared.view.Stage.TheVariants.{Free, Got, Begun, Ended}
use Rattle.plural_rule.proofs.ViewSums.{handed_le, handed_some}

-- What has begun is held.
pub begun_held : (t k : ℕ) (s : Stage) → has_begun s t k ≤ holds s t k
begun_held t k Free = omega arith
begun_held t k (Got u l) = omega arith
begun_held t k (Begun u l start made reads) = omega arith
begun_held t k (Ended u l start end reads noted) = omega arith

-- An instance that was handed out and isn't done.
pub record IsLive (o : Opening) (c : Content) (t k : ℕ) : Type 0 where
  pub inst : IsInstance o.program t k
  pub out : 1 ≤ c.alloc t
  pub undone : c.done t k ≡ 0

-- An instance that a view holds is held by no other, and is under way.
pub held_once : (o : Opening) (c : Content) (views : List View) (id : ℕ) (v : View) (t k : ℕ) → get_elem? views id ≡ some v → HeldOnce o c views → IsInstance o.program t k → holds v.stage t k ≡ 1
    → (sum_over (λ (u : View). holds u.stage t k) views ≡ 1) × IsLive o c t k
held_once o c views id v t k at held i one =
    let sum = held t k i in let part = term_at (λ (u : View). holds u.stage t k) views id v at in let few = handed_le (c.alloc t) k in
    (omega arith, record { inst = i; out = handed_some (c.alloc t) k (omega arith); undone = sign_no (c.done t k) (omega arith) })

-- So is one that some view has begun.
pub begun_live : (o : Opening) (c : Content) (views : List View) (t k : ℕ) → HeldOnce o c views → IsInstance o.program t k → 1 ≤ sum_over (λ (u : View). has_begun u.stage t k) views → IsLive o c t k
begun_live o c views t k held i some_begun =
    let sum = held t k i in let few = handed_le (c.alloc t) k in
    let less = sum_le (λ (u : View). has_begun u.stage t k) (λ (u : View). holds u.stage t k) views (λ u. begun_held t k u.stage) in
    record { inst = i; out = handed_some (c.alloc t) k (omega arith); undone = sign_no (c.done t k) (omega arith) }

-- The task of a done instance is armed.
pub done_armed : (o : Opening) (c : Content) (views : List View) (t k : ℕ) → HeldOnce o c views → IsInstance o.program t k → 0 < c.done t k → 1 ≤ c.alloc t
done_armed o c views t k held i done = let sum = held t k i in let few = handed_le (c.alloc t) k in handed_some (c.alloc t) k (omega (arith, sign_some (c.done t k) done))

-- ---- as tests

-- A done word above 0 passes the test.
pub done_yes : (done : ℕ → ℕ → ℕ) (t k : ℕ) → 0 < done t k → is_done done (t, k) ≡ true
done_yes done t k h = lt-ltb 0 (done t k) h

-- A done word of 0 fails it.
pub done_no : (done : ℕ → ℕ → ℕ) (t k : ℕ) → done t k ≡ 0 → is_done done (t, k) ≡ false
done_no done t k e = le-ltb 0 (done t k) (omega arith)

-- What passes it is above 0.
pub yes_done : (done : ℕ → ℕ → ℕ) (t k : ℕ) → is_done done (t, k) ≡ true → 0 < done t k
yes_done done t k h = dite (ℕ_discrete (done t k) 0) (λ z. absurd (both_ways (is_done done (t, k)) (done_no done t k z) h)) (λ ne. omega arith)

module _ (o : Opening) (c : Content) (run : HasSerialRun o) (tasks : TasksInTurn o c) where
  -- One under way runs, and those of the tasks before its own are done.
  pub live_runs : (t k : ℕ) → IsLive o c t k → Runs o t k
  live_runs t k live = (tasks.armed t live.inst.0 live.out).runs k live.inst.1

  -- Those that run of the tasks before its own are done.
  pub live_past : (t k : ℕ) → IsLive o c t k → PastDone (world_in o) (is_done c.done) t
  live_past t k live i ran before = done_yes c.done i.0 i.1 ((tasks.armed t live.inst.0 live.out).past i.0 i.1 ran before)

  -- Of two under way, what one may write the other may not read.
  pub live_apart : (t k u l a : ℕ) → IsLive o c t k → IsLive o c u l → same (t, k) (u, l) ≡ false → MayWrite o t k a → MayRead o u l a → ⊥
  live_apart t k u l a x y differ writes reads =
      both_ways ((world_in o).reads (u, l) a)
      (lone_writer (world_in o) run.world (is_done c.done) (t, k) (u, l) a (live_runs t k x) (live_runs u l y) differ
      (done_no c.done t k x.undone) (done_no c.done u l y.undone) (live_past t k x) (live_past u l y) writes)
      reads

  module _ (views : List View) (held : HeldOnce o c views) where
    -- Nothing that comes after one under way is armed.
    pub none_later : (t k u : ℕ) → IsLive o c t k → 1 ≤ c.alloc u → IsArmed o c.done u → (world_in o).before t u ≡ true → ⊥
    none_later t k u live out armed before = absurd (omega (arith, armed.past t k (live_runs t k live) before, live.undone))

    -- So nothing that comes after it is done.
    pub live_next : (t k : ℕ) → IsLive o c t k → NoneAfter (world_in o) (is_done c.done) t
    live_next t k live i ran before = false_from_ne_true (is_done c.done i) (λ yes.
        let inst = run.instances i.0 i.1 ran in
        let out = done_armed o c views i.0 i.1 held inst (yes_done c.done i.0 i.1 yes) in
        none_later t k i.0 live out (tasks.armed i.0 inst.0 out) before)

    -- No other instance that has begun may write a word that it may read.
    pub no_writer : (t k a : ℕ) → IsLive o c t k → MayRead o t k a → sum_over (λ (u : View). has_begun u.stage t k) views ≡ 0 → NoWriter o views a
    no_writer t k a live reads mine u l ran writes =
        dite (ℕ_discrete (sum_over (λ (x : View). has_begun x.stage u l) views) 0) (λ z. z)
        (λ ne. let other = begun_live o c views u l held (run.instances u l ran) (omega arith) in
        ⊎_elim
        (λ s. absurd (ne (ap (λ (x : Instance). sum_over (λ (v : View). has_begun v.stage x.0 x.1) views) (same_is (u, l) (t, k) s) ∙ mine)))
        (λ f. absurd (live_apart u l t k a other live f writes reads))
        (cases_Bool (same (u, l) (t, k))))

    -- The words that it may read are at its start as in the serial run.
    pub starts_as_run : (t k a : ℕ) → IsLive o c t k → MayRead o t k a → value_now (world_in o) (is_done c.done) a ≡ get_or (value_at (world_in o) (t, k) 0) a 0
    starts_as_run t k a live reads =
        value_at_start (world_in o) run.world (is_done c.done) (t, k) a (live_runs t k live) (live_past t k live) (live_next t k live) (done_no c.done t k live.undone) reads
        ∙ ap (λ (m : List ℕ). get_or m a 0) (sym (store_by_store (world_in o) run.world (t, k) (live_runs t k live)).none)

-- What an instance leaves is what its last store leaves.
pub leaves_all : (o : Opening) (t k a : ℕ) → HasSerialRun o → Runs o t k → get_or (value_at (world_in o) (t, k) (length (stores_of o t k))) a 0 ≡ leaves (world_in o) (t, k) a
unfolding leaves
leaves_all o t k a run ran = ap (λ (m : List ℕ). get_or m a 0) ((store_by_store (world_in o) run.world (t, k) ran).whole (length (stores_of o t k)) (omega arith))
