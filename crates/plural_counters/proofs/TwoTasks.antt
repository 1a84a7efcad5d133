-- Two tasks, the second after the first, with an instance each: in their run each kind of duty is owed.
use Rattle.std.proofs.Common.{◌≡◌, ℕ, zero, suc, ◌-◌, ◌<◌, ◌≤◌, ◌⊎◌, Bool, true, false, List, [], ◌∷◌, refl, sym, ap, ◌∙◌, inl, arith}
use mathlib.Core.Logic.{dite}
use native.Mathlib.Decide.{ℕ_discrete}
use Rattle.std.specs.Int.Bits.{bit_or}
use Rattle.std.proofs.lemmas.List.Elements.{All-cons}
use Rattle.plural_map.specs.declared.outcome.Outcome.TheVariants as outcome
use Rattle.plural_map.specs.declared.outcome.Decision.TheVariants as decision
use Rattle.plural_order.specs.Sums.{sum_below, times}
use Rattle.plural_order.specs.TaskGraph.{TaskGraph, IsTaskGraph, decision_by}
use Rattle.plural_counters.specs.Duties.{MayRun, IsTold}
use Rattle.plural_counters.specs.Counters.{Counters, IsCounted, first_counters}
use Rattle.plural_counters.specs.Steps.{with_alloc, with_done, with_flags, with_left, with_state, with_open}
use Rattle.plural_counters.specs.Laws.{EachDutyOwed}
use Rattle.plural_counters.specs.declared.duty.Duty.{Duty}
use Rattle.plural_counters.specs.declared.duty.Duty.TheVariants.{Flag, Count, Close, Tell, Decide, Arm, Told}
use Rattle.plural_counters.proofs.Sums.{one_le, one_else}
use Rattle.plural_counters.proofs.Parts.{all_one, one_there}
use Rattle.plural_counters.proofs.Instances.{hand_out, finish, mark, count, load_flags}
use Rattle.plural_counters.proofs.Edges.{mark_edge, count_edge}
use Rattle.plural_counters.proofs.Decisions.{load_state, arm}
use Rattle.plural_counters.proofs.Views.{front_replaced}
use Rattle.plural_counters.proofs.Openings.{first_lone, same_itself}

-- ---- the graph

abbrev successors : ℕ → List ℕ
successors zero = 1 ∷ []
successors (suc t) = []

abbrev deps : ℕ → ℕ
deps zero = 0
deps (suc u) = 1

abbrev ran : ℕ → ℕ → Bool
ran zero zero = true
ran (suc zero) zero = true
ran _ _ = false

abbrev before : ℕ → ℕ → Bool
before zero (suc zero) = true
before _ _ = false

abbrev two_tasks : TaskGraph
two_tasks = record {
  tasks = 2;
  quota = λ t. 1;
  successors = successors;
  deps = deps;
  some = λ u. false;
  ran = ran;
  before = before;
  ends = λ t k. 0;
  edges = λ t u. 4;
  outcome = λ t. outcome.Ended0;
  rank = λ t. t;
}

only_one : (t u : ℕ) → 1 ≤ times u (successors t) → (t ≡ 0) × (u ≡ 1)
only_one zero u h = (refl, dite (ℕ_discrete 1 u) (λ e. sym e) (λ ne. absurd (omega (arith, one_else 1 u ne))))
only_one (suc t) u h = absurd (omega arith)

is_graph : IsTaskGraph two_tasks
is_graph = record {
  successor_once = once;
  successor_task = λ t u h. let o = only_one t u h in omega (arith, o.1);
  rises = λ t u h. let o = only_one t u h in omega (arith, o.0, o.1);
  deps_counted = counted;
  quota_some = λ t h. omega arith;
  ran_instances = instances;
  outcome_ran = λ t h all. refl;
  runs = runs;
  skips = skips;
  fails = fails;
  before_by = by;
  before_successor = successor;
}
  where
    once : (t u : ℕ) → times u (successors t) ≤ 1
    once zero u = omega (arith, one_le 1 u)
    once (suc t) u = omega arith

    counted : (u : ℕ) → u < 2 → deps u ≡ sum_below (λ t. times u (successors t)) 2
    counted zero h = refl
    counted (suc zero) h = refl
    counted (suc (suc u)) h = absurd (omega arith)

    instances : (t k : ℕ) → ran t k ≡ true → (t < 2) × (k < 1)
    instances zero zero e = (omega arith, omega arith)
    instances (suc zero) zero e = (omega arith, omega arith)
    instances zero (suc k) e = absurd cc
    instances (suc zero) (suc k) e = absurd cc
    instances (suc (suc t)) k e = absurd cc

    runs : (u k : ℕ) → u < 2 → decision_by two_tasks u ≡ decision.Run → k < 1 → ran u k ≡ true
    runs zero zero h e i = refl
    runs (suc zero) zero h e i = refl
    runs u (suc k) h e i = absurd (omega arith)
    runs (suc (suc u)) zero h e i = absurd (omega arith)

    skips : (u : ℕ) → u < 2 → decision_by two_tasks u ≡ decision.Skip → (two_tasks.outcome u ≡ outcome.Skipped) × ((k : ℕ) → ran u k ≡ false)
    skips zero h e = absurd cc
    skips (suc zero) h e = absurd cc
    skips (suc (suc u)) h e = absurd (omega arith)

    fails : (u : ℕ) → u < 2 → decision_by two_tasks u ≡ decision.Fail → (two_tasks.outcome u ≡ outcome.Failed) × ((k : ℕ) → ran u k ≡ false)
    fails zero h e = absurd cc
    fails (suc zero) h e = absurd cc
    fails (suc (suc u)) h e = absurd (omega arith)

    by : (x u : ℕ) → before x u ≡ true → (t : ℕ) × (t < 2) × (1 ≤ times u (successors t)) × ((x ≡ t) ⊎ (before x t ≡ true))
    by zero (suc zero) e = (0, omega arith, omega arith, inl refl)
    by zero zero e = absurd cc
    by zero (suc (suc u)) e = absurd cc
    by (suc x) u e = absurd cc

    successor : (t u : ℕ) → 1 ≤ times u (successors t) → before t u ≡ true
    successor t u h = let o = only_one t u h in ap (λ (x : ℕ). before x u) o.0 ∙ ap (λ (x : ℕ). before 0 x) o.1

-- ---- the run

abbrev done : Counters
done = with_done (first_counters two_tasks) 0 0 1

abbrev flagged : Counters
flagged = with_flags done 0 (bit_or (done.flags 0) (two_tasks.ends 0 0))

abbrev none_left : Counters
none_left = with_left flagged 0 (flagged.left 0 - 1)

abbrev marked : Counters
marked = with_state none_left 1 (bit_or (none_left.state 1) (two_tasks.edges 0 1))

abbrev none_open : Counters
none_open = with_open marked 1 (marked.open_deps 1 - 1)

abbrev armed : Counters
armed = with_alloc none_open 1 1

abbrev told : List Duty
told = Told 0 outcome.Ended0 ∷ []

-- After the first instance is done.
to_flag : IsCounted two_tasks done (Flag 0 0 ∷ [])
to_flag = finish two_tasks (first_counters two_tasks) [] 0 0 1 (first_lone two_tasks (first_counters two_tasks) is_graph (same_itself two_tasks (first_counters two_tasks))) (omega arith) (omega arith) refl (omega arith)
    (Flag 0 0 ∷ []) done (front_replaced [] (Flag 0 0 ∷ []) []) (same_itself two_tasks done)

to_count : IsCounted two_tasks flagged (Count 0 0 ∷ [])
to_count = mark two_tasks done (Flag 0 0 ∷ []) 0 0 to_flag (Count 0 0 ∷ []) flagged (front_replaced (Flag 0 0 ∷ []) (Count 0 0 ∷ []) []) (same_itself two_tasks flagged)

to_close : IsCounted two_tasks none_left (Close 0 ∷ [])
to_close = (count two_tasks flagged (Count 0 0 ∷ []) 0 0 to_count (one_there (Count 0 0)) (omega arith)).keeps (Close 0 ∷ []) none_left (front_replaced (Count 0 0 ∷ []) (Close 0 ∷ []) []) (same_itself two_tasks none_left)

first_runs : MayRun two_tasks none_left.done 0
first_runs = record { runs = runs; earlier = λ u l e b. absurd (never u b) }
  where
    runs : (k : ℕ) → k < 1 → ran 0 k ≡ true
    runs zero h = refl
    runs (suc k) h = absurd (omega arith)

    never : (u : ℕ) → before u 0 ≡ true → ⊥
    never zero e = absurd cc
    never (suc u) e = absurd cc

to_tell : IsCounted two_tasks none_left (Tell 0 outcome.Ended0 0 false ∷ [])
to_tell = (load_flags two_tasks none_left (Close 0 ∷ []) 0 to_close (one_there (Close 0)) first_runs).keeps (Tell 0 outcome.Ended0 0 false ∷ []) none_left (front_replaced (Close 0 ∷ []) (Tell 0 outcome.Ended0 0 false ∷ []) []) (same_itself two_tasks none_left)

to_tell_marked : IsCounted two_tasks marked (Tell 0 outcome.Ended0 0 true ∷ [])
to_tell_marked = mark_edge two_tasks none_left (Tell 0 outcome.Ended0 0 false ∷ []) 0 outcome.Ended0 0 1 to_tell refl (Tell 0 outcome.Ended0 0 true ∷ []) marked (front_replaced (Tell 0 outcome.Ended0 0 false ∷ []) (Tell 0 outcome.Ended0 0 true ∷ []) []) (same_itself two_tasks marked)

to_decide : IsCounted two_tasks none_open (Decide 1 ∷ told)
to_decide = (count_edge two_tasks marked (Tell 0 outcome.Ended0 0 true ∷ []) 0 outcome.Ended0 0 1 to_tell_marked (one_there (Tell 0 outcome.Ended0 0 true)) refl).keeps (Decide 1 ∷ told) none_open (front_replaced (Tell 0 outcome.Ended0 0 true ∷ []) (Decide 1 ∷ told) []) (same_itself two_tasks none_open)

to_arm : IsCounted two_tasks none_open (Arm 1 ∷ told)
to_arm = (load_state two_tasks none_open (Decide 1 ∷ told) 1 to_decide (0, omega arith, refl)).keeps (Arm 1 ∷ told) none_open (front_replaced (Decide 1 ∷ []) (Arm 1 ∷ []) told) (same_itself two_tasks none_open)

undone : (k : ℕ) → k < 1 → none_open.done 1 k ≡ 0
undone k h = refl

after : IsCounted two_tasks armed told
after = (arm two_tasks none_open (Arm 1 ∷ told) 1 to_arm (0, omega arith, refl) undone).keeps told armed (front_replaced (Arm 1 ∷ []) [] told) (same_itself two_tasks armed)

abbrev handed : Counters
handed = with_alloc armed 1 2

abbrev done_too : Counters
done_too = with_done handed 1 0 1

abbrev flagged_too : Counters
flagged_too = with_flags done_too 1 (bit_or (done_too.flags 1) (two_tasks.ends 1 0))

abbrev ended : Counters
ended = with_left flagged_too 1 (flagged_too.left 1 - 1)

running : IsCounted two_tasks handed told
running = hand_out two_tasks armed told 1 2 after (omega arith) (omega arith) told handed (front_replaced [] [] told) (same_itself two_tasks handed)

to_flag_too : IsCounted two_tasks done_too (Flag 1 0 ∷ told)
to_flag_too = finish two_tasks handed told 1 0 1 running (omega arith) (omega arith) refl (omega arith) (Flag 1 0 ∷ told) done_too (front_replaced [] (Flag 1 0 ∷ []) told) (same_itself two_tasks done_too)

to_count_too : IsCounted two_tasks flagged_too (Count 1 0 ∷ told)
to_count_too = mark two_tasks done_too (Flag 1 0 ∷ told) 1 0 to_flag_too (Count 1 0 ∷ told) flagged_too (front_replaced (Flag 1 0 ∷ []) (Count 1 0 ∷ []) told) (same_itself two_tasks flagged_too)

to_close_too : IsCounted two_tasks ended (Close 1 ∷ told)
to_close_too = (count two_tasks flagged_too (Count 1 0 ∷ told) 1 0 to_count_too (0, omega arith, refl) (omega arith)).keeps (Close 1 ∷ told) ended (front_replaced (Count 1 0 ∷ []) (Close 1 ∷ []) told) (same_itself two_tasks ended)

second_runs : MayRun two_tasks ended.done 1
second_runs = record { runs = runs; earlier = earlier }
  where
    runs : (k : ℕ) → k < 1 → ran 1 k ≡ true
    runs zero h = refl
    runs (suc k) h = absurd (omega arith)

    earlier : (u l : ℕ) → ran u l ≡ true → before u 1 ≡ true → 0 < ended.done u l
    earlier zero zero e b = omega arith
    earlier zero (suc l) e b = absurd cc
    earlier (suc u) l e b = absurd cc

all_told : IsCounted two_tasks ended (Told 1 outcome.Ended0 ∷ told)
all_told = (load_flags two_tasks ended (Close 1 ∷ told) 1 to_close_too (0, omega arith, refl) second_runs).keeps (Told 1 outcome.Ended0 ∷ told) ended (front_replaced (Close 1 ∷ []) (Told 1 outcome.Ended0 ∷ []) told) (same_itself two_tasks ended)

all_done : (t k : ℕ) → t < 2 → 1 ≤ ended.alloc t → k < 1 → 0 < ended.done t k
all_done zero zero h a i = omega arith
all_done (suc zero) zero h a i = omega arith
all_done t (suc k) h a i = absurd (omega arith)
all_done (suc (suc t)) zero h a i = absurd (omega arith)

-- Each kind of duty can be owed.
pub each_duty_owed : EachDutyOwed
each_duty_owed = (
  two_tasks,
  record {
    flag = (done, Flag 0 0 ∷ [], to_flag, one_there (Flag 0 0), tt);
    count = (flagged, Count 0 0 ∷ [], to_count, one_there (Count 0 0), omega arith);
    close = (none_left, Close 0 ∷ [], to_close, one_there (Close 0), first_runs);
    tell = (none_left, Tell 0 outcome.Ended0 0 false ∷ [], to_tell, one_there (Tell 0 outcome.Ended0 0 false), refl);
    tell_marked = (marked, Tell 0 outcome.Ended0 0 true ∷ [], to_tell_marked, one_there (Tell 0 outcome.Ended0 0 true), refl);
    decide = (none_open, Decide 1 ∷ told, to_decide, (0, omega arith, refl), refl);
    arm = (none_open, Arm 1 ∷ told, to_arm, (0, omega arith, refl), undone);
    told = (armed, told, after, one_there (Told 0 outcome.Ended0), omega arith);
    ended = (ended, Told 1 outcome.Ended0 ∷ told, all_told, All-cons IsTold (Told 1 outcome.Ended0) told tt (all_one IsTold (Told 0 outcome.Ended0) tt), all_done);
  },
)
