-- A task that is told to its next successor.
use Rattle.std.proofs.Common.{◌≡◌, ◌∙◌, ℕ, ◌<◌, Bool, true, false, cond, List, [], ◌∷◌, ◌++◌, length, get_or, Some, Contains, refl, sym, ap, subst, arith}
use Rattle.std.specs.Prelude.{slice_get}
use Rattle.std.proofs.lemmas.Option.{slice_get-get_or}
use Rattle.plural_order.specs.Sums.{sum_over}
use Rattle.plural_order.specs.TaskGraph.{TaskGraph}
use Rattle.plural_order.specs.ProgramGraph.{successors_of}
use Rattle.plural_counters.specs.Counters.{IsSound}
use Rattle.plural_counters.specs.Duties.{progress_of}
use Rattle.plural_counters.specs.Steps.{tell_next, owed_in}
use Rattle.plural_counters.specs.declared.duty.Duty.{Duty}
use Rattle.plural_counters.specs.declared.duty.Duty.TheVariants.{Tell, Decide}
use Rattle.plural_counters.proofs.Sums.{sum_append}
use Rattle.plural_map.specs.declared.outcome.Outcome.{Outcome}
use Rattle.plural_rule.specs.Opening.{graph_in, task_count}
use Rattle.plural_rule.specs.Kept.{duties}
use Rattle.plural_words.specs.Seen.{WordsSeen, SeatSeen, IsSeatOf, seat_with}
use Rattle.plural_words.specs.Settling.{settled, telling, outcome_told, place_told}
use Rattle.plural_words.proofs.Owed.{outcome_first, place_first, telling_first}
use Rattle.plural_sync.specs.Deliveries.{IsKept}
use Rattle.plural_sync.specs.Pending.{tell_of, tells, tells_next, IsPending, progress_in}
use Rattle.plural_sync.specs.declared.pending.Telling.{Telling}
use Rattle.plural_sync.proofs.Settled.{kept_settled, kept_then, progress_settled, progress_next, first_owed, first_fits, pending_settled, pending_begun, successor_small}

-- The list of successors of a task.
abbrev list_of : WordsSeen → (t : ℕ) → List ℕ
list_of w t = successors_of w.opening.program.map.tasks t

-- The seat after the dependency at hand of task t is marked, and after it is counted off task u.
abbrev pub marked_as : SeatSeen → (t : ℕ) → SeatSeen
marked_as s t = seat_with s (settled s.view (telling s.view.owes t false) (telling s.view.owes t true ∷ []))

abbrev pub counted_as : WordsSeen → SeatSeen → (t u : ℕ) → (last : Bool) → SeatSeen
counted_as w s t u last = seat_with s (settled s.view (telling s.view.owes t true) (cond last (Decide u ∷ []) [] ++ tell_next (successors_of w.opening.program.map.tasks t) t (outcome_told s.view.owes t) (place_told s.view.owes t)))

-- The seat owes first to tell a task of this outcome at this place, where the dependency is marked or not.
module _ (w : WordsSeen) (s : SeatSeen) (t : ℕ) (o : Outcome) (e : ℕ) (h : Bool) (l : List Telling) (p : IsPending w s (Tell t o e h ∷ []) l) where
  telling_is : (b : Bool) → telling s.view.owes t b ≡ Tell t o e b
  telling_is b = ap (λ (d : List Duty). telling d t b) p.owes ∙ telling_first t o e h b (tells l)

  outcome_here : outcome_told s.view.owes t ≡ o
  outcome_here = ap (λ (d : List Duty). outcome_told d t) p.owes ∙ outcome_first t o e h (tells l)

  place_here : place_told s.view.owes t ≡ e
  place_here = ap (λ (d : List Duty). place_told d t) p.owes ∙ place_first t o e h (tells l)

  -- That duty is owed.
  pub telling_owed : Contains s.view.owes (telling s.view.owes t h)
  telling_owed = subst (λ (d : Duty). Contains s.view.owes d) (sym (telling_is h)) (first_owed w s (Tell t o e h) l p)

  -- The place is that of a successor, which is a task.
  module _ (list : List ℕ) (q : list ≡ successors_of w.opening.program.map.tasks t) where
    place_low : e < length (successors_of w.opening.program.map.tasks t)
    place_low = (first_fits w s (Tell t o e h) l p).2

    pub next_small : get_or list e 0 < task_count w.opening.program
    next_small = subst (λ (k : List ℕ). get_or k e 0 < task_count w.opening.program) (sym q) (successor_small w.opening.program.map.tasks t e place_low)

    pub next_there : slice_get (successors_of w.opening.program.map.tasks t) (place_told s.view.owes t) ≡ Some (get_or list e 0)
    next_there =
        ap (slice_get (list_of w t)) place_here
        ∙ (slice_get-get_or (list_of w t) e 0 place_low ∙ ap (λ (k : List ℕ). Some (get_or k e 0)) (sym q))

module _ (w : WordsSeen) (s m : SeatSeen) (x : Telling) (l : List Telling) (p : IsPending w s (tell_of x ∷ []) l) (marked : m ≡ marked_as s x.task) where
  marked_is : m ≡ seat_with s (settled s.view (tell_of x) (Tell x.task x.outcome x.place true ∷ []))
  marked_is =
      let is = telling_is w s x.task x.outcome x.place false l p in
      marked
      ∙ (ap (λ (d : Duty). seat_with s (settled s.view d (telling s.view.owes x.task true ∷ []))) (is false)
      ∙ ap (λ (d : Duty). seat_with s (settled s.view (tell_of x) (d ∷ []))) (is true))

  -- After the dependency is marked the same task is told first.
  pub pending_marked : IsSeatOf w m → IsSound (graph_in w.opening) (duties m.view) → IsPending w m (Tell x.task x.outcome x.place true ∷ []) l
  pending_marked of sound = pending_settled w s m (tell_of x) (Tell x.task x.outcome x.place true ∷ []) l p of marked_is sound

  module _ (between : IsPending w m (Tell x.task x.outcome x.place true ∷ []) l) (n : SeatSeen) (u : ℕ) (last : Bool) (counted : n ≡ counted_as w m x.task u last) where
    counted_is : n ≡ seat_with m (settled m.view (Tell x.task x.outcome x.place true) (cond last (Decide u ∷ []) [] ++ tell_next (list_of w x.task) x.task x.outcome x.place))
    counted_is =
        counted
        ∙ (ap (λ (d : Duty). seat_with m (settled m.view d (cond last (Decide u ∷ []) [] ++ tell_next (list_of w x.task) x.task (outcome_told m.view.owes x.task) (place_told m.view.owes x.task)))) (telling_is w m x.task x.outcome x.place true l between true)
        ∙ (ap (λ (o : Outcome). seat_with m (settled m.view (Tell x.task x.outcome x.place true) (cond last (Decide u ∷ []) [] ++ tell_next (list_of w x.task) x.task o (place_told m.view.owes x.task)))) (outcome_here w m x.task x.outcome x.place true l between)
        ∙ ap (λ (e : ℕ). seat_with m (settled m.view (Tell x.task x.outcome x.place true) (cond last (Decide u ∷ []) [] ++ tell_next (list_of w x.task) x.task x.outcome e))) (place_here w m x.task x.outcome x.place true l between)))

    -- After it is counted the successor is decided first if that was its last, and then the task is told further.
    pending_counted : IsSeatOf w n → IsSound (graph_in w.opening) (duties n.view) → IsPending w n (owed_in (cond last (Decide u ∷ []) [] ++ tell_next (successors_of w.opening.program.map.tasks x.task) x.task x.outcome x.place)) l
    pending_counted of sound = pending_settled w m n (Tell x.task x.outcome x.place true) (cond last (Decide u ∷ []) [] ++ tell_next (list_of w x.task) x.task x.outcome x.place) l between of counted_is sound

    -- Both steps keep what the seat had.
    kept_told : IsKept s n
    kept_told = kept_then s m n
        (kept_settled s m (tell_of x) (Tell x.task x.outcome x.place true ∷ []) marked_is)
        (kept_settled m n (Tell x.task x.outcome x.place true) (cond last (Decide u ∷ []) [] ++ tell_next (list_of w x.task) x.task x.outcome x.place) counted_is)

    -- The task is told one further.
    further_told : progress_in w s < progress_in w n
    further_told =
        let g = graph_in w.opening in
        let f = progress_of g in
        let low = (first_fits w s (tell_of x) l p).2 in
        let first = progress_settled w s m (tell_of x) (tells l) (Tell x.task x.outcome x.place true ∷ []) p.owes marked_is in
        let second = progress_settled w m n (Tell x.task x.outcome x.place true) (tells l) (cond last (Decide u ∷ []) [] ++ tell_next (list_of w x.task) x.task x.outcome x.place) between.owes counted_is in
        omega (arith, first, second, quiet g last, sum_append f (cond last (Decide u ∷ []) []) (tell_next (list_of w x.task) x.task x.outcome x.place), progress_next g x.task x.outcome x.place low)
      where
        quiet : (g : TaskGraph) (b : Bool) → sum_over (progress_of g) (cond b (Decide u ∷ []) []) ≡ 0
        quiet g true = refl
        quiet g false = refl

-- What both steps leave, and the tasks that go on being told: the successor is decided first if that was its last.
pub record IsToldOn (w : WordsSeen) (s n : SeatSeen) (u : ℕ) (last : Bool) (l : List Telling) : Type 0 where
  pub pending : IsPending w n (cond last (Decide u ∷ []) []) l
  pub kept : IsKept s n
  pub further : progress_in w s < progress_in w n

-- So it is after both steps, once the task that goes on is among those that are told.
pub told_on : (w : WordsSeen) (s m n : SeatSeen) (x : Telling) (l k : List Telling) (list : List ℕ) (u : ℕ) (last : Bool) → IsPending w s (tell_of x ∷ []) l → list ≡ successors_of w.opening.program.map.tasks x.task
    → m ≡ marked_as s x.task → IsSeatOf w m → IsSound (graph_in w.opening) (duties m.view)
    → n ≡ counted_as w m x.task u last → IsSeatOf w n → IsSound (graph_in w.opening) (duties n.view)
    → tells k ≡ tells_next list x ++ tells l → IsToldOn w s n u last k
told_on w s m n x l k list u last p q marked of_m sound_m counted of_n sound_n on =
    let between = pending_marked w s m x l p marked of_m sound_m in
    let next = tell_next (list_of w x.task) x.task x.outcome x.place in
    record {
      pending = pending_begun w n (cond last (Decide u ∷ []) []) (owed_in next) l k (by last (pending_counted w s m x l p marked between n u last counted of_n sound_n)) (on ∙ ap (λ (y : List ℕ). tells_next y x ++ tells l) q);
      kept = kept_told w s m x l p marked between n u last counted;
      further = further_told w s m x l p marked between n u last counted;
    }
  where
    by : (b : Bool) → IsPending w n (owed_in (cond b (Decide u ∷ []) [] ++ tell_next (list_of w x.task) x.task x.outcome x.place)) l → IsPending w n (cond b (Decide u ∷ []) [] ++ owed_in (tell_next (list_of w x.task) x.task x.outcome x.place)) l
    by true h = h
    by false h = h
