-- A turn of an engine, and all that are left.
use Rattle.std.proofs.Common.{ℕ, ◌≡◌, ◌+◌, ◌-◌, ◌<◌, ◌≤◌, true, List, [], ◌++◌, Option, Some, None, refl, sym, ap, ◌∙◌, subst, arith}
use Rattle.std.proofs.lemmas.List.{append-nil}
use Rattle.plural_base.specs.Told.{Foresees, Expects}
use Rattle.plural_regions.specs.Rights.{may_read}
use Rattle.plural_regions.specs.declared.region.Region.{Region}
use Rattle.plural_map.specs.Value.{TaskValue}
use Rattle.plural_cache.specs.Buffer.{told_through}
use Rattle.plural_core.specs.Turn.{Core, Step, turn, turn_of, outcome_of}
use Rattle.plural_core.specs.Life.{life, join, rest_of}
use Rattle.plural_core.specs.declared.end.End.{End}
use Rattle.plural_core.specs.declared.hart.Turn.TheVariants as outcome
use Rattle.plural_core.proofs.Lives.{fine_turn}
use Rattle.plural_core.proofs.LifeLaws.{few_life}
use Rattle.plural_serial.specs.Program.{ProgramValue, task_at, place_at, start_state}
use Rattle.plural_order.specs.World.{start_at}
use Rattle.plural_rule.specs.Opening.{Opening, world_in}
use Rattle.plural_words.specs.Lent.{told_in, fixed_of, IsLent}
use Rattle.plural_words.specs.Seen.{WordsSeen, SeatSeen, IsSeatOf}
use Rattle.plural_stages.specs.Engines.{EngineSeen, IsGoing, IsOver, HasMadeTurn, turns_of, all_turns_of}
use Rattle.plural_stages.specs.Stacked.{HasSunk}
use Rattle.plural_stages.proofs.Lives.{IsAt, next_of, left_of, all_are, next_are, last_are, end_is, next_ahead, left_ahead}
use Rattle.plural_stages.proofs.Going.{IsReady, ready, stack_of, HasStepped, stepped}

-- ---- an engine that goes on

-- It is at as many turns as its hart has counted.
pub is_at : (o : Opening) (t k : ℕ) (e : EngineSeen) (s : SeatSeen) → IsGoing o t k e s → IsAt o t k e.core.state.count
is_at o t k e s h = record {
  count = sym (ap (λ (c : Core). c.state.count) h.running.core);
  over = sym (ap (λ (c : Core). c.state.over) h.running.core) ∙ h.over;
  room = h.room;
}

-- What the engine has of the memory.
abbrev pub words_of : Opening → EngineSeen → SeatSeen → List ℕ
words_of o e s = (told_through e.pairs (told_in o s.view.stage)).words

-- The code and the regions are those of task t.
pub record IsPlaced (p : ProgramValue) (t : ℕ) (code : List ℕ) (regions : List Region) : Type 0 where
  pub same_code : code ≡ p.code
  pub same_regions : regions ≡ (task_at p t).regions

-- What is said of the program and the task at hand is said of those of the opening.
pub placed_by : (p q : ProgramValue) (t : ℕ) (task : TaskValue) (code : List ℕ) (regions : List Region) → p ≡ q → task ≡ task_at p t
    → code ≡ p.code → regions ≡ task.regions → IsPlaced q t code regions
placed_by p q t task code regions same is by_code by_regions = record {
  same_code = by_code ∙ ap (λ (x : ProgramValue). x.code) same;
  same_regions = by_regions ∙ ap (λ (x : TaskValue). x.regions) is ∙ ap (λ (x : ProgramValue). (task_at x t).regions) same;
}

-- An engine that is another goes on as that does.
pub going_as : (o : Opening) (t k : ℕ) (d e : EngineSeen) (s : SeatSeen) → e ≡ d → IsGoing o t k d s → IsGoing o t k e s
going_as o t k d e s same h = subst (λ (x : EngineSeen). IsGoing o t k x s) (sym same) h

-- Its next turn is that of its instance.
pub turn_is : (o : Opening) (t k : ℕ) (e : EngineSeen) (s : SeatSeen) (code : List ℕ) (regions : List Region) → IsGoing o t k e s → IsPlaced o.program t code regions
    → turn_of code regions e.core (words_of o e s) ≡ next_of o t k e.core.state.count
turn_is o t k e s code regions h p =
    let n = e.core.state.count in
    let x = turns_of o t k n in
    ap (λ (c : Core). turn_of code regions c (words_of o e s)) h.running.core
    ∙ ap (λ (m : List ℕ). turn (record { code = code; regions = regions; k = k; budget = (task_at o.program t).budget }) x.state m) h.running.memory
    ∙ ap (λ (l : List ℕ). turn (record { code = l; regions = regions; k = k; budget = (task_at o.program t).budget }) x.state x.memory) p.same_code
    ∙ ap (λ (r : List Region). turn (record { code = o.program.code; regions = r; k = k; budget = (task_at o.program t).budget }) x.state x.memory) p.same_regions

-- The rest of its life is that of its instance.
pub rest_is : (o : Opening) (t k : ℕ) (e : EngineSeen) (s : SeatSeen) (code : List ℕ) (regions : List Region) → IsGoing o t k e s → IsPlaced o.program t code regions
    → rest_of code regions e.core (words_of o e s) ≡ left_of o t k e.core.state.count
rest_is o t k e s code regions h p =
    let n = e.core.state.count in
    let x = turns_of o t k n in
    let b = (task_at o.program t).budget in
    let count : x.state.count ≡ n = sym (ap (λ (c : Core). c.state.count) h.running.core) in
    ap (λ (c : Core). rest_of code regions c (words_of o e s)) h.running.core
    ∙ ap (λ (i : ℕ). life (b - i) (record { code = code; regions = regions; k = k; budget = b }) x.state (words_of o e s)) count
    ∙ ap (λ (m : List ℕ). life (b - n) (record { code = code; regions = regions; k = k; budget = b }) x.state m) h.running.memory
    ∙ ap (λ (l : List ℕ). life (b - n) (record { code = l; regions = regions; k = k; budget = b }) x.state x.memory) p.same_code
    ∙ ap (λ (r : List Region). life (b - n) (record { code = o.program.code; regions = r; k = k; budget = b }) x.state x.memory) p.same_regions

-- ---- what a step of its hart asks for

-- Few loads and stores so far.
pub record IsFewSoFar (e : EngineSeen) : Type 0 where
  pub loads : e.cache.loads ≤ e.core.state.count
  pub stores : e.cache.stores ≤ e.core.state.count

-- It has made no more loads and no more stores than turns so far.
pub few_so_far : (o : Opening) (t k : ℕ) (e : EngineSeen) (s : SeatSeen) → IsGoing o t k e s → IsFewSoFar e
few_so_far o t k e s h =
    let n = e.core.state.count in
    let few = few_life n (place_at o.program t k) (start_state o.program t k) (start_at (world_in o) (t, k)) in
    record { loads = omega (arith, few.loads, h.running.stands.loads); stores = omega (arith, few.stores, h.running.counted) }

-- The words that the regions let it read are lawful.
pub may_read_here : (w : WordsSeen) (t k : ℕ) (sofar : Step) (more : List (ℕ × ℕ)) (e : EngineSeen) (s : SeatSeen) (code : List ℕ) (regions : List Region) → IsReady w t k sofar more e s
    → IsGoing w.opening t k e s → IsPlaced w.opening.program t code regions → (a : ℕ) → may_read regions e.core.k a ≡ true → (told_in w.opening s.view.stage).lawful a ≡ true
may_read_here w t k sofar more e s code regions r h p a may =
    r.lawful a (ap (λ (l : List Region). may_read l k a) (sym p.same_regions) ∙ ap (λ (i : ℕ). may_read regions i a) (sym (ap (λ (c : Core). c.k) h.running.core)) ∙ may)

-- It is ready for its next turn.
pub ready_to_turn : (w : WordsSeen) (t k : ℕ) (e : EngineSeen) (s : SeatSeen) → IsSeatOf w s → (h : IsGoing w.opening t k e s)
    → IsReady w t k (turns_of w.opening t k e.core.state.count) ((next_of w.opening t k e.core.state.count).stores ++ (next_ahead w.opening t k e.core.state.count (is_at w.opening t k e s h)).more) e s
ready_to_turn w t k e s of h =
    let n = e.core.state.count in
    ready w t k (turns_of w.opening t k n) _ e s of h.running h.late (next_ahead w.opening t k n (is_at w.opening t k e s h)).all

-- What is expected begins with the stores of that turn.
foresees_some : (expected : Option (List (ℕ × ℕ))) (stores more : List (ℕ × ℕ)) → expected ≡ Some (stores ++ more) → Foresees expected stores
foresees_some None stores more h = tt
foresees_some (Some l) stores more h = (more, cc h)

-- The stores of the next turn are expected.
pub turn_foreseen : (w : WordsSeen) (t k : ℕ) (e : EngineSeen) (s : SeatSeen) (code : List ℕ) (regions : List Region) → IsSeatOf w s → IsGoing w.opening t k e s
    → IsPlaced w.opening.program t code regions
    → Foresees (told_through e.pairs (told_in w.opening s.view.stage)).expects (turn_of code regions e.core (words_of w.opening e s)).stores
turn_foreseen w t k e s code regions of h p =
    let o = w.opening in
    let expected = (told_through e.pairs (told_in o s.view.stage)).expects in
    subst (λ (x : Step). Foresees expected x.stores) (sym (turn_is o t k e s code regions h p))
    (foresees_some expected _ _ (ready_to_turn w t k e s of h).expected)

-- Its budget isn't used up.
pub room_in : (o : Opening) (t k : ℕ) (e : EngineSeen) (s : SeatSeen) → IsGoing o t k e s → e.core.state.count < e.core.budget
room_in o t k e s h = let budget = ap (λ (c : Core). c.budget) h.running.core in let room = h.room in omega arith

-- It is ready for all that are left.
pub ready_to_run : (w : WordsSeen) (t k : ℕ) (e : EngineSeen) (s : SeatSeen) → IsSeatOf w s → IsGoing w.opening t k e s
    → IsReady w t k (turns_of w.opening t k e.core.state.count) ((left_of w.opening t k e.core.state.count).stores ++ []) e s
ready_to_run w t k e s of h =
    let n = e.core.state.count in
    ready w t k (turns_of w.opening t k n) _ e s of h.running h.late (left_ahead w.opening t k n (is_at w.opening t k e s h))

expects_some : (expected : Option (List (ℕ × ℕ))) (stores : List (ℕ × ℕ)) → expected ≡ Some (stores ++ []) → Expects expected stores
expects_some None stores h = tt
expects_some (Some l) stores h = let e : l ≡ stores ++ [] = cc h in e ∙ append-nil stores

-- What is expected are the stores of those.
pub rest_expected : (w : WordsSeen) (t k : ℕ) (e : EngineSeen) (s : SeatSeen) (code : List ℕ) (regions : List Region) → IsSeatOf w s → IsGoing w.opening t k e s
    → IsPlaced w.opening.program t code regions
    → Expects (told_through e.pairs (told_in w.opening s.view.stage)).expects (rest_of code regions e.core (words_of w.opening e s)).stores
rest_expected w t k e s code regions of h p =
    let o = w.opening in
    let expected = (told_through e.pairs (told_in o s.view.stage)).expects in
    subst (λ (x : Step). Expects expected x.stores) (sym (rest_is o t k e s code regions h p))
    (expects_some expected _ (ready_to_run w t k e s of h).expected)

-- ---- after it

-- What a step that went through did to the engine and its seat.
pub stepped_by : (w v : WordsSeen) (t k : ℕ) (step does : Step) (e f : EngineSeen) (s n : SeatSeen) → IsGoing w.opening t k e s → does ≡ step → v ≡ w
    → f.core ≡ record e.core { state = does.state } → f.start ≡ e.start → HasSunk does (stack_of w.opening e s) (stack_of v.opening f n)
    → IsLent v n → fixed_of n ≡ fixed_of s → HasStepped w t k step e f s n
stepped_by w v t k step does e f s n h is same core start sunk lent fixed =
    record {
      core = core
          ∙ ap (λ (x : Step). let c : Core = record { state = x.state; k = e.core.k; budget = e.core.budget } in c) is
          ∙ ap (λ (x : Core). let c : Core = record { state = step.state; k = x.k; budget = x.budget } in c) h.running.core;
      start = start;
      sunk = subst (λ (x : Step). HasSunk x (stack_of w.opening e s) (stack_of w.opening f n)) is (subst (λ (x : WordsSeen). HasSunk does (stack_of w.opening e s) (stack_of x.opening f n)) same sunk);
      lent = subst (λ (x : WordsSeen). IsLent x n) same lent;
      fixed = fixed;
    }

-- After its next turn it has made one turn more.
pub one_more : (w : WordsSeen) (t k : ℕ) (e f : EngineSeen) (s n : SeatSeen) → IsGoing w.opening t k e s → HasStepped w t k (next_of w.opening t k e.core.state.count) e f s n
    → HasMadeTurn w.opening t k e f
one_more w t k e f s n h st =
    ap (λ (c : Core). c.state) st.core ∙ sym (ap (λ (x : Step). x.state) (next_are w.opening t k e.core.state.count (is_at w.opening t k e s h)))

-- What the engine was is told by an equation.
pub more_than : (o : Opening) (t k : ℕ) (d e f : EngineSeen) → e ≡ d → HasMadeTurn o t k e f → HasMadeTurn o t k d f
more_than o t k d e f same h = subst (λ (x : EngineSeen). HasMadeTurn o t k x f) same h

-- It goes on after a turn without end.
pub goes_on : (w : WordsSeen) (t k : ℕ) (e f : EngineSeen) (s n : SeatSeen) → IsGoing w.opening t k e s → HasStepped w t k (next_of w.opening t k e.core.state.count) e f s n
    → f.core.state.over ≡ None → (f.core.state.over ≡ None → f.core.state.count < f.core.budget)
    → IsGoing w.opening t k f n × (f.core.state.count ≡ e.core.state.count + 1)
goes_on w t k e f s n h st over within =
    let o = w.opening in
    let i = e.core.state.count in
    let x = turns_of o t k i in
    let next = next_of o t k i in
    let at = is_at o t k e s h in
    let still : next.state.over ≡ None = sym (ap (λ (c : Core). c.state.over) st.core) ∙ over in
    let goes = (fine_turn (place_at o.program t k) x.state x.memory).goes still in
    let now : f.core.state.count ≡ next.state.count = ap (λ (c : Core). c.state.count) st.core in
    let here = at.count in
    let count : f.core.state.count ≡ i + 1 = omega (arith, now, goes, here) in
    let r = stepped w t k x next (turns_of o t k f.core.state.count) e f s n h.running (ap (λ (j : ℕ). turns_of o t k j) count ∙ next_are o t k i at) st in
    let low = within over in
    let budget : f.core.budget ≡ (task_at o.program t).budget = ap (λ (c : Core). c.budget) st.core in
    (record { running = r.0; late = r.1; over = over; room = omega (arith, low, budget) }, count)

-- It is over after a step that made all its turns, and ended.
pub ends_so : (w : WordsSeen) (t k : ℕ) (e f : EngineSeen) (s n : SeatSeen) (step : Step) (end : End) → IsGoing w.opening t k e s → HasStepped w t k step e f s n
    → all_turns_of w.opening t k ≡ join (turns_of w.opening t k e.core.state.count) step → f.core.state.over ≡ Some end → IsOver w.opening t k end f n
ends_so w t k e f s n step end h st all over =
    let o = w.opening in
    let r = stepped w t k (turns_of o t k e.core.state.count) step (all_turns_of o t k) e f s n h.running all st in
    let last : (all_turns_of o t k).state.over ≡ Some end = ap (λ (x : Step). x.state.over) all ∙ sym (ap (λ (c : Core). c.state.over) st.core) ∙ over in
    record { running = r.0; late = r.1; ended = over; is_end = end_is o t k end last }

-- So it is after a turn with an end.
pub turned_last : (w : WordsSeen) (t k : ℕ) (e f : EngineSeen) (s n : SeatSeen) (end : End) → IsGoing w.opening t k e s → HasStepped w t k (next_of w.opening t k e.core.state.count) e f s n
    → f.core.state.over ≡ Some end → IsOver w.opening t k end f n
turned_last w t k e f s n end h st over =
    let o = w.opening in
    let i = e.core.state.count in
    let ended : (next_of o t k i).state.over ≡ Some end = sym (ap (λ (c : Core). c.state.over) st.core) ∙ over in
    ends_so w t k e f s n (next_of o t k i) end h st (last_are o t k i end (is_at o t k e s h) ended) over

-- So it is after all that were left.
pub ran_out : (w : WordsSeen) (t k : ℕ) (e f : EngineSeen) (s n : SeatSeen) (end : End) → IsGoing w.opening t k e s → HasStepped w t k (left_of w.opening t k e.core.state.count) e f s n
    → f.core.state.over ≡ Some end → IsOver w.opening t k end f n
ran_out w t k e f s n end h st over =
    let o = w.opening in
    let i = e.core.state.count in
    ends_so w t k e f s n (left_of o t k i) end h st (all_are o t k i (is_at o t k e s h)) over

-- ---- what a turn answers

-- A turn that goes on has no end.
pub none_of : (x : Option End) → outcome.Going ≡ outcome_of x → x ≡ None
none_of None h = refl
none_of (Some e) h = absurd (cc h)

-- A turn that is over has this end.
pub some_of : (x : Option End) (e : End) → outcome.Over e ≡ outcome_of x → x ≡ Some e
some_of None e h = absurd (cc h)
some_of (Some f) e h = cc h
