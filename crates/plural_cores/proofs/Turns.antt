-- What each kind of turn leaves.
use Rattle.std.proofs.Common.{◌≡◌, ◌≢◌, ℕ, ◌+◌, ◌<◌, ◌≤◌, ◌⊎◌, Bool, true, false, min, List, [], ◌∷◌, get_or, sym, refl, ap, ◌∙◌, subst, inl, inr, arith}
use Rattle.std.specs.List.{Contains}
use Rattle.plural_core.specs.declared.end.End.{End}
use Rattle.plural_counters.specs.declared.duty.Duty.{Duty}
use Rattle.plural_counters.specs.declared.duty.Duty.TheVariants.{Flag}
use Rattle.plural_map.specs.declared.outcome.Outcome.{Outcome}
use Rattle.plural_serial.specs.Cached.{IsShaped}
use Rattle.plural_rule.specs.Opening.{Opening, task_count}
use Rattle.plural_rule.specs.Last.{KnowsWhole}
use Rattle.plural_rule.specs.Steps.{began}
use Rattle.plural_rule.specs.declared.view.View.{View}
use Rattle.plural_rule.specs.declared.view.Stage.TheVariants.{Got}
use Rattle.plural_words.specs.Seen.{WordsSeen, SeatSeen, IsSeatOf, seat_with}
use Rattle.plural_words.specs.Lent.{fixed_of}
use Rattle.plural_sync.specs.Deliveries.{IsKept}
use Rattle.plural_stages.specs.Engines.{EngineSeen, IsGoing, IsOver, HasMadeTurn, done_with}
use Rattle.plural_cores.specs.Later.{IsLater, to_find}
use Rattle.plural_cores.specs.Sweeps.{HasClaimed, HasNone, IsWhole}
use Rattle.plural_cores.specs.Works.{IsAtWork, HasTurned, HasRunOut, turns_left}
use Rattle.plural_cores.specs.declared.answer.CoreTurn.TheVariants.{Worked, Nothing, Left}
use Rattle.plural_cores.specs.declared.sweep.Instance.{Instance}
use Rattle.plural_cores.specs.declared.held.Held.{Held}
use Rattle.plural_cores.specs.declared.held.Held.TheVariants as hand
use Rattle.plural_cores.specs.declared.work.Work.{Work}
use Rattle.plural_cores.proofs.Tries.{later_both, to_find_least, to_find_less}

-- The work of these parts.
abbrev with_held : Held → EngineSeen → ℕ → Work
with_held h e n = record { held = h; engine = e; idle = n }

-- ---- a core that holds nothing

-- It has claimed an instance.
claims : (w : WordsSeen) (s u : SeatSeen) (i : Instance) (e : EngineSeen) (n : ℕ) → IsAtWork w s (with_held hand.Nothing e n) → IsSeatOf w u → HasClaimed w.opening i s u → HasTurned w s (with_held hand.Nothing e n) Worked u (with_held (hand.Claimed i) e 0)
claims w s u i e n work of is = record {
  work = record { of = of; nothing = is.nothing; shape = work.shape; holding = is.got; idle = refl };
  later = is.later;
  turn = ((i, refl, is), refl);
  falls = λ _. omega (arith, is.less, is.short);
}

-- It has left.
leaves_so : (w : WordsSeen) (s u : SeatSeen) (whole : Bool) (e : EngineSeen) (n : ℕ) → IsAtWork w s (with_held hand.Nothing e n) → IsSeatOf w u → HasNone w.opening whole s u → whole ≡ true → ((w.opening.cores ≡ 1) ⊎ (n ≡ 4096)) → HasTurned w s (with_held hand.Nothing e n) Left u (with_held hand.Nothing e n)
leaves_so w s u whole e n work of is so patient = record {
  work = record { of = of; nothing = is.all.nothing; shape = work.shape; holding = is.all.free; idle = work.idle };
  later = is.all.later;
  turn = (record { held_none = refl; holds_none = refl; tried = is.all }, record { whole = is.known.so so; patient = patient }, refl);
  falls = λ ne. absurd (ne refl);
}

-- It has found nothing, and doesn't leave.
known_whole : (o : Opening) (whole : Bool) (v w : View) → IsWhole o (task_count o.program) whole v w → KnowsWhole o w → whole ≡ true
known_whole o true v w is knows = refl
known_whole o false v w is knows = let x = is.not_so refl in absurd (x.2.some_left (knows x.0 x.1 x.2.armed))

fewer_to_find : (o : Opening) (s u : SeatSeen) → HasNone o false s u → to_find o.program u.view < to_find o.program s.view
fewer_to_find o s u is = let x = is.known.not_so refl in to_find_less o.program s.view u.view x.0 is.all.later.found x.1 x.2.lost.more (is.all.tried x.0 x.1).few

waits_falls : (w : WordsSeen) (s u : SeatSeen) (whole : Bool) (e : EngineSeen) (n : ℕ) → n ≤ 4096 → HasNone w.opening whole s u → (whole ≡ true → n ≡ 4096 → ⊥) → turns_left w.opening u (with_held hand.Nothing e (min (n + 1) 4096)) < turns_left w.opening s (with_held hand.Nothing e n)
waits_falls w s u true e n few is none =
    let less = to_find_least w.opening.program s.view u.view is.all.later.found in
    let ne : n ≢ 4096 = λ e. none refl e in
    omega (arith, less, ne)
waits_falls w s u false e n few is none =
    let less = fewer_to_find w.opening s u is in
    omega (arith, less)

waits_so : (w : WordsSeen) (s u : SeatSeen) (whole : Bool) (e : EngineSeen) (n : ℕ) → IsAtWork w s (with_held hand.Nothing e n) → IsSeatOf w u → HasNone w.opening whole s u → ((whole ≡ true) × ((w.opening.cores ≡ 1) ⊎ (n ≡ 4096)) → ⊥) → HasTurned w s (with_held hand.Nothing e n) Nothing u (with_held hand.Nothing e (min (n + 1) 4096))
waits_so w s u whole e n work of is none = record {
  work = record { of = of; nothing = is.all.nothing; shape = work.shape; holding = is.all.free; idle = omega arith };
  later = is.all.later;
  turn = (record { held_none = refl; holds_none = refl; tried = is.all }, (λ may. none (known_whole w.opening whole s.view u.view is.known may.whole, may.patient)), refl);
  falls = λ _. waits_falls w s u whole e n work.idle is (λ so e. none (so, inr e));
}

-- ---- an instance

-- A seat of which only the stage has changed.
stage_later : (s u : SeatSeen) → fixed_of u ≡ fixed_of s → IsLater s u
stage_later s u same =
    let found = ap (λ (x : SeatSeen). x.view.found) same in
    let told = ap (λ (x : SeatSeen). x.view.told) same in
    record {
      table = ap (λ (x : SeatSeen). x.table) same;
      core = ap (λ (x : SeatSeen). x.core) same;
      found = λ t. omega (arith, ap (λ (l : List ℕ). get_or l t 0) found);
      told = λ x h. subst (λ (l : List (ℕ × Outcome)). Contains l x) (sym told) h;
    }

later_begun : (s u : SeatSeen) (start : ℕ) → u ≡ seat_with s (began s.view start) → IsLater s u
later_begun s u start at = record {
  table = ap (λ (x : SeatSeen). x.table) at;
  core = ap (λ (x : SeatSeen). x.core) at;
  found = λ x. omega (arith, ap (λ (y : SeatSeen). get_or y.view.found x 0) at);
  told = λ x h. subst (λ (y : SeatSeen). Contains y.view.told x) (sym at) h;
}

-- It begins.
begins : (w : WordsSeen) (s u : SeatSeen) (i : Instance) (e f : EngineSeen) (n start : ℕ) → IsAtWork w s (with_held (hand.Claimed i) e n) → IsSeatOf w u → u ≡ seat_with s (began s.view start) → IsGoing w.opening i.t i.k f u → f.core.state.count ≡ 0 → HasTurned w s (with_held (hand.Claimed i) e n) Worked u (with_held (hand.Running i) f n)
begins w s u i e f n start work of at going none =
    let later = later_begun s u start at in
    let less = to_find_least w.opening.program s.view u.view later.found in
    record {
      work = record { of = of; nothing = ap (λ (x : SeatSeen). x.view.owes) at ∙ work.nothing; shape = going.running.shape; holding = going; idle = work.idle };
      later = later;
      turn = ((start, at, refl, none), work.idle);
      falls = λ _. omega (arith, less, none);
    }

-- It goes on.
goes_on : (w : WordsSeen) (s u : SeatSeen) (i : Instance) (e f : EngineSeen) (n : ℕ) → IsAtWork w s (with_held (hand.Running i) e n) → IsSeatOf w u → fixed_of u ≡ fixed_of s → HasMadeTurn w.opening i.t i.k e f → IsGoing w.opening i.t i.k f u → f.core.state.count ≡ e.core.state.count + 1 → HasTurned w s (with_held (hand.Running i) e n) Worked u (with_held (hand.Running i) f n)
goes_on w s u i e f n work of same one going more =
    let later = stage_later s u same in
    let less = to_find_least w.opening.program s.view u.view later.found in
    record {
      work = record { of = of; nothing = ap (λ (x : SeatSeen). x.view.owes) same ∙ work.nothing; shape = going.running.shape; holding = going; idle = work.idle };
      later = later;
      turn = ((same, one, inl (refl, more)), work.idle);
      falls = λ _. omega (arith, less, more, work.holding.room);
    }

-- It is over, after however many turns.
pub record IsOverNow (w : WordsSeen) (s u : SeatSeen) (k l : Work) : Type 0 where
  pub work : IsAtWork w u l
  pub later : IsLater s u
  pub falls : turns_left w.opening u l < turns_left w.opening s k

over_so : (w : WordsSeen) (s u : SeatSeen) (i : Instance) (end : End) (e f : EngineSeen) (n : ℕ) → IsAtWork w s (with_held (hand.Running i) e n) → IsSeatOf w u → fixed_of u ≡ fixed_of s → IsOver w.opening i.t i.k end f u
    → IsOverNow w s u (with_held (hand.Running i) e n) (with_held (hand.Over i end) f n)
over_so w s u i end e f n work of same over =
    let later = stage_later s u same in
    let less = to_find_least w.opening.program s.view u.view later.found in
    record {
      work = record { of = of; nothing = ap (λ (x : SeatSeen). x.view.owes) same ∙ work.nothing; shape = over.running.shape; holding = over; idle = work.idle };
      later = later;
      falls = omega (arith, less);
    }

-- It is over after one turn.
is_over : (w : WordsSeen) (s u : SeatSeen) (i : Instance) (end : End) (e f : EngineSeen) (n : ℕ) → IsAtWork w s (with_held (hand.Running i) e n) → IsSeatOf w u → fixed_of u ≡ fixed_of s → HasMadeTurn w.opening i.t i.k e f → IsOver w.opening i.t i.k end f u
    → HasTurned w s (with_held (hand.Running i) e n) Worked u (with_held (hand.Over i end) f n)
is_over w s u i end e f n work of same one over =
    let so = over_so w s u i end e f n work of same over in
    record { work = so.work; later = so.later; turn = ((same, one, inr (end, refl, over.ended)), work.idle); falls = λ _. so.falls }

-- It is done, and what this makes due is settled.
later_done : (s u : SeatSeen) (t k : ℕ) → u ≡ seat_with s (done_with t k s.view) → IsLater s u
later_done s u t k at = record {
  table = ap (λ (x : SeatSeen). x.table) at;
  core = ap (λ (x : SeatSeen). x.core) at;
  found = λ x. omega (arith, ap (λ (y : SeatSeen). get_or y.view.found x 0) at);
  told = λ x h. subst (λ (y : SeatSeen). Contains y.view.told x) (sym at) h;
}

later_delivered : (s u : SeatSeen) → IsKept s u → IsLater s u
later_delivered s u is = record { table = is.table; core = is.core; found = is.found; told = is.told }

-- What it owes then is that the instance's end be flagged.
pub owes_flag : (s m u : SeatSeen) (t k : ℕ) → s.view.owes ≡ [] → fixed_of m ≡ fixed_of s → u ≡ seat_with m (done_with t k m.view) → u.view.owes ≡ Flag t k ∷ []
owes_flag s m u t k nothing same at =
    ap (λ (x : SeatSeen). x.view.owes) at ∙ ap (λ (l : List Duty). Flag t k ∷ l) (ap (λ (x : SeatSeen). x.view.owes) same ∙ nothing)

settles : (w : WordsSeen) (s m d u : SeatSeen) (i : Instance) (end : End) (e f : EngineSeen) (n : ℕ) → IsAtWork w s (with_held (hand.Over i end) e n) → IsSeatOf w u → fixed_of m ≡ fixed_of s → d ≡ seat_with m (done_with i.t i.k m.view) → u.view.owes ≡ [] → IsKept d u → IsShaped w.opening.program.map f.cache → HasTurned w s (with_held (hand.Over i end) e n) Worked u (with_held hand.Nothing f n)
settles w s m d u i end e f n work of same at nothing kept shape =
    let later = later_both s m u (stage_later s m same) (later_both m d u (later_done m d i.t i.k at) (later_delivered d u kept)) in
    let less = to_find_least w.opening.program s.view u.view later.found in
    let free = kept.stage ∙ ap (λ (x : SeatSeen). x.view.stage) at in
    let none : n ≡ 0 = work.idle in
    record {
      work = record { of = of; nothing = nothing; shape = shape; holding = free; idle = omega (arith, none) };
      later = later;
      turn = ((refl, free), none);
      falls = λ _. omega (arith, less, none);
    }

-- ---- the same, of a core's work as it stands

module _ (w : WordsSeen) (s u : SeatSeen) (k : Work) where
  -- A fact of the work with what it holds.
  at_held : (h : Held) (P : Work → Type 0) → k.held ≡ h → P (with_held h k.engine k.idle) → P k
  at_held h P e x = subst (λ (y : Held). P (with_held y k.engine k.idle)) (sym e) x

  from_held : (h : Held) (P : Work → Type 0) → k.held ≡ h → P k → P (with_held h k.engine k.idle)
  from_held h P e x = subst (λ (y : Held). P (with_held y k.engine k.idle)) e x

  -- It has claimed an instance.
  pub claims_now : (i : Instance) → k.held ≡ hand.Nothing → IsAtWork w s k → IsSeatOf w u → HasClaimed w.opening i s u → HasTurned w s k Worked u (with_held (hand.Claimed i) k.engine 0)
  claims_now i e work of is = at_held hand.Nothing (λ x. HasTurned w s x Worked u (with_held (hand.Claimed i) k.engine 0)) e
      (claims w s u i k.engine k.idle (from_held hand.Nothing (λ x. IsAtWork w s x) e work) of is)

  -- It has left.
  pub leaves_now : (whole : Bool) → k.held ≡ hand.Nothing → IsAtWork w s k → IsSeatOf w u → HasNone w.opening whole s u → whole ≡ true → ((w.opening.cores ≡ 1) ⊎ (k.idle ≡ 4096)) → HasTurned w s k Left u k
  leaves_now whole e work of is so patient = at_held hand.Nothing (λ x. HasTurned w s x Left u x) e
      (leaves_so w s u whole k.engine k.idle (from_held hand.Nothing (λ x. IsAtWork w s x) e work) of is so patient)

  -- It has found nothing, and doesn't leave.
  pub waits_now : (whole : Bool) (n : ℕ) → k.held ≡ hand.Nothing → IsAtWork w s k → IsSeatOf w u → HasNone w.opening whole s u → ((whole ≡ true) × ((w.opening.cores ≡ 1) ⊎ (k.idle ≡ 4096)) → ⊥) → n ≡ min (k.idle + 1) 4096 → HasTurned w s k Nothing u (with_held k.held k.engine n)
  waits_now whole n e work of is none at = at_held hand.Nothing (λ x. HasTurned w s x Nothing u (with_held x.held k.engine n)) e
      (subst (λ (m : ℕ). HasTurned w s (with_held hand.Nothing k.engine k.idle) Nothing u (with_held hand.Nothing k.engine m)) (sym at)
      (waits_so w s u whole k.engine k.idle (from_held hand.Nothing (λ x. IsAtWork w s x) e work) of is none))

  -- Its instance begins.
  pub begins_now : (i : Instance) (f : EngineSeen) (start : ℕ) → k.held ≡ hand.Claimed i → IsAtWork w s k → IsSeatOf w u → u ≡ seat_with s (began s.view start) → IsGoing w.opening i.t i.k f u → f.core.state.count ≡ 0 → HasTurned w s k Worked u (with_held (hand.Running i) f k.idle)
  begins_now i f start e work of at going none = at_held (hand.Claimed i) (λ x. HasTurned w s x Worked u (with_held (hand.Running i) f k.idle)) e
      (begins w s u i k.engine f k.idle start (from_held (hand.Claimed i) (λ x. IsAtWork w s x) e work) of at going none)

  -- Its instance goes on.
  pub goes_on_now : (i : Instance) (f : EngineSeen) → k.held ≡ hand.Running i → IsAtWork w s k → IsSeatOf w u → fixed_of u ≡ fixed_of s → HasMadeTurn w.opening i.t i.k k.engine f → IsGoing w.opening i.t i.k f u → f.core.state.count ≡ k.engine.core.state.count + 1 → HasTurned w s k Worked u (with_held k.held f k.idle)
  goes_on_now i f e work of same one going more = at_held (hand.Running i) (λ x. HasTurned w s x Worked u (with_held x.held f k.idle)) e
      (goes_on w s u i k.engine f k.idle (from_held (hand.Running i) (λ x. IsAtWork w s x) e work) of same one going more)

  -- Its instance is over after one turn.
  pub is_over_now : (i : Instance) (end : End) (f : EngineSeen) → k.held ≡ hand.Running i → IsAtWork w s k → IsSeatOf w u → fixed_of u ≡ fixed_of s → HasMadeTurn w.opening i.t i.k k.engine f → IsOver w.opening i.t i.k end f u → HasTurned w s k Worked u (with_held (hand.Over i end) f k.idle)
  is_over_now i end f e work of same one over = at_held (hand.Running i) (λ x. HasTurned w s x Worked u (with_held (hand.Over i end) f k.idle)) e
      (is_over w s u i end k.engine f k.idle (from_held (hand.Running i) (λ x. IsAtWork w s x) e work) of same one over)

  -- Its instance is done, and what this makes due is settled.
  pub settles_now : (m d : SeatSeen) (i : Instance) (end : End) (f : EngineSeen) → k.held ≡ hand.Over i end → IsAtWork w s k → IsSeatOf w u → fixed_of m ≡ fixed_of s → d ≡ seat_with m (done_with i.t i.k m.view) → u.view.owes ≡ [] → IsKept d u → IsShaped w.opening.program.map f.cache → HasTurned w s k Worked u (with_held hand.Nothing f k.idle)
  settles_now m d i end f e work of same at nothing kept shape = at_held (hand.Over i end) (λ x. HasTurned w s x Worked u (with_held hand.Nothing f k.idle)) e
      (settles w s m d u i end k.engine f k.idle (from_held (hand.Over i end) (λ x. IsAtWork w s x) e work) of same at nothing kept shape)

  -- All instructions of its instance are done.
  pub runs_out_now : (i : Instance) (end : End) (f : EngineSeen) → k.held ≡ hand.Running i → IsAtWork w s k → IsSeatOf w u → fixed_of u ≡ fixed_of s → IsOver w.opening i.t i.k end f u → HasRunOut w s k u (with_held (hand.Over i end) f k.idle)
  runs_out_now i end f e work of same over =
      let is = at_held (hand.Running i) (λ x. IsOverNow w s u x (with_held (hand.Over i end) f k.idle)) e
      (over_so w s u i end k.engine f k.idle (from_held (hand.Running i) (λ x. IsAtWork w s x) e work) of same over) in
      record { work = is.work; later = is.later; falls = omega (arith, is.falls) }

  -- What it holds is as far as it says.
  pub holding_got : (i : Instance) → k.held ≡ hand.Claimed i → IsAtWork w s k → s.view.stage ≡ Got i.t i.k
  holding_got i e work = (from_held (hand.Claimed i) (λ x. IsAtWork w s x) e work).holding

  -- It is under way.
  pub holding_going : (i : Instance) → k.held ≡ hand.Running i → IsAtWork w s k → IsGoing w.opening i.t i.k k.engine s
  holding_going i e work = (from_held (hand.Running i) (λ x. IsAtWork w s x) e work).holding

  -- It has ended.
  pub holding_over : (i : Instance) (end : End) → k.held ≡ hand.Over i end → IsAtWork w s k → IsOver w.opening i.t i.k end k.engine s
  holding_over i end e work = (from_held (hand.Over i end) (λ x. IsAtWork w s x) e work).holding
