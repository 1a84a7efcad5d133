-- What a core has of its work, what a turn does to it, and how many turns it has left. (This project's own.)
use Rattle.std.specs.Prelude.{ℕ, ◌≡◌, ◌≢◌, ◌+◌, ◌-◌, ◌*◌, ◌<◌, ◌≤◌, ◌⊎◌, min, [], Some}
use Rattle.plural_core.specs.declared.end.End.{End}
use Rattle.plural_serial.specs.Program.{task_at}
use Rattle.plural_serial.specs.Cached.{IsShaped}
use Rattle.plural_rule.specs.Opening.{Opening, task_count}
use Rattle.plural_rule.specs.Last.{KnowsWhole}
use Rattle.plural_rule.specs.Steps.{began}
use Rattle.plural_rule.specs.declared.view.View.{View}
use Rattle.plural_rule.specs.declared.view.Stage.TheVariants.{Free, Got}
use Rattle.plural_words.specs.Seen.{WordsSeen, SeatSeen, IsSeatOf, seat_with}
use Rattle.plural_words.specs.Lent.{fixed_of}
use Rattle.plural_stages.specs.Engines.{EngineSeen, IsGoing, IsOver, HasMadeTurn}
use Rattle.plural_cores.specs.Later.{IsLater, to_find}
use Rattle.plural_cores.specs.Sweeps.{HasTried, HasClaimed}
use Rattle.plural_cores.specs.declared.answer.CoreTurn.{CoreTurn}
use Rattle.plural_cores.specs.declared.answer.CoreTurn.TheVariants.{Worked, Nothing, Left}
use Rattle.plural_cores.specs.declared.sweep.Instance.{Instance}
use Rattle.plural_cores.specs.declared.held.Held.{Held}
use Rattle.plural_cores.specs.declared.held.Held.TheVariants as hand
use Rattle.plural_cores.specs.declared.work.Work.{Work}

-- ---- what a core has

-- The seat and the engine are with an instance as far as the core holds: none; one that was handed out; one under way;
-- one that has ended, and isn't done yet.
abbrev pub IsHolding : Opening → Held → EngineSeen → SeatSeen → Type 0
IsHolding o hand.Nothing e s = s.view.stage ≡ Free
IsHolding o (hand.Claimed i) e s = s.view.stage ≡ Got i.t i.k
IsHolding o (hand.Running i) e s = IsGoing o i.t i.k e s
IsHolding o (hand.Over i end) e s = IsOver o i.t i.k end e s

-- A core is idle only if it holds nothing, and counts 4,096 turns at most.
abbrev pub IsIdle : Held → (idle : ℕ) → Type 0
IsIdle hand.Nothing idle = idle ≤ 4096
IsIdle (hand.Claimed i) idle = idle ≡ 0
IsIdle (hand.Running i) idle = idle ≡ 0
IsIdle (hand.Over i end) idle = idle ≡ 0

-- A core is at work with a seat of these words, which owes nothing.
pub record IsAtWork (w : WordsSeen) (s : SeatSeen) (k : Work) : Type 0 where
  pub of : IsSeatOf w s
  pub nothing : s.view.owes ≡ []
  pub shape : IsShaped w.opening.program.map k.engine.cache
  pub holding : IsHolding w.opening k.held k.engine s
  pub idle : IsIdle k.held k.idle

-- ---- what a turn does

-- A core that holds nothing has claimed an instance; an instance has begun; one turn more of it was made, after which
-- it goes on with one instruction more completed, or has ended so; or it is done, and the core holds nothing.
abbrev pub HasWorked : Opening → Held → EngineSeen → SeatSeen → Held → EngineSeen → SeatSeen → Type 0
HasWorked o hand.Nothing e s h f u = (i : Instance) × (h ≡ hand.Claimed i) × HasClaimed o i s u
HasWorked o (hand.Claimed i) e s h f u =
    (start : ℕ) × (u ≡ seat_with s (began s.view start)) × (h ≡ hand.Running i) × (f.core.state.count ≡ 0)
HasWorked o (hand.Running i) e s h f u = (fixed_of u ≡ fixed_of s) × HasMadeTurn o i.t i.k e f
    × (((h ≡ hand.Running i) × (f.core.state.count ≡ e.core.state.count + 1))
    ⊎ ((end : End) × (h ≡ hand.Over i end) × (f.core.state.over ≡ Some end)))
HasWorked o (hand.Over i end) e s h f u = (h ≡ hand.Nothing) × (u.view.stage ≡ Free)

-- The view allows the core to leave: each task that it knows as armed is known as wholly handed out, and there is one
-- core, or this one has been idle for 4,096 turns.
pub record MayLeave (o : Opening) (v : View) (idle : ℕ) : Type 0 where
  pub whole : KnowsWhole o v
  pub patient : (o.cores ≡ 1) ⊎ (idle ≡ 4096)

-- The core held nothing, has tried every task, and holds nothing.
pub record HasFoundNone (o : Opening) (s : SeatSeen) (k : Work) (u : SeatSeen) (l : Work) : Type 0 where
  pub held_none : k.held ≡ hand.Nothing
  pub holds_none : l.held ≡ hand.Nothing
  pub tried : HasTried o (task_count o.program) s u

-- What a turn did to a seat and the core's work, by its answer.
abbrev pub IsTurn : Opening → SeatSeen → Work → CoreTurn → SeatSeen → Work → Type 0
IsTurn o s k Worked u l = HasWorked o k.held k.engine s l.held l.engine u × (l.idle ≡ 0)
IsTurn o s k Nothing u l =
    HasFoundNone o s k u l × (MayLeave o u.view k.idle → ⊥) × (l.idle ≡ min (k.idle + 1) 4096)
IsTurn o s k Left u l = HasFoundNone o s k u l × MayLeave o u.view k.idle × (l.idle ≡ k.idle)

-- ---- how many turns are left

-- How many stages the instance that it holds has left, at most: its beginning, its instructions and its end.
abbrev pub stages_left : Opening → Held → EngineSeen → ℕ
stages_left o hand.Nothing e = 0
stages_left o (hand.Claimed i) e = (task_at o.program i.t).budget + 3
stages_left o (hand.Running i) e = (task_at o.program i.t).budget - e.core.state.count + 2
stages_left o (hand.Over i end) e = 1

-- More than an instance has stages and a core idle turns, together.
abbrev pub turns_each : ℕ
turns_each = 134217728

-- A bound on the turns until it leaves: so many for each number that an alloc word can still rise by, the stages of
-- the instance that it holds, and the turns that it can still be idle.
abbrev pub turns_left : Opening → SeatSeen → Work → ℕ
turns_left o s k = turns_each * to_find o.program s.view + stages_left o k.held k.engine + (4096 - k.idle)

-- A turn with this answer: the core is at work with the same seat, has done what the answer says, and has fewer turns
-- left unless it leaves.
pub record HasTurned (w : WordsSeen) (s : SeatSeen) (k : Work) (answer : CoreTurn) (u : SeatSeen) (l : Work)
    : Type 0 where
  pub work : IsAtWork w u l
  pub later : IsLater s u
  pub turn : IsTurn w.opening s k answer u l
  pub falls : answer ≢ Left → turns_left w.opening u l < turns_left w.opening s k

-- All instructions of an instance that is under way are done, if there is one: the core is at work with the same seat,
-- and has no more turns left.
pub record HasRunOut (w : WordsSeen) (s : SeatSeen) (k : Work) (u : SeatSeen) (l : Work) : Type 0 where
  pub work : IsAtWork w u l
  pub later : IsLater s u
  pub falls : turns_left w.opening u l ≤ turns_left w.opening s k

-- A core has left: it is at work with the same seat, and holds nothing; the seat knows each task that it knows as
-- armed as wholly handed out.
pub record HasGone (w : WordsSeen) (s u : SeatSeen) (l : Work) : Type 0 where
  pub work : IsAtWork w u l
  pub later : IsLater s u
  pub holds : l.held ≡ hand.Nothing
  pub free : u.view.stage ≡ Free
  pub whole : KnowsWhole w.opening u.view
