-- A core as contracts see it. (This project's own.)
use Rattle.std.specs.Prelude.{ℕ, ◌≡◌, ◌≢◌, ◌<◌, ◌≤◌, List, [], Option, Some, None, slice_index}
use Rattle.plural_serial.specs.Cached.{IsShaped}
use Rattle.plural_serial.specs.Program.{ProgramValue}
use Rattle.plural_rule.specs.Opening.{Opening}
use Rattle.plural_rule.specs.Last.{KnowsWhole}
use Rattle.plural_rule.specs.declared.view.Stage.TheVariants.{Free}
use Rattle.plural_words.specs.Seen.{WordsSeen, SeatSeen, IsSeatOf}
use Rattle.plural_stages.specs.Engines.{EngineSeen}
use Rattle.plural_cores.specs.Later.{IsLater}
use Rattle.plural_cores.specs.Works.{IsAtWork, IsTurn, turns_left}
use Rattle.plural_cores.specs.declared.answer.CoreTurn.{CoreTurn}
use Rattle.plural_cores.specs.declared.answer.CoreTurn.TheVariants.{Left}
use Rattle.plural_cores.specs.declared.held.Held.{Held}
use Rattle.plural_cores.specs.declared.held.Held.TheVariants.{Nothing}
use Rattle.plural_cores.specs.declared.work.Work.{Work}

-- A core: its number, its seat if it has one, how far it is with an instance, its engine, and how many turns in a row
-- it has found nothing.
pub record CoreSeen : Type 0 where
  pub number : ℕ
  pub seat : Option SeatSeen
  pub held : Held
  pub engine : EngineSeen
  pub idle : ℕ

-- What it has of its work.
abbrev pub work_of : CoreSeen → Work
work_of c = record { held = c.held; engine = c.engine; idle = c.idle }

-- It has this number and no seat, and its cache is of the program's map.
pub record IsOpened (p : ProgramValue) (number : ℕ) (c : CoreSeen) : Type 0 where
  pub is : c.number ≡ number
  pub empty : c.seat ≡ None
  pub shape : IsShaped p.map c.engine.cache

-- It has a seat that holds nothing and owes nothing.
pub record HasFreeSeat (c : CoreSeen) : Type 0 where
  pub seat : SeatSeen
  pub has : c.seat ≡ Some seat
  pub free : seat.view.stage ≡ Free
  pub nothing : seat.view.owes ≡ []

-- It has a seat of these words and of its own number, which holds nothing and owes nothing; of each task the seat has
-- found no less than this list says. The core holds nothing, and its cache is of the map.
pub record IsReady (w : WordsSeen) (first : List ℕ) (c : CoreSeen) : Type 0 where
  pub seat : SeatSeen
  pub has : c.seat ≡ Some seat
  pub of : IsSeatOf w seat
  pub number : seat.core ≡ c.number
  pub free : seat.view.stage ≡ Free
  pub nothing : seat.view.owes ≡ []
  pub found : (t : ℕ) → slice_index first t ≤ slice_index seat.view.found t
  pub shape : IsShaped w.opening.program.map c.engine.cache
  pub holds : c.held ≡ Nothing
  pub patient : c.idle ≤ 4096

-- So it is, and its seat knows each task that it knows as armed as wholly handed out.
pub record HasLeft (w : WordsSeen) (first : List ℕ) (c : CoreSeen) : Type 0 where
  pub ready : IsReady w first c
  pub whole : KnowsWhole w.opening ready.seat.view

-- What holds between two turns: it has a seat of these words and of its own number, which has found no less than this
-- list says, and is at work with it.
pub record IsAtTurn (w : WordsSeen) (first : List ℕ) (c : CoreSeen) : Type 0 where
  pub seat : SeatSeen
  pub has : c.seat ≡ Some seat
  pub number : seat.core ≡ c.number
  pub found : (t : ℕ) → slice_index first t ≤ slice_index seat.view.found t
  pub at_work : IsAtWork w seat (work_of c)

-- How many turns it has left at most. (None if it has no seat.)
abbrev pub turns_with : Opening → Work → Option SeatSeen → ℕ
turns_with o k None = 0
turns_with o k (Some s) = turns_left o s k

abbrev pub core_turns_left : Opening → CoreSeen → ℕ
core_turns_left o c = turns_with o (work_of c) c.seat

-- The same core, later: its number is as it was, and its seat is the same one, later.
pub record IsCoreLater (old new : CoreSeen) : Type 0 where
  pub seat : SeatSeen
  pub next : SeatSeen
  pub had : old.seat ≡ Some seat
  pub has : new.seat ≡ Some next
  pub number : new.number ≡ old.number
  pub later : IsLater seat next

-- A turn of a core with this answer has done what the answer says; the core is at work for the next turn, of which it
-- has fewer left unless it has left.
pub record HasCoreTurned (w : WordsSeen) (old : CoreSeen) (answer : CoreTurn) (new : CoreSeen) : Type 0 where
  pub same : IsCoreLater old new
  pub turn : IsTurn w.opening same.seat (work_of old) answer same.next (work_of new)
  pub work : (first : List ℕ) → IsAtTurn w first old → IsAtTurn w first new
  pub left : answer ≡ Left → (first : List ℕ) → IsAtTurn w first old → HasLeft w first new
  pub falls : answer ≢ Left → core_turns_left w.opening new < core_turns_left w.opening old
