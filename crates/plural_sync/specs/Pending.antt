-- The tasks that are being told, and the duties that they stand for. (This project's own.)
use Rattle.std.specs.Prelude.{ℕ, ◌≡◌, false, List, ◌++◌, map, reverse}
use Rattle.plural_order.specs.Sums.{sum_over}
use Rattle.plural_counters.specs.Duties.{progress_of}
use Rattle.plural_counters.specs.Counters.{IsSound}
use Rattle.plural_counters.specs.Steps.{tell_next, owed_in}
use Rattle.plural_counters.specs.declared.duty.Duty.{Duty}
use Rattle.plural_counters.specs.declared.duty.Duty.TheVariants.{Tell}
use Rattle.plural_rule.specs.Opening.{graph_in}
use Rattle.plural_rule.specs.Kept.{duties}
use Rattle.plural_words.specs.Seen.{WordsSeen, SeatSeen, IsSeatOf}
use Rattle.plural_sync.specs.declared.pending.Telling.{Telling}

-- The duty of a task that is being told.
abbrev pub tell_of : Telling → Duty
tell_of x = Tell x.task x.outcome x.place false

-- Those of several, of which the last began last: its duty comes first.
abbrev pub tells : List Telling → List Duty
tells l = map tell_of (reverse l)

-- What there is to tell of such a task after the successor at its place.
abbrev pub tells_next : (successors : List ℕ) → Telling → List Duty
tells_next successors x = owed_in (tell_next successors x.task x.outcome x.place)

-- The seat owes these duties, and then those of the tasks that are being told. Its duties are sound.
pub record IsPending (w : WordsSeen) (s : SeatSeen) (first : List Duty) (l : List Telling) : Type 0 where
  pub of : IsSeatOf w s
  pub sound : IsSound (graph_in w.opening) (duties s.view)
  pub owes : s.view.owes ≡ first ++ tells l

-- How far the seat has told its tasks.
abbrev pub progress_in : WordsSeen → SeatSeen → ℕ
progress_in w s = sum_over (progress_of (graph_in w.opening)) (duties s.view)
