-- A seat that is lent to a bus: what the bus tells of its instance, and what it leaves of it. (This project's own.)
use Rattle.std.specs.Prelude.{◌≡◌, ◌&&◌, nat_lt, length, Some}
use Rattle.plural_base.specs.Told.{Told, Counted}
use Rattle.plural_rule.specs.Opening.{Opening}
use Rattle.plural_rule.specs.declared.view.Stage.{Stage}
use Rattle.plural_rule.specs.declared.view.Stage.TheVariants.{Free, Got, Begun, Ended}
use Rattle.plural_words.specs.Seen.{WordsSeen, SeatSeen, IsSeatOf, seat_with}
use Rattle.plural_words.specs.Stages.{IsBegun, memory_of, may_read, to_come}

-- How many words its instance has read, and how many stores it has made. (0 if none is under way.)
abbrev pub counts_in : Stage → Counted
counts_in Free = record { reads = 0; writes = 0 }
counts_in (Got t k) = record { reads = 0; writes = 0 }
counts_in (Begun t k start made reads) = record { reads = reads; writes = made }
counts_in (Ended t k start end reads noted) = record { reads = 0; writes = 0 }

-- The memory of its instance in the serial run, after the stores that it has made; which words of it may be read; and
-- the stores to come.
abbrev pub told_in : Opening → Stage → Told
told_in o s = record {
  words = memory_of o s;
  lawful = λ a. nat_lt a (length (memory_of o s)) && may_read o s a;
  expects = Some (to_come o s);
}

-- The stage as it was before any store and any read.
abbrev pub at_start : Stage → Stage
at_start Free = Free
at_start (Got t k) = Got t k
at_start (Begun t k start made reads) = Begun t k start 0 0
at_start (Ended t k start end reads noted) = Ended t k start end reads noted

-- All of a seat but how many stores its instance has made and how many words it has read.
abbrev pub fixed_of : SeatSeen → SeatSeen
fixed_of s = seat_with s (let v = s.view in record v { stage = at_start v.stage })

-- The seat is of these words, and its instance is under way, with a memory of the map's words.
pub record IsLent (w : WordsSeen) (s : SeatSeen) : Type 0 where
  pub of : IsSeatOf w s
  pub begun : IsBegun s.view.stage
  pub long : length (memory_of w.opening s.view.stage) ≡ w.opening.program.map.words
