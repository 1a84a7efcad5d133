-- A seat with what it takes to run an instance. (This project's own.)
use Rattle.std.specs.Prelude.{◌≡◌, []}
use Rattle.plural_rule.specs.declared.view.Stage.TheVariants.{Free}
use Rattle.plural_serial.specs.Cached.{IsShaped}
use Rattle.plural_stages.specs.Engines.{EngineSeen}
use Rattle.plural_words.specs.Seen.{WordsSeen, SeatSeen, IsSeatOf}

-- The seat is of these words, holds nothing and owes nothing, and the engine's cache is of the map.
pub record IsIdle (w : WordsSeen) (seat : SeatSeen) (engine : EngineSeen) : Type 0 where
  pub of : IsSeatOf w seat
  pub free : seat.view.stage ≡ Free
  pub nothing : seat.view.owes ≡ []
  pub shape : IsShaped w.opening.program.map engine.cache
