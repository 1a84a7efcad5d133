-- An instance as its turns see it: its registers, and where it stands. (This project's own; no section of a standard.)
use Rattle.std.specs.Prelude.{ℕ, List, [], Option, Some, None}
use Rattle.plural_core.specs.Turn.{State, Core, going, finished, place_of}
use Rattle.plural_core.specs.declared.progress.Progress.{Progress}
use Rattle.plural_core.specs.declared.progress.Next.{Next}
use Rattle.plural_core.specs.declared.progress.Next.TheVariants as next
use Rattle.plural_core.specs.declared.hart.Turn.{Turn}
use Rattle.plural_core.specs.declared.hart.Turn.TheVariants as outcome
use Rattle.plural_core.specs.declared.end.End.{End}
use Rattle.plural_core.specs.declared.end.End.TheVariants as end

-- The core of an instance that stands here with these registers, and with this end or none.
abbrev pub core_of : Progress → List ℕ → Option End → Core
core_of at x over =
    record {
      state = record { registers = x; pc = at.pc; count = at.count; over = over };
      k = at.k;
      budget = at.budget;
    }

-- The core of an instance that goes on.
abbrev pub live : Progress → List ℕ → Core
live at x = core_of at x None

-- Where an instance stands, of a core.
abbrev pub progress_of : Core → Progress
progress_of c = record { pc = c.state.pc; count = c.state.count; k = c.k; budget = c.budget }

-- The state after an instruction of a core that goes on like this and leaves these registers.
abbrev pub counted : Core → Next → List ℕ → State
counted c (next.Go pc) x = going (place_of [] [] c) c.state x pc
counted c (next.Trap cause) x =
    record { registers = x; pc = c.state.pc; count = c.state.count; over = Some (end.Trap cause c.state.pc) }
counted c next.Finish x = (finished (record c.state { registers = x }) []).state

-- The end that a turn answers, or none.
abbrev pub end_of : Turn → Option End
end_of outcome.Going = None
end_of (outcome.Over e) = Some e
