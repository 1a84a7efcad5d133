-- How instances end. (This project's own.)
use Rattle.std.specs.Prelude.{◌<◌, ◌≤◌}
use Rattle.plural_core.specs.declared.end.End.{End}
use Rattle.plural_core.specs.declared.end.End.TheVariants as end

-- A trap's cause is 1 to 9 and its pc below 2^32.
abbrev pub IsEnd : End → Type 0
IsEnd end.Code0 = Unit {0}
IsEnd end.Code1 = Unit {0}
IsEnd (end.Trap cause pc) = (1 ≤ cause) × (cause ≤ 9) × (pc < 4294967296)
IsEnd end.Exhausted = Unit {0}
