-- Sets of task numbers as two halves of bits.
use Rattle.std.specs.Prelude.{ℕ, ◌-◌, ◌==◌, Bool, nat_lt, if◌then◌else◌}
use Rattle.std.specs.Int.{bit_at}
use Rattle.plural_reach.specs.declared.set.TaskSet.{TaskSet}

-- The set has the number t.
unfoldable pub has : TaskSet → ℕ → Bool
has s t = if nat_lt t 128 then bit_at s.low t == 1 else bit_at s.high (t - 128) == 1
