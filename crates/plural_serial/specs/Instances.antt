-- Instances by the numbers of their tasks and their own. (This project's own.)
use Rattle.std.specs.Prelude.{ℕ, ◌==◌, ◌&&◌, Bool, List, map}
use Rattle.std.specs.List.{list_any}
use Rattle.plural_serial.specs.Serial.{Started}

-- An instance: the number of its task, and its own.
abbrev pub Inst : Type 0
Inst = ℕ × ℕ

-- The two are the same instance.
abbrev pub same : Inst → Inst → Bool
same i j = (i.0 == j.0) && (i.1 == j.1)

-- The instance is one of the list.
abbrev pub is_in : Inst → List Inst → Bool
is_in i js = list_any (same i) js

-- The instance that ran.
abbrev pub instance_of : Started → Inst
instance_of s = (s.t, s.k)

-- The instances that ran, in their order.
abbrev pub insts : List Started → List Inst
insts ss = map instance_of ss
