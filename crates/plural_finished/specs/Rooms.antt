-- The room for what a finished machine has. (This project's own.)
use Rattle.std.specs.Prelude.{ℕ}
use Rattle.plural_serial.specs.Program.{ProgramValue}
use Rattle.plural_rule.specs.Opening.{task_count}
use Rattle.plural_rule.specs.Layout.{instances_before}

-- Memory for so many words of the image, outcomes of tasks and entries of instances.
pub record RoomSeen : Type 0 where
  pub words : ℕ
  pub tasks : ℕ
  pub instances : ℕ

-- Room for so many of each.
abbrev pub room_of : (words tasks instances : ℕ) → RoomSeen
room_of words tasks instances = record { words = words; tasks = tasks; instances = instances }

-- How many instances the tasks of a program have.
abbrev pub instance_count : ProgramValue → ℕ
instance_count p = instances_before p (task_count p)

-- As much room as a machine of a program can want.
abbrev pub room_for : ProgramValue → RoomSeen
room_for p = room_of p.map.words (task_count p) (instance_count p)
