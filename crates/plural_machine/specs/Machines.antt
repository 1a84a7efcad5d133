-- A machine as contracts see it. (This project's own.)
use Rattle.std.specs.Prelude.{ℕ, ◌≡◌, ◌≤◌, [], List, length}
use Rattle.plural_serial.specs.Program.{ProgramValue, IsProgram}
use Rattle.plural_order.specs.ProgramWorld.{IsOpening}
use Rattle.plural_rule.specs.Opening.{Opening}
use Rattle.plural_rule.specs.declared.view.View.{View}
use Rattle.plural_rule.specs.declared.view.Role.TheVariants as role
use Rattle.plural_words.specs.Seen.{WordsSeen, RootSeen, IsRootOf}
use Rattle.plural_finished.specs.Rooms.{RoomSeen, room_for}
use Rattle.plural_cores.specs.Cores.{CoreSeen}
use Rattle.plural_machine.specs.Knowing.{numbers_below, with_role, all_joined}
use Rattle.plural_machine.specs.Together.{Each, IsIdle, IsSent}
use Rattle.plural_machine.specs.Drawn.{HaveHadTurns}

-- A machine: what its words were opened with, and what its root knows.
pub record MachineSeen : Type 0 where
  pub opening : Opening
  pub root : View

-- The words were opened for 1 to 64 cores, over a program whose map is within its limits and has no clash, and an
-- image of its length.
pub record IsRunnable (o : Opening) : Type 0 where
  pub program : IsProgram o.program
  pub opening : IsOpening o.program o.image
  pub some_core : 1 ≤ o.cores
  pub few_cores : o.cores ≤ 64

-- What holds of a machine that isn't running: no seat is out; it has all its cores, in the order of their numbers; its
-- synchroniser and its room are for its program.
pub record IsWhole (w : WordsSeen) (r : RootSeen) (sync : ProgramValue) (cores : List CoreSeen) (room : RoomSeen)
    : Type 0 where
  pub runnable : IsRunnable w.opening
  pub of : IsRootOf w r
  pub alone : r.view.role ≡ role.Root []
  pub settles : sync ≡ w.opening.program
  pub all : length cores ≡ w.opening.cores
  pub idle : Each (IsIdle w) cores
  pub fits : room ≡ room_for w.opening.program

-- A run in the order that a seed draws: each core of the opening had a seat, the cores had their turns in that order,
-- and the root, which knew this much before, has taken back what their seats knew.
pub record HasRunInOrder (o : Opening) (seed : ℕ) (before after : View) : Type 0 where
  pub words : WordsSeen
  pub opening : words.opening ≡ o
  pub sent : List CoreSeen
  pub back : List CoreSeen
  pub all : length sent ≡ o.cores
  pub each : Each (IsSent words before.found) sent
  pub turns : HaveHadTurns words seed sent back
  pub joined : after ≡ all_joined (with_role before (role.Root (numbers_below o.cores))) back
