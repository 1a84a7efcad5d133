-- What contracts see of the words and of their tokens. (This project's own.)
use Rattle.std.specs.Prelude.{ℕ, ◌≡◌, List, []}
use Rattle.atomic_table.specs.Seated.{TableId}
use Rattle.plural_map.specs.Value.{map_value}
use Rattle.plural_serial.specs.Program.{ProgramValue}
use Rattle.plural_rule.specs.Opening.{Opening}
use Rattle.plural_rule.specs.Rule.{IsViewOf}
use Rattle.plural_rule.specs.Stages.{outs_of}
use Rattle.plural_rule.specs.declared.view.View.{View}
use Rattle.plural_rule.specs.declared.view.Role.TheVariants as role

-- A program over an image, for this many cores.
abbrev pub opening_of : ProgramValue → (image : List ℕ) → (cores : ℕ) → Opening
opening_of p image cores = record { program = p; image = image; cores = cores }

-- The words: which table they stand in, and what they were opened with.
pub record WordsSeen : Type 0 where
  pub table : TableId
  pub opening : Opening

-- A seat: the table that it is of, its core number, and what it knows.
pub record SeatSeen : Type 0 where
  pub table : TableId
  pub core : ℕ
  pub view : View

-- The root: the table that it is of, and what it knows.
pub record RootSeen : Type 0 where
  pub table : TableId
  pub view : View

-- The seat, knowing something else.
abbrev pub seat_with : SeatSeen → View → SeatSeen
seat_with s v = record { table = s.table; core = s.core; view = v }

-- The root, knowing something else.
abbrev pub root_with : RootSeen → View → RootSeen
root_with r v = record { table = r.table; view = v }

-- The seat is of these words.
pub record IsSeatOf (w : WordsSeen) (s : SeatSeen) : Type 0 where
  pub table : s.table ≡ w.table
  pub view : IsViewOf w.opening s.view
  pub role : s.view.role ≡ role.Seat s.core

-- The root is of these words.
pub record IsRootOf (w : WordsSeen) (r : RootSeen) : Type 0 where
  pub table : r.table ≡ w.table
  pub view : IsViewOf w.opening r.view
  pub role : r.view.role ≡ role.Root (outs_of r.view.role)

-- The opening of no program, for what is left of a seat that was joined.
abbrev pub no_opening : Opening
no_opening = record {
  program = record { map = map_value 0 0 0 [] []; code = []; entries = [] };
  image = [];
  cores = 0;
}
