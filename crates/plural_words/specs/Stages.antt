-- What a call asks of the stage of a seat. (This project's own.)
use Rattle.std.specs.Prelude.{ℕ, ◌≡◌, ◌*◌, Bool, true, false, List, [], length, drop, slice_index}
use Rattle.plural_order.specs.World.{value_at, start_at}
use Rattle.plural_rule.specs.Opening.{Opening, Runs, world_in, stores_of, record_of}
use Rattle.plural_rule.specs.Laws.{HasNoted}
use Rattle.plural_rule.specs.declared.view.Stage.{Stage}
use Rattle.plural_rule.specs.declared.view.Stage.TheVariants.{Free, Got, Begun, Ended}

-- It was handed an instance, which hasn't begun.
abbrev pub IsGot : Stage → Type 0
IsGot Free = ⊥
IsGot (Got t k) = Unit {0}
IsGot (Begun t k start made reads) = ⊥
IsGot (Ended t k start end reads noted) = ⊥

-- The instance that it holds. ((0, 0) if it holds none.)
abbrev pub instance_of : Stage → ℕ × ℕ
instance_of Free = (0, 0)
instance_of (Got t k) = (t, k)
instance_of (Begun t k start made reads) = (t, k)
instance_of (Ended t k start end reads noted) = (t, k)

-- Its instance is under way.
abbrev pub IsBegun : Stage → Type 0
IsBegun Free = ⊥
IsBegun (Got t k) = ⊥
IsBegun (Begun t k start made reads) = Unit {0}
IsBegun (Ended t k start end reads noted) = ⊥

-- The memory of its instance in the serial run, after the stores that it has made. (Empty if none is under way.)
abbrev pub memory_of : Opening → Stage → List ℕ
memory_of o Free = []
memory_of o (Got t k) = []
memory_of o (Begun t k start made reads) = value_at (world_in o) (t, k) made
memory_of o (Ended t k start end reads noted) = []

-- Its instance is under way and may read word a, as a test.
abbrev pub may_read : Opening → Stage → (a : ℕ) → Bool
may_read o Free a = false
may_read o (Got t k) a = false
may_read o (Begun t k start made reads) a = (world_in o).reads (t, k) a
may_read o (Ended t k start end reads noted) a = false

-- If it may read word a, this is what the word is in its memory.
abbrev pub IsRead : Opening → Stage → (a found : ℕ) → Type 0
IsRead o s a found = may_read o s a ≡ true → found ≡ slice_index (memory_of o s) a

-- Instance i of the serial run is under way since this start ticket, and has made no store and read no word. Its
-- memory is the one at its start in the serial run, and has the map's words.
pub record IsUnderWay (o : Opening) (i : ℕ × ℕ) (start : ℕ) (s : Stage) : Type 0 where
  pub stage : s ≡ Begun i.0 i.1 start 0 0
  pub runs : Runs o i.0 i.1
  pub memory : memory_of o s ≡ start_at (world_in o) i
  pub long : length (memory_of o s) ≡ o.program.map.words

-- The stores that its instance has still to make.
abbrev pub to_come : Opening → Stage → List (ℕ × ℕ)
to_come o Free = []
to_come o (Got t k) = []
to_come o (Begun t k start made reads) = drop made (stores_of o t k)
to_come o (Ended t k start end reads noted) = []

-- Its instance has made all its stores, and has read eight words of the memory for each miss of its record.
abbrev pub HasRun : Opening → Stage → Type 0
HasRun o Free = ⊥
HasRun o (Got t k) = ⊥
HasRun o (Begun t k start made reads) = (made ≡ length (stores_of o t k)) × (reads ≡ 8 * (record_of o t k).misses)
HasRun o (Ended t k start end reads noted) = ⊥

-- Its instance has ended.
abbrev pub IsEnded : Stage → Type 0
IsEnded Free = ⊥
IsEnded (Got t k) = ⊥
IsEnded (Begun t k start made reads) = ⊥
IsEnded (Ended t k start end reads noted) = Unit {0}

-- What was noted of it, the latest first.
abbrev pub noted_in : Stage → List (ℕ × ℕ)
noted_in Free = []
noted_in (Got t k) = []
noted_in (Begun t k start made reads) = []
noted_in (Ended t k start end reads noted) = noted

-- Its instance has ended, and every field of its record but the last is noted, with this core.
abbrev pub IsNoted : Opening → (core : ℕ) → Stage → Type 0
IsNoted o core Free = ⊥
IsNoted o core (Got t k) = ⊥
IsNoted o core (Begun t k start made reads) = ⊥
IsNoted o core (Ended t k start end reads noted) = HasNoted o t k start core noted
