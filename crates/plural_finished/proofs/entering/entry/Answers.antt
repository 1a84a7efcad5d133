use Rattle.std.proofs.Common.{ℕ, ◌/◌, ◌<◌, subst, sym}
use Rattle.plural_finished.proofs.Instances.{words_low}
use Rattle.plural_finished.proofs.entering.entry.Goals as goal

-- The word of the end is one of the serial run's.
pub end_of-requires : goal.end_of-requires
end_of-requires c = subst (λ (n : ℕ). n / 4294967296 < 256) (sym c.record.ensures) (words_low _ c.requires.run _ _ c.requires.done).ended

-- The number of instructions has 32 bits.
pub number-requires-clause-low : goal.number-requires-clause-low
number-requires-clause-low c = (words_low _ c.requires.run _ _ c.requires.done).instructions

-- So has that of loads.
pub number-requires-2-clause-low : goal.number-requires-2-clause-low
number-requires-2-clause-low c = let d = c.requires in (words_low _ d.run _ _ d.done).loads

-- So has that of misses.
pub number-requires-3-clause-low : goal.number-requires-3-clause-low
number-requires-3-clause-low c = let d = c.requires in (words_low _ d.run _ _ d.done).misses

-- So has that of stores.
pub number-requires-4-clause-low : goal.number-requires-4-clause-low
number-requires-4-clause-low c = let d = c.requires in (words_low _ d.run _ _ d.done).stores

-- So has the number of the core.
pub number-requires-5-clause-low : goal.number-requires-5-clause-low
number-requires-5-clause-low c = let d = c.requires in (words_low _ d.run _ _ d.done).core

-- So has the start ticket.
pub number-requires-6-clause-low : goal.number-requires-6-clause-low
number-requires-6-clause-low c = let d = c.requires in (words_low _ d.run _ _ d.done).start

-- So has 1 plus the end ticket.
pub number-requires-7-clause-low : goal.number-requires-7-clause-low
number-requires-7-clause-low c = let d = c.requires in (words_low _ d.run _ _ d.done).done
