-- Where each word lies. (This project's own.)
--
-- The words of the memory come first, so that a word's place is its address. Then come the records, eight words an
-- instance: a memory is whole lines of eight words, so each record is a cache line of its own if the words begin at
-- one, and only the core that ran the instance writes it. The records of a task begin after those of the tasks before
-- it, so the words grow with the instances that a map has and not with those that it could have. Then come the five
-- counters of each task, side by side: a core that settles a task finds them in one line or two, and cores that claim
-- or settle different tasks meet as seldom as five words a task allow. The clock, which every core draws from, comes
-- last, and so shares no line with the memory or a record.
use Rattle.std.specs.Prelude.{ℕ, ◌+◌, ◌*◌}
use Rattle.plural_serial.specs.Program.{ProgramValue}
use Rattle.plural_order.specs.Sums.{sum_below}
use Rattle.plural_rule.specs.Opening.{task_count, quota_of}

-- How many instances the tasks before task t have.
abbrev pub instances_before : ProgramValue → (t : ℕ) → ℕ
instances_before p t = sum_below (quota_of p) t

-- Field f of the record of instance (t, k). The fields are numbered: 0 end, 1 instructions, 2 loads, 3 misses,
-- 4 stores, 5 start ticket, 6 core, 7 done.
abbrev pub field_at : ProgramValue → (t k f : ℕ) → ℕ
field_at p t k f = p.map.words + 8 * (instances_before p t + k) + f

-- 1 plus the end ticket of a done instance; 0 before.
abbrev pub done_at : ProgramValue → (t k : ℕ) → ℕ
done_at p t k = field_at p t k 7

-- The first word after the records.
abbrev pub counters_at : ProgramValue → ℕ
counters_at p = p.map.words + 8 * instances_before p (task_count p)

-- Of task t: 1 plus the number of instances that were handed out, and 0 until it is armed; the bits of the ends; the
-- instances left to count; the bits of the dependencies; the dependencies left to count.
abbrev pub alloc_at : ProgramValue → (t : ℕ) → ℕ
alloc_at p t = counters_at p + 5 * t

abbrev pub flags_at : ProgramValue → (t : ℕ) → ℕ
flags_at p t = counters_at p + 5 * t + 1

abbrev pub left_at : ProgramValue → (t : ℕ) → ℕ
left_at p t = counters_at p + 5 * t + 2

abbrev pub state_at : ProgramValue → (t : ℕ) → ℕ
state_at p t = counters_at p + 5 * t + 3

abbrev pub open_deps_at : ProgramValue → (t : ℕ) → ℕ
open_deps_at p t = counters_at p + 5 * t + 4

-- The clock: the next ticket.
abbrev pub clock_at : ProgramValue → ℕ
clock_at p = counters_at p + 5 * task_count p

-- How many words there are.
abbrev pub word_count : ProgramValue → ℕ
word_count p = clock_at p + 1
