-- The record of an instance as eight words. (This project's own.)
use Rattle.std.specs.Prelude.{ℕ, ◌≡◌, ◌+◌, ◌-◌, ◌*◌, ◌/◌, ◌%◌, ◌^◌, ◌<◌, ◌==◌, if◌then◌else◌}
use Rattle.plural_core.specs.declared.end.End.{End}
use Rattle.plural_core.specs.declared.end.End.TheVariants as end
use Rattle.plural_trace.specs.declared.entry.Entry.{Entry}
use Rattle.plural_trace.specs.Logs.{IsEntry}

-- The word of an end: 0 or 1 for a code, 2 for a budget used up, and for a trap its cause times 2^32 plus its pc.
abbrev pub end_word : End → ℕ
end_word end.Code0 = 0
end_word end.Code1 = 1
end_word end.Exhausted = 2
end_word (end.Trap cause pc) = cause * 2 ^ 32 + pc

-- The end that a word tells.
abbrev pub end_of_word : ℕ → End
end_of_word w =
    if w == 0 then end.Code0
    else if w == 1 then end.Code1
    else if w == 2 then end.Exhausted
    else end.Trap (w / 2 ^ 32) (w % 2 ^ 32)

-- The words of an instance: its end, the numbers of its instructions, loads, misses and stores, its start ticket, its
-- core, and 1 plus its end ticket. (0 stands there until the instance is done.)
pub record RecordWords : Type 0 where
  pub «end» : ℕ
  pub instructions : ℕ
  pub loads : ℕ
  pub misses : ℕ
  pub stores : ℕ
  pub start : ℕ
  pub core : ℕ
  pub done : ℕ

-- The words of an entry.
abbrev pub words_of : Entry → RecordWords
words_of e = record {
  «end» = end_word e.rec.«end»;
  instructions = e.rec.instructions;
  loads = e.rec.loads;
  misses = e.rec.misses;
  stores = e.rec.stores;
  start = e.start;
  core = e.core;
  done = 1 + e.end_at;
}

-- The entry of instance k of task t that such words tell.
abbrev pub entry_of : (t k : ℕ) → RecordWords → Entry
entry_of t k w = record {
  rec = record {
    t = t;
    k = k;
    «end» = end_of_word w.«end»;
    instructions = w.instructions;
    loads = w.loads;
    misses = w.misses;
    stores = w.stores;
  };
  core = w.core;
  start = w.start;
  end_at = w.done - 1;
}

-- Each of the words is below 2^64.
pub record AreRecordWords (w : RecordWords) : Type 0 where
  pub «end» : w.«end» < 2 ^ 64
  pub instructions : w.instructions < 2 ^ 64
  pub loads : w.loads < 2 ^ 64
  pub misses : w.misses < 2 ^ 64
  pub stores : w.stores < 2 ^ 64
  pub start : w.start < 2 ^ 64
  pub core : w.core < 2 ^ 64
  pub done : w.done < 2 ^ 64

-- The words of an entry of a log tell this entry, and each of them is below 2^64.
abbrev pub RecordRoundTrip : Type 0
RecordRoundTrip = (tasks : ℕ) (e : Entry) → IsEntry tasks e
    → (entry_of e.rec.t e.rec.k (words_of e) ≡ e) × AreRecordWords (words_of e)
