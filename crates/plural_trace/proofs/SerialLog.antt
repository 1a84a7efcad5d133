-- The log of a serial run is one that can be printed.
use Rattle.std.proofs.Common.{◌+◌, ◌<◌, List, length, get_or, sym, subst, arith}
use Rattle.std.specs.List.{All}
use Rattle.std.proofs.lemmas.List.Elements.{All-from_get_or}
use Rattle.plural_map.specs.Limits.{IsMap}
use Rattle.plural_map.specs.Value.{MapValue, no_task}
use Rattle.plural_serial.specs.declared.record_.Record.{Record}
use Rattle.plural_serial.specs.Records.{IsRecord}
use Rattle.plural_serial.proofs.Records.{serial_records}
use Rattle.plural_trace.specs.declared.entry.Entry.{Entry}
use Rattle.plural_trace.specs.Logs.{IsEntry}
use Rattle.plural_trace.specs.Rules.{no_entry}
use Rattle.plural_trace.specs.SerialLog.{serial_entry, serial_entries}
use Rattle.plural_trace.specs.Laws.{SerialIsLog}
use Rattle.plural_trace.proofs.SerialLegal.{serial_long, serial_at}
use Rattle.plural_trace.proofs.SerialResults.{serial_fits}

-- An entry with a record that an instance of the map can have, and a core and tickets below 2^32.
pub entry_made : (m : MapValue) (e : Entry) → IsMap m → IsRecord m e.rec → e.core < 4294967296 → e.start < 4294967296 → e.end_at < 4294967296 → IsEntry (length m.tasks) e
entry_made m e limits h core start end_at =
    let task = limits.each e.rec.t no_task h.t in
    let quota = task.quota_high in
    let budget = task.budget_high in
    let k = h.k in
    let instructions = h.instructions in
    let loads = h.loads in
    let misses = h.misses in
    let stores = h.stores in
    record {
      t = h.t;
      k = omega arith;
      ended = h.ended;
      instructions = omega arith;
      loads = omega arith;
      misses = omega arith;
      stores = omega arith;
      core = core;
      start = start;
      end_at = end_at;
    }

-- The log of a serial run is a log of the map.
pub serial_is_log : SerialIsLog
serial_is_log p m a program limits run =
    let fits = serial_fits p m a limits run in
    let records : All (IsRecord p.map) a.records = subst (λ (rs : List Record). All (IsRecord p.map) rs) (sym run.records) (serial_records p m program limits) in
    record {
      cores_low = omega arith;
      cores_high = omega arith;
      one_each = fits.1;
      few = omega (arith, serial_long 0 a.records, fits.0);
      entries = All-from_get_or (IsEntry (length p.map.tasks)) (serial_entries 0 a.records) no_entry
          (λ i l.
          let lt : i < length a.records = omega (arith, serial_long 0 a.records, l) in
          let low : 0 + i < 65536 = omega (arith, fits.0, lt) in
          subst (IsEntry (length p.map.tasks)) (sym (serial_at 0 a.records i lt)) (entry_made p.map (serial_entry (0 + i) (get_or a.records i no_entry.rec)) limits (records i no_entry.rec lt) (omega arith) (omega (arith, low)) (omega (arith, low))));
    }
