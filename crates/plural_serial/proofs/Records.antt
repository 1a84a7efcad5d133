-- The records of a serial run are those that instances of its map can have.
use Rattle.std.proofs.Common.{ℕ, ◌≡◌, ◌<◌, Bool, true, ◌&&◌, eqb, List, [], length, map, get_or, refl, sym, ap, ◌∙◌, arith}
use Rattle.std.specs.List.{All}
use Rattle.std.proofs.lemmas.Bool.{eq-eqb}
use Rattle.std.proofs.lemmas.List.{length-map, get_or-map}
use Rattle.std.proofs.lemmas.List.Elements.{All-from_get_or, All-map}
use Rattle.std.proofs.lemmas.List.Folds.{list_any_at}
use Rattle.plural_cache.proofs.Misses.{misses_few}
use Rattle.plural_map.specs.Limits.{IsMap}
use Rattle.plural_serial.specs.Program.{ProgramValue, IsProgram, task_at, life_of}
use Rattle.plural_serial.specs.Serial.{Started, serial_of}
use Rattle.plural_serial.specs.Answer.{record_of}
use Rattle.plural_serial.specs.Instances.{Inst, same, is_in, instance_of, insts}
use Rattle.plural_serial.specs.Records.{IsRecord, SerialRecords}
use Rattle.plural_serial.proofs.Stretches.{ran_instances}
use Rattle.plural_serial.proofs.WholeLives.{whole_lives}

-- An instance is the same as itself.
pub same_self : (i : Inst) → same i i ≡ true
same_self i = ap (λ (b : Bool). b && eqb i.1 i.1) (eq-eqb i.0 i.0 refl) ∙ eq-eqb i.1 i.1 refl

no_start : Started
no_start = record { t = 0; k = 0; start = [] }

-- Each instance that ran is one of the map.
ran_each : (p : ProgramValue) (m : List ℕ) → IsMap p.map → All (λ (s : Started). (s.t < length p.map.tasks) × (s.k < (task_at p s.t).quota)) (serial_of p m).ran
ran_each p m limits =
    let ran = (serial_of p m).ran in
    All-from_get_or (λ (s : Started). (s.t < length p.map.tasks) × (s.k < (task_at p s.t).quota)) ran no_start
    (λ i l.
    let s = get_or ran i no_start in
    let own : get_or (insts ran) i (instance_of s) ≡ instance_of s = get_or-map instance_of ran i no_start (instance_of s) l in
    let there : is_in (instance_of s) (insts ran) ≡ true
    = list_any_at (same (instance_of s)) (insts ran) i (instance_of s) (omega (arith, l, length-map ran instance_of)) (ap (same (instance_of s)) own ∙ same_self (instance_of s)) in
    ran_instances p m limits s.t s.k there)

-- The record of an instance of the map, from any memory.
record_made : (p : ProgramValue) (s : Started) → IsProgram p → IsMap p.map → s.t < length p.map.tasks → s.k < (task_at p s.t).quota → IsRecord p.map (record_of p s)
record_made p s program limits within below =
    let w = whole_lives p s.t s.k s.start program limits within below in
    record {
      t = within;
      k = below;
      ended = w.ends;
      instructions = w.instructions;
      loads = w.loads;
      misses = misses_few p.map.sets p.map.ways (life_of p s.t s.k s.start).loads;
      stores = w.stores;
    }

-- Each record of a serial run is such a one.
pub serial_records : SerialRecords
serial_records p m program limits =
    All-map (IsRecord p.map) (record_of p) (serial_of p m).ran (λ i d l. let r = ran_each p m limits i d l in record_made p (get_or (serial_of p m).ran i d) program limits r.0 r.1)
