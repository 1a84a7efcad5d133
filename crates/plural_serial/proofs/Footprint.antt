-- An instance of a program depends on the words that it may read alone, and stores where it may write.
use Rattle.std.proofs.Common.{ℕ, ◌<◌, List, length, arith, ap}
use Rattle.plural_map.specs.Value.{no_task}
use Rattle.plural_map.specs.Limits.{IsMap}
use Rattle.plural_core.specs.Footprint.{Agrees}
use Rattle.plural_core.proofs.Footprint.{alike_life}
use Rattle.plural_core.proofs.Guards.{guarded_life}
use Rattle.plural_serial.specs.Program.{ProgramValue, task_at, place_at, start_state}
use Rattle.plural_serial.specs.Footprint.{AgreeFor, Footprint}

-- Memories of the map's length that agree for an instance agree where it runs.
agrees_at : (p : ProgramValue) (t k : ℕ) (m n : List ℕ) → IsMap p.map → t < length p.map.tasks → k < (task_at p t).quota → AgreeFor p t k m n → Agrees (place_at p t k) m n
agrees_at p t k m n limits within below h =
    let task = limits.each t no_task within in
    record {
      words = h.words;
      inside = λ a r. (omega (arith, task.inside k a below r, h.first), omega (arith, task.inside k a below r, h.second));
    }

-- The law of the footprint.
pub footprint : Footprint
footprint p t k m n limits within below h =
    let place = place_at p t k in
    let turns = (task_at p t).budget in
    let alike = alike_life turns place (start_state p t k) m n (agrees_at p t k m n limits within below h) in (
      record {
        loads = alike.loads;
        stores = alike.stores;
        instructions = ap (λ s. s.count) alike.state;
        over = ap (λ s. s.over) alike.state;
      },
      (guarded_life turns place (start_state p t k) m).stores,
    )
