-- The lives of instances of a program, and the memories along a serial run.
use Rattle.std.proofs.Common.{ℕ, true, ◌≡◌, ◌<◌, ◌^◌, List, [], ◌∷◌, length, Option, Some, None, refl, sym, ap, ◌∙◌, arith}
use Rattle.std.specs.Prelude.{slice_index, IfSome}
use Rattle.std.specs.List.{All}
use Rattle.std.proofs.lemmas.List.Elements.{All-nil, All-cons}
use Rattle.plural_base.specs.Stores.{sets}
use Rattle.plural_regions.specs.Rights.{may_write}
use Rattle.plural_regions.proofs.Regions.{may_read_from_write}
use Rattle.plural_core.specs.Ends.{IsEnd}
use Rattle.plural_core.specs.declared.end.End.{End}
use Rattle.plural_core.proofs.Guards.{guarded_life}
use Rattle.plural_core.proofs.Lives.{life_ends, words_kept}
use Rattle.plural_core.proofs.LifeLaws.{set_life, few_life, causes_known}
use Rattle.plural_map.specs.Limits.{IsMap}
use Rattle.plural_map.specs.Value.{no_task}
use Rattle.plural_serial.specs.Program.{ProgramValue, task_at, place_at, start_state, life_of}
use Rattle.plural_serial.specs.Serial.{Started, ended, serial_of}
use Rattle.plural_serial.specs.Stretches.{Chain}
use Rattle.plural_serial.specs.Laws.{SerialChained, WholeLives}
use Rattle.plural_serial.proofs.Stretches.{serial_chain}

-- ---- one life

-- An instance leaves the memory with its stores set in order.
pub lives_set : (p : ProgramValue) (t k : ℕ) (m : List ℕ) → (life_of p t k m).memory ≡ sets m (life_of p t k m).stores
lives_set p t k m = set_life (task_at p t).budget (place_at p t k) (start_state p t k) m

-- An instance keeps the number of words.
lives_long : (p : ProgramValue) (t k : ℕ) (m : List ℕ) → length (life_of p t k m).memory ≡ length m
lives_long p t k m = words_kept (task_at p t).budget (place_at p t k) (start_state p t k) m

-- An instance stores where it may write, inside the memory.
stores_within : (p : ProgramValue) (t k : ℕ) (m : List ℕ) → IsMap p.map → t < length p.map.tasks → k < (task_at p t).quota
    → All (λ s. (may_write (task_at p t).regions k s.0 ≡ true) × (s.0 < p.map.words)) (life_of p t k m).stores
stores_within p t k m limits within below = λ i d l.
    let w = (guarded_life (task_at p t).budget (place_at p t k) (start_state p t k) m).stores i d l in
    let task = limits.each t no_task within in
    (w, task.inside k _ below (may_read_from_write (task_at p t).regions k _ w))

-- The whole life of an instance of a program.
pub whole_lives : WholeLives
whole_lives p t k m program limits within below =
    let task = limits.each t no_task within in
    let low = task.budget_low in
    let few = few_life (task_at p t).budget (place_at p t k) (start_state p t k) m in
    let e = life_ends (task_at p t).budget (place_at p t k) (start_state p t k) m refl (omega arith) (omega arith) in
    let entry : slice_index p.entries t < 2 ^ 32 = program.entries t 0 (omega (arith, program.one_each, within)) in
    let known = causes_known (task_at p t).budget (place_at p t k) (start_state p t k) m entry tt in
    record {
      over = e.1 ∙ sym (ap (λ (o : Option End). Some (ended o)) e.1);
      ends = end_known (life_of p t k m).state.over known;
      instructions = let c = few.instructions in omega arith;
      loads = few.loads;
      stores = few.stores;
      within = stores_within p t k m limits within below;
      memory = lives_set p t k m;
    }
  where
    end_known : (o : Option End) → IfSome o IsEnd → IsEnd (ended o)
    end_known None h = tt
    end_known (Some x) h = h

-- ---- memories along a run

-- A chain keeps the number of words, at each start and at its end.
chain_long : (p : ProgramValue) (m n : List ℕ) (ss : List Started) → Chain p m ss n → All (λ (s : Started). length s.start ≡ length m) ss × (length n ≡ length m)
chain_long p m n [] c = (All-nil (λ (s : Started). length s.start ≡ length m), ap length (sym c))
chain_long p m n (s ∷ ss) c =
    let kept : length (life_of p s.t s.k m).memory ≡ length m = lives_long p s.t s.k m in
    let rest = chain_long p (life_of p s.t s.k m).memory n ss c.1 in (
      All-cons (λ (x : Started). length x.start ≡ length m) s ss (ap length c.0) (λ i d l. rest.0 i d l ∙ kept),
      rest.1 ∙ kept,
    )

-- The instances of a serial run ran one after another, each over as many words as the opening image has.
pub serial_chained : SerialChained
serial_chained p m =
    let long = chain_long p m (serial_of p m).memory (serial_of p m).ran (serial_chain p m) in
    record { chain = serial_chain p m; starts = long.0; last = long.1 }
