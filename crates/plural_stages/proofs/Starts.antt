-- An engine whose instance has just begun.
use Rattle.std.proofs.Common.{ℕ, ◌≡◌, ◌*◌, ◌<◌, inr, List, [], length, refl, sym, ap, ◌∙◌, subst, arith}
use Rattle.std.specs.Prelude.{slice_index}
use Rattle.std.proofs.lemmas.List.Elements.{All-nil}
use Rattle.plural_base.specs.Stores.{sets}
use Rattle.plural_map.specs.Limits.{IsMap}
use Rattle.plural_map.specs.Value.{no_task}
use Rattle.plural_cache.specs.Buffer.{told_through, IsBufferOver}
use Rattle.plural_cache.specs.Cache.{CacheValue, StandsFor, IsFresh}
use Rattle.plural_core.specs.Turn.{Core, Step, start_of}
use Rattle.plural_core.specs.Life.{life, stay}
use Rattle.plural_serial.specs.Program.{task_at, start_state}
use Rattle.plural_serial.proofs.Stretches.{which_ran}
use Rattle.plural_order.specs.World.{start_at}
use Rattle.plural_rule.specs.Opening.{Opening, IsInstance, Runs, world_in}
use Rattle.plural_rule.specs.declared.view.Stage.{Stage}
use Rattle.plural_rule.specs.declared.view.Stage.TheVariants.{Got, Begun}
use Rattle.plural_words.specs.Lent.{told_in}
use Rattle.plural_words.specs.Seen.{SeatSeen}
use Rattle.plural_words.specs.Stages.{IsUnderWay, memory_of, to_come, instance_of}
use Rattle.plural_stages.specs.Engines.{EngineSeen, IsRunning, IsGoing, turns_of}

-- An instance that runs is one of a task.
pub runs_is : (o : Opening) (t k : ℕ) → IsMap o.program.map → Runs o t k → IsInstance o.program t k
unfolding world_in
runs_is o t k limits runs = let r = (which_ran o.program o.image t k limits).0 runs in (r.0, r.2)

-- No turn yet.
none_yet : (o : Opening) (t k n : ℕ) → n ≡ 0 → turns_of o t k n ≡ stay (start_state o.program t k) (start_at (world_in o) (t, k))
unfolding life
none_yet o t k n h = ap (λ (i : ℕ). turns_of o t k i) h

-- A buffer without a store may be used over any bus over a seat.
no_pairs : (o : Opening) (s : Stage) (pairs : List (ℕ × ℕ)) → pairs ≡ [] → IsBufferOver pairs (told_in o s)
no_pairs o s pairs h = subst (λ (l : List (ℕ × ℕ)). IsBufferOver l (told_in o s)) (sym h)
    (record { within = All-nil (λ (x : ℕ × ℕ). x.0 < length (memory_of o s)); foreseen = (to_come o s, refl) })

-- What `begin` of the words tells of the instance that the seat was handed.
pub under_way : (o : Opening) (t k start : ℕ) (old new : Stage) → old ≡ Got t k → IsUnderWay o (instance_of old) start new → IsUnderWay o (t, k) start new
under_way o t k start old new got h = subst (λ (i : ℕ × ℕ). IsUnderWay o i start new) (ap instance_of got) h

-- An engine with an empty cache and buffer and its hart at the start of an instance that is under way goes on.
pub begun : (o : Opening) (t k start sets_ ways : ℕ) (f : EngineSeen) (n : SeatSeen) → IsMap o.program.map → IsUnderWay o (t, k) start n.view.stage
    → IsFresh f.cache sets_ ways → sets_ ≡ o.program.map.sets → ways ≡ o.program.map.ways → f.pairs ≡ []
    → f.core ≡ start_of (slice_index o.program.entries t) k (task_at o.program t).quota (task_at o.program t).budget → f.start ≡ start → IsGoing o t k f n
begun o t k start sets_ ways f n limits under fresh same_sets same_ways none core ticket =
    let st = n.view.stage in
    let is = runs_is o t k limits under.runs in
    let count : f.core.state.count ≡ 0 = ap (λ (c : Core). c.state.count) core in
    let first = none_yet o t k f.core.state.count count in
    let cache = fresh.is in
    let misses : f.cache.misses ≡ 0 = ap (λ (c : CacheValue). c.misses) cache in
    let stores : f.cache.stores ≡ 0 = ap (λ (c : CacheValue). c.stores) cache in
    let made : length (turns_of o t k f.core.state.count).stores ≡ 0 = ap (λ (x : Step). length x.stores) first in
    let waits : length f.pairs ≡ 0 = ap length none in
    let memory : (turns_of o t k f.core.state.count).memory ≡ memory_of o st = ap (λ (x : Step). x.memory) first ∙ sym under.memory in
    let low = (limits.each t no_task is.0).budget_low in
    let running : IsRunning o t k (turns_of o t k f.core.state.count) f n = record {
      made = 0;
      stage = under.stage ∙ ap (λ (i : ℕ). Begun t k i 0 0) (sym ticket) ∙ ap (Begun t k f.start 0) (let e : 0 ≡ 8 * f.cache.misses = omega arith in e);
      is = is;
      runs = under.runs;
      limits = limits;
      core = core ∙ ap (λ (x : Step). let c : Core = record { state = x.state; k = k; budget = (task_at o.program t).budget } in c) (sym first);
      shape = record { sets = ap (λ (c : CacheValue). c.sets) cache ∙ same_sets; ways = ap (λ (c : CacheValue). c.ways) cache ∙ same_ways };
      stands = subst (λ (x : Step). StandsFor f.cache x.loads) (sym first) fresh.stands;
      counted = omega (arith, stores, made);
      agrees = fresh.agrees (told_through f.pairs (told_in o st));
      memory = ap (λ (l : List (ℕ × ℕ)). sets (memory_of o st) l) none ∙ sym memory;
      long = ap length memory ∙ under.long;
      count = omega (arith, waits, made);
      waits = no_pairs o st f.pairs none;
    } in
    record { running = running; late = inr refl; over = ap (λ (c : Core). c.state.over) core; room = omega (arith, count, low) }
