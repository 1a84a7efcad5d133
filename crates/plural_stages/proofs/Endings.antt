-- How an instance whose turns are all made is ended.
use Rattle.std.proofs.Common.{◌≡◌, ℕ, zero, suc, Some, ◌+◌, ◌*◌, ◌^◌, ◌<◌, List, [], ◌∷◌, length, drop, refl, sym, ap, ◌∙◌, subst, arith}
use Rattle.plural_base.specs.Told.{Told, Counted}
use Rattle.plural_cache.specs.Buffer.{told_through, IsBufferOver, Drains}
use Rattle.plural_cache.specs.Buffering.{length_sets}
use Rattle.plural_cache.specs.Cache.{Agrees}
use Rattle.plural_cache.specs.Miss.{misses_of}
use Rattle.plural_core.specs.Turn.{Step, Core}
use Rattle.plural_core.specs.declared.end.End.{End}
use Rattle.plural_core.proofs.LifeLaws.{few_life}
use Rattle.plural_map.specs.Value.{no_task}
use Rattle.plural_serial.specs.Program.{task_at, place_at, start_state}
use Rattle.plural_order.specs.World.{start_at}
use Rattle.plural_rule.specs.Opening.{Opening, world_in, stores_of, record_of}
use Rattle.plural_rule.specs.declared.view.Stage.{Stage}
use Rattle.plural_rule.specs.declared.view.Stage.TheVariants.{Begun, Ended}
use Rattle.plural_rule.specs.Laws.{HasNoted}
use Rattle.plural_rule.specs.Rule.{field_of}
use Rattle.plural_rule.specs.Stages.{noted_of}
use Rattle.plural_rule.specs.Steps.{ended, ended_at, did_note}
use Rattle.plural_trace.specs.RecordWords.{end_word}
use Rattle.plural_words.specs.Lent.{counts_in, told_in, fixed_of, IsLent}
use Rattle.plural_words.specs.Seen.{WordsSeen, SeatSeen, IsSeatOf, seat_with}
use Rattle.plural_words.specs.Stages.{IsBegun, memory_of, HasRun, IsNoted}
use Rattle.plural_words.proofs.Lent.{begun_again}
use Rattle.plural_stages.specs.Engines.{EngineSeen, IsRunning, IsDrained, all_turns_of}

-- ---- the seat

-- A seat that runs an instance may be lent to a bus.
pub running_lent : (w : WordsSeen) (t k : ℕ) (sofar : Step) (e : EngineSeen) (s : SeatSeen) → IsSeatOf w s
    → IsRunning w.opening t k sofar e s → IsLent w s
running_lent w t k sofar e s of r = record {
  of = of;
  begun = subst IsBegun (sym r.stage) tt;
  long = sym (length_sets (memory_of w.opening s.view.stage) e.pairs) ∙ ap length r.memory ∙ r.long;
}

-- It has made few stores.
pub few_made : (o : Opening) (t k : ℕ) (e : EngineSeen) (s : SeatSeen) → IsRunning o t k (all_turns_of o t k) e s → (counts_in s.view.stage).writes < 2 ^ 62
few_made o t k e s r =
    let task = r.limits.each t no_task r.is.0 in
    let few = few_life (task_at o.program t).budget (place_at o.program t k) (start_state o.program t k) (start_at (world_in o) (t, k)) in
    let made : (counts_in s.view.stage).writes ≡ r.made = ap (λ (x : Stage). (counts_in x).writes) r.stage in
    omega (arith, task.budget_high, few.stores, r.count, made)

-- ---- a store that waited is written

-- What a bus does when the oldest store is written to it: it reads nothing, the stores made and those that wait are as
-- many as before, and it is sound and kept.
pub record IsDrain {B : Type 0} (counts : B → Counted) (keeps : B → B → Type 0) (is_sound : B → Type 0)
    (pairs : List (ℕ × ℕ)) (old new : B) : Type 0 where
  pub read : (counts new).reads ≡ (counts old).reads
  pub written : (counts new).writes + length (drop 1 pairs) ≡ (counts old).writes + length pairs
  pub kept : keeps old new
  pub sound : is_sound new

-- So it is.
pub drain_is : {B : Type 0} (told : B → Told) (counts : B → Counted) (keeps : B → B → Type 0) (is_sound : B → Type 0)
    (pairs : List (ℕ × ℕ)) (old new : B) → keeps old old → is_sound old → Drains told counts keeps is_sound pairs old new
    → IsDrain counts keeps is_sound pairs old new
drain_is told counts keeps is_sound [] old new same sound d =
    subst (λ b. IsDrain counts keeps is_sound [] old b) (sym d) (record { read = refl; written = refl; kept = same; sound = sound })
drain_is told counts keeps is_sound (s ∷ rest) old new same sound d =
    record { read = d.read; written = omega (arith, d.written); kept = d.kept; sound = d.sound }

-- The instance has still come as far, with one store less that waits.
pub one_less : (o : Opening) (t k : ℕ) (sofar : Step) (e : EngineSeen) (pairs : List (ℕ × ℕ)) (s n : SeatSeen)
    → IsRunning o t k sofar e s → fixed_of n ≡ fixed_of s
    → (counts_in n.view.stage).reads ≡ (counts_in s.view.stage).reads
    → (counts_in n.view.stage).writes + length pairs ≡ (counts_in s.view.stage).writes + length e.pairs
    → told_through pairs (told_in o n.view.stage) ≡ told_through e.pairs (told_in o s.view.stage)
    → IsBufferOver pairs (told_in o n.view.stage) → IsRunning o t k sofar (record e { pairs = pairs }) n
one_less o t k sofar e pairs s n r fixed reads writes told waits =
    let start = ap (λ (x : SeatSeen). x.view.stage) fixed in
    let before = ap counts_in r.stage in
    let c = counts_in n.view.stage in
    let read : c.reads ≡ 8 * e.cache.misses = reads ∙ ap (λ (x : Counted). x.reads) before in
    let made : (counts_in s.view.stage).writes ≡ r.made = ap (λ (x : Counted). x.writes) before in
    record {
      made = c.writes;
      stage = begun_again s.view.stage n.view.stage t k e.start r.made (8 * e.cache.misses) start r.stage ∙ ap (λ x. Begun t k e.start c.writes x) read;
      is = r.is;
      runs = r.runs;
      limits = r.limits;
      core = r.core;
      shape = r.shape;
      stands = r.stands;
      counted = r.counted;
      agrees = subst (λ x. Agrees e.cache x) (sym told) r.agrees;
      memory = ap (λ (x : Told). x.words) told ∙ r.memory;
      count = omega (arith, writes, made, r.count);
      waits = waits;
      long = r.long;
    }

-- ---- the record

-- What an engine has counted is what the record of the instance says.
pub record HasCounted (o : Opening) (t k : ℕ) (end : End) (e : EngineSeen) : Type 0 where
  pub is_end : end ≡ (record_of o t k).«end»
  pub instructions : e.core.state.count ≡ (record_of o t k).instructions
  pub loads : e.cache.loads ≡ (record_of o t k).loads
  pub misses : e.cache.misses ≡ (record_of o t k).misses
  pub stores : e.cache.stores ≡ (record_of o t k).stores

-- So it is once no store waits.
pub has_counted : (o : Opening) (t k : ℕ) (end : End) (e : EngineSeen) (s : SeatSeen) → IsDrained o t k end e s → HasCounted o t k end e
unfolding record_of world_in
has_counted o t k end e s d = let r = d.running in record {
  is_end = d.is_end;
  instructions = ap (λ (c : Core). c.state.count) r.core;
  loads = r.stands.loads;
  misses = r.stands.misses ∙ ap (λ n. misses_of n e.cache.ways (all_turns_of o t k).loads) r.shape.sets ∙ ap (λ n. misses_of o.program.map.sets n (all_turns_of o t k).loads) r.shape.ways;
  stores = r.counted;
}

-- The instance has made all its stores, and has read eight words for each miss of its record.
pub has_run : (o : Opening) (t k : ℕ) (end : End) (e : EngineSeen) (s : SeatSeen) → IsDrained o t k end e s → HasRun o s.view.stage
unfolding world_in
has_run o t k end e s d =
    let r = d.running in
    let none : length e.pairs ≡ 0 = ap length d.drained in
    let made : r.made ≡ length (stores_of o t k) = omega (arith, none, r.count) in
    subst (HasRun o) (sym r.stage) (made, ap (λ n. 8 * n) (has_counted o t k end e s d).misses)

-- The seat with its instance ended, and these fields of the record noted.
abbrev pub noted_seat : SeatSeen → (t k start end reads : ℕ) → List (ℕ × ℕ) → SeatSeen
noted_seat s t k start end reads noted = seat_with s (let v = s.view in record v { stage = Ended t k start end reads noted })

-- So it is when the instance ends, with none.
pub noted_none : (s a : SeatSeen) (t k start made reads end : ℕ) → s.view.stage ≡ Begun t k start made reads
    → a ≡ seat_with s (ended s.view end) → a ≡ noted_seat s t k start end reads []
noted_none s a t k start made reads end e h =
    h ∙ ap (λ (x : Stage). seat_with s (let v = s.view in record v { stage = ended_at x end })) e

-- With one field more it is.
pub noted_more : {t k start end reads : ℕ} {noted : List (ℕ × ℕ)} (s a b : SeatSeen) (f x : ℕ)
    → a ≡ noted_seat s t k start end reads noted → b ≡ seat_with a (did_note a.view f x)
    → b ≡ noted_seat s t k start end reads ((f, x) ∷ noted)
noted_more s a b f x is h = h ∙ ap (λ (y : SeatSeen). seat_with y (did_note y.view f x)) is

-- The seven fields with these values.
abbrev seven : (x0 x1 x2 x3 x4 x5 x6 : ℕ) → List (ℕ × ℕ)
seven x0 x1 x2 x3 x4 x5 x6 = (6, x6) ∷ (5, x5) ∷ (4, x4) ∷ (3, x3) ∷ (2, x2) ∷ (1, x1) ∷ (0, x0) ∷ []

-- They are the record's if they are the word of the end and what the engine has counted.
seven_noted : (o : Opening) (t k : ℕ) (end : End) (e : EngineSeen) (x0 x1 x2 x3 x4 start core : ℕ) → HasCounted o t k end e
    → x0 ≡ end_word end → x1 ≡ e.core.state.count → x2 ≡ e.cache.loads → x3 ≡ e.cache.misses → x4 ≡ e.cache.stores
    → HasNoted o t k start core (seven x0 x1 x2 x3 x4 start core)
seven_noted o t k end e x0 x1 x2 x3 x4 start core c w0 w1 w2 w3 w4 = record { each = each }
  where
    each : (f : ℕ) → f < 7 → noted_of f (seven x0 x1 x2 x3 x4 start core) ≡ Some (field_of (record_of o t k) start core f)
    each zero h = ap (λ (n : ℕ). Some n) (w0 ∙ ap end_word c.is_end)
    each (suc zero) h = ap (λ (n : ℕ). Some n) (w1 ∙ c.instructions)
    each (suc (suc zero)) h = ap (λ (n : ℕ). Some n) (w2 ∙ c.loads)
    each (suc (suc (suc zero))) h = ap (λ (n : ℕ). Some n) (w3 ∙ c.misses)
    each (suc (suc (suc (suc zero)))) h = ap (λ (n : ℕ). Some n) (w4 ∙ c.stores)
    each (suc (suc (suc (suc (suc zero))))) h = refl
    each (suc (suc (suc (suc (suc (suc zero)))))) h = refl
    each (suc (suc (suc (suc (suc (suc (suc f))))))) h = absurd (omega (arith, h))

-- So the record is noted.
pub record_noted : {reads ticket : ℕ} (o : Opening) (t k : ℕ) (end : End) (e : EngineSeen) (s n : SeatSeen) (x0 x1 x2 x3 x4 core : ℕ)
    → IsDrained o t k end e s
    → x0 ≡ end_word end → x1 ≡ e.core.state.count → x2 ≡ e.cache.loads → x3 ≡ e.cache.misses → x4 ≡ e.cache.stores → core ≡ s.core
    → n ≡ noted_seat s t k e.start ticket reads (seven x0 x1 x2 x3 x4 e.start core) → IsNoted o n.core n.view.stage
record_noted o t k end e s n x0 x1 x2 x3 x4 core d w0 w1 w2 w3 w4 here is =
    let noted = seven_noted o t k end e x0 x1 x2 x3 x4 e.start core (has_counted o t k end e s d) w0 w1 w2 w3 w4 in
    let own : core ≡ n.core = here ∙ sym (ap (λ (x : SeatSeen). x.core) is) in
    let stage = sym (ap (λ (x : SeatSeen). x.view.stage) is) in
    subst (λ (x : Stage). IsNoted o n.core x) stage (subst (λ (x : ℕ). HasNoted o t k e.start x (seven x0 x1 x2 x3 x4 e.start core)) own noted)
