-- An engine that runs an instance, before a step of its hart and after it.
use Rattle.std.proofs.Common.{ℕ, ◌≡◌, ◌⊎◌, ◌+◌, ◌*◌, ◌<◌, ◌%◌, ◌&&◌, nat_lt, Bool, true, List, ◌++◌, length, drop, Option, Some, refl, sym, ap, ◌∙◌, subst, arith, length-append}
use Rattle.std.proofs.lemmas.List.{drop-drop}
use Rattle.std.proofs.lemmas.Bool.Decides.{nat_tests}
use Rattle.std.proofs.Math.Seq.{drop-append_seam}
use Rattle.plural_base.specs.Told.{Told, after}
use Rattle.plural_regions.specs.Rights.{may_read}
use Rattle.plural_map.specs.Value.{no_task}
use Rattle.plural_cache.specs.Buffer.{told_through, pair_limit}
use Rattle.plural_cache.specs.Buffering.{length_sets}
use Rattle.plural_cache.specs.Cache.{StandsFor}
use Rattle.plural_core.specs.Turn.{State, Core, Step}
use Rattle.plural_core.specs.Life.{join}
use Rattle.plural_serial.specs.Program.{task_at}
use Rattle.plural_rule.specs.Opening.{Opening, world_in, stores_of}
use Rattle.plural_rule.specs.declared.view.Stage.{Stage}
use Rattle.plural_rule.specs.declared.view.Stage.TheVariants.{Begun}
use Rattle.plural_words.specs.Lent.{told_in, counts_in, fixed_of, IsLent}
use Rattle.plural_words.specs.Seen.{WordsSeen, SeatSeen, IsSeatOf}
use Rattle.plural_words.specs.Stages.{IsBegun, memory_of, may_read as may_read_in, to_come}
use Rattle.plural_words.proofs.Lent.{begun_again}
use Rattle.plural_stages.specs.Engines.{EngineSeen, IsRunning}
use Rattle.plural_stages.specs.Stacked.{Stack, stack, IsStacked, HasSunk}

-- ---- the stores to come

-- After as many stores as were made, and as many as wait, come those that come after all so far.
come_is : (all before pairs more : List (ℕ × ℕ)) (made : ℕ) → all ≡ before ++ more → made + length pairs ≡ length before
    → after (length pairs) (Some (drop made all)) ≡ Some more
come_is all before pairs more made e count =
    ap Some (drop-drop (length pairs) made all ∙ ap (λ (n : ℕ). drop n all) count ∙ ap (λ (l : List (ℕ × ℕ)). drop (length before) l) e ∙ drop-append_seam before more)

-- ---- before a step

-- The parts of an engine as a stack over its seat.
abbrev pub stack_of : Opening → EngineSeen → SeatSeen → Stack
stack_of o e s = stack e.cache e.pairs (told_in o s.view.stage) (counts_in s.view.stage)

-- What a step of the hart asks for.
pub record IsReady (w : WordsSeen) (t k : ℕ) (sofar : Step) (more : List (ℕ × ℕ)) (e : EngineSeen) (s : SeatSeen) : Type 0 where
  pub lent : IsLent w s
  pub stacked : IsStacked (stack_of w.opening e s)
  pub lawful : (a : ℕ) → may_read (task_at w.opening.program t).regions k a ≡ true → (told_in w.opening s.view.stage).lawful a ≡ true
  pub expected : (told_through e.pairs (told_in w.opening s.view.stage)).expects ≡ Some more

-- The words that the instance may read are lawful.
may_read_is : (o : Opening) (t k start made reads a : ℕ) → may_read_in o (Begun t k start made reads) a ≡ may_read (task_at o.program t).regions k a
unfolding world_in
may_read_is o t k start made reads a = refl

-- Two tests that pass.
both_pass : (a b : Bool) → a ≡ true → b ≡ true → (a && b) ≡ true
both_pass a b h k = rw (h, k) refl

-- A number below another passes the test.
below_passes : (a n : ℕ) → a < n → nat_lt a n ≡ true
below_passes a n h = grind (arith, nat_tests)

lawful_of : (o : Opening) (t k : ℕ) (st : Stage) (start made reads a : ℕ) → st ≡ Begun t k start made reads → a < length (memory_of o st)
    → may_read (task_at o.program t).regions k a ≡ true → (told_in o st).lawful a ≡ true
lawful_of o t k st start made reads a is low may =
    both_pass (nat_lt a (length (memory_of o st))) (may_read_in o st a) (below_passes a (length (memory_of o st)) low)
    (ap (λ (x : Stage). may_read_in o x a) is ∙ may_read_is o t k start made reads a ∙ may)

-- An engine that runs an instance is ready for a step of which it is told.
pub ready : (w : WordsSeen) (t k : ℕ) (sofar : Step) (more : List (ℕ × ℕ)) (e : EngineSeen) (s : SeatSeen) → IsSeatOf w s
    → (r : IsRunning w.opening t k sofar e s) → (length e.pairs ≡ pair_limit) ⊎ (r.made ≡ 0) → stores_of w.opening t k ≡ sofar.stores ++ more
    → IsReady w t k sofar more e s
ready w t k sofar more e s of r late ahead =
    let o = w.opening in
    let st = s.view.stage in
    let all = stores_of o t k in
    let words : length (memory_of o st) ≡ o.program.map.words = sym (length_sets (memory_of o st) e.pairs) ∙ ap length r.memory ∙ r.long in
    let begun : IsBegun st = subst IsBegun (sym r.stage) tt in
    let come : to_come o st ≡ drop r.made all = ap (to_come o) r.stage in
    let reads : (counts_in st).reads ≡ 8 * e.cache.misses = ap (λ (x : Stage). (counts_in x).reads) r.stage in
    let writes : (counts_in st).writes ≡ r.made = ap (λ (x : Stage). (counts_in x).writes) r.stage in
    let counted = r.counted in
    let written = r.count in
    record {
      lent = record { of = of; begun = begun; long = words };
      stacked = record {
        cache = record {
          lines = ap (λ (l : List ℕ). length l % 8) r.memory ∙ ap (λ (n : ℕ). n % 8) r.long ∙ r.limits.words_whole;
          agrees = r.agrees;
          stands = (sofar.loads, r.stands);
          fewest_reads = omega (arith, reads);
          most_reads = omega (arith, reads);
          fewest_writes = omega (arith, writes, counted, written);
          most_writes = omega (arith, writes, counted, written);
        };
        buffer = r.waits;
        late = subst (λ (n : ℕ). (length e.pairs ≡ pair_limit) ⊎ (n ≡ 0)) (sym writes) late;
      };
      lawful = λ a may. lawful_of o t k st e.start r.made (8 * e.cache.misses) a r.stage
          (let low = (r.limits.each t no_task r.is.0).inside k a r.is.1 may in omega (arith, low, words)) may;
      expected = ap (λ (l : List (ℕ × ℕ)). after (length e.pairs) (Some l)) come ∙ come_is all sofar.stores e.pairs more r.made ahead r.count;
    }

-- ---- after a step

-- The stores that come are gone from those expected.
gone : (step more : List (ℕ × ℕ)) (e : Option (List (ℕ × ℕ))) → e ≡ Some (step ++ more) → after (length step) e ≡ Some more
gone step more e h = ap (after (length step)) h ∙ ap Some (drop-append_seam step more)

-- The engine and the seat after a step of the hart: it went through cache and buffer to the seat, of which nothing else
-- changed.
pub record HasStepped (w : WordsSeen) (t k : ℕ) (step : Step) (e f : EngineSeen) (s n : SeatSeen) : Type 0 where
  pub core : f.core ≡ record { state = step.state; k = k; budget = (task_at w.opening.program t).budget }
  pub start : f.start ≡ e.start
  pub sunk : HasSunk step (stack_of w.opening e s) (stack_of w.opening f n)
  pub lent : IsLent w n
  pub fixed : fixed_of n ≡ fixed_of s

-- It runs its instance, which has come on by the step.
pub stepped : (w : WordsSeen) (t k : ℕ) (sofar step next : Step) (e f : EngineSeen) (s n : SeatSeen)
    → IsRunning w.opening t k sofar e s → next ≡ join sofar step → HasStepped w t k step e f s n
    → (r : IsRunning w.opening t k next f n) × ((length f.pairs ≡ pair_limit) ⊎ (r.made ≡ 0))
stepped w t k sofar step next e f s n r is h =
    let o = w.opening in
    let st = n.view.stage in
    let c = counts_in st in
    let passed = h.sunk.passed in
    let reads : (counts_in s.view.stage).reads ≡ 8 * e.cache.misses = ap (λ (x : Stage). (counts_in x).reads) r.stage in
    let writes : (counts_in s.view.stage).writes ≡ r.made = ap (λ (x : Stage). (counts_in x).writes) r.stage in
    let again : st ≡ Begun t k e.start c.writes c.reads = begun_again s.view.stage st t k e.start r.made (8 * e.cache.misses) (ap (λ (x : SeatSeen). x.view.stage) h.fixed) r.stage in
    let read : c.reads ≡ 8 * f.cache.misses = omega (arith, passed.kept.read, reads) in
    let loads : next.loads ≡ sofar.loads ++ step.loads = ap (λ (x : Step). x.loads) is in
    let stores : length next.stores ≡ length sofar.stores + length step.stores = ap (λ (x : Step). length x.stores) is ∙ length-append sofar.stores step.stores in
    let memory : (told_through f.pairs (told_in o st)).words ≡ next.memory = ap (λ (x : Told). x.words) passed.stored ∙ sym (ap (λ (x : Step). x.memory) is) in (
      record {
        made = c.writes;
        stage = again ∙ ap (λ (i : ℕ). Begun t k i c.writes c.reads) (sym h.start) ∙ ap (Begun t k f.start c.writes) read;
        is = r.is;
        runs = r.runs;
        limits = r.limits;
        core = h.core ∙ ap (λ (x : State). let core : Core = record { state = x; k = k; budget = (task_at o.program t).budget } in core) (sym (ap (λ (x : Step). x.state) is));
        shape = record { sets = passed.kept.sets ∙ r.shape.sets; ways = passed.kept.ways ∙ r.shape.ways };
        stands = subst (StandsFor f.cache) (sym loads) (passed.stands sofar.loads r.stands);
        counted = omega (arith, passed.written, r.counted, stores);
        agrees = passed.over.agrees;
        memory = memory;
        long = sym (ap length memory) ∙ length_sets (memory_of o st) f.pairs ∙ h.lent.long;
        count = omega (arith, passed.kept.written, writes, passed.written, r.count, stores);
        waits = h.sunk.buffer;
      },
      h.sunk.late,
    )
