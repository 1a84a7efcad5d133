-- An instance begins, and reads words of the memory.
use Rattle.std.proofs.Common.{◌≡◌, ℕ, ◌+◌, ◌-◌, ◌<◌, ◌≤◌, List, get_or, set, sym, refl, ap, ◌∙◌, subst, arith}
use mathlib.Core.Option.{some}
use lib.ListN.{get_elem?}
use Rattle.plural_order.specs.Sums.{sum_over, sum_below, one_if}
use Rattle.plural_order.specs.World.{value_at}
use Rattle.plural_order.proofs.Sums.{below_same}
use Rattle.plural_counters.proofs.Sums.{sum_set, pair_same, below_le}
use Rattle.plural_rule.specs.Opening.{Opening, IsInstance, MayRead, world_in, task_count, quota_of}
use Rattle.plural_rule.specs.Content.{Content}
use Rattle.plural_rule.specs.Stages.{holds, has_begun, tickets_to_draw, drawn, StartsAt, IsStage}
use Rattle.plural_rule.specs.Rule.{BegunInTurn, TicketsInTurn, IsNoted, LivesAsRun, Rule}
use Rattle.plural_rule.specs.Steps.{begun_at, began, one_read, did_read}
use Rattle.plural_rule.specs.declared.view.View.{View}
use Rattle.plural_rule.specs.declared.view.Stage.{Stage}
use Rattle.plural_rule.specs.declared.view.Stage.TheVariants.{Free, Got, Begun, Ended}
use Rattle.plural_rule.specs.declared.view.Role.TheVariants.{Seat}
use Rattle.plural_rule.proofs.Places.{each_set}
use Rattle.plural_rule.proofs.Writes.{SameMemory, SameAlloc, SameDone, SameFields}
use Rattle.plural_rule.proofs.ViewSums.{sum_less}
use Rattle.plural_rule.proofs.TicketSums.{is_below, below_more, done_low}
use Rattle.plural_rule.proofs.Live.{begun_held, held_once, no_writer, starts_as_run}
use Rattle.plural_rule.proofs.Parts.{known_kept, tasks_kept, held_kept, found_same, seats_kept, records_kept, values_kept, ended_kept, begun_kept, all_done_same, done_drawn_same, Alike, quiet}
use Rattle.plural_rule.proofs.Claims.{seat_same, seat_owes}

-- The clock is far from its end.
pub clock_low : (o : Opening) (c : Content) (views : List View) → Rule o c views → c.clock ≤ 131072
clock_low o c views r = omega (
  arith,
  r.tickets.count,
  below_le (λ t. c.alloc t - 1) (quota_of o.program) (task_count o.program) (λ t h. omega (arith, r.tasks.few t h)),
  r.run.few_instances,
)

-- A step that draws the next ticket.
module _ (o : Opening) (c d : Content) (views : List View) (id : ℕ) (v w : View) (at : get_elem? views id ≡ some v) where
  -- The tickets stay in turn.
  pub tickets_more : TicketsInTurn o c views → d.clock ≡ c.clock + 1 → SameAlloc o.program c d → SameDone o.program c d → SameFields o.program c d
      → tickets_to_draw w.stage + 1 ≡ tickets_to_draw v.stage → ((x : ℕ) → drawn x w.stage ≡ drawn x v.stage + one_if c.clock x) → BegunInTurn o d w → TicketsInTurn o d (set views id w)
  tickets_more h clock alloc done fields draw ticks new = record {
    count =
        let counted : sum_below (λ t. d.alloc t - 1) (task_count o.program) ≡ sum_below (λ t. c.alloc t - 1) (task_count o.program) = below_same (λ t. d.alloc t - 1) (λ t. c.alloc t - 1) (task_count o.program) (λ t i. ap (λ n. n - 1) (alloc t i)) in
        omega (arith, h.count, clock, draw, counted, sum_set (λ (u : View). tickets_to_draw u.stage) views id v w at);
    once = λ x. omega (arith, h.once x, sum_set (λ (u : View). drawn x u.stage) views id v w at, ticks x, all_done_same o c d x (done_drawn_same o c d x done fields), ap (is_below x) clock, below_more x c.clock);
    ended = ended_kept o c d done (λ t k f i e few. fields t k f i few) h.ended;
    begun = each_set (BegunInTurn o c) (BegunInTurn o d) views id w h.begun (λ u. begun_kept o c d u u done (λ t k f i e few. fields t k f i few) refl (λ t k s st. st)) new;
  }

-- An instance begins.
module _ (o : Opening) (c d : Content) (views : List View) (id : ℕ) (v : View) (core t k : ℕ) (at : get_elem? views id ≡ some v) (r : Rule o c views) (seat : v.role ≡ Seat core) (got : v.stage ≡ Got t k)
    (clock : d.clock ≡ c.clock + 1) (mem : SameMemory o.program c d) (alloc : SameAlloc o.program c d) (done : SameDone o.program c d) (fields : SameFields o.program c d) where
  -- The rule is kept.
  pub begins : Rule o d (set views id (began v c.clock))
  begins =
      let w : View = began v c.clock in
      let stage : w.stage ≡ Begun t k c.clock 0 0 = ap (λ s. begun_at s c.clock) got in
      let inst : IsInstance o.program t k = subst (λ (s : Stage). IsStage o c.clock s) got (r.known id v at).stage in
      let held : holds v.stage t k ≡ 1 = ap (λ s. holds s t k) got ∙ pair_same t k t k refl refl in
      let once = held_once o c views id v t k at r.held inst held in
      let none : sum_over (λ (u : View). has_begun u.stage t k) views ≡ 0 = omega (arith, sum_less (λ (u : View). holds u.stage t k) (λ (u : View). has_begun u.stage t k) views id v (λ u. begun_held t k u.stage) at, ap (λ s. has_begun s t k) got, once.0, held) in
      let low : (u l : ℕ) → IsInstance o.program u l → 0 < d.done u l → d.done u l ≤ c.clock = λ u l i e. omega (arith, done u l i, (done_low o c views u l r.tickets.once i (omega (arith, done u l i, e))).0) in
      let at_clock : (u l s : ℕ) → StartsAt w.stage u l s → c.clock ≡ s = λ u l s st. let p = subst (λ (x : Stage). StartsAt x u l s) stage st in p.2 in
      record {
        run = r.run;
        known = known_kept o c d views id v w at r.known (omega (arith, clock)) (record {
          role = seat_same o v w core seat refl refl refl refl refl (r.known id v at).role;
          stage = subst (λ (s : Stage). IsStage o d.clock s) (sym stage) (inst, omega (arith, clock), omega arith);
        });
        tasks = tasks_kept o c d views id v w at r.tasks alloc (λ u l i e. omega (arith, done u l i, e)) r.run;
        held = held_kept o c d views id v w at r.held (λ u l i. ap (λ s. holds s u l) stage ∙ sym (ap (λ s. holds s u l) got)) alloc done;
        found = found_same o c d views id v w at r.found alloc refl;
        seats = seats_kept o c d views id v w at r.seats refl (seat_owes w core seat);
        tickets = tickets_more o c d views id v w at r.tickets clock alloc done fields (omega (arith, ap tickets_to_draw stage, ap tickets_to_draw got)) (λ x. omega (arith, ap (drawn x) stage, ap (drawn x) got)) (record {
          turn = λ a b u l s i ran before e st. omega (arith, low a b i e, at_clock u l s st);
          line = λ a b u l s i e st is. omega (arith, low a b i e, at_clock u l s st);
        });
        records = records_kept o c d views id v w at r.records done fields (λ a b start end reads noted f x i st few e. absurd (cc (st, stage)));
        values = values_kept o c d views id v w at r.values mem (λ u l i. omega (arith, ap (λ s. has_begun s u l) stage, ap (λ s. has_begun s u l) got)) done r.run
            (subst (λ (s : Stage). LivesAsRun o d.mem s) (sym stage) (λ a h may. mem a h ∙ (r.values.rest a h (no_writer o c r.run r.tasks views r.held t k a once.1 may none) ∙ starts_as_run o c r.run r.tasks views r.held t k a once.1 may)));
      }

-- A view that has read a word is like before.
alike_read : (o : Opening) (s : Stage) → Alike o s (one_read s)
alike_read o Free = record { holds = λ t k. refl; begun = λ t k. refl; draw = refl; drawn = λ x. refl; starts = λ t k x st. st; stage = λ clock h. h; lives = λ mem h. h }
alike_read o (Got u l) = record { holds = λ t k. refl; begun = λ t k. refl; draw = refl; drawn = λ x. refl; starts = λ t k x st. st; stage = λ clock h. h; lives = λ mem h. h }
alike_read o (Begun u l start made reads) = record { holds = λ t k. refl; begun = λ t k. refl; draw = refl; drawn = λ x. refl; starts = λ t k x st. st; stage = λ clock h. h; lives = λ mem h. h }
alike_read o (Ended u l start end reads noted) = record { holds = λ t k. refl; begun = λ t k. refl; draw = refl; drawn = λ x. refl; starts = λ t k x st. st; stage = λ clock h. h; lives = λ mem h. h }

-- What it noted it had noted.
noted_read : (o : Opening) (c : Content) (v : View) → IsNoted o c v → IsNoted o c (did_read v)
noted_read o c v h t k start end reads noted f x i st few e = h t k start end reads noted f x i (back v.stage st) few e
  where
    back : (s : Stage) → one_read s ≡ Ended t k start end reads noted → s ≡ Ended t k start end reads noted
    back Free q = absurd (cc q)
    back (Got a b) q = absurd (cc q)
    back (Begun a b s made n) q = absurd (cc q)
    back (Ended a b s en n l) q = q

module _ (o : Opening) (c : Content) (views : List View) (id : ℕ) (v : View) (core : ℕ) (at : get_elem? views id ≡ some v) (r : Rule o c views) (seat : v.role ≡ Seat core) where
  -- A word of the memory is read.
  pub reads : Rule o c (set views id (did_read v))
  reads =
      let w : View = did_read v in
      quiet o c c views id v w at r (λ a h. refl) refl (λ u h. refl) (λ u l i. refl) (λ u l f i h. refl) refl (alike_read o v.stage)
      (seat_same o v w core seat refl refl refl refl refl (r.known id v at).role) (seat_owes w core seat) (noted_read o c v (r.records.noted id v at))
      refl (λ u h. r.found.most id v at u h) (λ u h. omega arith)

-- What is read is what the instance reads in the serial run.
pub read_is : (o : Opening) (c : Content) (views : List View) (id : ℕ) (v : View) (t k start made n a : ℕ) → get_elem? views id ≡ some v → Rule o c views → v.stage ≡ Begun t k start made n
    → a < o.program.map.words → MayRead o t k a → c.mem a ≡ get_or (value_at (world_in o) (t, k) made) a 0
read_is o c views id v t k start made n a at r begun small may =
    let lives : LivesAsRun o c.mem (Begun t k start made n) = subst (λ (s : Stage). LivesAsRun o c.mem s) begun (r.values.lives id v at) in
    lives a small may
