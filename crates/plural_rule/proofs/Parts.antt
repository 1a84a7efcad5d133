-- Each part of the rule by itself: what a step of one view has to show for it.
use Rattle.std.proofs.Common.{◌≡◌, ℕ, ◌+◌, ◌-◌, ◌*◌, ◌<◌, ◌≤◌, List, length, set, get_or, sym, refl, ap, ◌∙◌, subst, ⊎_elim, arith, ◌&&◌, inl, inr}
use Rattle.std.specs.Prelude.{nat_lt}
use mathlib.Core.Option.{some}
use lib.ListN.{get_elem?}
use Rattle.plural_serial.specs.Program.{task_at}
use Rattle.plural_order.specs.World.{leaves}
use Rattle.plural_order.specs.Laws.{value_now}
use Rattle.plural_order.specs.Sums.{sum_over, sum_below, sign}
use Rattle.plural_order.proofs.Sums.{below_same}
use Rattle.plural_order.proofs.LastValues.{last_same}
use Rattle.plural_counters.proofs.Sums.{sum_set}
use Rattle.plural_rule.proofs.ViewSums.{sum_kept}
use Rattle.plural_rule.proofs.TicketSums.{is_below}
use Rattle.plural_rule.specs.Opening.{Opening, HasSerialRun, IsInstance, world_in, task_count, quota_of}
use Rattle.plural_rule.specs.Content.{Content}
use Rattle.plural_rule.specs.Stages.{holds, has_begun, tickets_to_draw, drawn, StartsAt, IsStage, is_seat}
use Rattle.plural_rule.specs.Rule.{Each, IsRole, IsView, TasksInTurn, handed, HeldOnce, IsFound, HasSeats, OwesAsRole, SeatsOut, done_drawn, all_done_drawn, DoneInTurn, BegunInTurn, TicketsInTurn, RecordsAsRun, IsNoted, is_done, NoWriter, LivesAsRun, ValuesAsRun, Rule}
use Rattle.plural_rule.specs.declared.view.View.{View}
use Rattle.plural_rule.specs.declared.view.Stage.{Stage}
use Rattle.plural_rule.specs.declared.view.Stage.TheVariants.{Free, Got, Begun, Ended}
use Rattle.plural_rule.specs.declared.view.Role.{Role}
use Rattle.plural_rule.specs.declared.view.Role.TheVariants.{Seat, Root, Spent}
use Rattle.plural_rule.proofs.Places.{at_set, each_set}
use Rattle.plural_rule.proofs.Writes.{SameMemory, SameAlloc, SameDone, SameFields}

-- The clock goes on: a stage stays one.
pub stage_later : (o : Opening) (x y : ℕ) (s : Stage) → x ≤ y → IsStage o x s → IsStage o y s
stage_later o x y Free h ok = tt
stage_later o x y (Got t k) h ok = ok
stage_later o x y (Begun t k start made reads) h ok = (ok.0, omega (arith, ok.1), ok.2)
stage_later o x y (Ended t k start end reads noted) h ok = (ok.0, ok.1, omega (arith, ok.2))

-- So does a view.
pub view_later : (o : Opening) (x y : ℕ) (v : View) → x ≤ y → IsView o x v → IsView o y v
view_later o x y v h ok = record { role = ok.role; stage = stage_later o x y v.stage h ok.stage }

-- An instance lives on in a memory with the same words.
pub lives_same : (o : Opening) (f g : ℕ → ℕ) (s : Stage) → ((a : ℕ) → a < o.program.map.words → g a ≡ f a) → LivesAsRun o f s → LivesAsRun o g s
lives_same o f g Free h l = tt
lives_same o f g (Got t k) h l = tt
lives_same o f g (Begun t k start made reads) h l = λ a small may. h a small ∙ l a small may
lives_same o f g (Ended t k start end reads noted) h l = λ a small may. h a small ∙ l a small may

-- The seats are as they were if the views are of the same cores.
seats_same : (views later : List View) → ((x : ℕ) → sum_over (λ (y : View). is_seat x y.role) later ≡ sum_over (λ (y : View). is_seat x y.role) views) → (r : Role) → HasSeats views r → HasSeats later r
seats_same views later sums (Seat x) h = h
seats_same views later sums (Root outs) h = λ x. (sums x ∙ (h x).0, (h x).1)
seats_same views later sums Spent h = h

-- Done instances stay in turn.
pub ended_kept : (o : Opening) (c d : Content) → SameDone o.program c d → ((t k f : ℕ) → IsInstance o.program t k → 0 < d.done t k → f < 7 → d.field t k f ≡ c.field t k f) → DoneInTurn o c → DoneInTurn o d
ended_kept o c d done field h = record {
  own = λ t k i e. omega (arith, field t k 5 i e (omega arith), done t k i, h.own t k i (omega (arith, done t k i, e)));
  turn = λ t k u l i j ran before x y. omega (arith, done t k i, field u l 5 j y (omega arith), h.turn t k u l i j ran before (omega (arith, done t k i, x)) (omega (arith, done u l j, y)));
  line = λ t k u l i j apart x y e. ⊎_elim
      (λ p. inl (omega (arith, p, done t k i, field u l 5 j y (omega arith))))
      (λ p. inr (omega (arith, p, done u l j, field t k 5 i x (omega arith))))
      (h.line t k u l i j apart (omega (arith, done t k i, x)) (omega (arith, done u l j, y)) (sym (field t k 6 i x (omega arith)) ∙ (e ∙ field u l 6 j y (omega arith))));
}

-- A begun instance stays in turn.
pub begun_kept : (o : Opening) (c d : Content) (v w : View) → SameDone o.program c d → ((t k f : ℕ) → IsInstance o.program t k → 0 < d.done t k → f < 7 → d.field t k f ≡ c.field t k f) → w.role ≡ v.role
    → ((t k s : ℕ) → StartsAt w.stage t k s → StartsAt v.stage t k s) → BegunInTurn o c v → BegunInTurn o d w
begun_kept o c d v w done field role starts h = record {
  turn = λ t k u l s i ran before e st. omega (arith, done t k i, h.turn t k u l s i ran before (omega (arith, done t k i, e)) (starts u l s st));
  line = λ t k u l s i e st is. omega (arith, done t k i, h.line t k u l s i (omega (arith, done t k i, e)) (starts u l s st) (sym role ∙ (is ∙ ap Seat (field t k 6 i e (omega arith)))));
}

-- It has begun nothing.
abbrev pub Unbegun : Stage → Type 0
Unbegun Free = Unit {0}
Unbegun (Got t k) = Unit {0}
Unbegun (Begun t k start made reads) = ⊥
Unbegun (Ended t k start end reads noted) = ⊥

start_none : (s : Stage) (u l x : ℕ) → Unbegun s → StartsAt s u l x → ⊥
start_none Free u l x h b = b
start_none (Got t k) u l x h b = b
start_none (Begun t k start made reads) u l x h b = h
start_none (Ended t k start end reads noted) u l x h b = h

-- A view that has begun nothing is in turn, and has noted nothing.
pub begun_idle : (o : Opening) (d : Content) (w : View) → Unbegun w.stage → BegunInTurn o d w
begun_idle o d w idle = record {
  turn = λ t k u l s i ran b done st. absurd (start_none w.stage u l s idle st);
  line = λ t k u l s i done st seat. absurd (start_none w.stage u l s idle st);
}

-- It has noted nothing.
pub noted_idle : (o : Opening) (d : Content) (w : View) → Unbegun w.stage → IsNoted o d w
noted_idle o d w idle t k start end reads noted f x i st h e = absurd (subst Unbegun st idle)

-- The tickets of done instances are as they were.
pub all_done_same : (o : Opening) (c d : Content) (x : ℕ) → ((t k : ℕ) → IsInstance o.program t k → done_drawn x (d.field t k 5) (d.done t k) ≡ done_drawn x (c.field t k 5) (c.done t k)) → all_done_drawn o d x ≡ all_done_drawn o c x
all_done_same o c d x same =
    below_same (λ t. sum_below (λ k. done_drawn x (d.field t k 5) (d.done t k)) (quota_of o.program t)) (λ t. sum_below (λ k. done_drawn x (c.field t k 5) (c.done t k)) (quota_of o.program t)) (task_count o.program)
    (λ t small. below_same (λ k. done_drawn x (d.field t k 5) (d.done t k)) (λ k. done_drawn x (c.field t k 5) (c.done t k)) (quota_of o.program t) (λ k few. same t k (small, few)))

-- So is each one of them.
pub done_drawn_same : (o : Opening) (c d : Content) (x : ℕ) → SameDone o.program c d → SameFields o.program c d → (t k : ℕ) → IsInstance o.program t k → done_drawn x (d.field t k 5) (d.done t k) ≡ done_drawn x (c.field t k 5) (c.done t k)
done_drawn_same o c d x done fields t k i = ap (λ n. done_drawn x n (d.done t k)) (fields t k 5 i (omega arith)) ∙ ap (done_drawn x (c.field t k 5)) (done t k i)

-- The view has found each task without dependencies.
abbrev pub FindsRoots : Opening → View → Type 0
FindsRoots o v = (t : ℕ) → t < task_count o.program → t < length v.found → length (task_at o.program t).deps ≡ 0 → 1 ≤ get_or v.found t 0

module _ (o : Opening) (c d : Content) (views : List View) (id : ℕ) (v w : View) (at : get_elem? views id ≡ some v) where
  -- The views are of the opening.
  pub known_kept : Each (IsView o c.clock) views → c.clock ≤ d.clock → IsView o d.clock w → Each (IsView o d.clock) (set views id w)
  known_kept all le new = each_set (IsView o c.clock) (IsView o d.clock) views id w all (λ u. view_later o c.clock d.clock u le) new

  -- Tasks run in turn.
  pub tasks_kept : TasksInTurn o c → SameAlloc o.program c d → ((t k : ℕ) → IsInstance o.program t k → 0 < c.done t k → 0 < d.done t k) → HasSerialRun o → TasksInTurn o d
  tasks_kept h alloc done run = record {
    few = λ t small. omega (arith, alloc t small, h.few t small);
    armed = λ t small armed. let was = h.armed t small (omega (arith, alloc t small, armed)) in
        record { runs = was.runs; past = λ u l ran b. done u l (run.instances u l ran) (was.past u l ran b) };
  }

  -- Each instance is held once.
  pub held_kept : HeldOnce o c views → ((t k : ℕ) → IsInstance o.program t k → holds w.stage t k ≡ holds v.stage t k) → SameAlloc o.program c d → SameDone o.program c d → HeldOnce o d (set views id w)
  held_kept h same alloc done t k i =
      omega (arith, sum_set (λ (u : View). holds u.stage t k) views id v w at, same t k i, h t k i, ap (λ n. handed n k) (alloc t i.0), ap sign (done t k i))

  -- What was found is so.
  pub found_kept : IsFound o c views → ((t : ℕ) → t < task_count o.program → c.alloc t ≤ d.alloc t) → ((t : ℕ) → t < task_count o.program → 1 ≤ d.alloc t → 1 ≤ c.alloc t)
      → length w.found ≡ length v.found → ((t : ℕ) → t < task_count o.program → get_or w.found t 0 ≤ d.alloc t) → ((t : ℕ) → t < task_count o.program → get_or v.found t 0 ≤ get_or w.found t 0) → IsFound o d (set views id w)
  found_kept h more armed long most found = record {
    most = each_set (λ u. (t : ℕ) → t < task_count o.program → get_or u.found t 0 ≤ c.alloc t) (λ u. (t : ℕ) → t < task_count o.program → get_or u.found t 0 ≤ d.alloc t) views id w h.most
        (λ u old t small. omega (arith, old t small, more t small)) most;
    some = λ t small a. omega (arith, h.some t small (armed t small a), found t small, sum_set (λ (x : View). get_or x.found t 0) views id v w at);
    roots = each_set (FindsRoots o) (FindsRoots o) views id w h.roots (λ u q. q) (λ t small within none. omega (arith, h.roots id v at t small (omega (arith, within, long)) none, found t small));
  }

  -- So it is if the view finds nothing, and no task hands anything out.
  pub found_same : IsFound o c views → SameAlloc o.program c d → w.found ≡ v.found → IsFound o d (set views id w)
  found_same h alloc same = found_kept h (λ t small. omega (arith, alloc t small)) (λ t small a. omega (arith, alloc t small, a)) (ap length same)
      (λ t small. omega (arith, alloc t small, ap (λ (l : List ℕ). get_or l t 0) same, h.most id v at t small)) (λ t small. omega (arith, ap (λ (l : List ℕ). get_or l t 0) same))

  -- The seats are out as before.
  pub seats_kept : SeatsOut views → w.role ≡ v.role → OwesAsRole w w.role → SeatsOut (set views id w)
  seats_kept h same new = record {
    first = λ u e.
        let sums : (x : ℕ) → sum_over (λ (y : View). is_seat x y.role) (set views id w) ≡ sum_over (λ (y : View). is_seat x y.role) views
        = λ x. sum_kept (λ (y : View). is_seat x y.role) views id v w at (ap (is_seat x) same) in
        let still : (r : Role) → HasSeats views r → HasSeats (set views id w) r = seats_same views (set views id w) sums in
        ⊎_elim
        (λ t. still u.role (subst (λ (r : Role). HasSeats views r) (sym same ∙ ap (λ (y : View). y.role) t.1) (h.first v (subst (λ n. get_elem? views n ≡ some v) (sym t.0) at))))
        (λ t. still u.role (h.first u t.1))
        (at_set views id 0 w u e);
    lone = λ j u outs e is. ⊎_elim
        (λ p. p.0 ∙ h.lone id v outs at (sym same ∙ (ap (λ (y : View). y.role) p.1 ∙ is)))
        (λ p. h.lone j u outs p.1 is)
        (at_set views id j w u e);
    owes = each_set (λ u. OwesAsRole u u.role) (λ u. OwesAsRole u u.role) views id w h.owes (λ u q. q) new;
  }

  -- The clock and the tickets to draw stay.
  pub count_kept : c.clock + sum_over (λ (u : View). tickets_to_draw u.stage) views ≡ 2 * sum_below (λ t. c.alloc t - 1) (task_count o.program) → d.clock ≡ c.clock → SameAlloc o.program c d → tickets_to_draw w.stage ≡ tickets_to_draw v.stage
      → d.clock + sum_over (λ (u : View). tickets_to_draw u.stage) (set views id w) ≡ 2 * sum_below (λ t. d.alloc t - 1) (task_count o.program)
  count_kept h clock alloc draw =
      let counted : sum_below (λ t. d.alloc t - 1) (task_count o.program) ≡ sum_below (λ t. c.alloc t - 1) (task_count o.program) = below_same (λ t. d.alloc t - 1) (λ t. c.alloc t - 1) (task_count o.program) (λ t i. ap (λ n. n - 1) (alloc t i)) in
      omega (arith, h, clock, counted, draw, sum_set (λ (u : View). tickets_to_draw u.stage) views id v w at)

  -- A step that draws no ticket, of an instance that stays as it is.
  pub tickets_kept : TicketsInTurn o c views → d.clock ≡ c.clock → SameAlloc o.program c d → SameDone o.program c d → SameFields o.program c d
      → tickets_to_draw w.stage ≡ tickets_to_draw v.stage → ((x : ℕ) → drawn x w.stage ≡ drawn x v.stage) → BegunInTurn o d w → TicketsInTurn o d (set views id w)
  tickets_kept h clock alloc done fields draw ticks new = record {
    count = count_kept h.count clock alloc draw;
    once = λ x. omega (arith, h.once x, sum_set (λ (u : View). drawn x u.stage) views id v w at, ticks x, all_done_same o c d x (done_drawn_same o c d x done fields), ap (is_below x) clock);
    ended = ended_kept o c d done (λ t k f i e few. fields t k f i few) h.ended;
    begun = each_set (BegunInTurn o c) (BegunInTurn o d) views id w h.begun (λ u. begun_kept o c d u u done (λ t k f i e few. fields t k f i few) refl (λ t k s st. st)) new;
  }

  -- The records are those of the run.
  pub records_kept : RecordsAsRun o c views → SameDone o.program c d → SameFields o.program c d → IsNoted o d w → RecordsAsRun o d (set views id w)
  records_kept h done fields new = record {
    own = λ t k f i e b. fields t k f i (omega (arith, b)) ∙ h.own t k f i (omega (arith, done t k i, e)) b;
    core = λ t k i e. omega (arith, fields t k 6 i (omega arith), h.core t k i (omega (arith, done t k i, e)));
    noted = each_set (IsNoted o c) (IsNoted o d) views id w h.noted (λ u old t k start end reads noted f x i st few e. fields t k f i few ∙ old t k start end reads noted f x i st few e) new;
  }

  -- A word without a writer has its value if no word of the memory has changed, and no view has stopped being a writer.
  pub rest_kept : ValuesAsRun o c views → ((t k : ℕ) → IsInstance o.program t k → has_begun v.stage t k ≤ has_begun w.stage t k) → SameDone o.program c d → HasSerialRun o
      → (a : ℕ) → a < o.program.map.words → NoWriter o (set views id w) a → c.mem a ≡ value_now (world_in o) (is_done d.done) a
  rest_kept h more done run a small none =
      let before : NoWriter o views a = λ t k ran writes. omega (arith, none t k ran writes, sum_set (λ (x : View). has_begun x.stage t k) views id v w at, more t k (run.instances t k ran)) in
      h.rest a small before ∙ last_same (world_in o) (leaves (world_in o)) a (is_done c.done) (is_done d.done) (get_or (world_in o).image a 0) (world_in o).ran
      (λ i ran. ap (λ n. nat_lt 0 n && (world_in o).writes i a) (sym (done i.0 i.1 (run.instances i.0 i.1 ran))))

  -- The values are those of the run.
  pub values_kept : ValuesAsRun o c views → SameMemory o.program c d → ((t k : ℕ) → IsInstance o.program t k → has_begun v.stage t k ≤ has_begun w.stage t k) → SameDone o.program c d → HasSerialRun o → LivesAsRun o d.mem w.stage → ValuesAsRun o d (set views id w)
  values_kept h mem more done run new = record {
    rest = λ a small none. mem a small ∙ rest_kept h more done run a small none;
    lives = each_set (λ u. LivesAsRun o c.mem u.stage) (λ u. LivesAsRun o d.mem u.stage) views id w h.lives (λ u. lives_same o c.mem d.mem u.stage mem) new;
  }

-- The stage of a view after a step is like the one before: it holds the same instance, at the same tickets and stores.
pub record Alike (o : Opening) (s r : Stage) : Type 0 where
  pub holds : (t k : ℕ) → holds r t k ≡ holds s t k
  pub begun : (t k : ℕ) → has_begun r t k ≡ has_begun s t k
  pub draw : tickets_to_draw r ≡ tickets_to_draw s
  pub drawn : (x : ℕ) → drawn x r ≡ drawn x s
  pub starts : (t k x : ℕ) → StartsAt r t k x → StartsAt s t k x
  pub stage : (clock : ℕ) → IsStage o clock s → IsStage o clock r
  pub lives : (mem : ℕ → ℕ) → LivesAsRun o mem s → LivesAsRun o mem r

-- A stage is like itself.
pub alike_refl : (o : Opening) (s : Stage) → Alike o s s
alike_refl o s = record {
  holds = λ t k. refl;
  begun = λ t k. refl;
  draw = refl;
  drawn = λ x. refl;
  starts = λ t k x st. st;
  stage = λ clock h. h;
  lives = λ mem h. h;
}

-- A step that changes no word of these, and of a view only what it found, read, noted, owes and told.
pub quiet : (o : Opening) (c d : Content) (views : List View) (id : ℕ) (v w : View) → get_elem? views id ≡ some v → Rule o c views
    → SameMemory o.program c d → d.clock ≡ c.clock → SameAlloc o.program c d → SameDone o.program c d → SameFields o.program c d
    → w.role ≡ v.role → Alike o v.stage w.stage → IsRole o w w.role → OwesAsRole w w.role → IsNoted o d w
    → length w.found ≡ length v.found → ((t : ℕ) → t < task_count o.program → get_or w.found t 0 ≤ c.alloc t) → ((t : ℕ) → t < task_count o.program → get_or v.found t 0 ≤ get_or w.found t 0)
    → Rule o d (set views id w)
quiet o c d views id v w at r mem clock alloc done fields role like is owes noted long most found = record {
  run = r.run;
  known = known_kept o c d views id v w at r.known (omega (arith, clock)) (record { role = is; stage = like.stage d.clock (stage_later o c.clock d.clock v.stage (omega (arith, clock)) (r.known id v at).stage) });
  tasks = tasks_kept o c d views id v w at r.tasks alloc (λ t k i h. omega (arith, done t k i)) r.run;
  held = held_kept o c d views id v w at r.held (λ t k i. like.holds t k) alloc done;
  found = found_kept o c d views id v w at r.found (λ t h. omega (arith, alloc t h)) (λ t h a. omega (arith, alloc t h)) long (λ t h. omega (arith, alloc t h, most t h)) found;
  seats = seats_kept o c d views id v w at r.seats role owes;
  tickets = tickets_kept o c d views id v w at r.tickets clock alloc done fields like.draw like.drawn (begun_kept o c d v w done (λ t k f i e few. fields t k f i few) role like.starts (r.tickets.begun id v at));
  records = records_kept o c d views id v w at r.records done fields noted;
  values = values_kept o c d views id v w at r.values mem (λ t k i. omega (arith, like.begun t k)) done r.run (like.lives d.mem (lives_same o c.mem d.mem v.stage mem (r.values.lives id v at)));
}
