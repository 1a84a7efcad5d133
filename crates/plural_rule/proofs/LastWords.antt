-- If no seat is out: what the root knows, and what the words are.
use Rattle.std.proofs.Common.{◌≡◌, ℕ, zero, suc, ◌+◌, ◌<◌, ◌≤◌, List, [], ◌∷◌, ◌++◌, length, get_or, All, Contains, sym, refl, ap, ◌∙◌, subst, ⊎_elim, arith}
use mathlib.Core.Logic.{dite}
use native.Mathlib.Decide.{ℕ_discrete}
use mathlib.Core.Option.{some, some-injective}
use lib.ListN.{get_elem?}
use Rattle.std.proofs.lemmas.List.Elements.{All-append, All-cons, All-nil, All-contains, Contains-append_cases, Contains-append_right}
use Rattle.plural_map.specs.declared.outcome.Outcome.{Outcome}
use Rattle.plural_map.specs.declared.outcome.Outcome.TheVariants as outcome
use Rattle.plural_order.specs.Sums.{sum_over}
use Rattle.plural_order.proofs.WorldLaws.{value_of_all}
use Rattle.plural_counters.specs.Counters.{Fits, duties_of}
use Rattle.plural_counters.specs.Duties.{IsTold}
use Rattle.plural_counters.specs.Steps.{as_duties}
use Rattle.plural_counters.specs.declared.duty.Duty.{Duty}
use Rattle.plural_counters.specs.declared.duty.Duty.TheVariants.{Told}
use Rattle.plural_counters.proofs.Sums.{term_at, one_same, sum_le}
use Rattle.plural_counters.proofs.Views.{duty_there}
use Rattle.plural_counters.proofs.AllTold as counter
use Rattle.plural_counters.proofs.ToldOutcomes as counter_outcome
use Rattle.plural_rule.specs.Opening.{Opening, IsInstance, Runs, graph_in, world_in, outcome_of, task_count, quota_of}
use Rattle.plural_rule.specs.Content.{Content, content}
use Rattle.plural_rule.specs.Stages.{holds, has_begun, drawn, is_seat}
use Rattle.plural_rule.specs.Rule.{IsRole, HasSeats, OwesAsRole, is_done, Rule}
use Rattle.plural_rule.specs.Last.{tickets_drawn}
use Rattle.plural_rule.specs.Kept.{duties, counters}
use Rattle.plural_rule.specs.Laws.{AllTold, ToldOutcome, ClosesWords}
use Rattle.plural_rule.specs.declared.view.View.{View}
use Rattle.plural_rule.specs.declared.view.Stage.TheVariants.{Free}
use Rattle.plural_rule.specs.declared.view.Role.{Role}
use Rattle.plural_rule.specs.declared.view.Role.TheVariants.{Seat, Root, Spent}
use Rattle.plural_rule.proofs.ViewSums.{sum_nothing, sum_somewhere, handed_yes, sign_yes}
use Rattle.plural_rule.proofs.ClockCounts.{clock_is}
use Rattle.plural_rule.proofs.Live.{begun_held, done_armed, done_yes}

-- ---- lists of duties

-- Tasks that were told are no duty any more.
told_done : (l : List (ℕ × Outcome)) → All IsTold (as_duties l)
told_done [] = All-nil IsTold
told_done (x ∷ xs) = All-cons IsTold (Told x.0 x.1) (as_duties xs) tt (told_done xs)

-- What a duty tells of a task.
abbrev pair_in : Duty → ℕ × Outcome
pair_in (Told t o) = (t, o)
pair_in _ = (0, outcome.Failed)

-- A task that stands among the duties was told.
told_at : (l : List (ℕ × Outcome)) (t : ℕ) (o : Outcome) (i : ℕ) → i < length (as_duties l) → get_or (as_duties l) i (Told t o) ≡ Told t o → Contains l (t, o)
told_at [] t o i h e = absurd (omega arith)
told_at (x ∷ xs) t o zero h e = (0, omega arith, ap pair_in e)
told_at (x ∷ xs) t o (suc i) h e = let c = told_at xs t o i (omega arith) e in let low = c.1 in (suc c.0, omega arith, c.2)

-- A duty of all views is one of a view.
duty_of : (views : List View) (p : Duty) → Contains (duties_of duties views) p → (j : ℕ) × (u : View) × (get_elem? views j ≡ some u) × Contains (duties u) p
duty_of [] p c = absurd (let h = c.1 in omega arith)
duty_of (x ∷ xs) p c = ⊎_elim
    (λ h. (0, x, refl, h))
    (λ t. let q = duty_of xs p t in (suc q.0, q.1, q.2, q.3))
    (Contains-append_cases (duties x) (duties_of duties xs) p c)

-- What is so of the duties of each view is so of all.
all_duties : (P : Duty → Type 0) (views : List View) → ((j : ℕ) (u : View) → get_elem? views j ≡ some u → All P (duties u)) → All P (duties_of duties views)
all_duties P [] h = All-nil P
all_duties P (x ∷ xs) h = All-append P (duties x) (duties_of duties xs) (h 0 x refl) (all_duties P xs (λ j u e. h (suc j) u e))

none_in : (p : Duty) → Contains [] p → ⊥
none_in p c = absurd (let h = c.1 in omega arith)

-- ---- no seat is out

module _ (o : Opening) (c : Content) (views : List View) (v : View) (r : Rule o c views) (at : get_elem? views 0 ≡ some v) (root : v.role ≡ Root []) where
  -- No view is a seat's.
  no_seat : (j : ℕ) (u : View) (core : ℕ) → get_elem? views j ≡ some u → u.role ≡ Seat core → ⊥
  no_seat j u core e is =
      let seats = subst (λ (q : Role). HasSeats views q) root (r.seats.first v at) core in
      absurd (omega (arith, term_at (λ (y : View). is_seat core y.role) views j u e, seats.0, ap (is_seat core) is, one_same core core refl))

  -- So every view is the root's or spent.
  by_role : (P : View → Type 0) → P v → ((u : View) → u.role ≡ Spent → IsRole o u Spent → OwesAsRole u Spent → P u) → (j : ℕ) (u : View) → get_elem? views j ≡ some u → P u
  by_role P mine gone j u e = from u.role refl (r.known j u e).role (r.seats.owes j u e)
    where
      from : (q : Role) → u.role ≡ q → IsRole o u q → OwesAsRole u q → P u
      from (Seat core) is h w = absurd (no_seat j u core e is)
      from (Root outs) is h w =
          let first : j ≡ 0 = r.seats.lone j u outs e is in
          let same : v ≡ u = some-injective v u (sym at ∙ subst (λ n. get_elem? views n ≡ some u) first e) in
          subst P same mine
      from Spent is h w = gone u is h w

  free : v.stage ≡ Free
  free = (subst (λ (q : Role). IsRole o v q) root (r.known 0 v at).role).1

  -- Nothing is held.
  none_held : (t k : ℕ) → sum_over (λ (u : View). holds u.stage t k) views ≡ 0
  none_held t k = sum_nothing (λ (u : View). holds u.stage t k) views
      (by_role (λ u. holds u.stage t k ≡ 0) (ap (λ s. holds s t k) free) (λ u is h w. ap (λ s. holds s t k) h.1))

  -- So what was handed out is done.
  handed_done : (t k : ℕ) → IsInstance o.program t k → k + 2 ≤ c.alloc t → 0 < c.done t k
  handed_done t k i out = sign_yes (c.done t k) (omega (arith, r.held t k i, none_held t k, handed_yes (c.alloc t) k (omega (arith, out))))

  -- No view has a ticket.
  none_drawn : (x : ℕ) → sum_over (λ (u : View). drawn x u.stage) views ≡ 0
  none_drawn x = sum_nothing (λ (u : View). drawn x u.stage) views
      (by_role (λ u. drawn x u.stage ≡ 0) (ap (drawn x) free) (λ u is h w. ap (drawn x) h.1))

  -- The root has found each task that is armed.
  root_found : (t : ℕ) → t < task_count o.program → 1 ≤ c.alloc t → 1 ≤ get_or v.found t 0
  root_found t small armed =
      let one = sum_somewhere (λ (u : View). get_or u.found t 0) views (r.found.some t small armed) in
      by_role (λ u. 1 ≤ get_or u.found t 0 → 1 ≤ get_or v.found t 0) (λ h. h)
      (λ u is h w some_found. absurd (omega (arith, some_found, ap (λ (l : List ℕ). get_or l t 0) h.0, nothing t))) one.0 one.1 one.2 one.3
    where
      nothing : (n : ℕ) → get_or {A = ℕ} [] n 0 ≡ 0
      nothing n = refl

  owes_nothing : v.owes ≡ []
  owes_nothing = subst (λ (q : Role). OwesAsRole v q) root (r.seats.owes 0 v at)

  -- A task that some view has told the root has told.
  root_told : (t : ℕ) (q : Outcome) → Contains (duties_of duties views) (Told t q) → Contains v.told (t, q)
  root_told t q there =
      let one = duty_of views (Told t q) there in
      by_role (λ u. Contains (duties u) (Told t q) → Contains v.told (t, q))
      (λ h. let told = subst (λ (l : List Duty). Contains (l ++ as_duties v.told) (Told t q)) owes_nothing h in told_at v.told t q told.0 told.1 told.2)
      (λ u is h w some_told. absurd (none_in (Told t q) (subst (λ (l : List (ℕ × Outcome)). Contains ([] ++ as_duties l) (Told t q)) w.1 (subst (λ (l : List Duty). Contains (l ++ as_duties u.told) (Told t q)) w.0 some_told))))
      one.0 one.1 one.2 one.3

  -- No duty is owed.
  all_idle : All IsTold (duties_of duties views)
  all_idle = all_duties IsTold views (by_role (λ u. All IsTold (duties u))
      (subst (λ (l : List Duty). All IsTold (l ++ as_duties v.told)) (sym owes_nothing) (told_done v.told))
      (λ u is h w. subst (λ (l : List Duty). All IsTold (l ++ as_duties u.told)) (sym w.0) (told_done u.told)))

-- A lone root that knows all armed tasks as wholly handed out has told every task.
pub all_told : AllTold
all_told o ws views v k at root whole t small =
    let c = content o.program ws in let r = k.rule in
    let ended : (u n : ℕ) → u < task_count o.program → 1 ≤ c.alloc u → n < quota_of o.program u → 0 < c.done u n = λ u n h armed few.
    let is = whole u h (root_found o c views v r at root u h armed) in
    handed_done o c views v r at root u n (h, few) (omega (arith, is, r.found.most 0 v at u h, few)) in
    root_told o c views v r at root t (outcome_of o t) (counter.all_told (graph_in o) (counters c) (duties_of duties views) k.counted (all_idle o c views v r at root) ended t small).told

-- ---- the last words

-- A pair that was told is a duty of its view.
told_there : (l : List (ℕ × Outcome)) (t : ℕ) (o : Outcome) → Contains l (t, o) → Contains (as_duties l) (Told t o)
told_there l t o c = at_place l c.0 c.1 c.2
  where
    at_place : (l : List (ℕ × Outcome)) (i : ℕ) → i < length l → get_or l i (t, o) ≡ (t, o) → Contains (as_duties l) (Told t o)
    at_place [] i h e = absurd (omega arith)
    at_place (x ∷ xs) zero h e = (0, omega arith, ap (λ (y : ℕ × Outcome). Told y.0 y.1) e)
    at_place (x ∷ xs) (suc i) h e = let q = at_place xs i (omega arith) e in let low = q.1 in (suc q.0, omega arith, q.2)

-- A task that a view has told was told its outcome, and its counters say it.
pub told_outcome : ToldOutcome
told_outcome o ws views id v t q k at told =
    let c = content o.program ws in let r = k.rule in
    let there = duty_there duties views id v (Told t q) at (Contains-append_right v.owes (as_duties v.told) (Told t q) (told_there v.told t q told)) in
    let own = counter_outcome.told_outcome (graph_in o) (counters c) (duties_of duties views) t q k.counted there in
    record {
      task = own.task;
      outcome = own.outcome;
      counters = counter_outcome.counters_tell (graph_in o) (counters c) (duties_of duties views) t q k.counted there (record {
        runs = λ armed. (r.tasks.armed t own.task armed).runs;
        undone = λ none n few. dite (ℕ_discrete (c.done t n) 0) (λ z. z) (λ ne. absurd (omega (arith, done_armed o c views t n r.held (own.task, few) (omega (arith, ne)), none)));
      });
    }

-- What the words say then.
pub closes_words : ClosesWords
closes_words o ws views v k at root told =
    let c = content o.program ws in let r = k.rule in
    let done : (t n : ℕ) → Runs o t n → 0 < c.done t n = λ t n ran.
    let inst = r.run.instances t n ran in
    let there = duty_there duties views 0 v (Told t (outcome_of o t)) at (subst (λ (l : List Duty). Contains (l ++ as_duties v.told) (Told t (outcome_of o t))) (sym (owes_nothing o c views v r at root)) (told_there v.told t (outcome_of o t) (told t inst.0))) in
    (All-contains (Fits (graph_in o) (counters c)) (duties_of duties views) (Told t (outcome_of o t)) k.counted.fits there).2.own n ran in
    record {
      memory = λ a small.
          r.values.rest a small (λ t n ran writes. omega (arith, sum_le (λ (u : View). has_begun u.stage t n) (λ (u : View). holds u.stage t n) views (λ u. begun_held t n u.stage), none_held o c views v r at root t n))
          ∙ value_of_all (world_in o) r.run.world (is_done c.done) a (λ i ran. done_yes c.done i.0 i.1 (done i.0 i.1 ran));
      done = done;
      only = λ t n i h. (r.tasks.armed t i.0 (done_armed o c views t n r.held i h)).runs n i.1;
      in_turn = r.tickets.ended;
      records = r.records.own;
      cores = r.records.core;
      clock = omega (arith, clock_is o c views r, sum_nothing (λ (u : View). tickets_drawn u.stage) views (by_role o c views v r at root (λ u. tickets_drawn u.stage ≡ 0) (ap tickets_drawn (free o c views v r at root)) (λ u is h w. ap tickets_drawn h.1)));
      tickets = λ x. omega (arith, r.tickets.once x, none_drawn o c views v r at root x);
    }
