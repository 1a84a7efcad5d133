-- The first words meet the rule with the root alone.
use Rattle.std.proofs.Common.{◌≡◌, ℕ, zero, suc, ◌+◌, ◌-◌, ◌*◌, ◌<◌, ◌≤◌, cond, Bool, eqb, ◌&&◌, List, [], ◌∷◌, ◌++◌, length, get_or, replicate, sym, refl, ap, ◌∙◌, subst, arith, eq-eqb, ne_eqb}
use mathlib.Core.Logic.{dite}
use native.Mathlib.Decide.{ℕ_discrete}
use mathlib.Core.Option.{some, some-injective, some-ne-none}
use lib.ListN.{get_elem?}
use Rattle.std.specs.List.{flat_map}
use Rattle.std.proofs.lemmas.Bool.{both_ways}
use Rattle.std.proofs.lemmas.List.{length-append, length-map, length-replicate, get_or-map, get_or-replicate, get_or_append_left, get_or-append_right}
use Rattle.plural_map.specs.Value.{TaskValue, no_task}
use Rattle.plural_serial.specs.Program.{ProgramValue, task_at}
use Rattle.plural_order.specs.World.{leaves}
use Rattle.plural_order.specs.Sums.{sum_below}
use Rattle.plural_order.proofs.Sums.{below_none}
use Rattle.plural_order.proofs.LastValues.{last_none}
use Rattle.plural_order.proofs.ProgramLaws.{roots_run}
use Rattle.plural_counters.specs.Counters.{first_counters}
use Rattle.plural_counters.specs.Steps.{IsSame}
use Rattle.plural_counters.proofs.Sums.{sign_none}
use Rattle.plural_counters.proofs.Openings.{first_counted}
use Rattle.plural_rule.specs.Opening.{Opening, IsInstance, world_in, graph_in, task_count, quota_of}
use Rattle.plural_rule.specs.Layout.{instances_before, done_at, counters_at, alloc_at, flags_at, left_at, state_at, open_deps_at, clock_at, word_count}
use Rattle.plural_rule.specs.Content.{Content, content}
use Rattle.plural_rule.specs.Rule.{Each, IsView, HasSeats, OwesAsRole, done_drawn, all_done_drawn, BegunInTurn, IsNoted, LivesAsRun, is_done}
use Rattle.plural_rule.specs.First.{first_five, first_words}
use Rattle.plural_rule.specs.Steps.{first_view}
use Rattle.plural_rule.specs.Kept.{duties, counters}
use Rattle.plural_rule.specs.Laws.{OpensWords}
use Rattle.plural_rule.specs.declared.view.View.{View}
use Rattle.plural_rule.proofs.Writes.{field_low}
use Rattle.plural_rule.proofs.ViewSums.{handed_no}
use Rattle.plural_rule.proofs.TicketSums.{below_no, undone_drawn}
use Rattle.plural_rule.proofs.Parts.{begun_idle, noted_idle, FindsRoots}
use Rattle.plural_rule.proofs.Live.{done_no}
use Rattle.plural_rule.proofs.ProgramRuns.{runs_serially, graph_of_run}

-- 1 if yes, else 0.
abbrev one_of : Bool → ℕ
one_of b = cond b 1 0

-- ---- words in their places

left_part : (xs ys : List ℕ) (i : ℕ) → i < length xs → get_or (xs ++ ys) i 0 ≡ get_or xs i 0
left_part xs ys i h = get_or_append_left xs ys 0 i h

right_part : (xs ys : List ℕ) (i j : ℕ) → i ≡ length xs + j → get_or (xs ++ ys) i 0 ≡ get_or ys j 0
right_part xs ys i j e =
    let d : i - length xs ≡ j = omega (arith, e) in
    get_or-append_right xs ys (length xs) i 0 refl (omega (arith, e)) ∙ ap (λ (x : ℕ). get_or ys x 0) d

fives_long : (tasks : List TaskValue) → length (flat_map first_five tasks) ≡ 5 * length tasks
fives_long [] = refl
fives_long (x ∷ xs) = omega (arith, length-append (first_five x) (flat_map first_five xs), fives_long xs)

five_at : (tasks : List TaskValue) (t j : ℕ) → t < length tasks → j < 5 → get_or (flat_map first_five tasks) (5 * t + j) 0 ≡ get_or (first_five (get_or tasks t no_task)) j 0
five_at [] t j h few = absurd (omega arith)
five_at (x ∷ xs) zero j h few =
    let at : 5 * 0 + j ≡ j = omega arith in
    ap (λ n. get_or (flat_map first_five (x ∷ xs)) n 0) at ∙ left_part (first_five x) (flat_map first_five xs) j (omega (arith, few))
five_at (x ∷ xs) (suc t) j h few = right_part (first_five x) (flat_map first_five xs) (5 * suc t + j) (5 * t + j) (omega arith) ∙ five_at xs t j (omega arith) few

module _ (o : Opening) (wide : length o.image ≡ o.program.map.words) where
  abbrev p : ProgramValue
  p = o.program

  abbrev blank : List ℕ
  blank = replicate (8 * instances_before p (task_count p)) 0

  abbrev low : List ℕ
  low = o.image ++ blank

  abbrev fives : List ℕ
  fives = flat_map first_five p.map.tasks

  abbrev c : Content
  c = content p (first_words p o.image)

  low_long : length low ≡ counters_at p
  low_long = omega (arith, length-append o.image blank, wide, length-replicate {A = ℕ} (8 * instances_before p (task_count p)) 0)

  most_long : length (low ++ fives) ≡ clock_at p
  most_long = omega (arith, length-append low fives, low_long, fives_long p.map.tasks)

  first_long : length (first_words p o.image) ≡ word_count p
  first_long = omega (arith, length-append (low ++ fives) (0 ∷ []), most_long)

  in_low : (i : ℕ) → i < counters_at p → get_or (first_words p o.image) i 0 ≡ get_or low i 0
  in_low i h = left_part (low ++ fives) (0 ∷ []) i (omega (arith, most_long, h)) ∙ left_part low fives i (omega (arith, low_long, h))

  first_mem : (a : ℕ) → a < p.map.words → c.mem a ≡ get_or o.image a 0
  first_mem a h = in_low a (omega arith) ∙ left_part o.image blank a (omega (arith, wide, h))

  first_done : (t k : ℕ) → IsInstance p t k → c.done t k ≡ 0
  first_done t k i =
      let below = field_low p t k 7 i (omega arith) in
      let j = 8 * (instances_before p t + k) + 7 in
      in_low (done_at p t k) below ∙ (right_part o.image blank (done_at p t k) j (omega (arith, wide)) ∙ get_or-replicate (8 * instances_before p (task_count p)) j 0 0 (omega (arith, below)))

  first_clock : c.clock ≡ 0
  first_clock = right_part (low ++ fives) (0 ∷ []) (clock_at p) 0 (omega (arith, most_long))

  five : (t j i : ℕ) → t < task_count p → j < 5 → i ≡ counters_at p + 5 * t + j → get_or (first_words p o.image) i 0 ≡ get_or (first_five (task_at p t)) j 0
  five t j i h few e =
      left_part (low ++ fives) (0 ∷ []) i (omega (arith, most_long, e, few, h))
      ∙ (right_part low fives i (5 * t + j) (omega (arith, low_long, e)) ∙ five_at p.map.tasks t j h few)

  same_first : IsSame (graph_in o) (first_counters (graph_in o)) (counters c)
  same_first = record {
    alloc = λ t h. five t 0 (alloc_at p t) h (omega arith) (omega arith);
    done = λ t k h i. first_done t k (h, i);
    flags = λ t h. five t 1 (flags_at p t) h (omega arith) refl;
    left = λ t h. five t 2 (left_at p t) h (omega arith) refl;
    state = λ t h. five t 3 (state_at p t) h (omega arith) refl;
    open_deps = λ t h. five t 4 (open_deps_at p t) h (omega arith) refl;
  }

  alloc_low : (t : ℕ) → t < task_count p → c.alloc t ≤ 1
  alloc_low t h = dite (ℕ_discrete (length (task_at p t).deps) 0)
      (λ z. omega (arith, same_first.alloc t h, ap one_of (eq-eqb (length (task_at p t).deps) 0 z)))
      (λ ne. omega (arith, same_first.alloc t h, ap one_of (ne_eqb (length (task_at p t).deps) 0 ne)))

  alloc_root : (t : ℕ) → t < task_count p → 1 ≤ c.alloc t → length (task_at p t).deps ≡ 0
  alloc_root t h a = dite (ℕ_discrete (length (task_at p t).deps) 0) (λ z. z)
      (λ ne. absurd (omega (arith, same_first.alloc t h, a, ap one_of (ne_eqb (length (task_at p t).deps) 0 ne))))

  first_found : (t : ℕ) → t < task_count p → get_or (first_view o).found t 0 ≡ c.alloc t
  first_found t h = get_or-map (λ (task : TaskValue). cond (eqb (length task.deps) 0) 1 0) p.map.tasks t no_task 0 h ∙ sym (same_first.alloc t h)

-- ---- the root alone

only : (P : View → Type 0) (r : View) → P r → Each P (r ∷ [])
only P r pr zero u e = subst P (some-injective r u e) pr
only P r pr (suc j) u e = absurd (some-ne-none u (sym e))

only_first : (r : View) (j : ℕ) (u : View) → get_elem? (r ∷ []) j ≡ some u → j ≡ 0
only_first r zero u e = refl
only_first r (suc j) u e = absurd (some-ne-none u (sym e))

-- The first words meet the rule with the root alone.
pub opens_words : OpensWords
opens_words o ok narrow =
    let p = o.program in let wide = ok.image in let content_is = c o wide in let root = first_view o in
    let run = runs_serially o ok in
    let graph = graph_of_run o ok.limits in
    let done = first_done o wide in
    let no_tickets : (x : ℕ) → all_done_drawn o content_is x ≡ 0 = λ x. below_none (λ t. sum_below (λ k. done_drawn x (content_is.field t k 5) (content_is.done t k)) (quota_of p t)) (task_count p)
    (λ t h. below_none (λ k. done_drawn x (content_is.field t k 5) (content_is.done t k)) (quota_of p t) (λ k i. undone_drawn x (content_is.field t k 5) (content_is.done t k) (done t k (h, i)))) in
    record {
      long = first_long o wide;
      narrow = λ a h. omega (arith, first_mem o wide a h, narrow a h);
      rule = record {
        run = run;
        known = only (IsView o content_is.clock) root (record { role = (record { opening = refl; found = length-map p.map.tasks (λ (task : TaskValue). cond (eqb (length task.deps) 0) 1 0); looks = length-replicate {A = ℕ} (task_count p) 0; losses = length-replicate {A = ℕ} (task_count p) 0 }, refl); stage = tt });
        tasks = record {
          few = λ t h. omega (arith, alloc_low o wide t h);
          armed = λ t h a. let r = roots_run (graph_in o) graph t h (alloc_root o wide t h a) in
              record { runs = r.runs; past = λ u l ran b. absurd (both_ways ((world_in o).before u t) (r.first u) b) };
        };
        held = λ t k i. omega (arith, sign_none (content_is.done t k) (done t k i), handed_no (content_is.alloc t) k (omega (arith, alloc_low o wide t i.0)));
        found = record {
          most = only (λ u. (t : ℕ) → t < task_count p → get_or u.found t 0 ≤ content_is.alloc t) root (λ t h. omega (arith, first_found o wide t h));
          some = λ t h a. omega (arith, first_found o wide t h, a);
          roots = only (FindsRoots o) root (λ t h within none. omega (arith, first_found o wide t h, (same_first o wide).alloc t h, ap one_of (eq-eqb (length (task_at p t).deps) 0 none)));
        };
        seats = record {
          first = λ u e. subst (λ (y : View). HasSeats (root ∷ []) y.role) (some-injective root u e) (λ x. (refl, omega arith));
          lone = λ j u outs e is. only_first root j u e;
          owes = only (λ u. OwesAsRole u u.role) root refl;
        };
        tickets = record {
          count = omega (arith, first_clock o wide, below_none (λ t. content_is.alloc t - 1) (task_count p) (λ t h. omega (arith, alloc_low o wide t h)));
          once = λ x. omega (arith, no_tickets x, below_no x content_is.clock (omega (arith, first_clock o wide)));
          ended = record {
            own = λ t k i h. absurd (omega (arith, done t k i, h));
            turn = λ t k u l i j r b h g. absurd (omega (arith, done t k i, h));
            line = λ t k u l i j n h g e. absurd (omega (arith, done t k i, h));
          };
          begun = only (BegunInTurn o content_is) root (begun_idle o content_is root tt);
        };
        records = record {
          own = λ t k f i h g. absurd (omega (arith, done t k i, h));
          core = λ t k i h. absurd (omega (arith, done t k i, h));
          noted = only (IsNoted o content_is) root (noted_idle o content_is root tt);
        };
        values = record {
          rest = λ a h none. first_mem o wide a h ∙ (ap (λ (m : List ℕ). get_or m a 0) (sym run.image)
              ∙ sym (last_none (world_in o) (leaves (world_in o)) a (is_done content_is.done) (get_or (world_in o).image a 0) (world_in o).ran
              (λ i ran. ap (λ b. b && (world_in o).writes i a) (done_no content_is.done i.0 i.1 (done i.0 i.1 (run.instances i.0 i.1 ran))))));
          lives = only (λ u. LivesAsRun o content_is.mem u.stage) root tt;
        };
      };
      counted = first_counted duties (graph_in o) (counters content_is) root graph (same_first o wide) refl;
    }
