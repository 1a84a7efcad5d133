-- The clock as a count of instances.
use Rattle.std.proofs.Common.{◌≡◌, ℕ, zero, suc, ◌+◌, ◌-◌, ◌*◌, List, [], ◌∷◌, sym, refl, ◌∙◌, arith}
use mathlib.Core.Logic.{dite}
use native.Mathlib.Decide.{dec_le}
use Rattle.plural_order.specs.Sums.{sum_over, sum_below, sign}
use Rattle.plural_order.proofs.Sums.{below_same, below_add, below_none}
use Rattle.plural_counters.specs.Duties.{one_if_pair}
use Rattle.plural_counters.proofs.Sums.{pair_same}
use Rattle.plural_rule.specs.Opening.{Opening, IsInstance, task_count, quota_of}
use Rattle.plural_rule.specs.Content.{Content, content}
use Rattle.plural_rule.specs.Stages.{holds, tickets_to_draw, IsStage}
use Rattle.plural_rule.specs.Rule.{handed, IsView, Each, Rule}
use Rattle.plural_rule.specs.Last.{done_count, tickets_drawn}
use Rattle.plural_rule.specs.Laws.{ClockCounts}
use Rattle.plural_rule.specs.declared.view.View.{View}
use Rattle.plural_rule.specs.declared.view.Stage.{Stage}
use Rattle.plural_rule.specs.declared.view.Stage.TheVariants.{Free, Got, Begun, Ended}
use Rattle.plural_rule.proofs.ViewSums.{handed_yes, handed_no}
use Rattle.plural_rule.proofs.TicketSums.{sum_change}

-- The sum over all instances.
abbrev pub over_all : Opening → (ℕ → ℕ → ℕ) → ℕ
over_all o f = sum_below (λ t. sum_below (λ k. f t k) (quota_of o.program t)) (task_count o.program)

-- Sums of equal parts are equal.
pub all_same : (o : Opening) (f g : ℕ → ℕ → ℕ) → ((t k : ℕ) → IsInstance o.program t k → f t k ≡ g t k) → over_all o f ≡ over_all o g
all_same o f g same = below_same (λ t. sum_below (λ k. f t k) (quota_of o.program t)) (λ t. sum_below (λ k. g t k) (quota_of o.program t)) (task_count o.program)
    (λ t h. below_same (λ k. f t k) (λ k. g t k) (quota_of o.program t) (λ k i. same t k (h, i)))

-- The sum of sums of two is the sum of both sums.
pub all_add : (o : Opening) (f g : ℕ → ℕ → ℕ) → over_all o (λ t k. f t k + g t k) ≡ over_all o f + over_all o g
all_add o f g =
    below_same (λ t. sum_below (λ k. f t k + g t k) (quota_of o.program t)) (λ t. sum_below (λ k. f t k) (quota_of o.program t) + sum_below (λ k. g t k) (quota_of o.program t)) (task_count o.program)
    (λ t h. below_add (λ k. f t k) (λ k. g t k) (quota_of o.program t))
    ∙ below_add (λ t. sum_below (λ k. f t k) (quota_of o.program t)) (λ t. sum_below (λ k. g t k) (quota_of o.program t)) (task_count o.program)

-- A sum of nothing but 0 is 0.
pub all_none : (o : Opening) → over_all o (λ t k. 0) ≡ 0
all_none o = below_none (λ t. sum_below (λ k. 0) (quota_of o.program t)) (task_count o.program) (λ t h. below_none (λ k. 0) (quota_of o.program t) (λ k i. refl))

-- One instance is one.
pub all_one : (o : Opening) (u l : ℕ) → IsInstance o.program u l → over_all o (one_if_pair u l) ≡ 1
all_one o u l i = omega (arith, sum_change o (λ t k. 0) (one_if_pair u l) u l i (λ t k j z. sym z), all_none o, pair_same u l u l refl refl)

-- A stage holds one instance or none.
abbrev held_count : Stage → ℕ
held_count Free = 0
held_count (Got t k) = 1
held_count (Begun t k start made reads) = 1
held_count (Ended t k start end reads noted) = 1

stage_count : (o : Opening) (clock : ℕ) (s : Stage) → IsStage o clock s → over_all o (holds s) ≡ held_count s
stage_count o clock Free ok = all_none o
stage_count o clock (Got t k) ok = all_one o t k ok
stage_count o clock (Begun t k start made reads) ok = all_one o t k ok.0
stage_count o clock (Ended t k start end reads noted) ok = all_one o t k ok.0

-- All views hold as many instances as views hold one.
views_count : (o : Opening) (clock : ℕ) (views : List View) → Each (IsView o clock) views → over_all o (λ t k. sum_over (λ (v : View). holds v.stage t k) views) ≡ sum_over (λ (v : View). held_count v.stage) views
views_count o clock [] h = all_none o
views_count o clock (v ∷ vs) h = omega (
  arith,
  all_add o (holds v.stage) (λ t k. sum_over (λ (u : View). holds u.stage t k) vs),
  stage_count o clock v.stage (h 0 v refl).stage,
  views_count o clock vs (λ j u e. h (suc j) u e),
)

-- A task has handed out as many instances as its alloc word says.
handed_count : (n q : ℕ) → sum_below (handed n) q + (n - 1 - q) ≡ n - 1
handed_count n zero = omega arith
handed_count n (suc q) = dite (dec_le n (q + 1))
    (λ h. omega (arith, handed_count n q, handed_no n q h))
    (λ h. omega (arith, handed_count n q, handed_yes n q (omega arith)))

-- What a stage draws and has drawn is two, if it holds an instance.
stage_tickets : (s : Stage) → tickets_to_draw s + tickets_drawn s ≡ 2 * held_count s
stage_tickets Free = refl
stage_tickets (Got t k) = refl
stage_tickets (Begun t k start made reads) = refl
stage_tickets (Ended t k start end reads noted) = refl

views_tickets : (views : List View) → sum_over (λ (v : View). tickets_to_draw v.stage) views + sum_over (λ (v : View). tickets_drawn v.stage) views ≡ 2 * sum_over (λ (v : View). held_count v.stage) views
views_tickets [] = refl
views_tickets (v ∷ vs) = omega (arith, stage_tickets v.stage, views_tickets vs)

-- The clock is twice the number of done instances, plus what the others have drawn.
pub clock_is : (o : Opening) (c : Content) (views : List View) → Rule o c views → c.clock ≡ 2 * done_count o c + sum_over (λ (v : View). tickets_drawn v.stage) views
clock_is o c views r =
    let held = all_same o (λ t k. sum_over (λ (v : View). holds v.stage t k) views + sign (c.done t k)) (λ t k. handed (c.alloc t) k) r.held in
    let parts = all_add o (λ t k. sum_over (λ (v : View). holds v.stage t k) views) (λ t k. sign (c.done t k)) in
    let counted = below_same (λ t. sum_below (λ k. handed (c.alloc t) k) (quota_of o.program t)) (λ t. c.alloc t - 1) (task_count o.program) (λ t h. omega (arith, handed_count (c.alloc t) (quota_of o.program t), r.tasks.few t h)) in
    omega (arith, held, parts, counted, views_count o c.clock views r.known, views_tickets views, r.tickets.count)

-- So it is of words that meet the rule.
pub clock_counts : ClockCounts
clock_counts o ws views k = clock_is o (content o.program ws) views k.rule
