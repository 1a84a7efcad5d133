-- The tickets of all instances.
use Rattle.std.proofs.Common.{◌≡◌, ℕ, ◌+◌, ◌-◌, ◌<◌, ◌≤◌, sym, refl, ap, ⊎_elim, arith, Bool, cond, eqb, nat_lt, lt-ltb, le-ltb, eq-eqb, ne_eqb, List}
use mathlib.Core.Logic.{dite}
use native.Mathlib.Decide.{ℕ_discrete, dec_le}
use Rattle.plural_order.specs.Sums.{sum_over, sum_below, one_if}
use Rattle.plural_order.proofs.Sums.{below_same}
use Rattle.plural_counters.specs.Duties.{one_if_pair}
use Rattle.plural_counters.proofs.Sums.{one_same, one_else, pair_same, pair_cases, below_change, below_term}
use Rattle.plural_rule.specs.Opening.{Opening, IsInstance, task_count, quota_of}
use Rattle.plural_rule.specs.Content.{Content}
use Rattle.plural_rule.specs.Stages.{drawn}
use Rattle.plural_rule.specs.Rule.{done_drawn, all_done_drawn}
use Rattle.plural_rule.specs.declared.view.View.{View}

-- An instance that isn't done has no ticket.
pub undone_drawn : (x start done : ℕ) → done ≡ 0 → done_drawn x start done ≡ 0
undone_drawn x start done e = ap (λ b. cond b 0 (one_if start x + one_if (done - 1) x)) (eq-eqb done 0 e)

-- A done one has its start and its end.
pub ended_drawn : (x start done : ℕ) → 0 < done → done_drawn x start done ≡ one_if start x + one_if (done - 1) x
ended_drawn x start done h = ap (λ b. cond b 0 (one_if start x + one_if (done - 1) x)) (ne_eqb done 0 (λ e. omega arith))

-- 1 if the ticket is below the clock, else 0.
abbrev pub is_below : (x clock : ℕ) → ℕ
is_below x clock = cond (nat_lt x clock) 1 0

below_yes : (x n : ℕ) → x < n → ◌≡◌ {A = ℕ} (cond (nat_lt x n) 1 0) 1
below_yes x n h = let one : Bool → ℕ = λ b. cond b 1 0 in ap one (lt-ltb x n h)

-- A ticket that is not below the clock.
pub below_no : (x n : ℕ) → n ≤ x → ◌≡◌ {A = ℕ} (cond (nat_lt x n) 1 0) 0
below_no x n h = let one : Bool → ℕ = λ b. cond b 1 0 in ap one (le-ltb x n h)

-- One ticket more.
pub below_more : (x clock : ℕ) → cond (nat_lt x clock) 1 0 + one_if clock x ≡ cond (nat_lt x (clock + 1)) 1 0
below_more x clock = dite (dec_le clock x)
    (λ h. dite (ℕ_discrete clock x)
    (λ e. omega (arith, below_no x clock h, one_same clock x e, below_yes x (clock + 1) (omega arith)))
    (λ n. omega (arith, below_no x clock h, one_else clock x n, below_no x (clock + 1) (omega arith))))
    (λ h. omega (arith, below_yes x clock (omega arith), one_else clock x (λ e. omega arith), below_yes x (clock + 1) (omega arith)))

-- A ticket that was drawn is below the clock.
below_once : (x clock n : ℕ) → n ≤ cond (nat_lt x clock) 1 0 → 0 < n → x < clock
below_once x clock n h pos = dite (dec_le clock x) (λ le. absurd (omega (arith, below_no x clock le))) (λ lt. omega arith)

pair_other : (t k u l : ℕ) → ((t ≡ u) × (k ≡ l) → ⊥) → one_if_pair t k u l ≡ 0
pair_other t k u l n = ⊎_elim (λ p. absurd (n p)) (λ z. z) (pair_cases t k u l)

-- The sum over all instances, of which one changes.
pub sum_change : (o : Opening) (f g : ℕ → ℕ → ℕ) (t k : ℕ) → IsInstance o.program t k → ((u l : ℕ) → IsInstance o.program u l → one_if_pair t k u l ≡ 0 → f u l ≡ g u l)
    → sum_below (λ u. sum_below (λ l. g u l) (quota_of o.program u)) (task_count o.program) + f t k ≡ sum_below (λ u. sum_below (λ l. f u l) (quota_of o.program u)) (task_count o.program) + g t k
sum_change o f g t k i same =
    let F : ℕ → ℕ = λ u. sum_below (λ l. f u l) (quota_of o.program u) in let G : ℕ → ℕ = λ u. sum_below (λ l. g u l) (quota_of o.program u) in
    let inner : G t + f t k ≡ F t + g t k = below_change (λ l. f t l) (λ l. g t l) (quota_of o.program t) k i.1 (λ l h ne. same t l (i.0, h) (pair_other t k t l (λ p. ne (sym p.1)))) in
    let outer : sum_below G (task_count o.program) + F t ≡ sum_below F (task_count o.program) + G t
    = below_change F G (task_count o.program) t i.0 (λ u h ne. below_same (λ l. f u l) (λ l. g u l) (quota_of o.program u) (λ l q. same u l (h, q) (pair_other t k u l (λ p. ne (sym p.0))))) in
    omega arith

-- The tickets of all done instances, of which one changes.
pub all_done_change : (o : Opening) (c d : Content) (x t k : ℕ) → IsInstance o.program t k → ((u l : ℕ) → IsInstance o.program u l → one_if_pair t k u l ≡ 0 → done_drawn x (c.field u l 5) (c.done u l) ≡ done_drawn x (d.field u l 5) (d.done u l))
    → all_done_drawn o d x + done_drawn x (c.field t k 5) (c.done t k) ≡ all_done_drawn o c x + done_drawn x (d.field t k 5) (d.done t k)
all_done_change o c d x t k i same = sum_change o (λ u l. done_drawn x (c.field u l 5) (c.done u l)) (λ u l. done_drawn x (d.field u l 5) (d.done u l)) t k i same

-- A part of the sum over all instances.
term_of : (o : Opening) (f : ℕ → ℕ → ℕ) (t k : ℕ) → IsInstance o.program t k → f t k ≤ sum_below (λ u. sum_below (λ l. f u l) (quota_of o.program u)) (task_count o.program)
term_of o f t k i = omega (arith, below_term (λ u. sum_below (λ l. f u l) (quota_of o.program u)) (task_count o.program) t i.0, below_term (λ l. f t l) (quota_of o.program t) k i.1)

-- Two parts of it.
pub two_of : (o : Opening) (f : ℕ → ℕ → ℕ) (t k u l : ℕ) → IsInstance o.program t k → IsInstance o.program u l → (t ≡ u → k ≡ l → ⊥) → f t k + f u l ≤ sum_below (λ x. sum_below (λ y. f x y) (quota_of o.program x)) (task_count o.program)
two_of o f t k u l i j differ =
    let g : ℕ → ℕ → ℕ = λ x y. cond (eqb (one_if_pair t k x y) 0) (f x y) 0 in
    let stays : (x y : ℕ) → one_if_pair t k x y ≡ 0 → f x y ≡ g x y = λ x y z. sym (ap (λ b. cond b (f x y) 0) (eq-eqb (one_if_pair t k x y) 0 z)) in
    let gone : g t k ≡ 0 = ap (λ b. cond b (f t k) 0) (ne_eqb (one_if_pair t k t k) 0 (λ z. omega (arith, z, pair_same t k t k refl refl))) in
    let other = stays u l (pair_other t k u l (λ p. differ p.0 p.1)) in
    omega (arith, sum_change o f g t k i (λ x y h z. stays x y z), gone, other, term_of o g u l j)

-- The start of a done instance is below the clock, and its end too.
pub done_low : (o : Opening) (c : Content) (views : List View) (t k : ℕ) → ((x : ℕ) → sum_over (λ v. drawn x v.stage) views + all_done_drawn o c x ≡ cond (nat_lt x c.clock) 1 0) → IsInstance o.program t k → 0 < c.done t k → (c.done t k ≤ c.clock) × (c.field t k 5 < c.clock)
done_low o c views t k once i is =
    let part : (x : ℕ) → one_if (c.field t k 5) x + one_if (c.done t k - 1) x ≤ cond (nat_lt x c.clock) 1 0 = λ x.
    omega (arith, once x, term_of o (λ u l. done_drawn x (c.field u l 5) (c.done u l)) t k i, ended_drawn x (c.field t k 5) (c.done t k) is) in
    let a = below_once (c.done t k - 1) c.clock _ (part (c.done t k - 1)) (omega (arith, one_same (c.done t k - 1) (c.done t k - 1) refl)) in
    let b = below_once (c.field t k 5) c.clock _ (part (c.field t k 5)) (omega (arith, one_same (c.field t k 5) (c.field t k 5) refl)) in
    (omega arith, b)
