-- Seats go out by rising number, and come back in the other order.
use Rattle.std.proofs.Common.{◌≡◌, ◌≢◌, ℕ, zero, suc, ◌+◌, ◌≤◌, ◌⊎◌, ⊎_elim, List, ◌∷◌, get_or, refl, ap, ◌∙◌, arith, eqb, filter, not, cond, eq-eqb, ne_eqb}
use mathlib.Core.Logic.{dite}
use native.Mathlib.Decide.{dec_le}
use Rattle.plural_order.specs.Sums.{times}
use Rattle.plural_counters.proofs.Sums.{one_else}
use Rattle.plural_rule.specs.Opening.{Opening, quota_of}
use Rattle.plural_rule.specs.Last.{KnowsWhole}
use Rattle.plural_rule.specs.Steps.{larger_each, joined}
use Rattle.plural_rule.specs.declared.view.View.{View}
use Rattle.plural_rule.proofs.Seats.{larger_most, larger_least}
use Rattle.plural_machine.specs.Knowing.{numbers_below, IsNoLess}

-- No number from n on is below n.
pub none_from : (n c : ℕ) → n ≤ c → times c (numbers_below n) ≡ 0
none_from zero c h = refl
none_from (suc n) c h =
    let more : n ≢ c = λ e. absurd (omega arith) in
    omega (arith, one_else n c more, none_from n c (omega arith))

-- Those below n are all other than a number from n on.
pub keeps_below : (n c : ℕ) → n ≤ c → filter (λ d. not (eqb d c)) (numbers_below n) ≡ numbers_below n
keeps_below zero c h = refl
keeps_below (suc n) c h =
    let rest : List ℕ = filter (λ d. not (eqb d c)) (numbers_below n) in
    ap (λ b. cond (not b) (n ∷ rest) rest) (ne_eqb n c (λ e. absurd (omega arith))) ∙ ap (λ l. n ∷ l) (keeps_below n c (omega arith))

-- The greatest goes, and the others stay.
pub last_back : (n : ℕ) → filter (λ d. not (eqb d n)) (numbers_below (suc n)) ≡ numbers_below n
last_back n =
    let rest : List ℕ = filter (λ d. not (eqb d n)) (numbers_below n) in
    ap (λ b. cond (not b) (n ∷ rest) rest) (eq-eqb n n refl) ∙ keeps_below n n (omega arith)

-- A seat that knows each task that it knows as armed as wholly handed out comes back to a root that knows the same, or
-- that has found no more than the seat.
pub joins_whole : (o : Opening) (v s : View) → KnowsWhole o s → KnowsWhole o v ⊎ IsNoLess v.found s.found → KnowsWhole o (joined v s)
joins_whole o v s seat root t few armed =
    let least = larger_least v.found s.found t in
    let whole : 1 ≤ get_or s.found t 0 → get_or v.found t 0 ≤ 1 + quota_of o.program t → get_or (larger_each v.found s.found) t 0 ≡ 1 + quota_of o.program t = λ h few_found.
    let is = seat t few h in
    let most = larger_most v.found s.found t (1 + quota_of o.program t) few_found (omega (arith, is)) in
    omega (arith, is, most, least.1) in
    ⊎_elim
    (λ knows. dite (dec_le 1 (get_or v.found t 0))
    (λ h.
    let own = knows t few h in
    let other : get_or s.found t 0 ≤ 1 + quota_of o.program t = dite (dec_le 1 (get_or s.found t 0)) (λ i. omega (arith, seat t few i)) (λ i. omega (arith, i)) in
    omega (arith, own, least.0, larger_most v.found s.found t (1 + quota_of o.program t) (omega (arith, own)) other))
    (λ h. dite (dec_le 1 (get_or s.found t 0))
    (λ i. whole i (omega (arith, h)))
    (λ i. absurd (omega (arith, armed, larger_most v.found s.found t 0 (omega (arith, h)) (omega (arith, i)))))))
    (λ first. dite (dec_le 1 (get_or s.found t 0))
    (λ i. whole i (omega (arith, first t, seat t few i)))
    (λ i. absurd (omega (arith, armed, larger_most v.found s.found t 0 (omega (arith, first t, i)) (omega (arith, i))))))
    root
