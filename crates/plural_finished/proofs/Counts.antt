-- Counting entries by their instances.
use Rattle.std.proofs.Common.{◌≡◌, ℕ, zero, suc, ◌<◌, ◌≤◌, List, [], ◌∷◌, length, get_or, All, sym, ◌∙◌, ⊎_elim, arith}
use Rattle.std.proofs.lemmas.List.Elements.{All-head, All-tail}
use Rattle.std.specs.List.{Any}
use Rattle.plural_trace.specs.declared.entry.Entry.{Entry}
use Rattle.plural_order.specs.Sums.{sign}
use Rattle.plural_counters.specs.Duties.{one_if_pair}
use Rattle.plural_counters.proofs.Sums.{pair_same, pair_cases, sum_some, term_or}
use Rattle.plural_rule.specs.Opening.{Opening, IsInstance}
use Rattle.plural_rule.specs.Last.{done_count}
use Rattle.plural_rule.proofs.ClockCounts.{over_all, all_same, all_add, all_none, all_one}
use Rattle.plural_words.specs.Closing.{ClosedSeen}
use Rattle.plural_finished.specs.Finishing.{says, entries_of, AreEntries}

-- There are as many entries as there are of each instance, together.
count_all : (o : Opening) (es : List Entry) → All (λ (e : Entry). IsInstance o.program e.rec.t e.rec.k) es → over_all o (λ t k. entries_of t k es) ≡ length es
count_all o [] h = all_none o
count_all o (e ∷ es) h = omega (
  arith,
  all_add o (one_if_pair e.rec.t e.rec.k) (λ t k. entries_of t k es),
  all_one o e.rec.t e.rec.k (All-head (λ (e : Entry). IsInstance o.program e.rec.t e.rec.k) e es h),
  count_all o es (All-tail (λ (e : Entry). IsInstance o.program e.rec.t e.rec.k) e es h),
)

-- There are as many entries as done instances.
pub entries_count : (c : ClosedSeen) (es : List Entry) → AreEntries c es → length es ≡ done_count c.opening (says c)
entries_count c es are = sym (count_all c.opening es (λ i d h. (are.own i d h).done.inst)) ∙ all_same c.opening (λ t k. entries_of t k es) (λ t k. sign ((says c).done t k)) are.one

-- If there is an entry of an instance, one of the entries is.
pub entry_there : (t k : ℕ) (es : List Entry) → 1 ≤ entries_of t k es → Any (λ (e : Entry). (e.rec.t ≡ t) × (e.rec.k ≡ k)) es
entry_there t k es some_entry =
    let p = sum_some (λ (e : Entry). one_if_pair e.rec.t e.rec.k t k) es some_entry in
    (p.1.0, p.0, p.1.1, p.1.2, ⊎_elim (λ q. q) (λ (z : one_if_pair p.0.rec.t p.0.rec.k t k ≡ 0). absurd (omega (arith, z, p.2))) (pair_cases p.0.rec.t p.0.rec.k t k))

-- Of two entries at different places of a list that has one of each instance at most, the instances differ.
pub two_of_one : (t k : ℕ) (es : List Entry) (i j : ℕ) (d : Entry) → i < j → j < length es → (get_or es i d).rec.t ≡ t → (get_or es i d).rec.k ≡ k → (get_or es j d).rec.t ≡ t → (get_or es j d).rec.k ≡ k → 2 ≤ entries_of t k es
two_of_one t k [] i j d lt within a b e f = absurd (omega arith)
two_of_one t k (x ∷ xs) zero zero d lt within a b e f = absurd (omega arith)
two_of_one t k (x ∷ xs) zero (suc j) d lt within a b e f =
    omega (arith, pair_same x.rec.t x.rec.k t k a b, term_or (λ (y : Entry). one_if_pair y.rec.t y.rec.k t k) xs j d (omega arith), pair_same (get_or xs j d).rec.t (get_or xs j d).rec.k t k e f)
two_of_one t k (x ∷ xs) (suc i) zero d lt within a b e f = absurd (omega arith)
two_of_one t k (x ∷ xs) (suc i) (suc j) d lt within a b e f = omega (arith, two_of_one t k xs i j d (omega arith) (omega arith) a b e f)
