-- Entries that are read one instance after another, and then put in order.
use Rattle.std.proofs.Common.{◌≡◌, ℕ, suc, ◌+◌, ◌<◌, ◌≤◌, eqb, ltb, ◌&&◌, ◌||◌, Bool, true, false, cond, List, [], ◌∷◌, ◌++◌, length, get_or, All, refl, sym, ap, ◌∙◌, subst, inl, ⊎_elim, arith, eq-eqb, ne_eqb, lt-ltb, le-ltb}
use mathlib.Core.Logic.{dite}
use native.Mathlib.Decide.{ℕ_discrete, dec_le}
use Rattle.std.specs.List.{sum_by}
use Rattle.std.specs.List.Sorted.{IsPermutation, IsNonDecreasingBy}
use Rattle.std.proofs.lemmas.List.{length-append}
use Rattle.std.proofs.lemmas.List.Elements.{All-nil, All-cons, All-append}
use Rattle.std.proofs.lemmas.List.Sorted.{All-permutation, sum_by-IsPermutation}
use Rattle.std.proofs.lemmas.List.Sums.{sum_by-cons}
use Rattle.plural_trace.specs.declared.entry.Entry.{Entry}
use Rattle.plural_trace.specs.Legality.{Rises}
use Rattle.plural_order.specs.Sums.{sum_over, sign}
use Rattle.plural_counters.specs.Duties.{one_if_pair}
use Rattle.plural_counters.proofs.Sums.{pair_same, pair_cases, sign_none, sign_some, sign_le, sum_append}
use Rattle.plural_rule.specs.Opening.{IsInstance, task_count, quota_of}
use Rattle.plural_rule.specs.Layout.{instances_before}
use Rattle.plural_rule.proofs.Writes.{field_low}
use Rattle.plural_words.specs.Closing.{ClosedSeen}
use Rattle.plural_finished.specs.Finishing.{says, IsClosedRun, IsDone, IsEntryIn, entry_in, entries_of, AreEntries}
use Rattle.plural_finished.specs.Entering.{is_earlier, HasEntered}
use Rattle.plural_finished.proofs.Counts.{two_of_one}
use Rattle.plural_finished.proofs.Legal.{no_ticket}

-- ---- earlier instances

-- One of an earlier task.
earlier_task : (t k u l : ℕ) → u < t → is_earlier t k u l ≡ true
earlier_task t k u l h = ap (λ b. b || (eqb u t && ltb l k)) (lt-ltb u t h)

-- One of the same task.
same_task : (t k u l : ℕ) → u ≡ t → is_earlier t k u l ≡ ltb l k
same_task t k u l e = ap (λ b. b || (eqb u t && ltb l k)) (le-ltb u t (omega (arith, e))) ∙ ap (λ b. b && ltb l k) (eq-eqb u t e)

-- One of a later task.
later_task : (t k u l : ℕ) → t < u → is_earlier t k u l ≡ false
later_task t k u l h = ap (λ b. b || (eqb u t && ltb l k)) (le-ltb u t (omega (arith, h))) ∙ ap (λ b. b && ltb l k) (ne_eqb u t (λ e. omega (arith, e, h)))

-- The next instance is the one that joins them.
earlier_else : (t k u l : ℕ) → (t ≡ u → k ≡ l → ⊥) → is_earlier t (k + 1) u l ≡ is_earlier t k u l
earlier_else t k u l ne = dite (ℕ_discrete u t)
    (λ e. same_task t (k + 1) u l e ∙ (dite (dec_le k l)
    (λ h. le-ltb l (k + 1) (let other = ne (sym e) in omega_apart h other) ∙ sym (le-ltb l k h))
    (λ n. lt-ltb l (k + 1) (omega (arith, n)) ∙ sym (lt-ltb l k (omega (arith, n))))) ∙ sym (same_task t k u l e))
    (λ d. dite (dec_le t u)
    (λ h. later_task t (k + 1) u l (omega (arith, h, d)) ∙ sym (later_task t k u l (omega (arith, h, d))))
    (λ n. earlier_task t (k + 1) u l (omega (arith, n)) ∙ sym (earlier_task t k u l (omega (arith, n)))))
  where
    omega_apart : k ≤ l → (k ≡ l → ⊥) → k + 1 ≤ l
    omega_apart h other = dite (ℕ_discrete k l) (λ e. absurd (other e)) (λ d. omega (arith, h, d))

none_of : (b : Bool) (n : ℕ) → n ≡ 0 → cond b n 0 ≡ 0
none_of true n e = e
none_of false n e = refl

-- ---- one more

-- There are none at first.
pub first_entered : (c : ClosedSeen) → HasEntered c 0 0 []
first_entered c = record {
  few = omega arith;
  own = All-nil (IsEntryIn c);
  one = λ u l h. sym (dite (dec_le 1 u)
      (λ some_task. ap (λ b. cond b (sign ((says c).done u l)) 0) (later_task 0 0 u l some_task))
      (λ n. ap (λ b. cond b (sign ((says c).done u l)) 0) (same_task 0 0 u l (omega (arith, n)) ∙ le-ltb l 0 (omega arith))));
}

-- There is room for one more.
pub room_left : (c : ClosedSeen) (t k : ℕ) (es : List Entry) → HasEntered c t k es → IsInstance c.opening.program t k → length es < instances_before c.opening.program (task_count c.opening.program)
room_left c t k es has i = omega (arith, has.few, field_low c.opening.program t k 0 i (omega arith))

-- One that isn't done has no entry.
pub undone_entered : (c : ClosedSeen) (t k : ℕ) (es : List Entry) → HasEntered c t k es → (says c).done t k ≡ 0 → HasEntered c t (k + 1) es
undone_entered c t k es has undone = record {
  few = omega (arith, has.few);
  own = has.own;
  one = λ u l h. has.one u l h ∙ ⊎_elim
      (λ e. let none : sign ((says c).done u l) ≡ 0 = sign_none ((says c).done u l) (subst (λ n. (says c).done n l ≡ 0) e.0 (subst (λ n. (says c).done t n ≡ 0) e.1 undone)) in
      none_of (is_earlier t k u l) _ none ∙ sym (none_of (is_earlier t (k + 1) u l) _ none))
      (λ (z : one_if_pair t k u l ≡ 0). ap (λ b. cond b (sign ((says c).done u l)) 0) (sym (earlier_else t k u l (λ a b. absurd (omega (arith, z, pair_same t k u l a b))))))
      (pair_cases t k u l);
}

-- One that is done has its entry.
pub done_entered : (c : ClosedSeen) (t k : ℕ) (es : List Entry) → HasEntered c t k es → IsDone c t k → HasEntered c t (k + 1) (es ++ entry_in c t k ∷ [])
done_entered c t k es has is = let e = entry_in c t k in record {
  few = omega (arith, has.few, length-append es (e ∷ []));
  own = All-append (IsEntryIn c) es (e ∷ []) has.own (All-cons (IsEntryIn c) e [] (record { done = is; is = refl }) (All-nil (IsEntryIn c)));
  one = λ u l h.
      let sum : entries_of u l (es ++ e ∷ []) ≡ entries_of u l es + one_if_pair t k u l = omega (arith, sum_append (λ (x : Entry). one_if_pair x.rec.t x.rec.k u l) es (e ∷ [])) in
      sum ∙ ⊎_elim
      (λ p.
      let was : entries_of u l es ≡ 0 = has.one u l h ∙ ap (λ b. cond b (sign ((says c).done u l)) 0) (same_task t k u l (sym p.0) ∙ le-ltb l k (omega (arith, p.1))) in
      let now : cond (is_earlier t (k + 1) u l) (sign ((says c).done u l)) 0 ≡ sign ((says c).done u l) = ap (λ b. cond b (sign ((says c).done u l)) 0) (same_task t (k + 1) u l (sym p.0) ∙ lt-ltb l (k + 1) (omega (arith, p.1))) in
      let done : sign ((says c).done u l) ≡ 1 = subst (λ n. sign ((says c).done n l) ≡ 1) p.0 (subst (λ n. sign ((says c).done t n) ≡ 1) p.1 (sign_some ((says c).done t k) is.done)) in
      omega (arith, was, now, done, pair_same t k u l p.0 p.1))
      (λ (z : one_if_pair t k u l ≡ 0).
      let same : cond (is_earlier t (k + 1) u l) (sign ((says c).done u l)) 0 ≡ cond (is_earlier t k u l) (sign ((says c).done u l)) 0 = ap (λ b. cond b (sign ((says c).done u l)) 0) (earlier_else t k u l (λ a b. absurd (omega (arith, z, pair_same t k u l a b)))) in
      omega (arith, z, same, has.one u l h))
      (pair_cases t k u l);
}

-- After all instances of a task the next task follows.
pub task_entered : (c : ClosedSeen) (t k : ℕ) (es : List Entry) → k ≡ quota_of c.opening.program t → HasEntered c t k es → HasEntered c (t + 1) 0 es
task_entered c t k es all has = record {
  few = omega (arith, has.few, all, instances_more);
  own = has.own;
  one = λ u l h. has.one u l h ∙ ap (λ b. cond b (sign ((says c).done u l)) 0) (dite (dec_le (t + 1) u)
      (λ late. later_task t k u l (omega (arith, late)) ∙ sym (dite (ℕ_discrete u (t + 1))
      (λ e. same_task (t + 1) 0 u l e ∙ le-ltb l 0 (omega arith))
      (λ d. later_task (t + 1) 0 u l (omega (arith, late, d)))))
      (λ n. dite (ℕ_discrete u t)
      (λ e. same_task t k u l e ∙ (lt-ltb l k (omega (arith, h.1, all, ap (quota_of c.opening.program) e)) ∙ sym (earlier_task (t + 1) 0 u l (omega (arith, e)))))
      (λ d. earlier_task t k u l (omega (arith, n, d)) ∙ sym (earlier_task (t + 1) 0 u l (omega (arith, n))))));
}
  where
    instances_more : instances_before c.opening.program (t + 1) ≡ instances_before c.opening.program t + quota_of c.opening.program t
    instances_more = ap (instances_before c.opening.program) (let s : t + 1 ≡ suc t = omega arith in s)

-- ---- in order

sum_by_is : (f : Entry → ℕ) (es : List Entry) → sum_over f es ≡ sum_by f es
sum_by_is f [] = refl
sum_by_is f (e ∷ es) = omega (arith, sum_by_is f es, sum_by-cons f e es)

-- Put in the order of their starts, they are the entries of the run.
pub sorted_entries : (c : ClosedSeen) (n : ℕ) (es fs : List Entry) → IsClosedRun c → n ≡ task_count c.opening.program → HasEntered c n 0 es → IsPermutation es fs → IsNonDecreasingBy (λ (e : Entry). e.start) fs → AreEntries c fs
sorted_entries c n es fs run all has moved sorted = record { own = own; one = one; rises = rises }
  where
    own : All (IsEntryIn c) fs
    own = All-permutation (IsEntryIn c) es fs moved has.own

    one : (t k : ℕ) → IsInstance c.opening.program t k → entries_of t k fs ≡ sign ((says c).done t k)
    one t k i =
        let f : Entry → ℕ = λ e. one_if_pair e.rec.t e.rec.k t k in
        omega (arith, sum_by_is f es, sum_by_is f fs, sum_by-IsPermutation f es fs moved, has.one t k i, ap (λ b. cond b (sign ((says c).done t k)) 0) (earlier_task n 0 t k (omega (arith, i.0, all))))

    rises : Rises fs
    rises i j d lt within =
        let e = get_or fs i d in let f = get_or fs j d in
        let a = own i d (omega (arith, lt, within)) in let b = own j d within in
        let ordered = sorted i j d (omega (arith, lt)) within in
        let apart : e.start ≡ f.start → ⊥ = λ q. ⊎_elim
        (λ p. absurd (omega (arith, two_of_one f.rec.t f.rec.k fs i j d lt within p.0 p.1 refl refl, one f.rec.t f.rec.k b.done.inst, sign_le ((says c).done f.rec.t f.rec.k))))
        (λ (z : one_if_pair e.rec.t e.rec.k f.rec.t f.rec.k ≡ 0).
        no_ticket c run f.start e.rec.t e.rec.k f.rec.t f.rec.k a.done b.done (λ x y. absurd (omega (arith, z, pair_same e.rec.t e.rec.k f.rec.t f.rec.k x y)))
        (inl (sym (ap (λ (x : Entry). x.start) a.is) ∙ q)) (inl (sym (ap (λ (x : Entry). x.start) b.is))))
        (pair_cases e.rec.t e.rec.k f.rec.t f.rec.k) in
        dite (ℕ_discrete e.start f.start) (λ q. absurd (apart q)) (λ ne. omega (arith, ordered, ne))
