-- An instance is done, flagged and counted, and its task is closed.
use Rattle.std.proofs.Common.{◌≡◌, ℕ, ◌+◌, ◌-◌, ◌<◌, ◌≤◌, ◌≢◌, ◌⊎◌, max, false, cond, ◌==◌, List, [], ◌∷◌, length, All, sym, refl, ap, ◌∙◌, subst, inl, inr, ⊎_elim, arith, eq-eqb, ne_eqb}
use mathlib.Core.Logic.{dite}
use native.Mathlib.Decide.{ℕ_discrete}
use Rattle.std.specs.Int.{bit_at}
use Rattle.std.specs.Int.Bits.{bit_or}
use Rattle.std.proofs.lemmas.Nat.Bits.{bit_at_or}
use Rattle.std.proofs.lemmas.List.Elements.{All-nil, All-contains}
use Rattle.plural_map.specs.declared.outcome.Outcome.{Outcome}
use Rattle.plural_order.specs.Sums.{sum_below, sum_over, one_if, sign, masked}
use Rattle.plural_order.specs.TaskGraph.{TaskGraph, any_end, outcome_by}
use Rattle.plural_order.proofs.Sums.{below_same}
use Rattle.plural_counters.specs.Duties.{one_if_pair, phase_of, unarmed_of, uncounted_of, pending_of, unflagged_of, HasEnded, MayRun}
use Rattle.plural_counters.specs.Counters.{Counters, running, Fits, IsCounted}
use Rattle.plural_counters.specs.Steps.{set_at, set_at_pair, with_left, Keeps, tell_first}
use Rattle.plural_counters.specs.Laws.{Stays, HandsOut, Finishes, Marks, CountsOff, outcome_of_flags, LoadsFlags, PendingDone}
use Rattle.plural_counters.specs.declared.duty.Duty.{Duty}
use Rattle.plural_counters.specs.declared.duty.Duty.TheVariants.{Flag, Count, Close, Tell, Told}
use Rattle.plural_counters.proofs.Sums.{one_same, one_else, pair_same, pair_first, pair_second, pair_cases, sign_none, sign_some, sign_le, mask_shut, mask_open, sign_or, term_in, sum_le, below_change, below_few, below_full}
use Rattle.plural_counters.proofs.Duties.{unflagged_uncounted, unflagged_pending, IsPhaseAlone, alone_none, alone_close, alone_first, first_phase, first_unarmed}
use Rattle.plural_counters.proofs.Parts.{set_here, set_else, Grows, same_count, all_one, goes_fits}
use Rattle.plural_counters.proofs.Parts as part

-- ---- steps that change no duty

-- A step that changes no duty, and no word.
pub stay : Stays
stay g c l r m d step s = part.phase_keeps g c d l m [] [] step r (part.same_alloc g c d s) (alone_none g) (alone_none g) (λ t h. omega (arith, ap (λ n. running n (c.left t)) (s.alloc t h))) (λ t h. omega (arith, ap sign (s.alloc t h))) (λ _. All-nil (Fits g d))

-- A step that changes no duty, and of the words no more than alloc of an armed task.
pub hand_out : HandsOut
hand_out g c l t n r armed more m d step s = part.phase_keeps g c d l m [] [] step r
    (record {
      alloc = λ u h. ⊎_elim (λ e. omega (arith, e)) (λ p. p.1) (up u h);
      done = s.done;
      flags = s.flags;
      left = s.left;
      state = s.state;
      open_deps = s.open_deps;
    })
    (alone_none g) (alone_none g)
    (λ u h. ⊎_elim (λ e. omega (arith, ap (λ x. running x (c.left u)) e)) (λ p. omega (arith, mask_open (d.alloc u) (sign (c.left u)) (omega (arith, p)), mask_open (c.alloc u) (sign (c.left u)) p.0)) (up u h))
    (λ u h. ⊎_elim (λ e. omega (arith, ap sign e)) (λ p. omega (arith, sign_some (d.alloc u) (omega (arith, p)), sign_some (c.alloc u) p.0)) (up u h))
    (λ _. All-nil (Fits g d))
  where
    up : (u : ℕ) → u < g.tasks → (d.alloc u ≡ c.alloc u) ⊎ ((1 ≤ c.alloc u) × (c.alloc u ≤ d.alloc u))
    up u h = dite (ℕ_discrete u t)
        (λ e. inr (subst (λ (x : ℕ). 1 ≤ c.alloc x) (sym e) armed, omega (arith, s.alloc u h, set_here c.alloc t n u e, ap c.alloc e)))
        (λ ne. inl (s.alloc u h ∙ set_else c.alloc t n u ne))

-- ---- done

-- To finish an instance keeps the rule.
pub finish : Finishes
finish g c l t k n r small few was now m d step s =
    let old = set_at_pair c.done t k n in
    let here : (x y : ℕ) → x ≡ t → y ≡ k → old x y ≡ n = λ x y e f. ap (λ b. cond b (set_at (c.done x) k n y) (c.done x y)) (eq-eqb x t e) ∙ set_here (c.done x) k n y f in
    let else : (x y : ℕ) → (t ≡ x → k ≢ y) → old x y ≡ c.done x y = λ x y h. dite (ℕ_discrete x t)
    (λ e. ap (λ b. cond b (set_at (c.done x) k n y) (c.done x y)) (eq-eqb x t e) ∙ set_else (c.done x) k n y (λ q. h (sym e) (sym q)))
    (λ ne. ap (λ b. cond b (set_at (c.done x) k n y) (c.done x y)) (ne_eqb x t ne)) in
    let done : (u i : ℕ) → u < g.tasks → i < g.quota u → sign (d.done u i) ≡ sign (c.done u i) + one_if_pair t k u i = λ u i h j.
    ⊎_elim
    (λ p. omega (arith, ap sign (s.done u i h j ∙ here u i (sym p.0) (sym p.1)), sign_some n now, sign_none (c.done u i) (subst (λ (x : ℕ). c.done x i ≡ 0) p.0 (subst (λ (y : ℕ). c.done t y ≡ 0) p.1 was)), pair_same t k u i p.0 p.1))
    (λ (z : one_if_pair t k u i ≡ 0). omega (arith, z, ap sign (s.done u i h j ∙ else u i (λ e f. absurd (omega (arith, z, pair_same t k u i e f)))))) (pair_cases t k u i) in
    let grows : Grows g c d = record {
      done = λ u i ran h. let j = r.graph.ran_instances u i ran in dite (ℕ_discrete (d.done u i) 0) (λ z. absurd (omega (arith, done u i j.0 j.1, sign_none (d.done u i) z, sign_some (c.done u i) h))) (λ ne. omega arith);
      alloc = λ u h. omega (arith, s.alloc u h);
      left = λ u h z. omega (arith, s.left u h);
    } in
    let count : (u : ℕ) → u < g.tasks → sum_below (λ i. sign (d.done u i)) (g.quota u) ≡ sum_below (λ i. sign (c.done u i)) (g.quota u) + one_if t u = λ u h. dite (ℕ_discrete t u)
    (λ e. let j = subst (λ (x : ℕ). k < g.quota x) e few in omega (arith, one_same t u e, below_change (λ i. sign (c.done u i)) (λ i. sign (d.done u i)) (g.quota u) k j (λ i i_few ne. ap sign (sym (s.done u i h i_few ∙ else u i (λ a b. ne (sym b))))), done u k h j, pair_same t k u k e refl))
    (λ ne. omega (arith, one_else t u ne, same_count g c d u (λ i i_few. s.done u i h i_few ∙ else u i (λ a. absurd (ne a))))) in
    record {
      graph = r.graph;
      phase = part.phase_kept g c d l m _ _ step r (λ u h. omega (arith, ap sign (s.open_deps u h), ap (λ x. running x (d.left u)) (s.alloc u h), ap (λ x. running (c.alloc u) x) (s.left u h)));
      unarmed = part.unarmed_kept g c d l m _ _ step r (λ u h. omega (arith, ap sign (s.open_deps u h), ap sign (s.alloc u h)));
      pending = part.pending_kept g c d l m _ _ step r (λ u i h j. omega (arith, done u i h j));
      left = part.left_kept g c d l m _ _ step r (λ u h. omega (arith, count u h, s.left u h));
      flags = part.flags_kept g c d l m _ _ step r s.flags (λ u i h j. omega (arith, done u i h j));
      open_deps = part.open_kept g c d l m _ _ step r s.open_deps (λ x u. refl);
      state = part.state_kept g c d l m _ _ step r s.state (λ x u. refl);
      fits = part.fits_kept g c d l m _ _ step r grows (all_one (Fits g d) (Flag t k) (small, few));
    }

-- ---- flagged

-- To flag an instance keeps the rule.
pub mark : Marks
mark g c l t k r m d step s =
    let inst = goes_fits g c l m _ (Flag t k) step r in
    let small : t < g.tasks = inst.0 in
    let pending = r.pending t k inst.0 inst.1 in
    let less = sum_le (unflagged_of t k) (pending_of t k) l (unflagged_pending t k) in
    let before : sum_over (unflagged_of t k) l ≡ 1 = omega (arith, step.part (unflagged_of t k), pair_same t k t k refl refl, less, pending, sign_le (c.done t k)) in
    let done : sign (c.done t k) ≡ 1 = omega (arith, before, less, pending, sign_le (c.done t k)) in
    let after : sum_over (unflagged_of t k) m ≡ 0 = omega (arith, before, step.sums (unflagged_of t k), pair_same t k t k refl refl) in
    let n = bit_or (c.flags t) (g.ends t k) in
    record {
      graph = r.graph;
      phase = part.phase_kept g c d l m _ _ step r (λ u h. omega (arith, ap sign (s.open_deps u h), ap (λ x. running x (d.left u)) (s.alloc u h), ap (λ x. running (c.alloc u) x) (s.left u h)));
      unarmed = part.unarmed_kept g c d l m _ _ step r (λ u h. omega (arith, ap sign (s.open_deps u h), ap sign (s.alloc u h)));
      pending = part.pending_kept g c d l m _ _ step r (λ u i h j. omega (arith, ap sign (s.done u i h j)));
      left = part.left_kept g c d l m _ _ step r (λ u h. omega (arith, same_count g c d u (λ i j. s.done u i h j), s.left u h));
      flags = λ u i h. dite (ℕ_discrete t u)
          (λ e. subst (λ (x : ℕ). bit_at (d.flags x) i ≡ sign (sum_below (λ y. masked (sign (d.done x y) - sum_over (unflagged_of x y) m) (bit_at (g.ends x y) i)) (g.quota x))) e (
          let f : ℕ → ℕ = λ y. masked (sign (c.done t y) - sum_over (unflagged_of t y) l) (bit_at (g.ends t y) i) in
          let f' : ℕ → ℕ = λ y. masked (sign (d.done t y) - sum_over (unflagged_of t y) m) (bit_at (g.ends t y) i) in
          let x = bit_at (g.ends t k) i in
          let none : f k ≡ 0 = mask_shut (sign (c.done t k) - sum_over (unflagged_of t k) l) x (omega (arith, before, done)) in
          let full : f' k ≡ x = mask_open (sign (d.done t k) - sum_over (unflagged_of t k) m) x (omega (arith, after, done, ap sign (s.done t k inst.0 inst.1))) in
          let rest : (y : ℕ) → y < g.quota t → y ≢ k → f y ≡ f' y = λ y j ne. ap (λ z. masked z (bit_at (g.ends t y) i)) (omega (arith, ap sign (s.done t y small j), step.sums (unflagged_of t y), pair_second t k t y (λ q. ne (sym q)))) in
          let change = below_change f f' (g.quota t) k inst.1 rest in
          let one : x ≤ 1 = omega arith in
          ap (λ z. bit_at z i) (s.flags t small ∙ set_here c.flags t n t refl) ∙ (bit_at_or (c.flags t) (g.ends t k) i ∙ (ap (λ z. max z x) (r.flags t i small) ∙ sign_or (sum_below f (g.quota t)) (sum_below f' (g.quota t)) 0 x (omega (arith, change, none, full)) (omega arith) one (omega arith)))))
          (λ ne. ap (λ z. bit_at z i) (s.flags u h ∙ set_else c.flags t n u (λ q. ne (sym q))) ∙ (r.flags u i h ∙ ap sign (below_same _ _ (g.quota u)
          (λ y j. ap (λ z. masked z (bit_at (g.ends u y) i)) (omega (arith, ap sign (s.done u y h j), step.sums (unflagged_of u y), pair_first t k u y ne))))));
      open_deps = part.open_kept g c d l m _ _ step r s.open_deps (λ x u. refl);
      state = part.state_kept g c d l m _ _ step r s.state (λ x u. refl);
      fits = part.fits_kept g c d l m _ _ step r (part.grows_by g c d r.graph s.done (λ u h. omega (arith, s.alloc u h)) (λ u h z. omega (arith, s.left u h))) (all_one (Fits g d) (Count t k) inst);
    }

-- ---- counted

-- Something is left of a task of which an instance is to be counted.
some_left : (g : TaskGraph) (c : Counters) (l : List Duty) (t : ℕ) → IsCounted g c l → t < g.tasks → 1 ≤ sum_over (uncounted_of t) l → 1 ≤ c.left t
some_left g c l t r small h = omega (arith, h, r.left t small, below_few (λ i. sign (c.done t i)) (g.quota t) (λ i. sign_le (c.done t i)))

-- What comes after one is counted: nothing, or the task is to be closed if nothing is left.
record IsAfterCount (g : TaskGraph) (c d : Counters) (new : List Duty) : Type 0 where
  pub alone : IsPhaseAlone g new
  pub phase : (u : ℕ) → u < g.tasks → sum_over (phase_of u) new + running (d.alloc u) (d.left u) ≡ running (c.alloc u) (c.left u)
  pub unarmed : (u : ℕ) → sum_over (unarmed_of u) new ≡ 0
  pub fits : All (Fits g d) new

count_keeps : (g : TaskGraph) (c : Counters) (l : List Duty) (t k : ℕ) → IsCounted g c l → 1 ≤ c.alloc t → 1 ≤ c.left t
    → Keeps g l (Count t k ∷ []) (cond (c.left t == 1) (Close t ∷ []) []) (with_left c t (c.left t - 1))
count_keeps g c l t k r armed some m d step s =
    let small : t < g.tasks = (goes_fits g c l m _ (Count t k) step r).0 in
    let n = c.left t - 1 in
    let here : d.left t ≡ n = s.left t small ∙ set_here c.left t n t refl in
    let else : (u : ℕ) → u < g.tasks → u ≢ t → d.left u ≡ c.left u = λ u h ne. s.left u h ∙ set_else c.left t n u ne in
    let off : (u : ℕ) → u < g.tasks → u ≢ t → running (d.alloc u) (d.left u) ≡ running (c.alloc u) (c.left u) = λ u h ne. ap (λ x. running x (d.left u)) (s.alloc u h) ∙ ap (λ x. running (c.alloc u) x) (else u h ne) in
    let went : 1 ≤ d.alloc t = omega (arith, s.alloc t small) in
    let had_left : running (c.alloc t) (c.left t) ≡ 1 = mask_open (c.alloc t) (sign (c.left t)) armed ∙ sign_some (c.left t) some in
    let last : c.left t ≡ 1 → IsAfterCount g c d (Close t ∷ []) = λ one. record {
      alone = alone_close g t;
      phase = λ u h. dite (ℕ_discrete u t)
          (λ e. subst (λ (x : ℕ). sum_over (phase_of x) (Close t ∷ []) + running (d.alloc x) (d.left x) ≡ running (c.alloc x) (c.left x)) (sym e)
          (omega (arith, one_same t t refl, had_left, mask_open (d.alloc t) (sign (d.left t)) went, sign_none (d.left t) (omega (arith, one, here)))))
          (λ ne. omega (arith, one_else t u (λ q. ne (sym q)), off u h ne));
      unarmed = λ u. refl;
      fits = all_one (Fits g d) (Close t) (small, went, omega (arith, one, here));
    } in
    let more : c.left t ≢ 1 → IsAfterCount g c d [] = λ other. record {
      alone = alone_none g;
      phase = λ u h. dite (ℕ_discrete u t)
          (λ e. subst (λ (x : ℕ). 0 + running (d.alloc x) (d.left x) ≡ running (c.alloc x) (c.left x)) (sym e)
          (omega (arith, had_left, mask_open (d.alloc t) (sign (d.left t)) went, sign_some (d.left t) (dite (ℕ_discrete (d.left t) 0) (λ z. absurd (other (omega (arith, here)))) (λ z. omega arith)))))
          (λ ne. omega (arith, off u h ne));
      unarmed = λ u. refl;
      fits = All-nil (Fits g d);
    } in
    let a : IsAfterCount g c d (cond (c.left t == 1) (Close t ∷ []) []) = dite (ℕ_discrete (c.left t) 1)
    (λ e. subst (λ b. IsAfterCount g c d (cond b (Close t ∷ []) [])) (sym (eq-eqb (c.left t) 1 e)) (last e))
    (λ ne. subst (λ b. IsAfterCount g c d (cond b (Close t ∷ []) [])) (sym (ne_eqb (c.left t) 1 ne)) (more ne)) in
    record {
      graph = r.graph;
      phase = part.phase_kept g c d l m _ _ step r (λ u h. omega (arith, ap sign (s.open_deps u h), a.phase u h));
      unarmed = part.unarmed_kept g c d l m _ _ step r (λ u h. omega (arith, ap sign (s.open_deps u h), ap sign (s.alloc u h), a.unarmed u));
      pending = part.pending_kept g c d l m _ _ step r (λ u i h j. omega (arith, ap sign (s.done u i h j), a.alone.pending u i));
      left = part.left_kept g c d l m _ _ step r (λ u h. dite (ℕ_discrete u t)
          (λ e. omega (arith, same_count g c d u (λ i j. s.done u i h j), ap d.left e, ap c.left e, here, one_same t u (sym e), a.alone.uncounted u))
          (λ ne. omega (arith, same_count g c d u (λ i j. s.done u i h j), else u h ne, one_else t u (λ q. ne (sym q)), a.alone.uncounted u)));
      flags = part.flags_kept g c d l m _ _ step r s.flags (λ u i h j. omega (arith, ap sign (s.done u i h j), a.alone.unflagged u i));
      open_deps = part.open_kept g c d l m _ _ step r s.open_deps (λ x u. a.alone.counted x u);
      state = part.state_kept g c d l m _ _ step r s.state (λ x u. a.alone.marked x u);
      fits = part.fits_kept g c d l m _ _ step r (part.grows_by g c d r.graph s.done (λ u h. omega (arith, s.alloc u h)) (λ u h z. dite (ℕ_discrete u t) (λ e. absurd (omega (arith, ap c.left e))) (λ ne. omega (arith, else u h ne)))) a.fits;
    }

-- To count an instance keeps the rule.
pub count : CountsOff
count g c l t k r there armed =
    let small : t < g.tasks = (All-contains (Fits g c) l (Count t k) r.fits there).0 in
    let some = some_left g c l t r small (omega (arith, term_in (uncounted_of t) l (Count t k) there, one_same t t refl)) in
    record { some_left = some; keeps = count_keeps g c l t k r armed some }

pending_one : (g : TaskGraph) (c : Counters) (l : List Duty) (t k : ℕ) → IsCounted g c l → (t < g.tasks) × (k < g.quota t) → 1 ≤ sum_over (pending_of t k) l → (1 ≤ c.done t k) × (sum_over (pending_of t k) l ≡ 1)
pending_one g c l t k r inst some =
    let le = r.pending t k inst.0 inst.1 in
    let one = sign_le (c.done t k) in
    (dite (ℕ_discrete (c.done t k) 0) (λ z. absurd (omega (arith, sign_none (c.done t k) z))) (λ ne. omega arith), omega arith)

-- What is to be flagged or counted is done, and isn't both.
pub pending_done : PendingDone
pending_done g c l t k r (inl there) = pending_one g c l t k r (All-contains (Fits g c) l (Flag t k) r.fits there) (omega (arith, term_in (pending_of t k) l (Flag t k) there, pair_same t k t k refl refl))
pending_done g c l t k r (inr there) = pending_one g c l t k r (All-contains (Fits g c) l (Count t k) r.fits there) (omega (arith, term_in (pending_of t k) l (Count t k) there, pair_same t k t k refl refl))

-- ---- closed

-- A task of which nothing is left.
module _ (g : TaskGraph) (c : Counters) (l : List Duty) (t : ℕ) (r : IsCounted g c l) (small : t < g.tasks) (nothing : c.left t ≡ 0) where
  all_counted : (k : ℕ) → k < g.quota t → (sign (c.done t k) ≡ 1) × (sum_over (unflagged_of t k) l ≡ 0)
  all_counted k few =
      let f : ℕ → ℕ = λ i. sign (c.done t i) in let le = below_few f (g.quota t) (λ i. sign_le (c.done t i)) in
      (below_full f (g.quota t) k (λ i. sign_le (c.done t i)) (omega (arith, le, r.left t small)) few, omega (arith, sum_le (unflagged_of t k) (uncounted_of t) l (unflagged_uncounted t k), le, r.left t small))

  flags_are : (i : ℕ) → bit_at (c.flags t) i ≡ any_end g t i
  flags_are i = r.flags t i small ∙ ap sign (below_same _ _ (g.quota t) (λ k few. let p = all_counted k few in mask_open _ (bit_at (g.ends t k) i) (omega (arith, p.0, p.1))))

  ended_of : MayRun g c.done t → HasEnded g c.done t
  ended_of may = record { own = λ k ran. let i = r.graph.ran_instances t k ran in dite (ℕ_discrete (c.done t k) 0) (λ z. absurd (omega (arith, (all_counted k i.1).0, sign_none (c.done t k) z))) (λ ne. omega arith); earlier = may.earlier }

  pub outcome_is : MayRun g c.done t → outcome_of_flags (c.flags t) ≡ g.outcome t
  outcome_is may = ap (λ n. outcome_by n (bit_at (c.flags t) 0)) (flags_are 1) ∙ (ap (λ n. outcome_by (any_end g t 1) n) (flags_are 0) ∙ sym (r.graph.outcome_ran t small may.runs))

-- A task that has ended begins to be told, in place of a duty that said its phase.
pub tell_keeps : (g : TaskGraph) (c : Counters) (l : List Duty) (t : ℕ) (o : Outcome) (p : Duty) → IsCounted g c l → t < g.tasks → o ≡ g.outcome t → HasEnded g c.done t
    → IsPhaseAlone g (p ∷ []) → ((u : ℕ) → phase_of u p ≡ one_if t u) → Keeps g l (p ∷ []) (tell_first (g.successors t) t o) c
tell_keeps g c l t o p r small is ended alone phase m d step s = part.phase_keeps g c d l m _ _ step r (part.same_alloc g c d s) alone (alone_first g t o)
    (λ u h. omega (arith, phase u, first_phase t o (g.successors t) u, ap (λ n. running n (c.left u)) (s.alloc u h)))
    (λ u h. omega (arith, first_unarmed t o (g.successors t) u, ap sign (s.alloc u h)))
    (λ grows. fresh grows (g.successors t) refl)
  where
    fresh : Grows g c d → (ss : List ℕ) → g.successors t ≡ ss → All (Fits g d) (tell_first ss t o)
    fresh grows [] e = all_one (Fits g d) (Told t o) (small, is, part.ended_later g c d t grows ended)
    fresh grows (y ∷ ys) e = all_one (Fits g d) (Tell t o 0 false) (small, is, omega (arith, ap length e), part.ended_later g c d t grows ended)

-- To close a task tells its outcome, and keeps the rule.
pub load_flags : LoadsFlags
load_flags g c l t r there may =
    let close = All-contains (Fits g c) l (Close t) r.fits there in
    record {
      outcome = outcome_is g c l t r close.0 close.2 may;
      keeps = tell_keeps g c l t (g.outcome t) (Close t) r close.0 refl (ended_of g c l t r close.0 close.2 may) (alone_close g t) (λ u. refl);
    }
