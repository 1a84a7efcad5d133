-- A task is told to its successors: each dependency on it is marked and counted.
use Rattle.std.proofs.Common.{◌≡◌, ℕ, ◌+◌, ◌-◌, ◌<◌, ◌≤◌, ◌≢◌, Bool, true, false, cond, max, ◌==◌, List, [], ◌∷◌, ◌++◌, length, take_all, slice_get, Some, All, Contains, sym, refl, ap, ◌∙◌, subst, arith, eq-eqb, ne_eqb, lt-ltb, le-ltb}
use mathlib.Core.Logic.{dite}
use native.Mathlib.Decide.{ℕ_discrete, dec_le}
use Rattle.std.specs.Int.{bit_at}
use Rattle.std.specs.Int.Bits.{bit_or}
use Rattle.std.proofs.lemmas.Nat.Bits.{bit_at_or}
use Rattle.std.proofs.lemmas.List.Elements.{All-nil, All-append, All-contains}
use Rattle.plural_map.specs.declared.outcome.Outcome.{Outcome}
use Rattle.plural_order.specs.Sums.{sum_below, sum_over, one_if, sign, masked, times}
use Rattle.plural_order.specs.TaskGraph.{TaskGraph}
use Rattle.plural_order.proofs.Sums.{below_same}
use Rattle.plural_counters.specs.Duties.{if_equal, phase_of, unarmed_of, telling_of, uncounted_of, pending_of, unflagged_of, reached, counted_of, marked_of}
use Rattle.plural_counters.specs.Counters.{Counters, running, Fits, IsCounted}
use Rattle.plural_counters.specs.Steps.{with_state, with_open, Keeps, tell_next}
use Rattle.plural_counters.specs.Laws.{MarksEdge, CountsEdge}
use Rattle.plural_counters.specs.declared.duty.Duty.{Duty}
use Rattle.plural_counters.specs.declared.duty.Duty.TheVariants.{Tell, Decide, Told}
use Rattle.plural_counters.proofs.Sums.{one_same, one_else, equal_same, equal_else, sign_none, sign_some, mask_open, mask_le, sign_or, sum_append, term_in, sum_le, sum_add, below_change, below_term}
use Rattle.plural_counters.proofs.Duties.{IsPhaseAlone, alone_none, alone_decide, telling_phase, times_next, times_take, place_within, counted_telling}
use Rattle.plural_counters.proofs.Parts.{set_here, set_else, Grows, same_count, all_one, goes_fits}
use Rattle.plural_counters.proofs.Parts as part

zero_more : (n : ℕ) → n + 0 ≡ n
zero_more n = omega arith

module _ (g : TaskGraph) (c : Counters) (l : List Duty) (t : ℕ) (o : Outcome) (e u : ℕ) (r : IsCounted g c l) (place : slice_get (g.successors t) e ≡ Some u) where
  -- The successor stands once among them, at its place.
  reached_here : (reached g t u e ≡ 0) × (reached g t u (e + 1) ≡ 1) × (times u (g.successors t) ≡ 1)
  reached_here = let n = times_next (g.successors t) e u u place in let le = times_take (g.successors t) (e + 1) u in let one = one_same u u refl in let once = r.graph.successor_once t u in
      (omega (arith, n, le, one, once), omega (arith, n, le, one, once), omega (arith, n, le, one, once))

  reached_off : (x : ℕ) → x ≢ u → reached g t x (e + 1) ≡ reached g t x e
  reached_off x ne = omega (arith, times_next (g.successors t) e u x place, one_else u x (λ q. ne (sym q)))

  successor_small : u < g.tasks
  successor_small = r.graph.successor_task t u (omega (arith, reached_here.2))

  -- ---- marked

  -- To mark a dependency keeps the rule.
  mark_keeps : Keeps g l (Tell t o e false ∷ []) (Tell t o e true ∷ []) (with_state c u (bit_or (c.state u) (g.edges t u)))
  mark_keeps m d step s =
      let n = bit_or (c.state u) (g.edges t u) in
      let had = goes_fits g c l m _ (Tell t o e false) step r in
      let small : t < g.tasks = had.0 in
      let grows : Grows g c d = part.grows_by g c d r.graph s.done (λ x h. omega (arith, s.alloc x h)) (λ x h z. omega (arith, s.left x h)) in
      record {
        graph = r.graph;
        phase = part.phase_kept g c d l m _ _ step r (λ x h. omega (arith, ap sign (s.open_deps x h), ap (λ y. running y (d.left x)) (s.alloc x h), ap (λ y. running (c.alloc x) y) (s.left x h)));
        unarmed = part.unarmed_kept g c d l m _ _ step r (λ x h. omega (arith, ap sign (s.open_deps x h), ap sign (s.alloc x h)));
        pending = part.pending_kept g c d l m _ _ step r (λ x i h j. omega (arith, ap sign (s.done x i h j)));
        left = part.left_kept g c d l m _ _ step r (λ x h. omega (arith, same_count g c d x (λ i j. s.done x i h j), s.left x h));
        flags = part.flags_kept g c d l m _ _ step r s.flags (λ x i h j. omega (arith, ap sign (s.done x i h j)));
        open_deps = part.open_kept g c d l m _ _ step r s.open_deps (λ x y. refl);
        state = λ x i h. dite (ℕ_discrete x u)
            (λ q. subst (λ (y : ℕ). bit_at (d.state y) i ≡ sign (sum_below (λ z. masked (sum_over (marked_of g z y) m) (bit_at (g.edges z y) i)) g.tasks)) (sym q) (
            let f : ℕ → ℕ = λ z. masked (sum_over (marked_of g z u) l) (bit_at (g.edges z u) i) in
            let f' : ℕ → ℕ = λ z. masked (sum_over (marked_of g z u) m) (bit_at (g.edges z u) i) in
            let b = bit_at (g.edges t u) i in
            let here_one : sum_over (marked_of g t u) m ≡ sum_over (marked_of g t u) l + 1 = omega (arith, step.sums (marked_of g t u), equal_same t t (reached g t u (e + 0)) refl, equal_same t t (reached g t u (e + 1)) refl, reached_here.0, reached_here.1, ap (λ y. reached g t u y) (zero_more e)) in
            let full : f' t ≡ b = mask_open _ b (omega (arith, here_one)) in
            let rest : (z : ℕ) → z < g.tasks → z ≢ t → f z ≡ f' z = λ z j ne. ap (λ y. masked y (bit_at (g.edges z u) i)) (omega (arith, step.sums (marked_of g z u), equal_else t z (reached g z u (e + 0)) (λ p. ne (sym p)), equal_else t z (reached g z u (e + 1)) (λ p. ne (sym p)))) in
            let change = below_change f f' g.tasks t small rest in
            let one : b ≤ 1 = omega arith in
            let less : f t ≤ b = mask_le _ b in
            ap (λ y. bit_at y i) (s.state u successor_small ∙ set_here c.state u n u refl) ∙ (bit_at_or (c.state u) (g.edges t u) i ∙ (ap (λ y. max y b) (r.state u i successor_small) ∙ sign_or (sum_below f g.tasks) (sum_below f' g.tasks) (f t) b (omega (arith, change, full)) less one (below_term f g.tasks t small)))))
            (λ ne. ap (λ y. bit_at y i) (s.state x h ∙ set_else c.state u n x ne) ∙ (r.state x i h ∙ ap sign (below_same _ _ g.tasks
            (λ z j. ap (λ y. masked y (bit_at (g.edges z x) i)) (dite (ℕ_discrete t z)
            (λ p. omega (arith, step.sums (marked_of g z x), equal_same t z (reached g z x (e + 0)) p, equal_same t z (reached g z x (e + 1)) p, ap (λ y. reached g z x y) (zero_more e), subst (λ (w : ℕ). reached g w x (e + 1) ≡ reached g w x e) p (reached_off x ne)))
            (λ p. omega (arith, step.sums (marked_of g z x), equal_else t z (reached g z x (e + 0)) p, equal_else t z (reached g z x (e + 1)) p)))))));
        fits = part.fits_kept g c d l m _ _ step r grows (all_one (Fits g d) (Tell t o e true) (had.0, had.1, had.2, part.ended_later g c d t grows had.3));
      }

  -- ---- counted

  next_cases : (P : List Duty → Type 0) → (e + 1 < length (g.successors t) → P (Tell t o (e + 1) false ∷ [])) → (length (g.successors t) ≡ e + 1 → P (Told t o ∷ [])) → P (tell_next (g.successors t) t o e)
  next_cases P more last = dite (dec_le (length (g.successors t)) (e + 1))
      (λ h. subst (λ b. P (cond b (Tell t o (e + 1) false ∷ []) (Told t o ∷ []))) (sym (le-ltb (e + 1) (length (g.successors t)) h)) (last (omega (arith, place_within (g.successors t) e u place))))
      (λ h. let lt : e + 1 < length (g.successors t) = omega arith in subst (λ b. P (cond b (Tell t o (e + 1) false ∷ []) (Told t o ∷ []))) (sym (lt-ltb (e + 1) (length (g.successors t)) lt)) (more lt))

  all_reached : length (g.successors t) ≡ e + 1 → (x : ℕ) → times x (g.successors t) ≡ reached g t x (e + 1)
  all_reached h x = ap (times x) (sym (take_all (e + 1) (g.successors t) (omega arith)))

  -- What is there of the task after this successor: it is told one place further.
  record IsNext (new : List Duty) : Type 0 where
    pub phase : (x : ℕ) → sum_over (phase_of x) new ≡ one_if t x
    pub unarmed : (x : ℕ) → sum_over (unarmed_of x) new ≡ 0
    pub uncounted : (x : ℕ) → sum_over (uncounted_of x) new ≡ 0
    pub pending : (x k : ℕ) → sum_over (pending_of x k) new ≡ 0
    pub unflagged : (x k : ℕ) → sum_over (unflagged_of x k) new ≡ 0
    pub counted : (z x : ℕ) → sum_over (counted_of g z x) new ≡ if_equal t z (reached g z x (e + 1))
    pub marked : (z x : ℕ) → sum_over (marked_of g z x) new ≡ if_equal t z (reached g z x (e + 1))

  equal_ap : (z a b : ℕ) → (t ≡ z → a ≡ b) → if_equal t z a ≡ if_equal t z b
  equal_ap z a b h = dite (ℕ_discrete t z) (λ p. equal_same t z a p ∙ (h p ∙ sym (equal_same t z b p))) (λ p. equal_else t z a p ∙ sym (equal_else t z b p))

  is_next : IsNext (tell_next (g.successors t) t o e)
  is_next = next_cases IsNext
      (λ h. record { phase = λ x. omega arith; unarmed = λ x. refl; uncounted = λ x. refl; pending = λ x k. refl; unflagged = λ x k. refl; counted = λ z x. omega arith; marked = λ z x. omega (arith, equal_ap z (reached g z x (e + 1 + 0)) (reached g z x (e + 1)) (λ p. ap (λ y. reached g z x y) (zero_more (e + 1)))) })
      (λ h. let all : (z x : ℕ) → if_equal t z (times x (g.successors z)) ≡ if_equal t z (reached g z x (e + 1)) = λ z x. equal_ap z (times x (g.successors z)) (reached g z x (e + 1)) (λ p. subst (λ (w : ℕ). times x (g.successors w) ≡ reached g w x (e + 1)) p (all_reached h x)) in
      record { phase = λ x. omega arith; unarmed = λ x. refl; uncounted = λ x. refl; pending = λ x k. refl; unflagged = λ x k. refl; counted = λ z x. omega (arith, all z x); marked = λ z x. omega (arith, all z x) })

  -- The duties of the task haven't counted this dependency.
  uncounted_yet : (h : Bool) → Contains l (Tell t o e h) → t < g.tasks → sum_over (counted_of g t u) l ≡ 0
  uncounted_yet h there small =
      let f : Duty → ℕ = λ p. telling_of t p - counted_of g t u p in
      let told = term_in (telling_of t) l (Tell t o e h) there in
      let part = term_in f l (Tell t o e h) there in
      let one : telling_of t (Tell t o e h) ≡ 1 = one_same t t refl in
      let none : counted_of g t u (Tell t o e h) ≡ 0 = equal_same t t (reached g t u e) refl ∙ reached_here.0 in
      let sums = sum_add f (counted_of g t u) (telling_of t) l (λ p. omega (arith, counted_telling g t u (r.graph.successor_once t u) p)) in
      omega (arith, sums, sum_le (telling_of t) (phase_of t) l (telling_phase t), r.phase t small, part, told, one, none)

  some_open : (h : Bool) → Contains l (Tell t o e h) → t < g.tasks → 1 ≤ c.open_deps u
  some_open h there small =
      let f : ℕ → ℕ = λ z. times u (g.successors z) - sum_over (counted_of g z u) l in
      omega (arith, r.open_deps u successor_small, below_term f g.tasks t small, uncounted_yet h there small, reached_here.2)

  -- What the duties that come besides say: the successor is to be decided if it has nothing open any more.
  record IsBesides (d : Counters) (extra : List Duty) : Type 0 where
    pub alone : IsPhaseAlone g extra
    pub phase : (x : ℕ) → x < g.tasks → sign (d.open_deps x) + sum_over (phase_of x) extra ≡ sign (c.open_deps x)
    pub unarmed : (x : ℕ) → sum_over (unarmed_of x) extra ≡ sum_over (phase_of x) extra
    pub fits : All (Fits g d) extra

  besides : (d : Counters) → 1 ≤ c.open_deps u → d.open_deps u ≡ c.open_deps u - 1 → ((x : ℕ) → x < g.tasks → x ≢ u → d.open_deps x ≡ c.open_deps x) → IsBesides d (cond (c.open_deps u == 1) (Decide u ∷ []) [])
  besides d some here else = dite (ℕ_discrete (c.open_deps u) 1)
      (λ one. subst (λ b. IsBesides d (cond b (Decide u ∷ []) [])) (sym (eq-eqb (c.open_deps u) 1 one)) (record {
        alone = alone_decide g u;
        phase = λ x h. dite (ℕ_discrete x u)
            (λ q. subst (λ (y : ℕ). sign (d.open_deps y) + sum_over (phase_of y) (Decide u ∷ []) ≡ sign (c.open_deps y)) (sym q) (omega (arith, one_same u u refl, sign_some (c.open_deps u) some, sign_none (d.open_deps u) (omega (arith, one, here)))))
            (λ ne. omega (arith, one_else u x (λ q. ne (sym q)), ap sign (else x h ne)));
        unarmed = λ x. refl;
        fits = all_one (Fits g d) (Decide u) successor_small;
      }))
      (λ other. subst (λ b. IsBesides d (cond b (Decide u ∷ []) [])) (sym (ne_eqb (c.open_deps u) 1 other)) (record {
        alone = alone_none g;
        phase = λ x h. dite (ℕ_discrete x u)
            (λ q. subst (λ (y : ℕ). sign (d.open_deps y) + 0 ≡ sign (c.open_deps y)) (sym q) (omega (arith, sign_some (c.open_deps u) some, sign_some (d.open_deps u) (dite (ℕ_discrete (d.open_deps u) 0) (λ z. absurd (other (omega (arith, here)))) (λ z. omega arith)))))
            (λ ne. omega (arith, ap sign (else x h ne)));
        unarmed = λ x. refl;
        fits = All-nil (Fits g d);
      }))

  count_keeps : 1 ≤ c.open_deps u → sum_over (counted_of g t u) l ≡ 0 → Keeps g l (Tell t o e true ∷ []) (cond (c.open_deps u == 1) (Decide u ∷ []) [] ++ tell_next (g.successors t) t o e) (with_open c u (c.open_deps u - 1))
  count_keeps some none_yet m d step s =
      let extra = cond (c.open_deps u == 1) (Decide u ∷ []) [] in
      let next = tell_next (g.successors t) t o e in let n = is_next in
      let had = goes_fits g c l m _ (Tell t o e true) step r in
      let here : d.open_deps u ≡ c.open_deps u - 1 = s.open_deps u successor_small ∙ set_here c.open_deps u (c.open_deps u - 1) u refl in
      let else : (x : ℕ) → x < g.tasks → x ≢ u → d.open_deps x ≡ c.open_deps x = λ x h ne. s.open_deps x h ∙ set_else c.open_deps u (c.open_deps u - 1) x ne in
      let more = besides d some here else in
      let sum : (f : Duty → ℕ) → sum_over f (extra ++ next) ≡ sum_over f extra + sum_over f next = λ f. sum_append f extra next in
      let grows : Grows g c d = part.grows_by g c d r.graph s.done (λ x h. omega (arith, s.alloc x h)) (λ x h z. omega (arith, s.left x h)) in
      record {
        graph = r.graph;
        phase = part.phase_kept g c d l m _ _ step r (λ x h. omega (arith, sum (phase_of x), n.phase x, more.phase x h, ap (λ y. running y (d.left x)) (s.alloc x h), ap (λ y. running (c.alloc x) y) (s.left x h)));
        unarmed = part.unarmed_kept g c d l m _ _ step r (λ x h. omega (arith, sum (unarmed_of x), n.unarmed x, more.phase x h, more.unarmed x, ap sign (s.alloc x h)));
        pending = part.pending_kept g c d l m _ _ step r (λ x i h j. omega (arith, sum (pending_of x i), n.pending x i, more.alone.pending x i, ap sign (s.done x i h j)));
        left = part.left_kept g c d l m _ _ step r (λ x h. omega (arith, sum (uncounted_of x), n.uncounted x, more.alone.uncounted x, same_count g c d x (λ i j. s.done x i h j), s.left x h));
        flags = part.flags_kept g c d l m _ _ step r s.flags (λ x i h j. omega (arith, sum (unflagged_of x i), n.unflagged x i, more.alone.unflagged x i, ap sign (s.done x i h j)));
        open_deps = λ x h. dite (ℕ_discrete x u)
            (λ q. subst (λ (y : ℕ). d.open_deps y ≡ sum_below (λ z. times y (g.successors z) - sum_over (counted_of g z y) m) g.tasks) (sym q) (
            let f : ℕ → ℕ = λ z. times u (g.successors z) - sum_over (counted_of g z u) l in
            let f' : ℕ → ℕ = λ z. times u (g.successors z) - sum_over (counted_of g z u) m in
            let moved : (z : ℕ) → sum_over (counted_of g z u) m + if_equal t z (reached g z u e) ≡ sum_over (counted_of g z u) l + if_equal t z (reached g z u (e + 1)) = λ z. omega (arith, step.sums (counted_of g z u), sum (counted_of g z u), n.counted z u, more.alone.counted z u) in
            let rest : (z : ℕ) → z < g.tasks → z ≢ t → f z ≡ f' z = λ z j ne. omega (arith, moved z, equal_else t z (reached g z u e) (λ p. ne (sym p)), equal_else t z (reached g z u (e + 1)) (λ p. ne (sym p))) in
            let change = below_change f f' g.tasks t had.0 rest in
            let was : f t ≡ 1 = omega (arith, none_yet, reached_here.2) in
            let now : f' t ≡ 0 = omega (arith, moved t, equal_same t t (reached g t u e) refl, equal_same t t (reached g t u (e + 1)) refl, reached_here.0, reached_here.1, reached_here.2, none_yet) in
            omega (arith, change, was, now, here, some, r.open_deps u successor_small)))
            (λ ne.
            let f : ℕ → ℕ = λ z. times x (g.successors z) - sum_over (counted_of g z x) l in
            let f' : ℕ → ℕ = λ z. times x (g.successors z) - sum_over (counted_of g z x) m in
            let moved : (z : ℕ) → sum_over (counted_of g z x) m + if_equal t z (reached g z x e) ≡ sum_over (counted_of g z x) l + if_equal t z (reached g z x (e + 1)) = λ z. omega (arith, step.sums (counted_of g z x), sum (counted_of g z x), n.counted z x, more.alone.counted z x) in
            else x h ne ∙ (r.open_deps x h ∙ below_same f f' g.tasks (λ z j. dite (ℕ_discrete t z)
            (λ p. omega (arith, moved z, equal_same t z (reached g z x e) p, equal_same t z (reached g z x (e + 1)) p, subst (λ (w : ℕ). reached g w x (e + 1) ≡ reached g w x e) p (reached_off x ne)))
            (λ p. omega (arith, moved z, equal_else t z (reached g z x e) p, equal_else t z (reached g z x (e + 1)) p)))));
        state = part.state_kept g c d l m _ _ step r s.state (λ z x. omega (arith, sum (marked_of g z x), n.marked z x, more.alone.marked z x));
        fits = part.fits_kept g c d l m _ _ step r grows (All-append (Fits g d) extra next more.fits (next_cases (All (Fits g d))
            (λ h. all_one (Fits g d) (Tell t o (e + 1) false) (had.0, had.1, h, part.ended_later g c d t grows had.3))
            (λ h. all_one (Fits g d) (Told t o) (had.0, had.1, part.ended_later g c d t grows had.3))));
      }

-- To mark a dependency keeps the rule.
pub mark_edge : MarksEdge
mark_edge g c l t o e u r place = mark_keeps g c l t o e u r place

-- To count a dependency keeps the rule.
pub count_edge : CountsEdge
count_edge g c l t o e u r there place =
    let small : t < g.tasks = (All-contains (Fits g c) l (Tell t o e true) r.fits there).0 in
    let some = some_open g c l t o e u r place true there small in
    record {
      task = successor_small g c l t o e u r place;
      some_open = some;
      keeps = count_keeps g c l t o e u r place some (uncounted_yet g c l t o e u r place true there small);
    }
