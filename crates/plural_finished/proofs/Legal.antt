-- The entries of a whole run are those of a legal log.
use Rattle.std.proofs.Common.{◌≡◌, ℕ, ◌-◌, ◌<◌, ◌≤◌, ◌⊎◌, ltb, Bool, true, false, ◌||◌, cond, List, [], ◌∷◌, map, get_or, Some, All, refl, sym, ap, ◌∙◌, subst, inl, inr, ⊎_elim, arith, eq-eqb, eqb-true}
use Rattle.std.specs.List.{AllPairs}
use Rattle.std.proofs.lemmas.Bool.{and_parts, both_ways, or_cases, or_right}
use Rattle.std.proofs.lemmas.List.Elements.{All-map, All-cons}
use Rattle.plural_serial.specs.declared.record_.Record.{Record}
use Rattle.plural_serial.specs.Instances.{Inst as Instance, same, is_in}
use Rattle.plural_serial.proofs.Records.{same_self}
use Rattle.plural_reach.specs.Chains.{comes_before}
use Rattle.plural_reach.proofs.Ranks.{before_test}
use Rattle.plural_reach.proofs.TableEntries.{reaches_all}
use Rattle.plural_trace.specs.declared.entry.Entry.{Entry}
use Rattle.plural_trace.specs.Rules.{is_of, record_for}
use Rattle.plural_trace.specs.Legality.{IsOther, HasEntry, HasRecords, HasTickets, KeepsOrder, HasCores}
use Rattle.plural_trace.specs.Verdicts.{records_of}
use Rattle.plural_order.proofs.Instances.{same_is}
use Rattle.plural_counters.proofs.Sums.{one_same, sign_some}
use Rattle.plural_rule.specs.Opening.{Opening, IsInstance, Runs, world_in, record_of}
use Rattle.plural_rule.specs.Opening as opening
use Rattle.plural_rule.specs.Rule.{done_drawn}
use Rattle.plural_rule.proofs.TicketSums.{ended_drawn, two_of}
use Rattle.plural_words.specs.Closing.{ClosedSeen}
use Rattle.plural_finished.specs.Finishing.{says, IsClosedRun, IsDone, AreEntries}
use Rattle.plural_finished.proofs.Instances.{last, named, record_own, runs, low, entry_record}
use Rattle.plural_finished.proofs.Counts.{entries_count, entry_there}

-- ---- records by their instances

-- The record of an instance among those of a list.
found : (o : Opening) (t k : ℕ) (is : List Instance) → is_in (t, k) is ≡ true → record_for t k (map (λ i. record_of o i.0 i.1) is) ≡ Some (record_of o t k)
found o t k [] h = absurd cc
found o t k (i ∷ is) h = by (is_of t k (record_of o i.0 i.1)) refl (λ q. found o t k is q)
  where
    own : ((record_of o i.0 i.1).t ≡ i.0) × ((record_of o i.0 i.1).k ≡ i.1)
    own = record_own o i.0 i.1

    by : (b : Bool) → is_of t k (record_of o i.0 i.1) ≡ b → (is_in (t, k) is ≡ true → record_for t k (map (λ (i : Instance). record_of o i.0 i.1) is) ≡ Some (record_of o t k))
        → cond b (Some (record_of o i.0 i.1)) (record_for t k (map (λ (i : Instance). record_of o i.0 i.1) is)) ≡ Some (record_of o t k)
    by true e later =
        let parts = and_parts _ _ e in
        let a : i.0 ≡ t = sym own.0 ∙ eqb-true (record_of o i.0 i.1).t t parts.0 in
        let b : i.1 ≡ k = sym own.1 ∙ eqb-true (record_of o i.0 i.1).k k parts.1 in
        λ j. Some (record_of o (a j) (b j))
    by false e later = later (⊎_elim
        (λ (q : same (t, k) i ≡ true).
        let is_it : (t, k) ≡ i = same_is (t, k) i q in
        let a : (record_of o i.0 i.1).t ≡ t = own.0 ∙ ap (λ (x : Instance). x.0) (sym is_it) in
        let b : (record_of o i.0 i.1).k ≡ k = own.1 ∙ ap (λ (x : Instance). x.1) (sym is_it) in
        absurd (both_ways (is_of t k (record_of o i.0 i.1)) e (rw (eq-eqb (record_of o i.0 i.1).t t a, eq-eqb (record_of o i.0 i.1).k k b) refl)))
        (λ (q : is_in (t, k) is ≡ true). q)
        (or_cases (same (t, k) i) (is_in (t, k) is) h))

-- What is so of each instance of a list is so of all.
each_in : (P : Instance → Type 0) (is : List Instance) → ((i : Instance) → is_in i is ≡ true → P i) → All P is
each_in P [] h = λ k d lt. absurd (omega arith)
each_in P (i ∷ is) h = All-cons P i is (h i (ap (λ b. b || is_in i is) (same_self i))) (each_in P is (λ j q. h j (or_right (same j i) (is_in j is) q)))

-- ---- coming before

-- The serial run says what comes before what.
before_named : (o : Opening) (t u : ℕ) → comes_before o.program.map.tasks t u ≡ true → opening.Before o t u
unfolding world_in
before_named o t u h = h

-- ---- tickets

-- A done instance has drawn its start and its end.
has_ticket : (x start done : ℕ) → 0 < done → (start ≡ x) ⊎ (done - 1 ≡ x) → 1 ≤ done_drawn x start done
has_ticket x start done is (inl e) = omega (arith, ended_drawn x start done is, one_same start x e)
has_ticket x start done is (inr e) = omega (arith, ended_drawn x start done is, one_same (done - 1) x e)

bit_low : (b : Bool) → ◌≤◌ (cond b 1 0) 1
bit_low true = omega arith
bit_low false = omega arith

module _ (c : ClosedSeen) (run : IsClosedRun c) where
  -- Different instances have no ticket in common.
  pub no_ticket : (x t k u l : ℕ) → IsDone c t k → IsDone c u l → (t ≡ u → k ≡ l → ⊥) → ((says c).field t k 5 ≡ x) ⊎ ((says c).done t k - 1 ≡ x) → ((says c).field u l 5 ≡ x) ⊎ ((says c).done u l - 1 ≡ x) → ⊥
  no_ticket x t k u l i j differ a b = omega (
    arith,
    two_of c.opening (λ y z. done_drawn x ((says c).field y z 5) ((says c).done y z)) t k u l i.inst j.inst differ,
    has_ticket x ((says c).field t k 5) ((says c).done t k) i.done a,
    has_ticket x ((says c).field u l 5) ((says c).done u l) j.done b,
    (last c run).tickets x,
    bit_low (ltb x (says c).clock),
  )

  module _ (es : List Entry) (are : AreEntries c es) where
    -- Entries at different places are of different instances.
    differ : AllPairs IsOther es
    differ i j d lt within a b =
        let e = get_or es i d in let f = get_or es j d in
        let one = are.own i d (omega (arith, lt, within)) in let two = are.own j d within in
        let start : e.start ≡ f.start = ap (λ (x : Entry). x.start) one.is ∙ ((λ n. (says c).field (a n) (b n) 5) ∙ sym (ap (λ (x : Entry). x.start) two.is)) in
        omega (arith, start, are.rises i j d lt within)

    -- The records are those of the serial run.
    pub has_records : HasRecords (records_of c.opening.program c.opening.image) es
    has_records =
        let rs = map (λ (i : Instance). record_of c.opening i.0 i.1) (world_in c.opening).ran in
        subst (λ (x : List Record). HasRecords x es) (sym (named c run).records) (record {
          recorded = λ i d h.
              let e = get_or es i d in let own = are.own i d h in
              found c.opening e.rec.t e.rec.k (world_in c.opening).ran (runs c run e.rec.t e.rec.k own.done) ∙ ap Some (sym (ap (λ (x : Entry). x.rec) own.is ∙ entry_record c run e.rec.t e.rec.k own.done));
          once = differ;
          whole = All-map (HasEntry es) (λ (i : Instance). record_of c.opening i.0 i.1) (world_in c.opening).ran (each_in (λ i. HasEntry es (record_of c.opening i.0 i.1)) (world_in c.opening).ran (λ i ran.
              let inst = run.closed.kept.rule.run.instances i.0 i.1 ran in
              let own = record_own c.opening i.0 i.1 in
              let there = entry_there i.0 i.1 es (omega (arith, are.one i.0 i.1 inst, sign_some ((says c).done i.0 i.1) ((last c run).done i.0 i.1 ran))) in
              let entry : HasEntry es (record_of c.opening i.0 i.1) = (there.0, there.1, there.2, there.3, (there.4.0 ∙ sym own.0, there.4.1 ∙ sym own.1)) in
              entry));
        })

    -- The tickets are drawn once.
    pub has_tickets : HasTickets es
    has_tickets = record {
      intervals = λ i d h.
          let e = get_or es i d in let own = are.own i d h in
          let start : e.start ≡ (says c).field e.rec.t e.rec.k 5 = ap (λ (x : Entry). x.start) own.is in
          let end_at : e.end_at ≡ (says c).done e.rec.t e.rec.k - 1 = ap (λ (x : Entry). x.end_at) own.is in
          let turn = (last c run).in_turn.own e.rec.t e.rec.k own.done.inst own.done.done in
          let high = low c run e.rec.t e.rec.k own.done in
          (omega (arith, start, end_at, turn), omega (arith, end_at, high.0, own.done.done, (last c run).clock, entries_count c es are));
      differ = λ i j d lt within.
          let e = get_or es i d in let f = get_or es j d in
          let one = are.own i d (omega (arith, lt, within)) in let two = are.own j d within in
          let other = differ i j d lt within in
          let clash : (x : ℕ) → ((says c).field e.rec.t e.rec.k 5 ≡ x) ⊎ ((says c).done e.rec.t e.rec.k - 1 ≡ x) → ((says c).field f.rec.t f.rec.k 5 ≡ x) ⊎ ((says c).done f.rec.t f.rec.k - 1 ≡ x) → ⊥ = λ x a b. no_ticket x e.rec.t e.rec.k f.rec.t f.rec.k one.done two.done other a b in
          let s_e : (says c).field e.rec.t e.rec.k 5 ≡ e.start = sym (ap (λ (x : Entry). x.start) one.is) in
          let t_e : (says c).done e.rec.t e.rec.k - 1 ≡ e.end_at = sym (ap (λ (x : Entry). x.end_at) one.is) in
          let s_f : (says c).field f.rec.t f.rec.k 5 ≡ f.start = sym (ap (λ (x : Entry). x.start) two.is) in
          let t_f : (says c).done f.rec.t f.rec.k - 1 ≡ f.end_at = sym (ap (λ (x : Entry). x.end_at) two.is) in
          record {
            starts = λ q. clash f.start (inl (s_e ∙ q)) (inl s_f);
            start_end = λ q. clash f.end_at (inl (s_e ∙ q)) (inr t_f);
            end_start = λ q. clash f.start (inr (t_e ∙ q)) (inl s_f);
            ends = λ q. clash f.end_at (inr (t_e ∙ q)) (inr t_f);
          };
    }

    -- The order of tasks is kept.
    pub keeps_order : KeepsOrder c.opening.program.map.tasks es
    keeps_order i d h j x l before =
        let e = get_or es i d in let f = get_or es j x in
        let one = are.own i d h in let two = are.own j x l in
        let tasks = c.opening.program.map.tasks in
        let test = before_named c.opening e.rec.t f.rec.t ((before_test tasks (reaches_all c.opening.program.map run.opening.limits) e.rec.t f.rec.t).1 before) in
        let turn = (last c run).in_turn.turn e.rec.t e.rec.k f.rec.t f.rec.k one.done.inst two.done.inst (runs c run e.rec.t e.rec.k one.done) test one.done.done two.done.done in
        let end_at : e.end_at ≡ (says c).done e.rec.t e.rec.k - 1 = ap (λ (y : Entry). y.end_at) one.is in
        let start : f.start ≡ (says c).field f.rec.t f.rec.k 5 = ap (λ (y : Entry). y.start) two.is in
        omega (arith, end_at, start, turn, one.done.done)

    -- The cores are those of the machine, and each runs one instance after another.
    pub has_cores : HasCores c.opening.cores es
    has_cores = record {
      own = λ i d h.
          let e = get_or es i d in let own = are.own i d h in
          let core : e.core ≡ (says c).field e.rec.t e.rec.k 6 = ap (λ (x : Entry). x.core) own.is in
          omega (arith, core, (last c run).cores e.rec.t e.rec.k own.done.inst own.done.done);
      apart = λ i j d lt within same_core.
          let e = get_or es i d in let f = get_or es j d in
          let one = are.own i d (omega (arith, lt, within)) in let two = are.own j d within in
          let s_e : e.start ≡ (says c).field e.rec.t e.rec.k 5 = ap (λ (x : Entry). x.start) one.is in
          let t_e : e.end_at ≡ (says c).done e.rec.t e.rec.k - 1 = ap (λ (x : Entry). x.end_at) one.is in
          let s_f : f.start ≡ (says c).field f.rec.t f.rec.k 5 = ap (λ (x : Entry). x.start) two.is in
          let t_f : f.end_at ≡ (says c).done f.rec.t f.rec.k - 1 = ap (λ (x : Entry). x.end_at) two.is in
          let core : (says c).field e.rec.t e.rec.k 6 ≡ (says c).field f.rec.t f.rec.k 6 = sym (ap (λ (x : Entry). x.core) one.is) ∙ (same_core ∙ ap (λ (x : Entry). x.core) two.is) in
          ⊎_elim
          (λ q. inl (omega (arith, t_e, s_f, q, one.done.done)))
          (λ q. inr (omega (arith, t_f, s_e, q, two.done.done)))
          ((last c run).in_turn.line e.rec.t e.rec.k f.rec.t f.rec.k one.done.inst two.done.inst (differ i j d lt within) one.done.done two.done.done core);
    }
