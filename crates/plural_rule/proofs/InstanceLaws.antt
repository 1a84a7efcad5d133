-- The steps of an instance, from its claim until it is done, keep the rule.
use Rattle.std.proofs.Common.{◌≡◌, ℕ, zero, suc, ◌+◌, ◌-◌, ◌^◌, ◌<◌, ◌≤◌, List, [], ◌∷◌, ◌++◌, length, drop, get_or, set, sym, refl, ap, ◌∙◌, subst, inl, inr, arith, append_assoc, length-set, get_or-set_other, get_or-set_same, Some, slice_get}
use mathlib.Core.Logic.{dite}
use native.Mathlib.Decide.{ℕ_discrete}
use mathlib.Core.Option.{some}
use lib.ListN.{get_elem?}
use Rattle.plural_counters.specs.Steps.{as_duties}
use Rattle.plural_counters.specs.declared.duty.Duty.TheVariants.{Flag}
use Rattle.plural_counters.proofs.Sums.{pair_same}
use Rattle.plural_counters.proofs.Instances.{hand_out, finish}
use Rattle.plural_counters.proofs.Views.{one_view_replaces}
use Rattle.plural_rule.specs.Opening.{Opening, graph_in, stores_of}
use Rattle.plural_rule.specs.Layout.{field_at, done_at, counters_at, alloc_at, clock_at}
use Rattle.plural_rule.specs.Content.{content}
use Rattle.plural_rule.specs.Stages.{holds, IsStage}
use Rattle.plural_rule.specs.Rule.{Rule}
use Rattle.plural_rule.specs.Steps.{looked, lost, took, began, did_read, stored, ended, did_note, to_flag, finished}
use Rattle.plural_rule.specs.Kept.{duties, counters, Kept}
use Rattle.plural_rule.specs.Laws.{LoadsAlloc, TakesInstance, LosesInstance, BeginsInstance, LoadsMemory, StoresMemory, EndsInstance, NotesField, FinishesInstance}
use Rattle.plural_rule.specs.declared.view.View.{View}
use Rattle.plural_rule.specs.declared.view.Stage.{Stage}
use Rattle.plural_rule.specs.declared.view.Stage.TheVariants.{Begun, Ended}
use Rattle.plural_rule.proofs.Writes.{mem_here, mem_else, mem_clock, mem_alloc, mem_done, mem_fields, high_mem, high_done, high_fields, clock_here, clock_alloc, alloc_here, alloc_else, alloc_clock, field_clock, field_alloc, field_mem, field_else, field_here}
use Rattle.plural_rule.proofs.CounterWrites.{same_mem, same_clock, same_field, same_done, same_alloc, counted_still}
use Rattle.plural_rule.proofs.Live.{held_once, live_runs}
use Rattle.plural_rule.proofs.Claims.{looks, loses, hands_out}
use Rattle.plural_rule.proofs.Begins.{clock_low, begins, reads, read_is}
use Rattle.plural_rule.proofs.Stores.{next_store, stores}
use Rattle.plural_rule.proofs.Ends.{ends, notes_field}
use Rattle.plural_rule.proofs.Finishes.{finishes}

-- ---- words

-- A write beyond the memory leaves its words below 2^32.
pub narrow_high : (w : ℕ) (ws : List ℕ) (x i : ℕ) → w ≤ i → ((a : ℕ) → a < w → get_or ws a 0 < 2 ^ 32) → (a : ℕ) → a < w → get_or (set ws i x) a 0 < 2 ^ 32
narrow_high w ws x i high h a low = let e = get_or-set_other ws i a x 0 (λ e. omega arith) in omega (arith, e, h a low)

narrow_here : (w : ℕ) (ws : List ℕ) (x i : ℕ) → x < 2 ^ 32 → i < length ws → ((a : ℕ) → a < w → get_or ws a 0 < 2 ^ 32) → (a : ℕ) → a < w → get_or (set ws i x) a 0 < 2 ^ 32
narrow_here w ws x i few long h a low = dite (ℕ_discrete a i)
    (λ e. subst (λ (y : ℕ). get_or (set ws i x) y 0 < 2 ^ 32) (sym e) (omega (arith, get_or-set_same ws i x 0 long, few)))
    (λ ne. omega (arith, get_or-set_other ws i a x 0 ne, h a low))

-- A step that writes nothing, and changes no duty of its view.
pub kept_still : (o : Opening) (ws : List ℕ) (views : List View) (id : ℕ) (v w : View) → Kept o ws views → get_elem? views id ≡ some v → duties w ≡ duties v → Rule o (content o.program ws) (set views id w) → Kept o ws (set views id w)
kept_still o ws views id v w k at same r = record {
  long = k.long;
  narrow = k.narrow;
  rule = r;
  counted = counted_still o (content o.program ws) (content o.program ws) views id v w at same
      (record { alloc = λ t h. refl; done = λ t n h i. refl; flags = λ t h. refl; left = λ t h. refl; state = λ t h. refl; open_deps = λ t h. refl }) k.counted;
}

-- ---- claiming

-- A load of an alloc word.
pub loads_alloc : LoadsAlloc
loads_alloc o ws views id v core k at seat t small =
    let c = content o.program ws in record {
      kept = kept_still o ws views id v (looked v t (c.alloc t)) k at refl (looks o c views id v core t at k.rule seat small);
      rose = k.rule.found.most id v at t small;
      few = k.rule.tasks.few t small;
    }

-- An exchange that is lost.
pub loses_instance : LosesInstance
loses_instance o ws views id v core k at seat t n small found miss =
    let c = content o.program ws in let least = k.rule.found.most id v at t small in record {
      kept = kept_still o ws views id v (lost v t (c.alloc t)) k at refl (loses o c views id v core t at k.rule seat small);
      more = omega (arith, least, found, miss);
      few = k.rule.tasks.few t small;
    }

-- An exchange that goes through.
pub takes_instance : TakesInstance
takes_instance o ws views id v core k at seat t n small free some_out few is =
    let p = o.program in let c = content p ws in let i = alloc_at p t in let x = n + 1 in let d = content p (set ws i x) in
    let j : ℕ = n - 1 in
    let was : c.alloc t ≡ j + 1 = omega (arith, is, some_out) in
    let now : d.alloc t ≡ j + 2 = omega (arith, alloc_here p ws x t small k.long, some_out) in
    let high : counters_at p ≤ i = omega arith in
    let rule : Rule o d (set views id (took v t (j + 1))) =
    hands_out o c d views id v core t j at k.rule seat free (small, omega (arith, few, some_out)) was now (λ u ne. alloc_else p ws x t small u ne) (high_mem p ws x i high) (alloc_clock p ws x t small) (high_done p ws x i high) (high_fields p ws x i high) in
    let same : j + 1 ≡ n = omega (arith, some_out) in
    record {
      long = length-set ws i x ∙ k.long;
      narrow = narrow_high p.map.words ws x i (omega arith) k.narrow;
      rule = subst (λ (y : ℕ). Rule o d (set views id (took v t y))) same rule;
      counted = hand_out (graph_in o) (counters c) _ t x k.counted (omega (arith, is, some_out)) (omega (arith, is)) _ (counters d)
          (one_view_replaces duties views id v (took v t n) [] [] (duties v) at refl refl) (same_alloc o ws x t small k.long);
    }

-- ---- an instance

module _ (o : Opening) (ws : List ℕ) (views : List View) (id : ℕ) (v w : View) (k : Kept o ws views) (at : get_elem? views id ≡ some v) (same : duties w ≡ duties v) where
  -- A step that draws a ticket.
  kept_tick : Rule o (content o.program (set ws (clock_at o.program) (get_or ws (clock_at o.program) 0 + 1))) (set views id w) → Kept o (set ws (clock_at o.program) (get_or ws (clock_at o.program) 0 + 1)) (set views id w)
  kept_tick r = let p = o.program in let x = get_or ws (clock_at p) 0 + 1 in record {
    long = length-set ws (clock_at p) x ∙ k.long;
    narrow = narrow_high p.map.words ws x (clock_at p) (omega arith) k.narrow;
    rule = r;
    counted = counted_still o (content p ws) (content p (set ws (clock_at p) x)) views id v w at same (same_clock o ws x) k.counted;
  }

-- An instance begins.
pub begins_instance : BeginsInstance
begins_instance o ws views id v core k at seat t n got =
    let p = o.program in let c = content p ws in let i = clock_at p in let x = c.clock + 1 in let d = content p (set ws i x) in
    let high : counters_at p ≤ i = omega arith in record {
      kept = kept_tick o ws views id v (began v c.clock) k at refl
          (begins o c d views id v core t n at k.rule seat got (clock_here p ws x k.long) (high_mem p ws x i high) (clock_alloc p ws x) (high_done p ws x i high) (high_fields p ws x i high));
      low = clock_low o c views k.rule;
    }

-- An instance ends.
pub ends_instance : EndsInstance
ends_instance o ws views id v core k at seat t n start made m begun all =
    let p = o.program in let c = content p ws in let i = clock_at p in let x = c.clock + 1 in let d = content p (set ws i x) in
    let high : counters_at p ≤ i = omega arith in record {
      kept = kept_tick o ws views id v (ended v c.clock) k at refl
          (ends o c d views id v core t n start made m at k.rule seat begun all (clock_here p ws x k.long) (high_mem p ws x i high) (clock_alloc p ws x) (high_done p ws x i high) (high_fields p ws x i high));
      low = clock_low o c views k.rule;
    }

-- A word of the memory is read.
pub loads_memory : LoadsMemory
loads_memory o ws views id v core k at seat a small =
    let c = content o.program ws in record {
      kept = kept_still o ws views id v (did_read v) k at refl (reads o c views id v core at k.rule seat);
      narrow = k.narrow a small;
      value = λ t n start made m begun may. read_is o c views id v t n start made m a at k.rule begun small may;
    }

-- What stands first after some stores stands at their number.
first_dropped : (xs : List (ℕ × ℕ)) (j a x : ℕ) (rest : List (ℕ × ℕ)) → drop j xs ≡ (a, x) ∷ rest → slice_get xs j ≡ Some (a, x)
first_dropped [] zero a x rest e = absurd (cc e)
first_dropped [] (suc j) a x rest e = absurd (cc e)
first_dropped (y ∷ ys) zero a x rest e = ap (λ (l : List (ℕ × ℕ)). slice_get l 0) e
first_dropped (y ∷ ys) (suc j) a x rest e = first_dropped ys j a x rest e

-- A word of the memory is written.
pub stores_memory : StoresMemory
stores_memory o ws views id v core k at seat t n start made m a x rest begun coming few =
    let p = o.program in let next = first_dropped (stores_of o t n) made a x rest coming in let c = content p ws in let d = content p (set ws a x) in
    let ok : IsStage o c.clock (Begun t n start made m) = subst (λ (s : Stage). IsStage o c.clock s) begun (k.rule.known id v at).stage in
    let once = held_once o c views id v t n at k.rule.held ok.0 (ap (λ s. holds s t n) begun ∙ pair_same t n t n refl refl) in
    let inside = (next_store o t n made a x k.rule.run (live_runs o c k.rule.run k.rule.tasks t n once.1) next).inside in
    record {
      kept = record {
        long = length-set ws a x ∙ k.long;
        narrow = narrow_here p.map.words ws x a few (omega (arith, k.long, inside)) k.narrow;
        rule = stores o c d views id v core t n start made m a x at k.rule seat begun next (mem_clock p ws x a inside) (mem_alloc p ws x a inside) (mem_done p ws x a inside) (mem_fields p ws x a inside) (mem_here p ws x a inside k.long) (mem_else p ws x a inside);
        counted = counted_still o c d views id v (stored v) at refl (same_mem o ws x a inside) k.counted;
      };
      inside = inside;
    }

-- A field of a record is noted.
pub notes_a_field : NotesField
notes_a_field o ws views id v core k at seat t n start end m noted f x was few =
    let p = o.program in let c = content p ws in let i = field_at p t n f in let d = content p (set ws i x) in
    let ok : IsStage o c.clock (Ended t n start end m noted) = subst (λ (s : Stage). IsStage o c.clock s) was (k.rule.known id v at).stage in
    let inst = ok.0 in let f_small : f < 8 = omega (arith, few) in
    record {
      long = length-set ws i x ∙ k.long;
      narrow = narrow_high p.map.words ws x i (omega arith) k.narrow;
      rule = notes_field o c d views id v core t n start end m noted f x at k.rule seat was (field_clock p ws x t n f inst f_small) (field_mem p ws x t n f inst f_small) (field_alloc p ws x t n f inst f_small)
          (λ u l j. field_else p ws x t n f inst f_small u l 7 j (omega arith) (inr (λ e. omega (arith, few, e)))) (field_here p ws x t n f inst f_small k.long) (λ u l g j g_few apart. field_else p ws x t n f inst f_small u l g j (omega (arith, g_few)) apart);
      counted = counted_still o c d views id v (did_note v f x) at refl (same_field o ws x t n f inst few) k.counted;
    }

-- An instance is done.
pub finishes_instance : FinishesInstance
finishes_instance o ws views id v core k at seat t n start end m noted was whole =
    let p = o.program in let c = content p ws in let i = done_at p t n in let x : ℕ = 1 + end in let d = content p (set ws i x) in
    let ok : IsStage o c.clock (Ended t n start end m noted) = subst (λ (s : Stage). IsStage o c.clock s) was (k.rule.known id v at).stage in
    let inst = ok.0 in let seven : 7 < 8 = omega arith in
    let once = held_once o c views id v t n at k.rule.held inst (ap (λ s. holds s t n) was ∙ pair_same t n t n refl refl) in
    let w : View = finished v in
    record {
      long = length-set ws i x ∙ k.long;
      narrow = narrow_high p.map.words ws x i (omega arith) k.narrow;
      rule = finishes o c d views id v core t n start end m noted at k.rule seat was whole (field_clock p ws x t n 7 inst seven) (field_mem p ws x t n 7 inst seven) (field_alloc p ws x t n 7 inst seven) (field_here p ws x t n 7 inst seven k.long)
          (λ u l j z. field_else p ws x t n 7 inst seven u l 7 j seven (inl (λ e f. absurd (omega (arith, z, pair_same t n u l e f)))))
          (λ u l f j few. field_else p ws x t n 7 inst seven u l f j (omega (arith, few)) (inr (λ e. omega (arith, few, e))));
      counted = finish (graph_in o) (counters c) _ t n x k.counted inst.0 inst.1 once.1.undone (omega arith) _ (counters d)
          (one_view_replaces duties views id v w [] (Flag t n ∷ []) (duties v) at refl (append_assoc (to_flag v.stage) v.owes (as_duties v.told) ∙ ap (λ s. to_flag s ++ duties v) was)) (same_done o ws x t n inst k.long);
    }
