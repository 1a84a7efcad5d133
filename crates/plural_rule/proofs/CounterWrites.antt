-- What the counters say after a write of one word.
use Rattle.std.proofs.Common.{◌≡◌, ◌≢◌, ℕ, ◌<◌, List, [], length, set, sym, refl, ap, ◌∙◌, inl, inr, arith, cond, eq-eqb, ne_eqb, get_or-set_other, get_or-set_same}
use mathlib.Core.Logic.{dite}
use native.Mathlib.Decide.{ℕ_discrete}
use mathlib.Core.Option.{some}
use lib.ListN.{get_elem?}
use Rattle.plural_counters.specs.Counters.{Counted}
use Rattle.plural_counters.specs.Steps.{set_at, set_at_pair, with_alloc, with_done, with_flags, with_left, with_state, with_open, IsSame}
use Rattle.plural_counters.proofs.Parts as part
use Rattle.plural_counters.proofs.Instances.{stay}
use Rattle.plural_counters.proofs.Views.{one_view_replaces}
use Rattle.plural_rule.specs.Opening.{Opening, IsInstance, graph_in, task_count}
use Rattle.plural_rule.specs.Layout.{field_at, done_at, alloc_at, flags_at, left_at, state_at, open_deps_at, clock_at, word_count}
use Rattle.plural_rule.specs.Content.{Content, content}
use Rattle.plural_rule.specs.Kept.{duties, counters}
use Rattle.plural_rule.specs.declared.view.View.{View}
use Rattle.plural_rule.proofs.Writes.{field_low, high_done, field_alloc, field_else, field_here}

-- What f is after it was set at one place.
at_set_at : (f g : ℕ → ℕ) (t n u : ℕ) → g t ≡ n → (u ≢ t → g u ≡ f u) → g u ≡ set_at f t n u
at_set_at f g t n u here else = dite (ℕ_discrete u t)
    (λ e. ap g e ∙ (here ∙ sym (part.set_here f t n u e)))
    (λ ne. else ne ∙ sym (part.set_else f t n u ne))

module _ (o : Opening) (ws : List ℕ) (x : ℕ) where
  -- A write of a word of the memory.
  pub same_mem : (a : ℕ) → a < o.program.map.words → IsSame (graph_in o) (counters (content o.program ws)) (counters (content o.program (set ws a x)))
  same_mem a low = let p = o.program in record {
    alloc = λ u h. get_or-set_other ws a (alloc_at p u) x 0 (λ e. omega arith);
    done = λ u k h i. get_or-set_other ws a (done_at p u k) x 0 (λ e. omega arith);
    flags = λ u h. get_or-set_other ws a (flags_at p u) x 0 (λ e. omega arith);
    left = λ u h. get_or-set_other ws a (left_at p u) x 0 (λ e. omega arith);
    state = λ u h. get_or-set_other ws a (state_at p u) x 0 (λ e. omega arith);
    open_deps = λ u h. get_or-set_other ws a (open_deps_at p u) x 0 (λ e. omega arith);
  }

  -- A write of the clock.
  pub same_clock : IsSame (graph_in o) (counters (content o.program ws)) (counters (content o.program (set ws (clock_at o.program) x)))
  same_clock = let p = o.program in record {
    alloc = λ u h. get_or-set_other ws (clock_at p) (alloc_at p u) x 0 (λ e. omega arith);
    done = λ u k h i. high_done p ws x (clock_at p) (omega arith) u k (h, i);
    flags = λ u h. get_or-set_other ws (clock_at p) (flags_at p u) x 0 (λ e. omega arith);
    left = λ u h. get_or-set_other ws (clock_at p) (left_at p u) x 0 (λ e. omega arith);
    state = λ u h. get_or-set_other ws (clock_at p) (state_at p u) x 0 (λ e. omega arith);
    open_deps = λ u h. get_or-set_other ws (clock_at p) (open_deps_at p u) x 0 (λ e. omega arith);
  }

  -- A write of a field of a record.
  pub same_field : (t k f : ℕ) → IsInstance o.program t k → f < 7 → IsSame (graph_in o) (counters (content o.program ws)) (counters (content o.program (set ws (field_at o.program t k f) x)))
  same_field t k f i few = let p = o.program in let low = field_low p t k f i (omega arith) in record {
    alloc = λ u h. field_alloc p ws x t k f i (omega arith) u h;
    done = λ u l h j. field_else p ws x t k f i (omega arith) u l 7 (h, j) (omega arith) (inr (λ e. omega arith));
    flags = λ u h. get_or-set_other ws (field_at p t k f) (flags_at p u) x 0 (λ e. omega (arith, e, low));
    left = λ u h. get_or-set_other ws (field_at p t k f) (left_at p u) x 0 (λ e. omega (arith, e, low));
    state = λ u h. get_or-set_other ws (field_at p t k f) (state_at p u) x 0 (λ e. omega (arith, e, low));
    open_deps = λ u h. get_or-set_other ws (field_at p t k f) (open_deps_at p u) x 0 (λ e. omega (arith, e, low));
  }

  -- A write of a done word.
  pub same_done : (t k : ℕ) → IsInstance o.program t k → length ws ≡ word_count o.program → IsSame (graph_in o) (with_done (counters (content o.program ws)) t k x) (counters (content o.program (set ws (done_at o.program t k) x)))
  same_done t k i long = let p = o.program in let low = field_low p t k 7 i (omega arith) in record {
    alloc = λ u h. field_alloc p ws x t k 7 i (omega arith) u h;
    done = λ u l h j. done_set u l (h, j);
    flags = λ u h. get_or-set_other ws (done_at p t k) (flags_at p u) x 0 (λ e. omega (arith, e, low));
    left = λ u h. get_or-set_other ws (done_at p t k) (left_at p u) x 0 (λ e. omega (arith, e, low));
    state = λ u h. get_or-set_other ws (done_at p t k) (state_at p u) x 0 (λ e. omega (arith, e, low));
    open_deps = λ u h. get_or-set_other ws (done_at p t k) (open_deps_at p u) x 0 (λ e. omega (arith, e, low));
  }
    where
      done_set : (u l : ℕ) → IsInstance o.program u l → (content o.program (set ws (done_at o.program t k) x)).done u l ≡ set_at_pair (content o.program ws).done t k x u l
      done_set u l j = let p = o.program in let f = (content p ws).done in dite (ℕ_discrete u t)
          (λ e. inner e ∙ sym (ap (λ b. cond b (set_at (f u) k x l) (f u l)) (eq-eqb u t e)))
          (λ ne. field_else p ws x t k 7 i (omega arith) u l 7 j (omega arith) (inl (λ a b. ne (sym a))) ∙ sym (ap (λ b. cond b (set_at (f u) k x l) (f u l)) (ne_eqb u t ne)))
        where
          inner : u ≡ t → (content o.program (set ws (done_at o.program t k) x)).done u l ≡ set_at ((content o.program ws).done u) k x l
          inner e = let p = o.program in let f = (content p ws).done in let g = (content p (set ws (done_at p t k) x)).done in dite (ℕ_discrete l k)
              (λ q. ap (λ n. g n l) e ∙ (ap (g t) q ∙ (field_here p ws x t k 7 i (omega arith) long ∙ sym (part.set_here (f u) k x l q))))
              (λ nq. field_else p ws x t k 7 i (omega arith) u l 7 j (omega arith) (inl (λ a b. nq (sym b))) ∙ sym (part.set_else (f u) k x l nq))

  -- A write of an alloc word.
  pub same_alloc : (t : ℕ) → t < task_count o.program → length ws ≡ word_count o.program → IsSame (graph_in o) (with_alloc (counters (content o.program ws)) t x) (counters (content o.program (set ws (alloc_at o.program t) x)))
  same_alloc t small long = let p = o.program in let i = alloc_at p t in record {
    alloc = λ u h. at_set_at (content p ws).alloc (content p (set ws i x)).alloc t x u (get_or-set_same ws i x 0 (omega arith)) (λ ne. get_or-set_other ws i (alloc_at p u) x 0 (λ e. ne (omega arith)));
    done = λ u k h j. high_done p ws x i (omega arith) u k (h, j);
    flags = λ u h. get_or-set_other ws i (flags_at p u) x 0 (λ e. omega arith);
    left = λ u h. get_or-set_other ws i (left_at p u) x 0 (λ e. omega arith);
    state = λ u h. get_or-set_other ws i (state_at p u) x 0 (λ e. omega arith);
    open_deps = λ u h. get_or-set_other ws i (open_deps_at p u) x 0 (λ e. omega arith);
  }

  -- A write of the flags of a task.
  pub same_flags : (t : ℕ) → t < task_count o.program → length ws ≡ word_count o.program → IsSame (graph_in o) (with_flags (counters (content o.program ws)) t x) (counters (content o.program (set ws (flags_at o.program t) x)))
  same_flags t small long = let p = o.program in let i = flags_at p t in record {
    flags = λ u h. at_set_at (content p ws).flags (content p (set ws i x)).flags t x u (get_or-set_same ws i x 0 (omega arith)) (λ ne. get_or-set_other ws i (flags_at p u) x 0 (λ e. ne (omega arith)));
    done = λ u k h j. high_done p ws x i (omega arith) u k (h, j);
    alloc = λ u h. get_or-set_other ws i (alloc_at p u) x 0 (λ e. omega arith);
    left = λ u h. get_or-set_other ws i (left_at p u) x 0 (λ e. omega arith);
    state = λ u h. get_or-set_other ws i (state_at p u) x 0 (λ e. omega arith);
    open_deps = λ u h. get_or-set_other ws i (open_deps_at p u) x 0 (λ e. omega arith);
  }

  -- A write of what is left of a task.
  pub same_left : (t : ℕ) → t < task_count o.program → length ws ≡ word_count o.program → IsSame (graph_in o) (with_left (counters (content o.program ws)) t x) (counters (content o.program (set ws (left_at o.program t) x)))
  same_left t small long = let p = o.program in let i = left_at p t in record {
    left = λ u h. at_set_at (content p ws).left (content p (set ws i x)).left t x u (get_or-set_same ws i x 0 (omega arith)) (λ ne. get_or-set_other ws i (left_at p u) x 0 (λ e. ne (omega arith)));
    done = λ u k h j. high_done p ws x i (omega arith) u k (h, j);
    alloc = λ u h. get_or-set_other ws i (alloc_at p u) x 0 (λ e. omega arith);
    flags = λ u h. get_or-set_other ws i (flags_at p u) x 0 (λ e. omega arith);
    state = λ u h. get_or-set_other ws i (state_at p u) x 0 (λ e. omega arith);
    open_deps = λ u h. get_or-set_other ws i (open_deps_at p u) x 0 (λ e. omega arith);
  }

  -- A write of the state of a task.
  pub same_state : (t : ℕ) → t < task_count o.program → length ws ≡ word_count o.program → IsSame (graph_in o) (with_state (counters (content o.program ws)) t x) (counters (content o.program (set ws (state_at o.program t) x)))
  same_state t small long = let p = o.program in let i = state_at p t in record {
    state = λ u h. at_set_at (content p ws).state (content p (set ws i x)).state t x u (get_or-set_same ws i x 0 (omega arith)) (λ ne. get_or-set_other ws i (state_at p u) x 0 (λ e. ne (omega arith)));
    done = λ u k h j. high_done p ws x i (omega arith) u k (h, j);
    alloc = λ u h. get_or-set_other ws i (alloc_at p u) x 0 (λ e. omega arith);
    flags = λ u h. get_or-set_other ws i (flags_at p u) x 0 (λ e. omega arith);
    left = λ u h. get_or-set_other ws i (left_at p u) x 0 (λ e. omega arith);
    open_deps = λ u h. get_or-set_other ws i (open_deps_at p u) x 0 (λ e. omega arith);
  }

  -- A write of the open dependencies of a task.
  pub same_open : (t : ℕ) → t < task_count o.program → length ws ≡ word_count o.program → IsSame (graph_in o) (with_open (counters (content o.program ws)) t x) (counters (content o.program (set ws (open_deps_at o.program t) x)))
  same_open t small long = let p = o.program in let i = open_deps_at p t in record {
    open_deps = λ u h. at_set_at (content p ws).open_deps (content p (set ws i x)).open_deps t x u (get_or-set_same ws i x 0 (omega arith)) (λ ne. get_or-set_other ws i (open_deps_at p u) x 0 (λ e. ne (omega arith)));
    done = λ u k h j. high_done p ws x i (omega arith) u k (h, j);
    alloc = λ u h. get_or-set_other ws i (alloc_at p u) x 0 (λ e. omega arith);
    flags = λ u h. get_or-set_other ws i (flags_at p u) x 0 (λ e. omega arith);
    left = λ u h. get_or-set_other ws i (left_at p u) x 0 (λ e. omega arith);
    state = λ u h. get_or-set_other ws i (state_at p u) x 0 (λ e. omega arith);
  }

-- A step that changes no duty of its view and none of these words.
pub counted_still : (o : Opening) (c d : Content) (views : List View) (id : ℕ) (v w : View) → get_elem? views id ≡ some v → duties w ≡ duties v → IsSame (graph_in o) (counters c) (counters d)
    → Counted duties (graph_in o) (counters c) views → Counted duties (graph_in o) (counters d) (set views id w)
counted_still o c d views id v w at same is r = stay (graph_in o) (counters c) _ r _ (counters d) (one_view_replaces duties views id v w [] [] (duties v) at refl same) is
