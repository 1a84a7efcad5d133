-- The first counters meet the rule: the tasks without dependencies are armed, and nothing is owed.
use Rattle.std.proofs.Common.{◌≡◌, ℕ, ◌<◌, ◌≢◌, cond, List, [], ◌++◌, sym, refl, ap, ◌∙◌, subst, arith, eq-eqb, ne_eqb}
use mathlib.Core.Logic.{dite}
use native.Mathlib.Decide.{ℕ_discrete}
use Rattle.std.specs.Int.{bit_at}
use Rattle.std.proofs.lemmas.Nat.Bits.{bit_at-zero}
use Rattle.std.proofs.lemmas.List.Elements.{All-nil}
use Rattle.plural_order.specs.Sums.{sign}
use Rattle.plural_order.specs.TaskGraph.{TaskGraph, IsTaskGraph}
use Rattle.plural_order.specs.ProgramGraph.{graph_of}
use Rattle.plural_order.proofs.Sums.{below_same, below_none}
use Rattle.plural_order.proofs.ProgramGraphs.{graph_of_program}
use Rattle.plural_counters.specs.Counters.{Counters, Fits, IsCounted, first_counters}
use Rattle.plural_counters.specs.Steps.{IsSame}
use Rattle.plural_counters.specs.Laws.{FirstCounted, ProgramCounted}
use Rattle.plural_counters.specs.declared.duty.Duty.{Duty}
use Rattle.plural_counters.proofs.Sums.{sign_none, sign_some, mask_shut, mask_open}

-- The first counters meet the rule over no duty.
pub first_lone : (g : TaskGraph) (d : Counters) → IsTaskGraph g → IsSame g (first_counters g) d → IsCounted g d []
first_lone g d graph s =
    let undone : (t k : ℕ) → t < g.tasks → k < g.quota t → sign (d.done t k) ≡ 0 = λ t k h i. sign_none (d.done t k) (s.done t k h i) in
    let armed : (t : ℕ) → t < g.tasks → g.deps t ≡ 0 → d.alloc t ≡ 1 = λ t h z. s.alloc t h ∙ ap (λ b. cond b 1 0) (eq-eqb (g.deps t) 0 z) in
    let unarmed : (t : ℕ) → t < g.tasks → g.deps t ≢ 0 → d.alloc t ≡ 0 = λ t h ne. s.alloc t h ∙ ap (λ b. cond b 1 0) (ne_eqb (g.deps t) 0 ne) in
    record {
      graph = graph;
      phase = λ t h. dite (ℕ_discrete (g.deps t) 0)
          (λ z. omega (arith, sign_none (d.open_deps t) (s.open_deps t h ∙ z), mask_open (d.alloc t) (sign (d.left t)) (omega (arith, armed t h z)), sign_some (d.left t) (omega (arith, s.left t h, graph.quota_some t h))))
          (λ ne. omega (arith, sign_some (d.open_deps t) (omega (arith, s.open_deps t h)), mask_shut (d.alloc t) (sign (d.left t)) (unarmed t h ne)));
      unarmed = λ t h. dite (ℕ_discrete (g.deps t) 0)
          (λ z. omega (arith, sign_none (d.open_deps t) (s.open_deps t h ∙ z), sign_some (d.alloc t) (omega (arith, armed t h z))))
          (λ ne. omega (arith, sign_some (d.open_deps t) (omega (arith, s.open_deps t h)), sign_none (d.alloc t) (unarmed t h ne)));
      pending = λ t k h i. omega arith;
      left = λ t h. omega (arith, below_none (λ k. sign (d.done t k)) (g.quota t) (λ k i. undone t k h i), s.left t h);
      flags = λ t i h. ap (λ n. bit_at n i) (s.flags t h) ∙ (bit_at-zero i ∙ sym (sign_none _ (below_none _ (g.quota t) (λ k j. mask_shut _ (bit_at (g.ends t k) i) (omega (arith, undone t k h j))))));
      open_deps = λ u h. s.open_deps u h ∙ (graph.deps_counted u h ∙ below_same _ _ g.tasks (λ t l. omega arith));
      state = λ u i h. ap (λ n. bit_at n i) (s.state u h) ∙ (bit_at-zero i ∙ sym (sign_none _ (below_none _ g.tasks (λ t l. mask_shut 0 (bit_at (g.edges t u) i) refl))));
      fits = All-nil (Fits g d);
    }

-- With a lone view that owes nothing and was told nothing they meet it.
pub first_counted : {V : Type 0} → FirstCounted V
first_counted duties g d v graph s none = subst (λ (l : List Duty). IsCounted g d (l ++ [])) (sym none) (first_lone g d graph s)

-- Counters say the same as themselves.
pub same_itself : (g : TaskGraph) (c : Counters) → IsSame g c c
same_itself g c = record {
  alloc = λ t h. refl;
  done = λ t k h i. refl;
  flags = λ t h. refl;
  left = λ t h. refl;
  state = λ t h. refl;
  open_deps = λ t h. refl;
}

-- Those of a program meet it.
pub program_counted : ProgramCounted
program_counted p m limits = first_lone (graph_of p m) (first_counters (graph_of p m)) (graph_of_program p m limits) (same_itself (graph_of p m) (first_counters (graph_of p m)))
