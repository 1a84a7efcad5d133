-- Seats that are split off and joined keep the rule, and no duty is lost by it.
use Rattle.std.proofs.Common.{◌≡◌, ℕ, List, [], ◌++◌, sym, refl, ap, ◌∙◌, subst}
use Rattle.std.proofs.lemmas.List.{map-append}
use Rattle.plural_map.specs.declared.outcome.Outcome.{Outcome}
use Rattle.plural_counters.specs.Counters.{Counters}
use Rattle.plural_counters.specs.Steps.{IsSame, as_duties}
use Rattle.plural_counters.specs.declared.duty.Duty.{Duty}
use Rattle.plural_counters.specs.declared.duty.Duty.TheVariants.{Told}
use Rattle.plural_counters.proofs.Instances.{stay}
use Rattle.plural_counters.proofs.Views.{split_keeps_duties, join_keeps_duties}
use Rattle.plural_rule.specs.Opening.{Opening, graph_in}
use Rattle.plural_rule.specs.Content.{content}
use Rattle.plural_rule.specs.Rule.{OwesAsRole}
use Rattle.plural_rule.specs.Steps.{root_after, new_seat, joined, spent}
use Rattle.plural_rule.specs.Kept.{duties, counters}
use Rattle.plural_rule.specs.Laws.{SplitsSeat, JoinsSeat}
use Rattle.plural_rule.specs.declared.view.View.{View}
use Rattle.plural_rule.specs.declared.view.Role.{Role}
use Rattle.plural_rule.proofs.Places.{set_else}
use Rattle.plural_rule.proofs.Seats.{splits, joins}

same_counters : (o : Opening) (c : Counters) → IsSame (graph_in o) c c
same_counters o c = record { alloc = λ t h. refl; done = λ t n h i. refl; flags = λ t h. refl; left = λ t h. refl; state = λ t h. refl; open_deps = λ t h. refl }

-- A seat is split off.
pub splits_seat : SplitsSeat
splits_seat o ws views v outs core k at root away low =
    let c = counters (content o.program ws) in record {
      long = k.long;
      narrow = k.narrow;
      rule = splits o (content o.program ws) views v outs core at k.rule root away low;
      counted = stay (graph_in o) c _ k.counted _ c (split_keeps_duties duties views 0 v (root_after v core) (new_seat v core) at refl refl) (same_counters o c);
    }

-- The duties of both views are those of the joined one.
duties_joined : (v s : View) → v.owes ≡ [] → s.owes ≡ [] → duties (joined v s) ≡ duties v ++ duties s
duties_joined v s none nothing =
    let told : List (ℕ × Outcome) → List Duty = as_duties in
    ap (λ (l : List Duty). (l ++ s.owes) ++ told (v.told ++ s.told)) none
    ∙ (ap (λ (l : List Duty). l ++ told (v.told ++ s.told)) nothing
    ∙ (map-append (λ (x : ℕ × Outcome). Told x.0 x.1) v.told s.told
    ∙ sym (ap (λ (l : List Duty). (l ++ told v.told) ++ (s.owes ++ told s.told)) none ∙ ap (λ (l : List Duty). told v.told ++ (l ++ told s.told)) nothing)))

-- A seat is joined.
pub joins_seat : JoinsSeat
joins_seat o ws views other v s outs core left k at apart there root seat free nothing =
    let c = counters (content o.program ws) in
    let owed = subst (λ (r : Role). OwesAsRole v r) root (k.rule.seats.owes 0 v at) in
    record {
      long = k.long;
      narrow = k.narrow;
      rule = joins o (content o.program ws) views other v s outs core left at apart there k.rule root seat free nothing;
      counted = stay (graph_in o) c _ k.counted _ c
          (join_keeps_duties duties views 0 other v s (joined v s) (spent left) at apart (set_else views 0 other (joined v s) apart ∙ there) (duties_joined v s owed nothing) refl) (same_counters o c);
    }
