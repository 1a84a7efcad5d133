-- The map of the large filter bundle is within all limits.
use Rattle.std.proofs.Common.{◌≡◌, ◌≢◌, ℕ, ◌<◌, Bool, true, false, List, [], ◌∷◌, length, get_or, ap, refl, sym, ◌∙◌, arith}
use Rattle.std.specs.Prelude.{◌&&◌, ◌||◌, ◌==◌, nat_le}
use Rattle.std.specs.List.{All, AllPairs}
use Rattle.std.proofs.lemmas.Bool.{and_parts, leb-true, eqb-true}
use Rattle.std.proofs.lemmas.Bool.Decides.{nat_tests}
use Rattle.std.proofs.lemmas.List.Elements.{All-nil, All-cons}
use Rattle.std.proofs.lemmas.List.Kept.{AllPairs-cons}
use Rattle.plural_regions.specs.Rights.{may_read}
use Rattle.plural_map.specs.declared.outcome.Dep.{Dep}
use Rattle.plural_map.specs.Value.{TaskValue, MapValue}
use Rattle.plural_map.specs.Limits.{IsTask, IsMap}
use Rattle.plural_map.specs.Order.{order_from, order_of}
use Rattle.plural_map.proofs.DeclarationOrder.{among_range}
use Rattle.plural_map.specs.declared.outcome.When.TheVariants.{Any, Code0, Code1}
use Rattle.plural_generator.specs.Tasks.{after, fir_task, top_task, best_task, loud_task, quiet_task, done_task, made_tasks, made_map}

-- ---- dependencies, up to two

no_deps_differ : AllPairs (λ (d e : Dep). d.task ≢ e.task) []
no_deps_differ i j d l h = absurd (omega (arith, h))

one_differs : (d : Dep) → AllPairs (λ (d e : Dep). d.task ≢ e.task) (d ∷ [])
one_differs d = AllPairs-cons (λ (d e : Dep). d.task ≢ e.task) d [] (All-nil (λ (e : Dep). d.task ≢ e.task)) no_deps_differ

two_differ : (d e : Dep) → d.task ≢ e.task → AllPairs (λ (d e : Dep). d.task ≢ e.task) (d ∷ e ∷ [])
two_differ d e h = AllPairs-cons (λ (d e : Dep). d.task ≢ e.task) d (e ∷ []) (All-cons (λ (e : Dep). d.task ≢ e.task) e [] h (All-nil (λ (e : Dep). d.task ≢ e.task))) (one_differs e)

one_within : (d : Dep) → d.task < 6 → All (λ (d : Dep). d.task < 6) (d ∷ [])
one_within d h = All-cons (λ (d : Dep). d.task < 6) d [] h (All-nil (λ (d : Dep). d.task < 6))

two_within : (d e : Dep) → d.task < 6 → e.task < 6 → All (λ (d : Dep). d.task < 6) (d ∷ e ∷ [])
two_within d e h k = All-cons (λ (d : Dep). d.task < 6) d (e ∷ []) h (one_within e k)

-- ---- each task

fir_inside : (k a : ℕ) → k < 1024 → may_read fir_task.regions k a ≡ true → a < 32816
fir_inside k a h r = grind (arith, nat_tests)

top_inside : (k a : ℕ) → k < 8 → may_read top_task.regions k a ≡ true → a < 32816
top_inside k a h r = grind (arith, nat_tests)

best_inside : (k a : ℕ) → k < 1 → may_read best_task.regions k a ≡ true → a < 32816
best_inside k a h r = grind (arith, nat_tests)

loud_inside : (k a : ℕ) → k < 1 → may_read loud_task.regions k a ≡ true → a < 32816
loud_inside k a h r = grind (arith, nat_tests)

quiet_inside : (k a : ℕ) → k < 1 → may_read quiet_task.regions k a ≡ true → a < 32816
quiet_inside k a h r = grind (arith, nat_tests)

done_inside : (k a : ℕ) → k < 1 → may_read done_task.regions k a ≡ true → a < 32816
done_inside k a h r = grind (arith, nat_tests)

-- What is said of a task's numbers, as a test.
abbrev fits : TaskValue → Bool
fits t =
    (nat_le 1 t.quota && nat_le t.quota 16384) && ((t.dup || t.quota == 1)
    && ((nat_le 1 t.budget && nat_le t.budget 100000000) && (nat_le (length t.deps) 16 && nat_le (length t.regions) 8)))

-- A task whose numbers pass the test, with such dependencies and regions, is within the limits.
within : (t : TaskValue) → fits t ≡ true → All (λ (d : Dep). d.task < 6) t.deps → AllPairs (λ (d e : Dep). d.task ≢ e.task) t.deps
    → ((k a : ℕ) → k < t.quota → may_read t.regions k a ≡ true → a < 32816) → IsTask 32816 made_tasks t
within t h deps differ inside =
    let quota = and_parts (nat_le 1 t.quota && nat_le t.quota 16384) _ h in
    let kind = and_parts (t.dup || t.quota == 1) _ quota.1 in
    let budget = and_parts (nat_le 1 t.budget && nat_le t.budget 100000000) _ kind.1 in
    let counts = and_parts (nat_le (length t.deps) 16) (nat_le (length t.regions) 8) budget.1 in
    let quotas = and_parts (nat_le 1 t.quota) (nat_le t.quota 16384) quota.0 in
    let budgets = and_parts (nat_le 1 t.budget) (nat_le t.budget 100000000) budget.0 in
    record {
      quota_low = leb-true 1 t.quota quotas.0;
      quota_high = leb-true t.quota 16384 quotas.1;
      regular = λ n. by_kind n kind.0;
      budget_low = leb-true 1 t.budget budgets.0;
      budget_high = leb-true t.budget 100000000 budgets.1;
      few_deps = leb-true (length t.deps) 16 counts.0;
      deps_within = deps;
      deps_differ = differ;
      few_regions = leb-true (length t.regions) 8 counts.1;
      inside = inside;
    }
  where
    by_kind : t.dup ≡ false → (t.dup || t.quota == 1) ≡ true → t.quota ≡ 1
    by_kind n e = eqb-true t.quota 1 (ap (λ b. b || t.quota == 1) (sym n) ∙ e)

fir_within : IsTask 32816 made_tasks fir_task
fir_within = within fir_task refl (All-nil (λ (d : Dep). d.task < 6)) no_deps_differ fir_inside

top_within : IsTask 32816 made_tasks top_task
top_within = within top_task refl (one_within (after 0 Any) (omega arith)) (one_differs (after 0 Any)) top_inside

best_within : IsTask 32816 made_tasks best_task
best_within = within best_task refl (one_within (after 1 Any) (omega arith)) (one_differs (after 1 Any)) best_inside

loud_within : IsTask 32816 made_tasks loud_task
loud_within = within loud_task refl (one_within (after 2 Code1) (omega arith)) (one_differs (after 2 Code1)) loud_inside

quiet_within : IsTask 32816 made_tasks quiet_task
quiet_within = within quiet_task refl (one_within (after 2 Code0) (omega arith)) (one_differs (after 2 Code0)) quiet_inside

done_within : IsTask 32816 made_tasks done_task
done_within =
    within done_task refl (two_within (after 3 Any) (after 4 Any) (omega arith) (omega arith))
    (two_differ (after 3 Any) (after 4 Any) (λ e. omega (arith, e))) done_inside

-- ---- the map

-- Each task is within the limits of a task.
each_within : All (IsTask 32816 made_tasks) made_tasks
each_within =
    All-cons (IsTask 32816 made_tasks) fir_task (top_task ∷ best_task ∷ loud_task ∷ quiet_task ∷ done_task ∷ []) fir_within
    (All-cons (IsTask 32816 made_tasks) top_task (best_task ∷ loud_task ∷ quiet_task ∷ done_task ∷ []) top_within
    (All-cons (IsTask 32816 made_tasks) best_task (loud_task ∷ quiet_task ∷ done_task ∷ []) best_within
    (All-cons (IsTask 32816 made_tasks) loud_task (quiet_task ∷ done_task ∷ []) loud_within
    (All-cons (IsTask 32816 made_tasks) quiet_task (done_task ∷ []) quiet_within
    (All-cons (IsTask 32816 made_tasks) done_task ([]) done_within
    (All-nil (IsTask 32816 made_tasks)))))))

-- ---- names

none_other : (t : TaskValue) → All (λ (u : TaskValue). t.name ≢ u.name) []
none_other t = All-nil (λ (u : TaskValue). t.name ≢ u.name)

-- Names with other first bytes are others.
other : (t u : TaskValue) (us : List TaskValue) → (get_or t.name 0 0 ≡ get_or u.name 0 0 → ⊥) → All (λ (u : TaskValue). t.name ≢ u.name) us → All (λ (u : TaskValue). t.name ≢ u.name) (u ∷ us)
other t u us h rest = All-cons (λ (u : TaskValue). t.name ≢ u.name) u us (λ e. h (ap (λ (xs : List ℕ). get_or xs 0 0) e)) rest

one_more : (t : TaskValue) (us : List TaskValue) → All (λ (u : TaskValue). t.name ≢ u.name) us → AllPairs (λ (t u : TaskValue). t.name ≢ u.name) us → AllPairs (λ (t u : TaskValue). t.name ≢ u.name) (t ∷ us)
one_more t us h rest = AllPairs-cons (λ (t u : TaskValue). t.name ≢ u.name) t us h rest

none_named : AllPairs (λ (t u : TaskValue). t.name ≢ u.name) []
none_named i j d l h = absurd (omega (arith, h))

-- No two tasks have one name.
names_differ : AllPairs (λ (t u : TaskValue). t.name ≢ u.name) made_tasks
names_differ =
    one_more fir_task (top_task ∷ best_task ∷ loud_task ∷ quiet_task ∷ done_task ∷ [])
    (other fir_task top_task (best_task ∷ loud_task ∷ quiet_task ∷ done_task ∷ []) (λ e. omega (arith, e)) (other fir_task best_task (loud_task ∷ quiet_task ∷ done_task ∷ []) (λ e. omega (arith, e)) (other fir_task loud_task (quiet_task ∷ done_task ∷ []) (λ e. omega (arith, e)) (other fir_task quiet_task (done_task ∷ []) (λ e. omega (arith, e)) (other fir_task done_task ([]) (λ e. omega (arith, e)) (none_other fir_task))))))
    (one_more top_task (best_task ∷ loud_task ∷ quiet_task ∷ done_task ∷ [])
    (other top_task best_task (loud_task ∷ quiet_task ∷ done_task ∷ []) (λ e. omega (arith, e)) (other top_task loud_task (quiet_task ∷ done_task ∷ []) (λ e. omega (arith, e)) (other top_task quiet_task (done_task ∷ []) (λ e. omega (arith, e)) (other top_task done_task ([]) (λ e. omega (arith, e)) (none_other top_task)))))
    (one_more best_task (loud_task ∷ quiet_task ∷ done_task ∷ [])
    (other best_task loud_task (quiet_task ∷ done_task ∷ []) (λ e. omega (arith, e)) (other best_task quiet_task (done_task ∷ []) (λ e. omega (arith, e)) (other best_task done_task ([]) (λ e. omega (arith, e)) (none_other best_task))))
    (one_more loud_task (quiet_task ∷ done_task ∷ [])
    (other loud_task quiet_task (done_task ∷ []) (λ e. omega (arith, e)) (other loud_task done_task ([]) (λ e. omega (arith, e)) (none_other loud_task)))
    (one_more quiet_task (done_task ∷ [])
    (other quiet_task done_task ([]) (λ e. omega (arith, e)) (none_other quiet_task))
    (one_more done_task ([])
    (none_other done_task)
    none_named)))))

-- The order is that of the numbers.
ordered : 0 ∷ 1 ∷ 2 ∷ 3 ∷ 4 ∷ 5 ∷ [] ≡ order_of made_tasks
unfolding order_from
ordered = refl

-- The map is within all limits.
pub made_within : IsMap made_map
unfolding made_map
made_within = record {
  words_low = omega arith;
  words_high = omega arith;
  words_whole = refl;
  sets = refl;
  ways_low = omega arith;
  ways_high = omega arith;
  few_tasks = omega arith;
  few_instances = omega arith;
  names_differ = names_differ;
  each = each_within;
  ordered = ordered;
  reaches = λ t h. among_range 0 6 t (omega arith) (omega (arith, h));
}

-- The map of these tasks in this order.
abbrev pub with_parts : List TaskValue → List ℕ → MapValue
with_parts tasks order = record { words = 32816; sets = 16; ways = 2; tasks = tasks; order = order }

-- With the tasks and the order of the map it is the map.
pub parts_made : (tasks : List TaskValue) (order : List ℕ) → tasks ≡ made_tasks → order ≡ 0 ∷ 1 ∷ 2 ∷ 3 ∷ 4 ∷ 5 ∷ [] → with_parts tasks order ≡ made_map
unfolding made_map
parts_made tasks order t o = λ i. record { words = 32816; sets = 16; ways = 2; tasks = t i; order = o i }
