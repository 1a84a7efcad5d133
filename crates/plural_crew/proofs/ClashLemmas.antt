-- Clashes of two tasks as meetings of their regions, and the first clash of a map.
use Rattle.std.proofs.Common.{ℕ, ◌≡◌, ◌≢◌, ◌⊎◌, ◌<◌, ◌≤◌, true, false, List, length, get_or, Option, Some, None, sym, ap, ◌∙◌, subst, inl, inr, ⊎_elim, arith, eq-eqb}
use Rattle.std.specs.Prelude.{◌==◌, IfSome, IfNone, is_some}
use Rattle.std.specs.List.{All}
use Rattle.std.proofs.lemmas.Bool.{cases_lt, cases_eq, eqb-true}
use Rattle.std.proofs.lemmas.List.{get_or_default, get_or_past}
use Rattle.plural_regions.specs.declared.region.Region.{Region}
use Rattle.plural_regions.specs.declared.triple.Meet.{Meet}
use Rattle.plural_regions.specs.Rights.{IsIn, InReads}
use Rattle.plural_regions.specs.Search.{IsSearchable}
use Rattle.plural_regions.specs.Meeting.{Meets}
use Rattle.plural_regions.proofs.Regions.{reads_iff}
use Rattle.plural_map.specs.Value.{TaskValue, MapValue, no_task, task_of}
use Rattle.plural_map.specs.Limits.{IsTask, IsMap}
use Rattle.plural_reach.specs.Branches.{NeedsCode, Exclusive}
use Rattle.plural_crew.specs.declared.accepted.Clash.{Clash}
use Rattle.plural_crew.specs.Clashes.{regions_of, quota_of, MayOverlap, IsClash, IsAccepted, IsFirstClash}
use Rattle.plural_crew.specs.Search.{IsLeastWith, IsLeastOf, OneWrites, SomeMeet, ClashAt, NoneClash}
use Rattle.plural_crew.proofs.LeastLemmas.{least_same}

-- ---- a task by its number

task_at : (tasks : List TaskValue) (t : ℕ) (task : TaskValue) → t < length tasks → task ≡ get_or tasks t task → task_of tasks t ≡ task
task_at tasks t task l e = get_or_default tasks t no_task task l ∙ sym e

-- The regions of a number that is a task's are that task's.
pub regions_at : (tasks : List TaskValue) (t : ℕ) (task : TaskValue) → t < length tasks → task ≡ get_or tasks t task → regions_of tasks t ≡ task.regions
regions_at tasks t task l e = ap (λ (x : TaskValue). x.regions) (task_at tasks t task l e)

-- So are its instances.
pub quota_at : (tasks : List TaskValue) (t : ℕ) (task : TaskValue) → t < length tasks → task ≡ get_or tasks t task → quota_of tasks t ≡ task.quota
quota_at tasks t task l e = ap (λ (x : TaskValue). x.quota) (task_at tasks t task l e)

-- A number past the tasks has no instances.
pub quota_past : (tasks : List TaskValue) (t : ℕ) → length tasks ≤ t → quota_of tasks t ≡ 0
quota_past tasks t h = ap (λ (x : TaskValue). x.quota) (get_or_past tasks t no_task h)

few_instances : (m : MapValue) → IsMap m → (t : ℕ) (task : TaskValue) → t < length m.tasks → task ≡ get_or m.tasks t task → task.quota ≤ 16384
few_instances m is t task l e =
    let each : IsTask m.words m.tasks task = subst (λ (x : TaskValue). IsTask m.words m.tasks x) (sym e) (is.each t task l) in
    each.quota_high

-- The regions of a task of a map can be searched.
pub searchable : (m : MapValue) → IsMap m → (t : ℕ) (task : TaskValue) → t < length m.tasks → task ≡ get_or m.tasks t task → All (λ r. IsSearchable r task.quota) task.regions
searchable m is t task l e = λ n d within.
    let each : IsTask m.words m.tasks task = subst (λ (x : TaskValue). IsTask m.words m.tasks x) (sym e) (is.each t task l) in
    let high = is.words_high in
    record {
      few = each.quota_high;
      inside = λ k below a member.
          let reads : InReads task.regions k a = (n, get_or task.regions n d, within, get_or_default task.regions n (get_or task.regions n d) d within, member) in
          let inside = each.inside k a below ((reads_iff task.regions k a).1 reads) in
          omega arith;
    }

-- ---- clashes of two tasks

one_task : (t u : ℕ) → t ≡ u → (t == u) ≡ true
one_task t u e = eq-eqb t u e

clash_from : (tasks : List TaskValue) (t u k l a : ℕ) → t ≤ u → MayOverlap tasks t u → SomeMeet (regions_of tasks t) (quota_of tasks t) (regions_of tasks u) (quota_of tasks u) (t == u) k l a
    → ClashAt tasks t u k l a
clash_from tasks t u k l a ordered overlap h =
    let r = h.1 in let h' = h.4 in let s = h'.1 in
    let writes : OneWrites r s = h'.4.0 in
    let m : Meets r (quota_of tasks t) s (quota_of tasks u) (t == u) k l a = h'.4.1 in (
      record {
        first = m.first_below;
        second = m.second_below;
        differ = ⊎_elim (λ (e : t ≡ u). inr (λ (f : k ≡ l). let o = m.in_order (one_task t u e) in omega arith)) (λ (e : t ≢ u). inl e) (cases_eq t u);
        overlap = overlap;
        first_reads = (h.0, r, h.2, h.3, m.in_first);
        second_reads = (h'.0, s, h'.2, h'.3, m.in_second);
        writes = ⊎_elim (λ w. inl (h.0, r, h.2, h.3, (w, m.in_first))) (λ w. inr (h'.0, s, h'.2, h'.3, (w, m.in_second))) writes;
      },
      record { tasks = ordered; instances = λ e. m.in_order (one_task t u e) },
    )

clash_to : (tasks : List TaskValue) (t u k l a : ℕ) → ClashAt tasks t u k l a → SomeMeet (regions_of tasks t) (quota_of tasks t) (regions_of tasks u) (quota_of tasks u) (t == u) k l a
clash_to tasks t u k l a h = ⊎_elim
    (λ w. let s = h.0.second_reads in (w.0, w.1, w.2, w.3, (s.0, s.1, s.2, s.3, (inl w.4.0, meets w.1 s.1 w.4.1 s.4))))
    (λ w. let r = h.0.first_reads in (r.0, r.1, r.2, r.3, (w.0, w.1, w.2, w.3, (inr w.4.0, meets r.1 w.1 r.4 w.4.1))))
    h.0.writes
  where
    meets : (r s : Region) → IsIn r k a → IsIn s l a → Meets r (quota_of tasks t) s (quota_of tasks u) (t == u) k l a
    meets r s p q = record {
      first_below = h.0.first;
      second_below = h.0.second;
      in_order = λ e. h.1.instances (eqb-true t u e);
      in_first = p;
      in_second = q;
    }

-- If the two may overlap, the least meeting of their regions is the least clash.
pub clash_least : (tasks : List TaskValue) (t u : ℕ) (o : Option Meet) → t ≤ u → MayOverlap tasks t u → IsLeastOf (SomeMeet (regions_of tasks t) (quota_of tasks t) (regions_of tasks u) (quota_of tasks u) (t == u)) o
    → IsLeastOf (ClashAt tasks t u) o
clash_least tasks t u o ordered overlap h = least_same (SomeMeet (regions_of tasks t) (quota_of tasks t) (regions_of tasks u) (quota_of tasks u) (t == u)) (ClashAt tasks t u) o
    (λ k l a. clash_from tasks t u k l a ordered overlap) (λ k l a. clash_to tasks t u k l a) h

-- ---- all clashes of one task, and of all

-- A task that isn't there clashes with none.
pub none_past : (tasks : List TaskValue) (t u : ℕ) → length tasks ≤ u → NoneClash tasks t u
none_past tasks t u h = λ k l a c. let e = quota_past tasks u h in let b = c.0.second in omega arith

-- A first task that isn't there clashes with none.
pub none_past_first : (tasks : List TaskValue) (t u : ℕ) → length tasks ≤ t → NoneClash tasks t u
none_past_first tasks t u h = λ k l a c. let e = quota_past tasks t h in let b = c.0.first in omega arith

-- An earlier second task gives no clash in normal order.
pub none_earlier : (tasks : List TaskValue) (t u : ℕ) → u < t → NoneClash tasks t u
none_earlier tasks t u h = λ k l a c. let o = c.1.tasks in omega arith

-- ---- normal order

overlap_turned : (tasks : List TaskValue) (t u : ℕ) → MayOverlap tasks t u → MayOverlap tasks u t
overlap_turned tasks t u (inl e) = inl (sym e)
overlap_turned tasks t u (inr h) = inr (h.1, h.0, (λ x. h.2 (turned x)))
  where
    turned : Exclusive tasks u t → Exclusive tasks t u
    turned x = ((λ (e : t ≡ u). x.0 (sym e)), x.1, ⊎_elim (λ (c : NeedsCode tasks u x.1 0 × NeedsCode tasks t x.1 1). inr (c.1, c.0)) (λ (c : NeedsCode tasks u x.1 1 × NeedsCode tasks t x.1 0). inl (c.1, c.0)) x.2)

clash_turned : (tasks : List TaskValue) (t k u l a : ℕ) → IsClash tasks t k u l a → IsClash tasks u l t k a
clash_turned tasks t k u l a c = record {
  first = c.second;
  second = c.first;
  differ = ⊎_elim (λ (h : t ≢ u). inl (λ (e : u ≡ t). h (sym e))) (λ (h : k ≢ l). inr (λ (e : l ≡ k). h (sym e))) c.differ;
  overlap = overlap_turned tasks t u c.overlap;
  first_reads = c.second_reads;
  second_reads = c.first_reads;
  writes = ⊎_elim (λ w. inr w) (λ w. inl w) c.writes;
}

-- If no two tasks clash in normal order, none clash.
pub accepted_from : (tasks : List TaskValue) → ((t u : ℕ) → NoneClash tasks t u) → IsAccepted tasks
accepted_from tasks none t k u l a c = ⊎_elim
    (λ (h : t < u). none t u k l a (c, record { tasks = omega arith; instances = λ e. absurd (omega arith) }))
    (λ (h : u ≤ t). ⊎_elim
    (λ (g : u < t). none u t l k a (clash_turned tasks t k u l a c, record { tasks = h; instances = λ e. absurd (omega arith) }))
    (λ (g : t ≤ u). same (omega arith))
    (cases_lt u t))
    (cases_lt t u)
  where
    same : t ≡ u → ⊥
    same e = ⊎_elim
        (λ (h : k < l). none t u k l a (c, record { tasks = omega arith; instances = λ f. h }))
        (λ (h : l ≤ k). none u t l k a (clash_turned tasks t k u l a c, record { tasks = omega arith; instances = λ f. less h c.differ }))
        (cases_lt k l)
      where
        less : l ≤ k → (t ≢ u) ⊎ (k ≢ l) → l < k
        less h (inl n) = absurd (n e)
        less h (inr n) = omega (arith, n)

-- ---- the first clash

first_of : (tasks : List TaskValue) (t u k l a : ℕ) → IsLeastWith (ClashAt tasks t u) k l a → ((w : ℕ) → w < u → NoneClash tasks t w) → ((v : ℕ) → v < t → (w : ℕ) → NoneClash tasks v w)
    → IsFirstClash tasks t k u l a
first_of tasks t u k l a h with_first earlier = record {
  clash = h.has.0;
  ordered = h.has.1;
  first = λ v i w j b c o. ⊎_elim (λ (g : v < t). absurd (earlier v g w i j b (c, o))) (λ (g : t ≤ v). g) (cases_lt v t);
  second = λ i w j b c o. ⊎_elim (λ (g : w < u). absurd (with_first w g i j b (c, o))) (λ (g : u ≤ w). g) (cases_lt w u);
  least = λ i j b c o. h.least i j b (c, o);
}

-- The first clash of the first task that has one is the first of all.
pub found_first : (tasks : List TaskValue) (t : ℕ) (o : Option Clash) → ((v : ℕ) → v < t → (w : ℕ) → NoneClash tasks v w) → IfSome o (λ c. c.t ≡ t)
    → IfSome o (λ c. IsLeastWith (ClashAt tasks t c.u) c.k c.l c.a) → IfSome o (λ c. (w : ℕ) → w < c.u → NoneClash tasks t w) → IfSome o (λ c. IsFirstClash tasks c.t c.k c.u c.l c.a)
found_first tasks t None earlier task found first = found
found_first tasks t (Some c) earlier task found first = subst (λ (x : ℕ). IsFirstClash tasks x c.k c.u c.l c.a) (sym task) (first_of tasks t c.u c.k c.l c.a found first earlier)

-- If a search found nothing, what holds then holds.
pub none_found : {X : Type 0} {P : Type 0} (o : Option X) → false ≡ is_some o → IfNone o P → P
none_found None e h = h
none_found (Some x) e h = absurd cc
