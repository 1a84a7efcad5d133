-- The serial run is in the order of the world: no instance stands twice, and none after one of a task that its own comes
-- before.
use Rattle.std.proofs.Common.{◌≡◌, ℕ, ◌<◌, ◌≤◌, true, false, ◌||◌, eqb, eqb-true, List, [], ◌∷◌, refl, sym, ap, subst, ◌∙◌, arith, ◌⊎◌, inl, inr, ⊎_elim}
use Rattle.std.specs.Prelude.{slice_index}
use Rattle.std.specs.List.{All}
use Rattle.std.proofs.lemmas.Bool.{and_parts, or_cases, false_from_ne_true}
use Rattle.std.proofs.lemmas.List.Elements.{All-head, All-tail}
use Rattle.plural_map.specs.Value.{TaskValue}
use Rattle.plural_map.specs.Limits.{IsMap}
use Rattle.plural_map.specs.Order.{order_of}
use Rattle.plural_map.proofs.OrderPlaces.{places_differ}
use Rattle.plural_reach.specs.Chains.{Before, comes_before}
use Rattle.plural_reach.specs.Laws.{Reaches}
use Rattle.plural_reach.proofs.Places.{not_before}
use Rattle.plural_reach.proofs.Ranks.{before_test}
use Rattle.plural_reach.proofs.TableEntries.{reaches_all}
use Rattle.plural_serial.specs.Program.{ProgramValue}
use Rattle.plural_serial.specs.Serial.{Started, serial_of}
use Rattle.plural_serial.specs.Instances.{Inst as Instance, same, is_in, instance_of, insts as instances_of}
use Rattle.plural_serial.proofs.Turns.{Follows, InTurn, serial_run}
use Rattle.plural_order.specs.World.{Ordered}
use Rattle.plural_order.specs.ProgramWorld.{world_of}
use Rattle.plural_order.proofs.Instances.{same_is}

-- An instance that follows another is another.
pub follows_other : (tasks : List TaskValue) (s u : Started) → Follows (order_of tasks) s u → s.t ≡ u.t → s.k ≡ u.k → ⊥
follows_other tasks s u h a b = by h.step
  where
    by : (h.at < h.later) ⊎ ((h.at ≡ h.later) × (s.k < u.k)) → ⊥
    by (inl lt) = places_differ tasks h.at h.later lt h.within (h.there ∙ a ∙ sym h.here)
    by (inr q) = let k = q.1 in omega arith

-- The task of an instance that follows another doesn't come before that of the other.
pub follows_free : (tasks : List TaskValue) (s u : Started) → Follows (order_of tasks) s u → Before tasks u.t s.t → ⊥
follows_free tasks s u h b =
    not_before tasks h.at h.later (no_later h.step) h.within
    (subst (λ x. Before tasks (slice_index (order_of tasks) h.later) x) (sym h.there) (subst (λ x. Before tasks x s.t) (sym h.here) b))
  where
    no_later : {a b c d : ℕ} → (a < b) ⊎ ((a ≡ b) × (c < d)) → a ≤ b
    no_later (inl x) = omega arith
    no_later (inr y) = let z = y.0 in omega arith

differs : (tasks : List TaskValue) (s u : Started) → Follows (order_of tasks) s u → same (instance_of s) (instance_of u) ≡ false
differs tasks s u h = false_from_ne_true (same (instance_of s) (instance_of u)) (λ e.
    let parts = and_parts (eqb s.t u.t) (eqb s.k u.k) e in
    follows_other tasks s u h (eqb-true s.t u.t parts.0) (eqb-true s.k u.k parts.1))

free_of : (tasks : List TaskValue) → Reaches tasks → (s u : Started) → Follows (order_of tasks) s u → comes_before tasks u.t s.t ≡ false
free_of tasks reaches s u h = false_from_ne_true (comes_before tasks u.t s.t) (λ e. follows_free tasks s u h ((before_test tasks reaches u.t s.t).0 e))

absent_from : (tasks : List TaskValue) (s : Started) (us : List Started) → All (Follows (order_of tasks) s) us → is_in (instance_of s) (instances_of us) ≡ false
absent_from tasks s [] h = refl
absent_from tasks s (u ∷ us) h =
    ap (λ b. b || is_in (instance_of s) (instances_of us)) (differs tasks s u (All-head (Follows (order_of tasks) s) u us h))
    ∙ absent_from tasks s us (All-tail (Follows (order_of tasks) s) u us h)

none_before : (tasks : List TaskValue) → Reaches tasks → (s : Started) (us : List Started) → All (Follows (order_of tasks) s) us → (j : Instance) → is_in j (instances_of us) ≡ true → comes_before tasks j.0 s.t ≡ false
none_before tasks reaches s [] h j m = absurd cc
none_before tasks reaches s (u ∷ us) h j m = ⊎_elim
    (λ (e : same j (instance_of u) ≡ true). ap (λ (x : Instance). comes_before tasks x.0 s.t) (same_is j (instance_of u) e) ∙ free_of tasks reaches s u (All-head (Follows (order_of tasks) s) u us h))
    (λ (e : is_in j (instances_of us) ≡ true). none_before tasks reaches s us (All-tail (Follows (order_of tasks) s) u us h) j e)
    (or_cases (same j (instance_of u)) (is_in j (instances_of us)) m)

ordered_from : (p : ProgramValue) (m : List ℕ) → Reaches p.map.tasks → (ss : List Started) → InTurn (order_of p.map.tasks) ss → Ordered (world_of p m) (instances_of ss)
ordered_from p m reaches [] h = tt
ordered_from p m reaches (s ∷ ss) h = (absent_from p.map.tasks s ss h.0, none_before p.map.tasks reaches s ss h.0, ordered_from p m reaches ss h.1)

-- The serial run is in order.
pub ran_ordered : (p : ProgramValue) (m : List ℕ) → IsMap p.map → Ordered (world_of p m) (world_of p m).ran
ran_ordered p m limits = ordered_from p m (reaches_all p.map limits) (serial_of p m).ran (subst (λ (o : List ℕ). InTurn o (serial_of p m).ran) limits.ordered (serial_run p m).turn)
