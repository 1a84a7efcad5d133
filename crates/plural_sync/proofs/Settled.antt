-- What a step leaves of a seat: what it had, how far it has told its tasks, and room for what is pending.
use Rattle.std.proofs.Common.{◌≡◌, ◌∙◌, ℕ, zero, suc, ◌+◌, ◌<◌, ◌≤◌, Bool, false, cond, le-ltb, lt-ltb, List, [], ◌∷◌, ◌++◌, length, map, reverse, get_or, All, Contains, append_assoc, refl, sym, ap, subst, arith}
use mathlib.Core.Logic.{dite}
use native.Mathlib.Decide.{ℕ_discrete, dec_le}
use Rattle.std.specs.Option.{option_map_or}
use Rattle.std.proofs.lemmas.List.{get_or-set_other, append-nil, length-reverse}
use Rattle.std.proofs.lemmas.List.Elements.{All-head, Contains-append_right}
use Rattle.plural_map.specs.declared.outcome.Outcome.{Outcome}
use Rattle.plural_map.specs.Value.{TaskValue}
use Rattle.plural_reach.specs.Chains.{deps_of}
use Rattle.plural_order.specs.Sums.{sum_over, times}
use Rattle.plural_order.specs.TaskGraph.{TaskGraph}
use Rattle.plural_order.specs.ProgramGraph.{bits_of_end, bits_of_dep, when_on, successors_of}
use Rattle.plural_order.proofs.Dependencies.{successor_depends}
use Rattle.plural_counters.specs.Counters.{IsSound}
use Rattle.plural_counters.specs.Duties.{phases_of, progress_of, IsOfGraph}
use Rattle.plural_counters.specs.Steps.{tell_next, as_duties, owed_in, told_in}
use Rattle.plural_counters.specs.declared.duty.Duty.{Duty}
use Rattle.plural_counters.specs.declared.duty.Duty.TheVariants.{Tell, Told, Arm}
use Rattle.plural_counters.proofs.Sums.{one_same, sum_append}
use Rattle.plural_counters.proofs.SoundViews.{room_for_phases}
use Rattle.plural_counters.proofs.Views.{one_duty_replaces}
use Rattle.plural_rule.specs.Opening.{Opening, graph_in, task_count, record_of, ends_of, edges_of, outcome_of}
use Rattle.plural_rule.specs.Kept.{duties}
use Rattle.plural_words.specs.Seen.{WordsSeen, SeatSeen, IsSeatOf, seat_with}
use Rattle.plural_words.specs.Settling.{without, settled, armed_now}
use Rattle.plural_words.proofs.Owed.{without_first, first_there}
use Rattle.plural_sync.specs.Deliveries.{IsKept}
use Rattle.plural_sync.specs.Pending.{tell_of, tells, IsPending, progress_in}
use Rattle.plural_sync.specs.declared.pending.Telling.{Telling}

-- ---- what the seat had

-- Nothing is lost if nothing happens.
pub kept_same : (s : SeatSeen) → IsKept s s
kept_same s = record { table = refl; core = refl; stage = refl; looks = refl; losses = refl; found = λ t. omega arith; told = λ x h. h }

-- Nothing is lost by two steps that lose nothing.
pub kept_then : (a b c : SeatSeen) → IsKept a b → IsKept b c → IsKept a c
kept_then a b c k l = record {
  table = l.table ∙ k.table;
  core = l.core ∙ k.core;
  stage = l.stage ∙ k.stage;
  looks = l.looks ∙ k.looks;
  losses = l.losses ∙ k.losses;
  found = λ t. omega (arith, k.found t, l.found t);
  told = λ x h. l.told x (k.told x h);
}

-- A duty that gives way to others takes nothing with it.
pub kept_settled : (s n : SeatSeen) (d : Duty) (new : List Duty) → n ≡ seat_with s (settled s.view d new) → IsKept s n
kept_settled s n d new e = subst (λ (x : SeatSeen). IsKept s x) (sym e) (record {
  table = refl;
  core = refl;
  stage = refl;
  looks = refl;
  losses = refl;
  found = λ t. omega arith;
  told = λ x h. Contains-append_right (told_in new) s.view.told x h;
})

-- Nor does a task that is armed and wasn't.
pub kept_armed : (s n : SeatSeen) (t : ℕ) → n ≡ seat_with s (armed_now s.view t) → get_or s.view.found t 0 ≡ 0 → IsKept s n
kept_armed s n t e none = subst (λ (x : SeatSeen). IsKept s x) (sym e) (record {
  table = refl;
  core = refl;
  stage = refl;
  looks = refl;
  losses = refl;
  found = λ u. dite (ℕ_discrete u t)
      (λ q. omega (arith, none, ap (λ (x : ℕ). get_or s.view.found x 0) q))
      (λ ne. omega (arith, get_or-set_other s.view.found t u 1 0 ne));
  told = λ x h. h;
})

-- ---- how far it has told its tasks

-- A step moves the progress by that of the new duties less that of the old one.
pub progress_settled : (w : WordsSeen) (s n : SeatSeen) (d : Duty) (rest new : List Duty) → s.view.owes ≡ d ∷ rest → n ≡ seat_with s (settled s.view d new)
    → progress_in w n + progress_of (graph_in w.opening) d ≡ progress_in w s + sum_over (progress_of (graph_in w.opening)) new
progress_settled w s n d rest new owes e =
    let f = progress_of (graph_in w.opening) in
    let v = s.view in
    let x = settled v d new in
    let others : without d v.owes ≡ rest = ap (without d) owes ∙ without_first d rest in
    let was : duties v ≡ ([] ++ d ∷ rest) ++ as_duties v.told = ap (λ (o : List Duty). o ++ as_duties v.told) owes in
    let now : duties x ≡ (owed_in new ++ ([] ++ rest)) ++ as_duties (told_in new ++ v.told) = ap (λ (o : List Duty). (owed_in new ++ o) ++ as_duties (told_in new ++ v.told)) others in
    let moved = (one_duty_replaces duties (v ∷ []) 0 v x d new [] rest v.told refl was now).sums f in
    omega (arith, moved, ap (sum_over f) (append-nil (duties v)), ap (sum_over f) (append-nil (duties x)), ap (λ (y : SeatSeen). progress_in w y) e)

-- To arm a task doesn't move it.
pub progress_armed : (w : WordsSeen) (s n : SeatSeen) (t : ℕ) (rest : List Duty) → s.view.owes ≡ Arm t ∷ rest → n ≡ seat_with s (armed_now s.view t) → progress_in w n ≡ progress_in w s
progress_armed w s n t rest owes e =
    let f = progress_of (graph_in w.opening) in
    let v = s.view in
    let was : sum_over f (duties v) ≡ 0 + sum_over f (rest ++ as_duties v.told) = ap (λ (o : List Duty). sum_over f (o ++ as_duties v.told)) owes in
    let others : without (Arm t) v.owes ≡ rest = ap (without (Arm t)) owes ∙ without_first (Arm t) rest in
    let now : sum_over f (without (Arm t) v.owes ++ as_duties v.told) ≡ sum_over f (rest ++ as_duties v.told) = ap (λ (o : List Duty). sum_over f (o ++ as_duties v.told)) others in
    omega (arith, was, now, ap (λ (y : SeatSeen). progress_in w y) e)

-- What there is of a task after its successor at place e is one further than that.
pub progress_next : (g : TaskGraph) (t : ℕ) (o : Outcome) (e : ℕ) → e < length (g.successors t) → sum_over (progress_of g) (tell_next (g.successors t) t o e) ≡ e + 2
progress_next g t o e h =
    let n = length (g.successors t) in
    let P : Bool → Type 0 = λ b. sum_over (progress_of g) (cond b (Tell t o (e + 1) false ∷ []) (Told t o ∷ [])) ≡ e + 2 in
    dite (dec_le n (e + 1))
    (λ le. subst P (sym (le-ltb (e + 1) n le)) (omega (arith, h, le)))
    (λ gt. let lt : e + 1 < n = omega arith in subst P (sym (lt-ltb (e + 1) n lt)) (omega arith))

-- ---- the first duty

-- It is owed.
pub first_owed : (w : WordsSeen) (s : SeatSeen) (d : Duty) (l : List Telling) → IsPending w s (d ∷ []) l → Contains s.view.owes d
first_owed w s d l p = subst (λ (o : List Duty). Contains o d) (sym p.owes) (first_there d (tells l))

-- What it gave way to is owed in its place.
pub pending_settled : (w : WordsSeen) (s n : SeatSeen) (d : Duty) (new : List Duty) (l : List Telling) → IsPending w s (d ∷ []) l → IsSeatOf w n → n ≡ seat_with s (settled s.view d new) → IsSound (graph_in w.opening) (duties n.view)
    → IsPending w n (owed_in new) l
pending_settled w s n d new l p of e sound = record {
  of = of;
  sound = sound;
  owes = ap (λ (x : SeatSeen). x.view.owes) e ∙ ap (λ (o : List Duty). owed_in new ++ o) (ap (without d) p.owes ∙ without_first d (tells l));
}

-- After a task is armed the others are owed.
pub pending_armed : (w : WordsSeen) (s n : SeatSeen) (t : ℕ) (l : List Telling) → IsPending w s (Arm t ∷ []) l → IsSeatOf w n → n ≡ seat_with s (armed_now s.view t) → IsSound (graph_in w.opening) (duties n.view) → IsPending w n [] l
pending_armed w s n t l p of e sound = record {
  of = of;
  sound = sound;
  owes = ap (λ (x : SeatSeen). x.view.owes) e ∙ (ap (without (Arm t)) p.owes ∙ without_first (Arm t) (tells l));
}

-- What there is to tell of further tasks is owed first.
pub pending_begun : (w : WordsSeen) (s : SeatSeen) (first more : List Duty) (l k : List Telling) → IsPending w s (first ++ more) l → tells k ≡ more ++ tells l → IsPending w s first k
pending_begun w s first more l k p e = record {
  of = p.of;
  sound = p.sound;
  owes = p.owes ∙ (append_assoc first more (tells l) ∙ ap (λ (o : List Duty). first ++ o) (sym e));
}

-- It fits the graph.
pub first_fits : (w : WordsSeen) (s : SeatSeen) (d : Duty) (l : List Telling) → IsPending w s (d ∷ []) l → IsOfGraph (graph_in w.opening) d
first_fits w s d l p =
    let P = IsOfGraph (graph_in w.opening) in
    All-head P d (tells l ++ as_duties s.view.told) (subst (λ (o : List Duty). All P (o ++ as_duties s.view.told)) p.owes p.sound.of_graph)

phases_told : (l : List Telling) → sum_over phases_of (map tell_of l) ≡ length l
phases_told [] = refl
phases_told (x ∷ xs) = omega (arith, phases_told xs)

-- If it says a phase, there is room for one task more.
pub room : (w : WordsSeen) (s : SeatSeen) (d : Duty) (l : List Telling) → IsPending w s (d ∷ []) l → phases_of d ≡ 1 → task_count w.opening.program ≤ 256 → length l < 256
room w s d l p one few =
    let f = phases_of in
    let all = room_for_phases (graph_in w.opening) (duties s.view) p.sound in
    let own : sum_over f s.view.owes ≡ phases_of d + sum_over f (tells l) = ap (sum_over f) p.owes in
    omega (arith, few, one, all, own, sum_append f s.view.owes (as_duties s.view.told), phases_told (reverse l), length-reverse l)

-- ---- successors

at_times : (l : List ℕ) (e : ℕ) → e < length l → 1 ≤ times (get_or l e 0) l
at_times [] e h = absurd (omega arith)
at_times (x ∷ xs) zero h = omega (arith, one_same x x refl)
at_times (x ∷ xs) (suc e) h = let k : e < length xs = omega arith in omega (arith, at_times xs e k)

-- A successor is a task.
pub successor_small : (tasks : List TaskValue) (t e : ℕ) → e < length (successors_of tasks t) → get_or (successors_of tasks t) e 0 < length tasks
successor_small tasks t e h = (successor_depends tasks t (get_or (successors_of tasks t) e 0) (at_times (successors_of tasks t) e h)).0

-- ---- bits

-- The bits of the end in a record are those of the end in the serial run.
pub end_bits : (o : Opening) (t k : ℕ) → bits_of_end (record_of o t k).«end» ≡ ends_of o t k
unfolding record_of ends_of
end_bits o t k = refl

-- The bits of a dependency by the outcome of its task are those in the serial run.
pub edge_bits : (o : Opening) (t u : ℕ) (x : Outcome) → x ≡ outcome_of o t → option_map_or (λ w. bits_of_dep w x) (when_on t (deps_of o.program.map.tasks u)) 0 ≡ edges_of o t u
unfolding edges_of outcome_of
edge_bits o t u x e = ap (λ (y : Outcome). option_map_or (λ w. bits_of_dep w y) (when_on t (deps_of o.program.map.tasks u)) 0) e
