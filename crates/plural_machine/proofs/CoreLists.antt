-- The cores of a list, one of which is another.
use Rattle.std.proofs.Common.{◌<◌, ◌≤◌, ◌+◌, ℕ, List, length, set, get_or, subst, sym, arith, get_or-set_same, get_or-set_other, length-set}
use mathlib.Core.Logic.{dite}
use native.Mathlib.Decide.{ℕ_discrete}

-- Those below i are so, and the one at i becomes so.
pub each_below_set : {X : Type 0} (P : ℕ → X → Type 0) (xs : List X) (i : ℕ) (a : X) → i < length xs → ((k : ℕ) (d : X) → k < i → P k (get_or xs k d)) → P i a → (k : ℕ) (d : X) → k < i + 1 → P k (get_or (set xs i a) k d)
each_below_set {X} P xs i a h old new k d l =
    dite (ℕ_discrete k i)
    (λ e. subst (λ (n : ℕ). P n (get_or (set xs i a) n d)) (sym e) (subst (λ (x : X). P i x) (sym (get_or-set_same xs i a d h)) new))
    (λ ne. subst (λ (x : X). P k x) (sym (get_or-set_other xs i k a d ne)) (old k d (omega arith)))

-- Those below i stay as they are.
pub each_below_stays : {X : Type 0} (P : ℕ → X → Type 0) (xs : List X) (i : ℕ) (a : X) → ((k : ℕ) (d : X) → k < i + 1 → P k (get_or xs k d)) → (k : ℕ) (d : X) → k < i → P k (get_or (set xs i a) k d)
each_below_stays {X} P xs i a old k d l = subst (λ (x : X). P k x) (sym (get_or-set_other xs i k a d (λ e. absurd (omega arith)))) (old k d (omega arith))

-- Those from the next on stay as they are.
pub each_above_stays : {X : Type 0} (P : ℕ → X → Type 0) (xs : List X) (i : ℕ) (a : X) → ((k : ℕ) (d : X) → i ≤ k → k < length xs → P k (get_or xs k d)) → (k : ℕ) (d : X) → i + 1 ≤ k → k < length (set xs i a) → P k (get_or (set xs i a) k d)
each_above_stays {X} P xs i a old k d l h = subst (λ (x : X). P k x) (sym (get_or-set_other xs i k a d (λ e. absurd (omega arith)))) (old k d (omega arith) (omega (arith, length-set xs i a)))

-- Those after i are so, and the one at i becomes so.
pub each_above_set : {X : Type 0} (P : ℕ → X → Type 0) (xs : List X) (i : ℕ) (a : X) → i < length xs → ((k : ℕ) (d : X) → i + 1 ≤ k → k < length xs → P k (get_or xs k d)) → P i a → (k : ℕ) (d : X) → i ≤ k → k < length (set xs i a) → P k (get_or (set xs i a) k d)
each_above_set {X} P xs i a low old new k d l h =
    dite (ℕ_discrete k i)
    (λ e. subst (λ (n : ℕ). P n (get_or (set xs i a) n d)) (sym e) (subst (λ (x : X). P i x) (sym (get_or-set_same xs i a d low)) new))
    (λ ne. subst (λ (x : X). P k x) (sym (get_or-set_other xs i k a d ne)) (old k d (omega arith) (omega (arith, length-set xs i a))))
