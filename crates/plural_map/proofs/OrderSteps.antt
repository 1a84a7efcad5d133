-- The order made one by one, and where it ends.
use Rattle.std.proofs.Common.{◌≡◌, ℕ, zero, suc, ◌+◌, ◌-◌, ◌<◌, ◌≤◌, Option, Some, None, List, [], ◌∷◌, ◌++◌, length, refl, arith, inl, inr, ⊎_elim}
use Rattle.std.specs.Prelude.{◌⊎◌}
use Rattle.std.specs.Option.{option_map_or}
use Rattle.std.proofs.lemmas.List.{length_push}
use Rattle.plural_map.specs.Value.{TaskValue}
use Rattle.plural_map.specs.Order.{next_ready, order_from, order_of}

-- The order ends where no task is ready.
pub order_ends : (fuel : ℕ) (tasks : List TaskValue) (done : List ℕ) → next_ready tasks done ≡ None → order_from fuel tasks done ≡ done
unfolding order_from
order_ends zero tasks done e = refl
order_ends (suc fuel) tasks done e = rw e refl

one_more : (fuel t : ℕ) (tasks : List TaskValue) (done : List ℕ) → next_ready tasks done ≡ Some t → order_from (suc fuel) tasks done ≡ order_from fuel tasks (done ++ t ∷ [])
unfolding order_from
one_more fuel t tasks done e = rw e refl

-- It goes on with the next that is.
pub order_goes : (n i t : ℕ) (tasks : List TaskValue) (done : List ℕ) → i < n → next_ready tasks done ≡ Some t → order_from (n - i) tasks done ≡ order_from (n - (i + 1)) tasks (done ++ t ∷ [])
order_goes n i t tasks done l e = let s : n - i ≡ suc (n - (i + 1)) = omega arith in rw s (one_more (n - (i + 1)) t tasks done e)

no_more : (tasks : List TaskValue) (done : List ℕ) → order_from 0 tasks done ≡ done
unfolding order_from
no_more tasks done = refl

-- With no step left it is what is done.
pub order_done : (n i : ℕ) (tasks : List TaskValue) (done : List ℕ) → n ≤ i → order_from (n - i) tasks done ≡ done
order_done n i tasks done h = let z : n - i ≡ 0 = omega arith in rw z (no_more tasks done)

order_from_ends : (fuel : ℕ) (tasks : List TaskValue) (done : List ℕ) → (fuel + length done ≤ length (order_from fuel tasks done)) ⊎ (next_ready tasks (order_from fuel tasks done) ≡ None)
unfolding order_from
order_from_ends zero tasks done = inl (omega arith)
order_from_ends (suc fuel) tasks done = by (next_ready tasks done) refl (λ t. order_from_ends fuel tasks (done ++ t ∷ []))
  where
    by : (n : Option ℕ) → next_ready tasks done ≡ n
        → ((t : ℕ) → (fuel + length (done ++ t ∷ []) ≤ length (order_from fuel tasks (done ++ t ∷ []))) ⊎ (next_ready tasks (order_from fuel tasks (done ++ t ∷ [])) ≡ None))
        → (suc fuel + length done ≤ length (option_map_or (λ t. order_from fuel tasks (done ++ t ∷ [])) n done)) ⊎ (next_ready tasks (option_map_or (λ t. order_from fuel tasks (done ++ t ∷ [])) n done) ≡ None)
    by None e more = inr e
    by (Some t) e more = ⊎_elim (λ l. inl (omega (arith, l, length_push done t))) (λ r. inr r) (more t)

-- An order that doesn't reach each task ended where none was ready.
pub none_ready : (tasks : List TaskValue) → length (order_of tasks) < length tasks → next_ready tasks (order_of tasks) ≡ None
none_ready tasks h = ⊎_elim (λ l. absurd (omega (arith, l))) (λ r. r) (order_from_ends (length tasks) tasks [])
