-- The order of the tasks: one by one, the next is the task of the least number that isn't in it yet and whose
-- predecessors all are.
use Rattle.std.specs.Prelude.{ℕ, zero, suc, ◌≡◌, ◌<◌, slice_index_or, Bool, false, not, ◌&&◌, ◌==◌, List, [], ◌∷◌, ◌++◌, Option, length, slice_get, position}
use Rattle.std.specs.List.{All, list_any, list_all, range_with_len}
use Rattle.std.specs.Option.{option_map_or}
use Rattle.plural_map.specs.Value.{TaskValue}

-- The number is one of the list.
abbrev pub is_among : ℕ → List ℕ → Bool
is_among t done = list_any (λ u. u == t) done

-- All tasks that this one depends on are among those done.
abbrev pub has_all_done : List ℕ → TaskValue → Bool
has_all_done done task = list_all (λ d. is_among d.task done) task.deps

-- The number is that of a task that isn't among those done, and all that it depends on are.
abbrev pub is_ready : List TaskValue → List ℕ → ℕ → Bool
is_ready tasks done t = not (is_among t done) && option_map_or (has_all_done done) (slice_get tasks t) false

-- The least number that is ready, if there is one.
abbrev pub next_ready : List TaskValue → List ℕ → Option ℕ
next_ready tasks done = position (is_ready tasks done) (range_with_len 0 (length tasks))

-- Those done, and then at most this many more, each the least that is ready.
unfoldable pub order_from : (fuel : ℕ) → List TaskValue → (done : List ℕ) → List ℕ
order_from zero tasks done = done
order_from (suc fuel) tasks done =
    option_map_or (λ t. order_from fuel tasks (done ++ t ∷ [])) (next_ready tasks done) done

-- The order of the tasks.
abbrev pub order_of : List TaskValue → List ℕ
order_of tasks = order_from (length tasks) tasks []

-- Each task depends on tasks of lesser numbers alone.
abbrev pub IsDeclaredInOrder : List TaskValue → Type 0
IsDeclaredInOrder tasks =
    (t : ℕ) (d : TaskValue) → t < length tasks → All (λ p. p.task < t) (slice_index_or tasks t d).deps

-- If each task depends on tasks of lesser numbers alone, the order is that of the numbers.
abbrev pub DeclaredOrder : Type 0
DeclaredOrder = (tasks : List TaskValue) → IsDeclaredInOrder tasks → order_of tasks ≡ range_with_len 0 (length tasks)
