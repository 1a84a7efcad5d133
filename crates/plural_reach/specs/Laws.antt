-- What holds of coming before, in a list of tasks that its order reaches each of.
use Rattle.std.specs.Prelude.{ℕ, suc, ◌≡◌, ◌⊎◌, ◌<◌, ◌↔◌, ◌==◌, true, List, [], ◌∷◌, length, cond}
use Rattle.plural_map.specs.Value.{TaskValue}
use Rattle.plural_map.specs.Order.{is_among, order_of}
use Rattle.plural_reach.specs.declared.tables.Reach.{Reach}
use Rattle.plural_reach.specs.Chains.{Before, comes_before}
use Rattle.plural_reach.specs.Tables.{IsReachOf, says_before}

-- The order reaches each task.
abbrev pub Reaches : List TaskValue → Type 0
Reaches tasks = (t : ℕ) → t < length tasks → is_among t (order_of tasks) ≡ true

-- The place of a number in a list, or its length.
abbrev pub place_in : List ℕ → ℕ → ℕ
place_in [] t = 0
place_in (u ∷ us) t = cond (u == t) 0 (suc (place_in us t))

-- The place of a task in the order.
unfoldable pub rank_of : List TaskValue → ℕ → ℕ
rank_of tasks t = place_in (order_of tasks) t

-- The test says exactly which tasks come before which.
abbrev pub BeforeTest : Type 0
BeforeTest = (tasks : List TaskValue) → Reaches tasks → (t u : ℕ) → (comes_before tasks t u ≡ true) ↔ Before tasks t u

-- A table of the tasks says what the test says.
abbrev pub TableTest : Type 0
TableTest = (tasks : List TaskValue) (r : Reach) → Reaches tasks → IsReachOf r tasks → (t u : ℕ) → u < length tasks
    → says_before r t u ≡ comes_before tasks t u

-- What comes before a task that comes before another comes before that other.
abbrev pub BeforeThrough : Type 0
BeforeThrough = (tasks : List TaskValue) (t u v : ℕ) → Before tasks t u → Before tasks u v → Before tasks t v

-- A task comes only before tasks that stand later in the order; so before none that stands at its place or earlier.
abbrev pub BeforeRises : Type 0
BeforeRises = (tasks : List TaskValue) → Reaches tasks → (t u : ℕ) → Before tasks t u
    → rank_of tasks t < rank_of tasks u

-- Of any two tasks, either one comes before the other or it doesn't.
abbrev pub BeforeDecided : Type 0
BeforeDecided = (tasks : List TaskValue) → Reaches tasks → (t u : ℕ) → Before tasks t u ⊎ (Before tasks t u → ⊥)

-- No task comes before itself.
abbrev pub NeverItself : Type 0
NeverItself = (tasks : List TaskValue) → Reaches tasks → (t : ℕ) → Before tasks t t → ⊥
