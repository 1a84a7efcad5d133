-- Worlds: instances that run over one memory, in the serial order and in others. What an instance does over a memory
-- is data of the world, and so is the type of its end; nothing here knows how it comes about. (This project's own.)
use Rattle.std.specs.Prelude.{◌≡◌, ℕ, Bool, true, false, ◌&&◌, cond, List, [], ◌∷◌, length, take, slice_index}
use Rattle.std.specs.List.{All}
use Rattle.plural_base.specs.Stores.{sets}
use Rattle.plural_serial.specs.Instances.{Inst as Instance, same, is_in}

-- What an instance does over a memory, alone: how it ends, how many instructions it completes, the words of its load
-- accesses, and its stores, each a word and a value.
pub record Life (E : Type 0) : Type 0 where
  pub over : E
  pub instructions : ℕ
  pub loads : List ℕ
  pub stores : List (ℕ × ℕ)

-- A world: how many words its memories have, the opening memory, the instances that run in the serial order, what each
-- instance may write and may read, which tasks come before which, and the life of an instance over a memory.
pub record World (E : Type 0) : Type 0 where
  pub words : ℕ
  pub image : List ℕ
  pub ran : List Instance
  pub writes : Instance → ℕ → Bool
  pub reads : Instance → ℕ → Bool
  pub before : (t u : ℕ) → Bool
  pub life : Instance → List ℕ → Life E

-- The instances that stand before one in a list.
abbrev pub earlier : Instance → List Instance → List Instance
earlier i [] = []
earlier i (j ∷ js) = cond (same i j) [] (j ∷ earlier i js)

-- The memory after an instance has run over one.
abbrev pub after : {E : Type 0} → World E → Instance → List ℕ → List ℕ
after w i m = sets m (w.life i m).stores

-- The memory after these instances have run over one, one after another.
abbrev pub run : {E : Type 0} → World E → List ℕ → List Instance → List ℕ
run w m [] = m
run w m (i ∷ is) = run w (after w i m) is

-- The memory at an instance's start in the serial run.
unfoldable pub start_at : {E : Type 0} → World E → Instance → List ℕ
start_at w i = run w w.image (earlier i w.ran)

-- What an instance leaves of a word in the serial run.
unfoldable pub leaves : {E : Type 0} → World E → Instance → ℕ → ℕ
leaves w i a = slice_index (after w i (start_at w i)) a

-- An instance's memory after its first n stores in the serial run.
unfoldable pub value_at : {E : Type 0} → World E → Instance → (n : ℕ) → List ℕ
value_at w i n = sets (start_at w i) (take n (w.life i (start_at w i)).stores)

-- No instance stands twice in the list, and none of a task stands after one of a task that it comes before.
abbrev pub Ordered : {E : Type 0} → World E → List Instance → Type 0
Ordered w [] = Unit {0}
Ordered w (i ∷ is) =
    (is_in i is ≡ false) × ((j : Instance) → is_in j is ≡ true → w.before j.0 i.0 ≡ false) × Ordered w is

-- The instance runs.
abbrev pub Runs : {E : Type 0} → World E → Instance → Type 0
Runs w i = is_in i w.ran ≡ true

-- What has to hold of a world: the opening memory has its words; the serial order is in order; what may be written may
-- be read; an instance that runs stores where it may write, and what it does follows from the words that it may read;
-- of two that run, neither's task before the other's, none may write what the other may read; and no task comes before
-- itself.
pub record IsWorld {E : Type 0} (w : World E) : Type 0 where
  pub whole : length w.image ≡ w.words
  pub ordered : Ordered w w.ran
  pub read_too : (i : Instance) (a : ℕ) → w.writes i a ≡ true → w.reads i a ≡ true
  pub stores_kept : (i : Instance) (m : List ℕ) → Runs w i → All (λ s. w.writes i s.0 ≡ true) (w.life i m).stores
  pub footprint : (i : Instance) (m n : List ℕ) → Runs w i → length m ≡ w.words → length n ≡ w.words
      → ((a : ℕ) → w.reads i a ≡ true → slice_index m a ≡ slice_index n a) → w.life i m ≡ w.life i n
  pub accepted : (i j : Instance) (a : ℕ) → Runs w i → Runs w j → same i j ≡ false
      → w.before i.0 j.0 ≡ false → w.before j.0 i.0 ≡ false → w.writes i a ≡ true → w.reads j a ≡ false
  pub never_itself : (t : ℕ) → w.before t t ≡ false

-- An order of the world's instances: those that run, each once, none after one of a task that its own comes before.
pub record IsOrder {E : Type 0} (w : World E) (order : List Instance) : Type 0 where
  pub all : (i : Instance) → is_in i order ≡ is_in i w.ran
  pub ordered : Ordered w order

-- The last value of word a by the instances of a list that are done and may write it, each of which left there what
-- `left` says; x if there is none.
abbrev pub last_value : {E : Type 0} → World E → (left : Instance → ℕ → ℕ) → (a : ℕ) → (done : Instance → Bool)
    → (x : ℕ) → List Instance → ℕ
last_value w left a done x [] = x
last_value w left a done x (i ∷ is) =
    last_value w left a done (cond (done i && w.writes i a) (left i a) x) is
