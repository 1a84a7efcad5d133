-- Laws of every world, whatever the type of ends. Of some instances `done` says whether they are done.
use Rattle.std.specs.Prelude.{ℕ, ◌≡◌, ◌≤◌, ◌+◌, Bool, true, false, List, ◌∷◌, ◌++◌, length, slice_index, slice_set}
use Rattle.plural_serial.specs.Instances.{Inst as Instance, same, is_in}
use Rattle.plural_order.specs.World.{World, after, run, start_at, leaves, value_at, Runs, IsWorld, IsOrder, last_value}

-- ---- any order

-- An order leaves the serial memory, and each instance lives in it as in the serial run.
pub record IsAlike {E : Type 0} (w : World E) (order : List Instance) : Type 0 where
  pub memory : run w w.image order ≡ run w w.image w.ran
  pub lives : (past : List Instance) (i : Instance) (rest : List Instance) → order ≡ past ++ i ∷ rest
      → w.life i (run w w.image past) ≡ w.life i (start_at w i)

-- Any order of the instances that keeps what comes before leaves the serial memory, and each lives in it as in the
-- serial run.
abbrev pub AnyOrder : Type 0 → Type 0
AnyOrder E = (w : World E) → IsWorld w → (order : List Instance) → IsOrder w order → IsAlike w order

-- ---- while some are done

-- The instances of the tasks that come before task t are done.
abbrev pub PastDone : {E : Type 0} → World E → (done : Instance → Bool) → (t : ℕ) → Type 0
PastDone w done t = (i : Instance) → Runs w i → w.before i.0 t ≡ true → done i ≡ true

-- No instance of a task that task t comes before is done.
abbrev pub NoneAfter : {E : Type 0} → World E → (done : Instance → Bool) → (t : ℕ) → Type 0
NoneAfter w done t = (i : Instance) → Runs w i → w.before t i.0 ≡ true → done i ≡ false

-- The value of word a: that which its last done writer left there in the serial run, or the opening one.
abbrev pub value_now : {E : Type 0} → World E → (done : Instance → Bool) → (a : ℕ) → ℕ
value_now w done a = last_value w (leaves w) a done (slice_index w.image a) w.ran

-- After the first instances of an order, however many, each word of the memory has the value by these instances.
abbrev pub ValueAlong : Type 0 → Type 0
ValueAlong E = (w : World E) → IsWorld w → (order : List Instance) → IsOrder w order → (past rest : List Instance)
    → order ≡ past ++ rest → (a : ℕ) → slice_index (run w w.image past) a ≡ value_now w (λ i. is_in i past) a

-- Of two instances under way (they aren't done, and those of the tasks before them are), what one may write the other
-- may not read.
abbrev pub LoneWriter : Type 0 → Type 0
LoneWriter E = (w : World E) → IsWorld w → (done : Instance → Bool) (i j : Instance) (a : ℕ) → Runs w i → Runs w j
    → same i j ≡ false → done i ≡ false → done j ≡ false → PastDone w done i.0 → PastDone w done j.0
    → w.writes i a ≡ true → w.reads j a ≡ false

-- If the instances of the tasks before a writer of a word are done, so is each writer of the word that stands before
-- it in the serial order.
abbrev pub WritersFirst : Type 0 → Type 0
WritersFirst E = (w : World E) → IsWorld w → (done : Instance → Bool)
    (past : List Instance) (j : Instance) (rest : List Instance) (i : Instance) (a : ℕ) → w.ran ≡ past ++ j ∷ rest
    → is_in i past ≡ true → PastDone w done j.0 → w.writes i a ≡ true → w.writes j a ≡ true → done i ≡ true

-- While an instance is under way and nothing after it is done, the value of each word that it may read is what stands
-- there at its start in the serial run.
abbrev pub ValueAtStart : Type 0 → Type 0
ValueAtStart E = (w : World E) → IsWorld w → (done : Instance → Bool) (i : Instance) (a : ℕ) → Runs w i
    → PastDone w done i.0 → NoneAfter w done i.0 → done i ≡ false
    → w.reads i a ≡ true → value_now w done a ≡ slice_index (start_at w i) a

-- While an instance is done and nothing after it is, the value of each word that it may write is what it leaves there
-- in the serial run.
abbrev pub ValueAtEnd : Type 0 → Type 0
ValueAtEnd E = (w : World E) → IsWorld w → (done : Instance → Bool) (i : Instance) (a : ℕ) → Runs w i
    → NoneAfter w done i.0 → done i ≡ true → w.writes i a ≡ true → value_now w done a ≡ leaves w i a

-- Once all that run are done, the value of each word is that of the serial memory.
abbrev pub ValueOfAll : Type 0 → Type 0
ValueOfAll E = (w : World E) → IsWorld w → (done : Instance → Bool) (a : ℕ)
    → ((i : Instance) → Runs w i → done i ≡ true) → value_now w done a ≡ slice_index (run w w.image w.ran) a

-- ---- store by store

-- The memory of an instance in the serial run: before its first store that at its start; each store sets one word;
-- after the last it is what the instance leaves. A word that the instance may not write is as at its start, and the
-- memory keeps its length.
pub record IsStoreByStore {E : Type 0} (w : World E) (i : Instance) : Type 0 where
  pub none : value_at w i 0 ≡ start_at w i
  pub more : (n a v : ℕ) (rest past : List (ℕ × ℕ)) → (w.life i (start_at w i)).stores ≡ past ++ (a, v) ∷ rest
      → length past ≡ n → value_at w i (n + 1) ≡ slice_set (value_at w i n) a v
  pub whole : (n : ℕ) → length (w.life i (start_at w i)).stores ≤ n → value_at w i n ≡ after w i (start_at w i)
  pub else : (n a : ℕ) → w.writes i a ≡ false → slice_index (value_at w i n) a ≡ slice_index (start_at w i) a
  pub long : (n : ℕ) → length (value_at w i n) ≡ w.words

-- Each instance that runs has such a memory.
abbrev pub StoreByStore : Type 0 → Type 0
StoreByStore E = (w : World E) → IsWorld w → (i : Instance) → Runs w i → IsStoreByStore w i
