-- The last value of a word by the instances that are done.
use Rattle.std.proofs.Common.{◌≡◌, ℕ, Bool, true, false, ◌&&◌, cond, List, [], ◌∷◌, ◌++◌, get_or, refl, sym, ap, ◌∙◌, subst, ⊎_elim}
use Rattle.std.proofs.lemmas.Bool.{both_ways, cases_Bool, and_left, and_right, or_cases, or_left, or_right}
use Rattle.plural_serial.specs.Instances.{Inst as Instance, same, is_in}
use Rattle.plural_order.specs.World.{World, after, run, start_at, leaves, Ordered, Runs, IsWorld, last_value}
use Rattle.plural_order.proofs.Instances.{same_is, in_append, in_first, in_middle, append_one}
use Rattle.plural_order.proofs.Runs.{run_append, start_here, after_it, before_it, after_else, leaves_is}

-- All are done.
abbrev pub all_done : Instance → Bool
all_done i = true

module _ {E : Type 0} (w : World E) (left : Instance → ℕ → ℕ) (a : ℕ) where
  last_append : (done : Instance → Bool) (x : ℕ) (is js : List Instance) → last_value w left a done x (is ++ js) ≡ last_value w left a done (last_value w left a done x is) js
  last_append done x [] js = refl
  last_append done x (i ∷ is) js = last_append done (cond (done i && w.writes i a) (left i a) x) is js

  -- It is the same if the same writers of the word are done.
  pub last_same : (done other : Instance → Bool) (x : ℕ) (is : List Instance) → ((j : Instance) → is_in j is ≡ true → (done j && w.writes j a) ≡ (other j && w.writes j a)) → last_value w left a done x is ≡ last_value w left a other x is
  last_same done other x [] h = refl
  last_same done other x (i ∷ is) h =
      ap (λ (b : Bool). last_value w left a done (cond b (left i a) x) is) (h i (in_first i is))
      ∙ last_same done other (cond (other i && w.writes i a) (left i a) x) is (λ j m. h j (or_right (same j i) (is_in j is) m))

  -- It is the first value if no writer of the word is done.
  pub last_none : (done : Instance → Bool) (x : ℕ) (is : List Instance) → ((j : Instance) → is_in j is ≡ true → (done j && w.writes j a) ≡ false) → last_value w left a done x is ≡ x
  last_none done x [] h = refl
  last_none done x (i ∷ is) h =
      ap (λ (b : Bool). last_value w left a done (cond b (left i a) x) is) (h i (in_first i is))
      ∙ last_none done x is (λ j m. h j (or_right (same j i) (is_in j is) m))

-- What `left` says of a word is what each instance leaves there in the serial run.
module _ {E : Type 0} (w : World E) (ok : IsWorld w) (left : Instance → ℕ → ℕ) (a : ℕ)
    (left_is : (past : List Instance) (i : Instance) (rest : List Instance) → w.ran ≡ past ++ i ∷ rest → left i a ≡ get_or (after w i (run w w.image past)) a 0) where
  run_value : (past is rest : List Instance) → w.ran ≡ past ++ (is ++ rest)
      → get_or (run w (run w w.image past) is) a 0 ≡ last_value w left a all_done (get_or (run w w.image past) a 0) is
  run_value past [] rest e = refl
  run_value past (i ∷ is) rest e =
      let m = run w w.image past in
      let r : Runs w i = ap (is_in i) e ∙ in_middle past i (is ++ rest) in
      let more : run w w.image (past ++ i ∷ []) ≡ after w i m = run_append w w.image past (i ∷ []) in
      let later = run_value (past ++ i ∷ []) is rest (e ∙ sym (append_one past i (is ++ rest))) in
      let on : get_or (run w (after w i m) is) a 0 ≡ last_value w left a all_done (get_or (after w i m) a 0) is
      = subst (λ (n : List ℕ). get_or (run w n is) a 0 ≡ last_value w left a all_done (get_or n a 0) is) more later in
      let last : left i a ≡ get_or (after w i m) a 0 = left_is past i (is ++ rest) e in
      let step : (b : Bool) → w.writes i a ≡ b → get_or (after w i m) a 0 ≡ cond b (left i a) (get_or m a 0) = elim [ true ↦ λ q. sym last | false ↦ λ q. after_else w ok i m a r q ] in
      on ∙ ap (λ n. last_value w left a all_done n is) (step (w.writes i a) refl)

  -- The serial memory after the instances before some place of the order, word by word.
  pub serial_value : (past rest : List Instance) → w.ran ≡ past ++ rest → get_or (run w w.image past) a 0 ≡ last_value w left a all_done (get_or w.image a 0) past
  serial_value past rest e = run_value [] past rest e

-- The serial memory at an instance's start, word by word.
pub start_value : {E : Type 0} (w : World E) → IsWorld w → (a : ℕ) (past : List Instance) (i : Instance) (rest : List Instance) → w.ran ≡ past ++ i ∷ rest
    → get_or (start_at w i) a 0 ≡ last_value w (leaves w) a all_done (get_or w.image a 0) past
start_value w ok a past i rest e =
    ap (λ (l : List ℕ). get_or l a 0) (start_here w past i rest ok.ordered e)
    ∙ serial_value w ok (leaves w) a (λ p j r s. leaves_is w ok p j r a s) past (i ∷ rest) e

-- An instance in the serial order, while nothing after it is done.
module _ {E : Type 0} (w : World E) (ok : IsWorld w) (left : Instance → ℕ → ℕ) (done : Instance → Bool)
    (past : List Instance) (i : Instance) (rest : List Instance) (is : w.ran ≡ past ++ i ∷ rest)
    (none_after : (j : Instance) → Runs w j → w.before i.0 j.0 ≡ true → done j ≡ false) where
  in_past : (j : Instance) → is_in j past ≡ true → Runs w j
  in_past j m = ap (is_in j) is ∙ (in_append j past (i ∷ rest) ∙ or_left (is_in j past) (is_in j (i ∷ rest)) m)

  in_rest : (j : Instance) → is_in j rest ≡ true → Runs w j
  in_rest j m = ap (is_in j) is ∙ (in_append j past (i ∷ rest) ∙ or_right (is_in j past) (is_in j (i ∷ rest)) (or_right (same j i) (is_in j rest) m))

  here : Runs w i
  here = ap (is_in i) is ∙ in_middle past i rest

  split_ordered : Ordered w (past ++ i ∷ rest)
  split_ordered = subst (λ (l : List Instance). Ordered w l) is ok.ordered

  -- a later writer of a word that it may read isn't done
  later_undone : (a : ℕ) → w.reads i a ≡ true → (j : Instance) → is_in j rest ≡ true → w.writes j a ≡ true → done j ≡ false
  later_undone a reads j m writes =
      let o = after_it w past i rest split_ordered j m in
      ⊎_elim
      (λ t. none_after j (in_rest j m) t)
      (λ e. absurd (both_ways (w.reads i a) (ok.accepted j i a (in_rest j m) here o.1 o.0 e writes) reads))
      (cases_Bool (w.before i.0 j.0))

  -- a test that fails at the writers of a word fails with its writers
  no_writes : (a : ℕ) (j : Instance) → (w.writes j a ≡ true → done j ≡ false) → (done j && w.writes j a) ≡ false
  no_writes a j h = ⊎_elim (λ t. and_left (done j) (w.writes j a) (h t)) (λ e. and_right (done j) (w.writes j a) e) (cases_Bool (w.writes j a))

  -- Once it is done, the last value of a word that it may write is its own.
  pub last_own : done i ≡ true → (a x : ℕ) → w.writes i a ≡ true → last_value w left a done x w.ran ≡ left i a
  last_own own a x writes =
      let before = last_value w left a done x past in
      ap (last_value w left a done x) is ∙ (last_append w left a done x past (i ∷ rest)
      ∙ (ap (λ b. last_value w left a done (cond (b && w.writes i a) (left i a) before) rest) own
      ∙ (ap (λ b. last_value w left a done (cond b (left i a) before) rest) writes
      ∙ last_none w left a done (left i a) rest (λ j m. no_writes a j (later_undone a (ok.read_too i a writes) j m)))))

  -- While it is under way, and those of the tasks before its own are done.
  module _ (past_done : (j : Instance) → Runs w j → w.before j.0 i.0 ≡ true → done j ≡ true) (not_yet : done i ≡ false) where
    earlier_done : (a : ℕ) → w.reads i a ≡ true → (j : Instance) → is_in j past ≡ true → w.writes j a ≡ true → done j ≡ true
    earlier_done a reads j m writes =
        let o = before_it w past i rest split_ordered j m in
        ⊎_elim
        (λ t. past_done j (in_past j m) t)
        (λ e. absurd (both_ways (w.reads i a) (ok.accepted j i a (in_past j m) here o.1 e o.0 writes) reads))
        (cases_Bool (w.before j.0 i.0))

    all_writes : (a : ℕ) (j : Instance) → (w.writes j a ≡ true → done j ≡ true) → (done j && w.writes j a) ≡ w.writes j a
    all_writes a j h = ⊎_elim
        (λ t. ap (λ b. b && w.writes j a) (h t))
        (λ e. and_right (done j) (w.writes j a) e ∙ sym e)
        (cases_Bool (w.writes j a))

    -- The last value of a word that it may read is that by all before it.
    pub last_before : (a x : ℕ) → w.reads i a ≡ true → last_value w left a done x w.ran ≡ last_value w left a all_done x past
    last_before a x reads =
        ap (last_value w left a done x) is ∙ (last_append w left a done x past (i ∷ rest)
        ∙ (last_none w left a done (last_value w left a done x past) (i ∷ rest)
        (λ j m. ⊎_elim
        (λ t. and_left (done j) (w.writes j a) (ap done (same_is j i t) ∙ not_yet))
        (λ r. no_writes a j (later_undone a reads j r))
        (or_cases (same j i) (is_in j rest) m))
        ∙ last_same w left a done all_done x past (λ j m. all_writes a j (earlier_done a reads j m))))
