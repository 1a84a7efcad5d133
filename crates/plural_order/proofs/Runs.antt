-- The memories of a world along lists of its instances, and what stands before and after an instance in the serial order.
use Rattle.std.proofs.Common.{◌≡◌, ℕ, true, false, cond, List, [], ◌∷◌, ◌++◌, length, get_or, refl, sym, ap, ◌∙◌, subst, ⊎_elim}
use Rattle.std.proofs.lemmas.Bool.{both_ways, or_cases, false_from_ne_true}
use Rattle.plural_serial.specs.Instances.{Inst as Instance, same, is_in}
use Rattle.plural_serial.proofs.Records.{same_self}
use Rattle.plural_order.specs.World.{World, earlier, after, run, start_at, leaves, Ordered, Runs, IsWorld}
use Rattle.plural_order.proofs.Instances.{same_is, same_sym, in_first, in_middle}
use Rattle.plural_order.proofs.StoredMemories.{sets_long, sets_else}

module _ {E : Type 0} (w : World E) where
  -- Instances run over what those before them leave.
  pub run_append : (m : List ℕ) (xs ys : List Instance) → run w m (xs ++ ys) ≡ run w (run w m xs) ys
  run_append m [] ys = refl
  run_append m (x ∷ xs) ys = run_append (after w x m) xs ys

  -- A run keeps the memory's length.
  run_long : (m : List ℕ) (is : List Instance) → length (run w m is) ≡ length m
  run_long m [] = refl
  run_long m (i ∷ is) = run_long (after w i m) is ∙ sets_long m (w.life i m).stores

  -- What stands after an instance isn't of a task before its own, and is another.
  pub after_it : (past : List Instance) (i : Instance) (rest : List Instance) → Ordered w (past ++ i ∷ rest) → (j : Instance) → is_in j rest ≡ true → (w.before j.0 i.0 ≡ false) × (same j i ≡ false)
  after_it [] i rest o j m = (
    o.1 j m,
    false_from_ne_true (same j i) (λ t. both_ways (is_in i rest) o.0 (ap (λ (x : Instance). is_in x rest) (sym (same_is j i t)) ∙ m)),
  )
  after_it (x ∷ past) i rest o j m = after_it past i rest o.2 j m

  -- What stands before an instance isn't of a task that its own comes before, and is another.
  pub before_it : (past : List Instance) (i : Instance) (rest : List Instance) → Ordered w (past ++ i ∷ rest) → (j : Instance) → is_in j past ≡ true → (w.before i.0 j.0 ≡ false) × (same j i ≡ false)
  before_it [] i rest o j m = absurd cc
  before_it (x ∷ past) i rest o j m =
      let there : is_in i (past ++ i ∷ rest) ≡ true = in_middle past i rest in
      let other : same x i ≡ false = false_from_ne_true (same x i) (λ e. both_ways (is_in x (past ++ i ∷ rest)) o.0 (ap (λ (y : Instance). is_in y (past ++ i ∷ rest)) (same_is x i e) ∙ there)) in
      ⊎_elim
      (λ t. subst (λ (y : Instance). (w.before i.0 y.0 ≡ false) × (same y i ≡ false)) (sym (same_is j x t)) (o.1 i there, other))
      (λ r. before_it past i rest o.2 j r)
      (or_cases (same j x) (is_in j past) m)

  earlier_here : (past : List Instance) (i : Instance) (rest : List Instance) → Ordered w (past ++ i ∷ rest) → earlier i (past ++ i ∷ rest) ≡ past
  earlier_here [] i rest o = ap (λ b. cond b [] (i ∷ earlier i rest)) (same_self i)
  earlier_here (x ∷ past) i rest o =
      let other = before_it (x ∷ past) i rest o x (in_first x past) in
      ap (λ b. cond b [] (x ∷ earlier i (past ++ i ∷ rest))) (same_sym x i other.1) ∙ ap (λ (l : List Instance). x ∷ l) (earlier_here past i rest o.2)

  -- The memory at an instance's start is that after those before it.
  pub start_here : (past : List Instance) (i : Instance) (rest : List Instance) → Ordered w w.ran → w.ran ≡ past ++ i ∷ rest → start_at w i ≡ run w w.image past
  unfolding start_at
  start_here past i rest o is = ap (run w w.image) (ap (earlier i) is ∙ earlier_here past i rest (subst (λ (l : List Instance). Ordered w l) is o))

module _ {E : Type 0} (w : World E) (ok : IsWorld w) where
  -- The memory at an instance's start has the world's words.
  pub starts_long : (i : Instance) → length (start_at w i) ≡ w.words
  unfolding start_at
  starts_long i = run_long w w.image (earlier i w.ran) ∙ ok.whole

  -- So has that after any list of instances.
  pub runs_long : (is : List Instance) → length (run w w.image is) ≡ w.words
  runs_long is = run_long w w.image is ∙ ok.whole

  -- An instance leaves a word that it may not write as it is.
  pub after_else : (i : Instance) (m : List ℕ) (a : ℕ) → Runs w i → w.writes i a ≡ false → get_or (after w i m) a 0 ≡ get_or m a 0
  after_else i m a r f = sets_else (w.writes i) m (w.life i m).stores a (ok.stores_kept i m r) f

  -- What an instance leaves of a word, by the run of those before it.
  pub leaves_is : (past : List Instance) (i : Instance) (rest : List Instance) (a : ℕ) → w.ran ≡ past ++ i ∷ rest → leaves w i a ≡ get_or (after w i (run w w.image past)) a 0
  unfolding leaves
  leaves_is past i rest a e = ap (λ (n : List ℕ). get_or (after w i n) a 0) (start_here w past i rest ok.ordered e)
