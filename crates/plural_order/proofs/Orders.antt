-- Any order of a world's instances.
use Rattle.std.proofs.Common.{◌≡◌, ℕ, Bool, true, false, ◌&&◌, ◌||◌, List, [], ◌∷◌, ◌++◌, get_or, refl, sym, ap, ◌∙◌, subst, ⊎_elim, append-nil}
use Rattle.std.proofs.lemmas.Bool.{both_ways, cases_Bool, and_right, or_cases, or_right, false_from_ne_true}
use Rattle.plural_base.specs.Stores.{sets}
use Rattle.plural_serial.specs.Instances.{Inst as Instance, same, is_in}
use Rattle.plural_serial.proofs.Records.{same_self}
use Rattle.plural_order.specs.World.{World, Life, after, run, start_at, leaves, Ordered, Runs, IsWorld, IsOrder, last_value}
use Rattle.plural_order.proofs.Instances.{same_is, in_append, in_middle, append_one, split_at}
use Rattle.plural_order.proofs.StoredMemories.{sets_same, memories_same}
use Rattle.plural_order.proofs.Runs.{run_append, after_it, before_it, starts_long, runs_long, after_else, leaves_is}
use Rattle.plural_order.proofs.LastValues.{all_done, last_same, last_none, serial_value, start_value, last_before, last_own}

or_nothing : (b : Bool) → (b || false) ≡ b
or_nothing true = refl
or_nothing false = refl

module _ {E : Type 0} (w : World E) (ok : IsWorld w) where
  -- After these have run, each word is that of the last of them to write it, in the serial order.
  abbrev IsSerialAfter : List Instance → Type 0
  IsSerialAfter past = (a : ℕ) → get_or (run w w.image past) a 0 ≡ last_value w (leaves w) a (λ j. is_in j past) (get_or w.image a 0) w.ran

  serial_after_none : IsSerialAfter []
  serial_after_none a = sym (last_none w (leaves w) a (λ j. is_in j []) (get_or w.image a 0) w.ran (λ j m. refl))

  -- One instance more of an order.
  module _ (order : List Instance) (good : IsOrder w order) (past : List Instance) (i : Instance) (rest : List Instance) (e : order ≡ past ++ i ∷ rest) (now : IsSerialAfter past) where
    kept : Ordered w (past ++ i ∷ rest)
    kept = subst (λ (l : List Instance). Ordered w l) e good.ordered

    in_ran : Runs w i
    in_ran = sym (good.all i) ∙ (ap (is_in i) e ∙ in_middle past i rest)

    not_in : is_in i past ≡ false
    not_in = false_from_ne_true (is_in i past) (λ t. both_ways (same i i) (before_it w past i rest kept i t).1 (same_self i))

    past_done : (j : Instance) → Runs w j → w.before j.0 i.0 ≡ true → is_in j past ≡ true
    past_done j r b = ⊎_elim
        (λ t. t)
        (λ later. absurd (both_ways (w.before j.0 i.0) (⊎_elim
        (λ t. ap (λ (y : Instance). w.before y.0 i.0) (same_is j i t) ∙ ok.never_itself i.0)
        (λ t. (after_it w past i rest kept j t).0)
        (or_cases (same j i) (is_in j rest) later)) b))
        (or_cases (is_in j past) (is_in j (i ∷ rest)) (sym (in_append j past (i ∷ rest)) ∙ (ap (is_in j) (sym e) ∙ (good.all j ∙ r))))

    none_after : (j : Instance) → Runs w j → w.before i.0 j.0 ≡ true → is_in j past ≡ false
    none_after j r b = false_from_ne_true (is_in j past) (λ t. both_ways (w.before i.0 j.0) (before_it w past i rest kept j t).0 b)

    -- what it may read is as in the serial run
    reads_serial : (a : ℕ) → w.reads i a ≡ true → get_or (run w w.image past) a 0 ≡ get_or (start_at w i) a 0
    reads_serial a reads =
        let cut = split_at i w.ran in_ran in
        now a
        ∙ (last_before w ok (leaves w) (λ j. is_in j past) cut.0 i cut.1 cut.2 none_after past_done not_in a (get_or w.image a 0) reads
        ∙ sym (start_value w ok a cut.0 i cut.1 cut.2))

    -- so it lives as in the serial run
    lives_serial : w.life i (run w w.image past) ≡ w.life i (start_at w i)
    lives_serial = ok.footprint i (run w w.image past) (start_at w i) in_ran (runs_long w ok past) (starts_long w ok i) reads_serial

    leaves_serial : (a : ℕ) → w.writes i a ≡ true → get_or (after w i (run w w.image past)) a 0 ≡ leaves w i a
    unfolding leaves
    leaves_serial a t =
        ap (λ (l : Life E). get_or (sets (run w w.image past) l.stores) a 0) lives_serial
        ∙ sets_same (run w w.image past) (start_at w i) (w.life i (start_at w i)).stores a (runs_long w ok past ∙ sym (starts_long w ok i)) (reads_serial a (ok.read_too i a t))

    more_in : (j : Instance) → is_in j (past ++ i ∷ []) ≡ (is_in j past || (same j i || false))
    more_in j = in_append j past (i ∷ [])

    others : (j : Instance) → same j i ≡ false → is_in j (past ++ i ∷ []) ≡ is_in j past
    others j n = more_in j ∙ (ap (λ b. is_in j past || (b || false)) n ∙ or_nothing (is_in j past))

    own : is_in i (past ++ i ∷ []) ≡ true
    own = more_in i ∙ or_right (is_in i past) (same i i || false) (ap (λ b. b || false) (same_self i))

    still_none : (j : Instance) → Runs w j → w.before i.0 j.0 ≡ true → is_in j (past ++ i ∷ []) ≡ false
    still_none j r b =
        let other : same j i ≡ false = false_from_ne_true (same j i) (λ t. both_ways (w.before i.0 j.0) (ap (λ (y : Instance). w.before i.0 y.0) (same_is j i t) ∙ ok.never_itself i.0) b) in
        others j other ∙ none_after j r b

    step : (a : ℕ) → get_or (after w i (run w w.image past)) a 0 ≡ last_value w (leaves w) a (λ j. is_in j (past ++ i ∷ [])) (get_or w.image a 0) w.ran
    step a = ⊎_elim written kept_word (cases_Bool (w.writes i a))
      where
        written : w.writes i a ≡ true → get_or (after w i (run w w.image past)) a 0 ≡ last_value w (leaves w) a (λ j. is_in j (past ++ i ∷ [])) (get_or w.image a 0) w.ran
        written t =
            let cut = split_at i w.ran in_ran in
            leaves_serial a t
            ∙ sym (last_own w ok (leaves w) (λ j. is_in j (past ++ i ∷ [])) cut.0 i cut.1 cut.2 still_none own a (get_or w.image a 0) t)

        kept_word : w.writes i a ≡ false → get_or (after w i (run w w.image past)) a 0 ≡ last_value w (leaves w) a (λ j. is_in j (past ++ i ∷ [])) (get_or w.image a 0) w.ran
        kept_word n =
            after_else w ok i (run w w.image past) a in_ran n
            ∙ (now a ∙ last_same w (leaves w) a (λ j. is_in j past) (λ j. is_in j (past ++ i ∷ [])) (get_or w.image a 0) w.ran
            (λ j r. ⊎_elim
            (λ t. let none : w.writes j a ≡ false = ap (λ (y : Instance). w.writes y a) (same_is j i t) ∙ n in
            and_right (is_in j past) (w.writes j a) none ∙ sym (and_right (is_in j (past ++ i ∷ [])) (w.writes j a) none))
            (λ q. ap (λ c. c && w.writes j a) (sym (others j q)))
            (cases_Bool (same j i))))

    serial_after_more : IsSerialAfter (past ++ i ∷ [])
    serial_after_more a = ap (λ (l : List ℕ). get_or l a 0) (run_append w w.image past (i ∷ [])) ∙ step a

  -- Along any order.
  serial_along : (order : List Instance) → IsOrder w order → (past is rest : List Instance) → order ≡ past ++ (is ++ rest) → IsSerialAfter past → IsSerialAfter (past ++ is)
  serial_along order good past [] rest e now = subst (λ (l : List Instance). IsSerialAfter l) (sym (append-nil past)) now
  serial_along order good past (i ∷ is) rest e now =
      subst (λ (l : List Instance). IsSerialAfter l) (append_one past i is)
      (serial_along order good (past ++ i ∷ []) is rest (e ∙ sym (append_one past i (is ++ rest))) (serial_after_more order good past i (is ++ rest) e now))

  -- After the first instances of an order each word is that of the last of them to write it.
  pub serial_after : (order : List Instance) → IsOrder w order → (past rest : List Instance) → order ≡ past ++ rest → IsSerialAfter past
  serial_after order good past rest e = serial_along order good [] past rest e serial_after_none

  -- Each instance of an order lives as in the serial run.
  pub lives_in_order : (order : List Instance) → IsOrder w order → (past : List Instance) (i : Instance) (rest : List Instance) → order ≡ past ++ i ∷ rest → w.life i (run w w.image past) ≡ w.life i (start_at w i)
  lives_in_order order good past i rest e = lives_serial order good past i rest e (serial_after order good past (i ∷ rest) e)

  order_value : (order : List Instance) → IsOrder w order → (a : ℕ) → get_or (run w w.image order) a 0 ≡ get_or (run w w.image w.ran) a 0
  order_value order good a =
      serial_after order good order [] (sym (append-nil order)) a
      ∙ (last_same w (leaves w) a (λ j. is_in j order) all_done (get_or w.image a 0) w.ran (λ j m. ap (λ b. b && w.writes j a) (good.all j ∙ m))
      ∙ sym (serial_value w ok (leaves w) a (λ p j r s. leaves_is w ok p j r a s) w.ran [] (sym (append-nil w.ran))))

  -- Any order leaves the serial memory.
  pub order_memory : (order : List Instance) → IsOrder w order → run w w.image order ≡ run w w.image w.ran
  order_memory order good = memories_same (run w w.image order) (run w w.image w.ran) (runs_long w ok order ∙ sym (runs_long w ok w.ran)) (order_value order good)
