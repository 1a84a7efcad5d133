-- The cores that stay, turn by turn.
use Rattle.std.proofs.Common.{◌≡◌, ◌≢◌, ℕ, zero, suc, ◌+◌, ◌-◌, ◌*◌, ◌<◌, ◌≤◌, ◌⊎◌, inl, inr, List, [], ◌∷◌, ◌++◌, length, set, get_or, sym, refl, ap, ◌∙◌, subst, arith, get_or-set_same, get_or-set_other, length-set}
use mathlib.Core.Logic.{dite}
use native.Mathlib.Decide.{ℕ_discrete, dec_lt}
use Rattle.std.proofs.Math.Nat.{mul-le-mul_left}
use Rattle.std.proofs.lemmas.List.{get_or_default}
use Rattle.std.proofs.lemmas.List.Edits.{length-remove, get_or-remove_below, get_or-remove_above}
use Rattle.std.proofs.lemmas.List.FromFn.{length-range_with_len, get_or-range_with_len}
use Rattle.std.proofs.lemmas.List.Sums.{sum_by-set}
use Rattle.std.specs.List.{Contains, remove, range_with_len}
use Rattle.rand_pcg.specs.Lcg.{Lcg}
use Rattle.plural_rule.specs.Opening.{Opening}
use Rattle.plural_words.specs.Seen.{WordsSeen, SeatSeen}
use Rattle.plural_cores.specs.Later.{to_find}
use Rattle.plural_cores.specs.Works.{IsIdle, IsHolding, IsTurn, stages_left, turns_each, turns_left}
use Rattle.plural_cores.specs.Cores.{CoreSeen, IsReady, IsAtTurn, HasLeft, HasCoreTurned, work_of, turns_with, core_turns_left}
use Rattle.plural_cores.specs.declared.answer.CoreTurn.{CoreTurn}
use Rattle.plural_cores.specs.declared.answer.CoreTurn.TheVariants.{Worked, Nothing, Left}
use Rattle.plural_cores.specs.declared.held.Held.{Held}
use Rattle.plural_cores.specs.declared.work.Work.{Work}
use Rattle.plural_cores.proofs.Tries.{to_find_least}
use Rattle.plural_machine.specs.Together.{Each, IsSent, IsBack}
use Rattle.plural_machine.specs.Drawn.{drawn_place, AreRising, IsBetween, AreStaying, staying_after, HasHadTurn, all_turns_left}

-- ---- the numbers

-- A list of length 0 is empty.
pub none_left : (l : List ℕ) → length l ≡ 0 → l ≡ []
none_left [] e = refl
none_left (x ∷ l) e = absurd (omega (arith, e))

numbers_last : (a n j : ℕ) → a + n ≡ j → range_with_len a (suc n) ≡ range_with_len a n ++ j ∷ []
numbers_last a zero j e = let only : a ≡ j = omega arith in ap (λ (m : ℕ). m ∷ []) only
numbers_last a (suc n) j e = ap (λ (l : List ℕ). a ∷ l) (numbers_last (a + 1) n j (omega arith))

-- One number more.
pub numbers_more : (n : ℕ) → range_with_len 0 (n + 1) ≡ range_with_len 0 n ++ n ∷ []
numbers_more n = let next : n + 1 ≡ suc n = omega arith in ap (range_with_len 0) next ∙ numbers_last 0 n n (omega arith)

-- All numbers rise.
pub all_rising : (n : ℕ) → AreRising n (range_with_len 0 n)
all_rising n = record {
  below = λ k h. let low : k < n = omega (arith, length-range_with_len 0 n) in omega (arith, get_or-range_with_len 0 n k 0 low);
  rise = λ k l h g.
      let low : l < n = omega (arith, length-range_with_len 0 n) in
      let lower : k < n = omega arith in
      omega (arith, get_or-range_with_len 0 n k 0 lower, get_or-range_with_len 0 n l 0 low);
}

-- Where the number at place k stood before the one at this place went.
record Stood (place k : ℕ) (xs : List ℕ) : Type 0 where
  at : ℕ
  is : get_or (remove xs place) k 0 ≡ get_or xs at 0
  least : k ≤ at
  most : at ≤ k + 1
  before : k < place → at ≡ k
  from : place ≤ k → at ≡ k + 1

stood : (place k : ℕ) (xs : List ℕ) → place < length xs → Stood place k xs
stood place k xs low =
    dite (dec_lt k place)
    (λ h. record { at = k; is = get_or-remove_below xs place 0 k h low; least = omega arith; most = omega arith; before = λ _. refl; from = λ g. absurd (omega arith) })
    (λ h. record { at = k + 1; is = get_or-remove_above xs place 0 k (omega (arith, h)) low; least = omega arith; most = omega arith; before = λ g. absurd (h g); from = λ _. refl })

removed_rising : (n place : ℕ) (xs : List ℕ) → place < length xs → AreRising n xs → AreRising n (remove xs place)
removed_rising n place xs low r = record {
  below = λ k h.
      let s = stood place k xs low in
      let within : s.at < length xs = omega (arith, length-remove xs place low) in
      omega (arith, s.is, r.below s.at within);
  rise = λ k l h g.
      let s = stood place k xs low in
      let t = stood place l xs low in
      let within : t.at < length xs = omega (arith, length-remove xs place low) in
      let order : s.at < t.at = dite (dec_lt l place) (λ b. omega (arith, s.before (omega arith), t.before b)) (λ b. omega (arith, s.most, t.from (omega (arith, b)))) in
      omega (arith, s.is, t.is, r.rise s.at t.at order within);
}

-- Those that are left after a turn rise too.
pub after_rising : (n place : ℕ) (xs : List ℕ) (a : CoreTurn) → place < length xs → AreRising n xs → AreRising n (staying_after a place xs)
after_rising n place xs Left low r = removed_rising n place xs low r
after_rising n place xs Worked low r = r
after_rising n place xs Nothing low r = r

-- Any other number stays.
removed_contains : (place i : ℕ) (xs : List ℕ) → place < length xs → i ≢ get_or xs place 0 → Contains xs i → Contains (remove xs place) i
removed_contains place i xs low ne (k, within, is) =
    let value : get_or xs k 0 ≡ i = get_or_default xs k 0 i within ∙ is in
    let long = length-remove xs place low in
    dite (dec_lt k place)
    (λ h.
    let fits : k < length (remove xs place) = omega arith in
    (k, fits, get_or_default (remove xs place) k i 0 fits ∙ (get_or-remove_below xs place 0 k h low ∙ value)))
    (λ h.
    let other : k ≢ place = λ e. ne (sym value ∙ ap (λ (m : ℕ). get_or xs m 0) e) in
    let from : place < k = omega (arith, h) in
    let fits : k - 1 < length (remove xs place) = omega arith in
    let back : k - 1 + 1 ≡ k = omega arith in
    (k - 1, fits, get_or_default (remove xs place) (k - 1) i 0 fits ∙ (get_or-remove_above xs place 0 (k - 1) (omega arith) low ∙ (ap (λ (m : ℕ). get_or xs m 0) back ∙ value))))

after_contains : (place i : ℕ) (xs : List ℕ) (a : CoreTurn) → place < length xs → i ≢ get_or xs place 0 → Contains xs i → Contains (staying_after a place xs) i
after_contains place i xs Left low ne h = removed_contains place i xs low ne h
after_contains place i xs Worked low ne h = h
after_contains place i xs Nothing low ne h = h

-- A place that is drawn is among those that there are.
pub drawn_within : (g : Lcg) (count : ℕ) → (count ≡ 0 → ⊥) → drawn_place g count < count
drawn_within g count ne = omega arith

-- ---- before the first turn

sent_at_turn : (w : WordsSeen) (first : List ℕ) (c : CoreSeen) → IsReady w first c → IsAtTurn w first c
sent_at_turn w first c r = record {
  seat = r.seat;
  has = r.has;
  number = r.number;
  found = r.found;
  at_work = record {
    of = r.of;
    nothing = r.nothing;
    shape = r.shape;
    holding = subst (λ (h : Held). IsHolding w.opening h c.engine r.seat) (sym r.holds) r.free;
    idle = subst (λ (h : Held). IsIdle h c.idle) (sym r.holds) r.patient;
  };
}

-- All stay.
pub all_staying : (w : WordsSeen) (first : List ℕ) (cores : List CoreSeen) → Each (IsSent w first) cores → AreStaying w first (range_with_len 0 (length cores)) cores
all_staying w first cores sent = record {
  each = record { at = λ i d h. record { number = (sent.at i d h).number; at_turn = sent_at_turn w first (get_or cores i d) (sent.at i d h).ready } };
  gone = λ i d h. inl (i, omega (arith, length-range_with_len 0 (length cores)), omega (arith, get_or-range_with_len 0 (length cores) i i h));
}

-- ---- after the last turn

-- If none stays, all have left.
pub all_back : (w : WordsSeen) (first numbers : List ℕ) (cores : List CoreSeen) → length numbers ≡ 0 → AreStaying w first numbers cores → Each (IsBack w first) cores
all_back w first numbers cores none s = record {
  at = λ i d h. record {
    number = (s.each.at i d h).number;
    left = elim (s.gone i d h) [ inl x ↦ absurd (omega (arith, x.1)) | inr l ↦ l ];
  };
}

-- ---- one turn

-- What a turn of the core at a place that was drawn has done.
pub had_turn : (w : WordsSeen) (g : Lcg) (stayed seen stay : List ℕ) (old new : List CoreSeen) (place count : ℕ) (a : CoreTurn) (e became : CoreSeen) → seen ≡ stayed → place ≡ drawn_place g count → count ≡ length stayed → get_or stayed place 0 < length old → HasCoreTurned w (get_or old (get_or seen place 0) e) a became → new ≡ set old (get_or seen place 0) became → stay ≡ staying_after a place stayed → HasHadTurn w (drawn_place g (length stayed)) stayed old stay new
had_turn w g stayed seen stay old new place count a e became seen_is place_is count_is low turned others numbers =
    subst (λ (p : ℕ). HasHadTurn w p stayed old stay new) (place_is ∙ ap (drawn_place g) count_is) (record {
      answer = a;
      became = became;
      turned = λ d. subst (λ (c : CoreSeen). HasCoreTurned w c a became) (ap (λ (l : List ℕ). get_or old (get_or l place 0) e) seen_is ∙ get_or_default old (get_or stayed place 0) e d low) turned;
      others = others ∙ ap (λ (l : List ℕ). set old (get_or l place 0) became) seen_is;
      numbers = numbers;
    })

module _ (w : WordsSeen) (place : ℕ) (stayed : List ℕ) (old : List CoreSeen) (low : place < length stayed) (rising : AreRising (length old) stayed) where
  -- The number of the core that had the turn.
  turn_number : ℕ
  turn_number = get_or stayed place 0

  gone_after : (first : List ℕ) (a : CoreTurn) (became : CoreSeen) → ((d : CoreSeen) → HasCoreTurned w (get_or old (get_or stayed place 0) d) a became) → AreStaying w first stayed old → (i : ℕ) → i ≡ get_or stayed place 0 → Contains (staying_after a place stayed) i ⊎ HasLeft w first became
  gone_after first Left became t s i e = inr ((t became).left refl first (s.each.at (get_or stayed place 0) became (rising.below place low)).at_turn)
  gone_after first Worked became t s i e = inl (place, low, get_or_default stayed place i 0 low ∙ sym e)
  gone_after first Nothing became t s i e = inl (place, low, get_or_default stayed place i 0 low ∙ sym e)

  between_after : (first : List ℕ) (a : CoreTurn) (became : CoreSeen) → ((d : CoreSeen) → HasCoreTurned w (get_or old (get_or stayed place 0) d) a became) → AreStaying w first stayed old → IsBetween w first (get_or stayed place 0) became
  between_after first a became t s =
      let was = s.each.at (get_or stayed place 0) became (rising.below place low) in
      record { number = (t became).same.number ∙ was.number; at_turn = (t became).work first was.at_turn }

  staying_set : (first : List ℕ) (a : CoreTurn) (became : CoreSeen) → ((d : CoreSeen) → HasCoreTurned w (get_or old (get_or stayed place 0) d) a became) → AreStaying w first stayed old → AreStaying w first (staying_after a place stayed) (set old (get_or stayed place 0) became)
  staying_set first a became t s =
      let n : ℕ = get_or stayed place 0 in
      let here : (i : ℕ) (d : CoreSeen) → i ≡ n → get_or (set old n became) i d ≡ became = λ i d e. ap (λ (m : ℕ). get_or (set old n became) m d) e ∙ get_or-set_same old n became d (rising.below place low) in
      record {
        each = record {
          at = λ i d h. dite (ℕ_discrete i n)
              (λ e. subst (λ (c : CoreSeen). IsBetween w first i c) (sym (here i d e)) (subst (λ (m : ℕ). IsBetween w first m became) (sym e) (between_after first a became t s)))
              (λ ne. subst (λ (c : CoreSeen). IsBetween w first i c) (sym (get_or-set_other old n i became d ne)) (s.each.at i d (omega (arith, length-set old n became))));
        };
        gone = λ i d h. dite (ℕ_discrete i n)
            (λ e. subst (λ (c : CoreSeen). Contains (staying_after a place stayed) i ⊎ HasLeft w first c) (sym (here i d e)) (gone_after first a became t s i e))
            (λ ne. subst (λ (c : CoreSeen). Contains (staying_after a place stayed) i ⊎ HasLeft w first c) (sym (get_or-set_other old n i became d ne))
            (elim (s.gone i d (omega (arith, length-set old n became))) [ inl x ↦ inl (after_contains place i stayed a low ne x) | inr l ↦ inr l ]));
      }

-- The cores stay after a turn as they did before.
pub turn_staying : (w : WordsSeen) (first : List ℕ) (place : ℕ) (stayed stay : List ℕ) (old new : List CoreSeen) → place < length stayed → AreRising (length old) stayed → HasHadTurn w place stayed old stay new → AreStaying w first stayed old → AreStaying w first stay new
turn_staying w first place stayed stay old new low rising t s =
    subst (λ (l : List ℕ). AreStaying w first l new) (sym t.numbers)
    (subst (λ (cs : List CoreSeen). AreStaying w first (staying_after t.answer place stayed) cs) (sym t.others) (staying_set w place stayed old low rising first t.answer t.became t.turned s))

-- The numbers of those that are left rise, and there are as many cores.
pub turn_rising : (w : WordsSeen) (place : ℕ) (stayed stay : List ℕ) (old new : List CoreSeen) → place < length stayed → AreRising (length old) stayed → HasHadTurn w place stayed old stay new → AreRising (length new) stay
turn_rising w place stayed stay old new low rising t =
    subst (λ (l : List ℕ). AreRising (length new) l) (sym t.numbers)
    (subst (λ (n : ℕ). AreRising n (staying_after t.answer place stayed)) (sym (ap length t.others ∙ length-set old (get_or stayed place 0) t.became)) (after_rising (length old) place stayed t.answer low rising))

-- ---- how many turns are left

-- A core that leaves has no more turns left than it had.
left_least : (o : Opening) (s u : SeatSeen) (k l : Work) → IsTurn o s k Left u l → turns_left o u l ≤ turns_left o s k
left_least o s u k l (none, may, idle) =
    let before : stages_left o k.held k.engine ≡ 0 = ap (λ (h : Held). stages_left o h k.engine) none.held_none in
    let after : stages_left o l.held l.engine ≡ 0 = ap (λ (h : Held). stages_left o h l.engine) none.holds_none in
    let less : turns_each * to_find o.program u.view ≤ turns_each * to_find o.program s.view = mul-le-mul_left turns_each (to_find_least o.program s.view u.view none.tried.later.found) in
    omega (arith, before, after, less, idle)

core_left_least : (w : WordsSeen) (old new : CoreSeen) → HasCoreTurned w old Left new → core_turns_left w.opening new ≤ core_turns_left w.opening old
core_left_least w old new t =
    let was = ap (turns_with w.opening (work_of old)) t.same.had in
    let is = ap (turns_with w.opening (work_of new)) t.same.has in
    omega (arith, was, is, left_least w.opening t.same.seat t.same.next (work_of old) (work_of new) t.turn)

fewer_by : (w : WordsSeen) (place : ℕ) (stayed : List ℕ) (a : CoreTurn) (was became : CoreSeen) → place < length stayed → HasCoreTurned w was a became → core_turns_left w.opening became + length (staying_after a place stayed) < core_turns_left w.opening was + length stayed
fewer_by w place stayed Left was became low t = omega (arith, core_left_least w was became t, length-remove stayed place low)
fewer_by w place stayed Worked was became low t = omega (arith, t.falls (λ e. cc))
fewer_by w place stayed Nothing was became low t = omega (arith, t.falls (λ e. cc))

-- A turn leaves fewer, counting those that stay.
pub turn_falls : (w : WordsSeen) (place : ℕ) (stayed stay : List ℕ) (old new : List CoreSeen) → place < length stayed → AreRising (length old) stayed → HasHadTurn w place stayed old stay new → all_turns_left w.opening new + length stay < all_turns_left w.opening old + length stayed
turn_falls w place stayed stay old new low rising t =
    let whole = sum_by-set (core_turns_left w.opening) old (get_or stayed place 0) t.became t.became (rising.below place low) in
    let one = fewer_by w place stayed t.answer (get_or old (get_or stayed place 0) t.became) t.became low (t.turned t.became) in
    omega (arith, whole, one, ap (all_turns_left w.opening) t.others, ap length t.numbers)
