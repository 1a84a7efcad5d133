-- Where two regions meet: first and last words, and the search for the first instance that meets any.
use Rattle.std.proofs.Common.{ℕ, ◌≡◌, ◌⊎◌, ◌+◌, ◌-◌, ◌*◌, ◌/◌, ◌%◌, ◌<◌, ◌≤◌, max, Bool, true, false, arith, refl, sym, ap, ◌∙◌, subst, ⊎_elim}
use Rattle.std.proofs.Math.Nat.{mod-le, div-add-mod, add-mul-mod_self_left, mul-le-mul_left}
use Rattle.std.proofs.lemmas.Bool.{cases_lt}
use Rattle.std.specs.Prelude.{Option, Some, None, IfSome, IfNone}
use Rattle.plural_regions.specs.Bounds.{IsInside, IsOutside, AllInside}
use Rattle.plural_regions.specs.Residue.{IsLeastResidue, HasNoResidue}
use Rattle.plural_regions.specs.Meeting.{Meets, IsLeastMeet, NeverMeet}
use Rattle.plural_regions.specs.Search.{Reaches, IsFirstReaching, NeverReaches, IsLeastAt, NeverAt, IsCandidate}
use Rattle.plural_regions.specs.declared.region.Region.{Region}
use Rattle.plural_regions.specs.declared.triple.Meet.{Meet}

-- ---- first and last words

-- If all words of an instance are below w, so is the last.
pub inside_end : (r : Region) (k w : ℕ) → IsInside r k w → r.base + r.stride * k + r.count ≤ w
inside_end r k w h =
    let some : 1 ≤ r.count = r.nonempty in
    let last : r.base + r.stride * k + r.count - 1 < w = h (r.base + r.stride * k + r.count - 1) (r.count - 1, omega arith, omega arith) in
    omega arith

-- If some word of an instance is w or more, the last is.
pub outside_end : (r : Region) (k w : ℕ) → IsOutside r k w → w < r.base + r.stride * k + r.count
outside_end r k w h = let high : w ≤ h.0 = h.1 in let i = h.2.0 in let l : i < r.count = h.2.1 in let e : r.base + r.stride * k + i ≡ h.0 = h.2.2 in omega arith

-- A later instance begins no earlier.
pub later_start : (r : Region) (k i : ℕ) → k ≤ i → r.stride * k ≤ r.stride * i
later_start r k i h = mul-le-mul_left r.stride h

-- ---- meetings and reach

-- Where instance k of r meets instance l of s, the latter has one of the words of the former.
pub reach_of : (r s : Region) (q1 q2 : ℕ) (same : Bool) (k l a : ℕ) → Meets r q1 s q2 same k l a → Reaches s (r.base + r.stride * k) r.count l
reach_of r s q1 q2 same k l a m =
    let i = m.in_first.0 in let below_first : i < r.count = m.in_first.1 in let first_is : r.base + r.stride * k + i ≡ a = m.in_first.2 in
    let j = m.in_second.0 in let below_second : j < s.count = m.in_second.1 in let second_is : s.base + s.stride * l + j ≡ a = m.in_second.2 in
    record { begins = omega arith; ends = omega arith }

-- If it has one, they meet at the later of their first words.
pub meet_of : (r s : Region) (q1 q2 : ℕ) (same : Bool) (k l : ℕ) → k < q1 → l < q2 → (same ≡ true → k < l) → Reaches s (r.base + r.stride * k) r.count l
    → Meets r q1 s q2 same k l (max (r.base + r.stride * k) (s.base + s.stride * l))
meet_of r s q1 q2 same k l p q ordered h =
    let begins = h.begins in let ends = h.ends in
    let some : 1 ≤ r.count = r.nonempty in let more : 1 ≤ s.count = s.nonempty in
    record {
      first_below = p;
      second_below = q;
      in_order = ordered;
      in_first = (max (r.base + r.stride * k) (s.base + s.stride * l) - (r.base + r.stride * k), omega arith, omega arith);
      in_second = (max (r.base + r.stride * k) (s.base + s.stride * l) - (s.base + s.stride * l), omega arith, omega arith);
    }

-- They meet at no earlier word.
pub meet_word : (r s : Region) (q1 q2 : ℕ) (same : Bool) (k l a : ℕ) → Meets r q1 s q2 same k l a → max (r.base + r.stride * k) (s.base + s.stride * l) ≤ a
meet_word r s q1 q2 same k l a m =
    let i = m.in_first.0 in let first_is : r.base + r.stride * k + i ≡ a = m.in_first.2 in
    let j = m.in_second.0 in let second_is : s.base + s.stride * l + j ≡ a = m.in_second.2 in
    omega arith

-- Reaching is seen from both sides.
pub reach_back : (r s : Region) (k l : ℕ) → Reaches s (r.base + r.stride * k) r.count l → Reaches r (s.base + s.stride * l) s.count k
reach_back r s k l h = let begins = h.begins in let ends = h.ends in record { begins = omega arith; ends = omega arith }

-- ---- the first instance that reaches

-- A region all of whose words lie below the start never reaches it.
pub reach_none_outside : (r : Region) (start count low q : ℕ) → ((k : ℕ) → IsInside r k start) → NeverReaches r start count low q
reach_none_outside r start count low q h = λ l p b reaches. let e = inside_end r l start (h l) in let ends = reaches.ends in omega arith

-- An instance that reaches isn't before the first that ends after the start.
not_before : (r : Region) (start count first j : ℕ) → AllInside r first start → Reaches r start count j → first ≤ j
not_before r start count first j inside h = ⊎_elim
    (λ (l : j < first). let e = inside_end r j start (inside j l) in let ends = h.ends in absurd (omega arith)) (λ (l : first ≤ j). l) (cases_lt j first)

-- The first instance that reaches the words is the later of the first outside and the lowest that counts.
pub reach_found : (r : Region) (start count low q first l : ℕ) → IsOutside r first start → AllInside r first start → l ≡ max first low → l < q → r.base + r.stride * l < start + count
    → IsFirstReaching r start count low q l
reach_found r start count low q first l outside inside e below begins =
    let ends = outside_end r first start outside in
    let later = later_start r first l (omega arith) in
    record {
      from_low = omega arith;
      below = below;
      reaches = record { begins = begins; ends = omega arith };
      least = λ j p h. let b = not_before r start count first j inside h in omega arith;
    }

-- If that instance is past the last, none reaches the words.
pub reach_none_late : (r : Region) (start count low q first l : ℕ) → AllInside r first start → l ≡ max first low → q ≤ l → NeverReaches r start count low q
reach_none_late r start count low q first l inside e late = λ j p b h. let n = not_before r start count first j inside h in omega arith

-- If the words end before the region begins, none reaches them.
pub reach_none_begins : (r : Region) (start count low q first l : ℕ) → AllInside r first start → l ≡ max first low → start + count ≤ r.base + r.stride * l → NeverReaches r start count low q
reach_none_begins r start count low q first l inside e late = λ j p b h.
    let n = not_before r start count first j inside h in let later = later_start r l j (omega arith) in let begins = h.begins in omega arith

-- ---- the meetings of one instance

-- If no instance of the second region reaches those words, the instance of the first meets none.
pub at_none : (r s : Region) (q1 q2 : ℕ) (same : Bool) (k low : ℕ) → (same ≡ true → low ≡ k + 1) → (same ≡ false → low ≡ 0) → NeverReaches s (r.base + r.stride * k) r.count low q2 → NeverAt r q1 s q2 same k
at_none r s q1 q2 true k low one other none = λ l a m. let e = one refl in let o = m.in_order refl in none l (omega arith) m.second_below (reach_of r s q1 q2 true k l a m)
at_none r s q1 q2 false k low one other none = λ l a m. let e = other refl in none l (omega arith) m.second_below (reach_of r s q1 q2 false k l a m)

-- The first that reaches those words is the first that the instance meets.
pub at_found : (r s : Region) (q1 q2 : ℕ) (same : Bool) (k low l : ℕ) → (same ≡ true → low ≡ k + 1) → (same ≡ false → low ≡ 0) → k < q1
    → IsFirstReaching s (r.base + r.stride * k) r.count low q2 l → IsLeastAt r q1 s q2 same k l (max (r.base + r.stride * k) (s.base + s.stride * l))
at_found r s q1 q2 true k low l one other below h =
    let e = one refl in
    let from = h.from_low in
    record {
      meets = meet_of r s q1 q2 true k l below h.below (λ _. omega arith) h.reaches;
      second = λ j b m. let o = m.in_order refl in h.least j (omega arith) (reach_of r s q1 q2 true k j b m);
      third = λ b m. meet_word r s q1 q2 true k l b m;
    }
at_found r s q1 q2 false k low l one other below h =
    let e = other refl in
    record {
      meets = meet_of r s q1 q2 false k l below h.below (λ f. absurd cc) h.reaches;
      second = λ j b m. h.least j (omega arith) (reach_of r s q1 q2 false k j b m);
      third = λ b m. meet_word r s q1 q2 false k l b m;
    }

-- ---- from one instance to all

-- The least meeting of the first instance that has one is the least of all.
pub least_from : (r s : Region) (q1 q2 : ℕ) (same : Bool) (k l a : ℕ) → ((i j b : ℕ) → Meets r q1 s q2 same i j b → k ≤ i) → IsLeastAt r q1 s q2 same k l a → IsLeastMeet r q1 s q2 same k l a
least_from r s q1 q2 same k l a first h = record {
  meets = h.meets;
  least = λ i j b m. record {
    first = first i j b m;
    second = λ e. h.second j b (subst (λ (x : ℕ). Meets r q1 s q2 same x j b) (sym e) m);
    third = λ e f. h.third b (subst (λ (x : ℕ). Meets r q1 s q2 same k x b) (sym f) (subst (λ (x : ℕ). Meets r q1 s q2 same x j b) (sym e) m));
  };
}

-- If no earlier instance meets any, one that meets some comes no earlier.
pub none_earlier : (r s : Region) (q1 q2 : ℕ) (same : Bool) (k : ℕ) → ((i : ℕ) → i < k → NeverAt r q1 s q2 same i) → (i j b : ℕ) → Meets r q1 s q2 same i j b → k ≤ i
none_earlier r s q1 q2 same k none i j b m = ⊎_elim (λ (l : i < k). absurd (none i l j b m)) (λ (l : k ≤ i). l) (cases_lt i k)

-- ---- candidates

-- Of one task and one stride, instance 0 meets if any does.
pub candidate_zero : (r s : Region) (q1 q2 : ℕ) (same : Bool) → same ≡ true → r.stride ≡ s.stride → 0 < q1 → IsCandidate r q1 s q2 same 0
candidate_zero r s q1 q2 same one even some = record {
  below = some;
  first = λ i j b m. omega arith;
  met = λ none i j b m. meets_zero none i j b m (reach_of r s q1 q2 same i j b m);
}
  where
    meets_zero : NeverAt r q1 s q2 same 0 → (i j b : ℕ) → Meets r q1 s q2 same i j b → Reaches s (r.base + r.stride * i) r.count j → ⊥
    meets_zero none i j b m h =
        let o = m.in_order one in
        let below = m.second_below in
        let begins = h.begins in
        let ends = h.ends in
        let e : s.stride * j ≡ s.stride * (j - i + i) = ap (λ (z : ℕ). s.stride * z) (omega arith) in
        let f : r.stride * i ≡ s.stride * i = ap (λ (z : ℕ). z * i) even in
        none (j - i) (max (r.base + r.stride * 0) (s.base + s.stride * (j - i)))
        (meet_of r s q1 q2 same 0 (j - i) some (omega arith) (λ _. omega arith) (record { begins = omega arith; ends = omega arith }))

-- A region that stands still is reached by an instance wherever that meets any.
still_start : (s : Region) (l : ℕ) → s.stride ≡ 0 → s.base + s.stride * l ≡ s.base
still_start s l e = let f : s.stride * l ≡ 0 * l = ap (λ (z : ℕ). z * l) e in omega arith

still_reach : (r s : Region) (q1 q2 : ℕ) (k l a : ℕ) → s.stride ≡ 0 → Meets r q1 s q2 false k l a → Reaches r s.base s.count k
still_reach r s q1 q2 k l a e m = subst (λ (x : ℕ). Reaches r x s.count k) (still_start s l e) (reach_back r s k l (reach_of r s q1 q2 false k l a m))

still_none : (r s : Region) (q1 q2 : ℕ) → s.stride ≡ 0 → NeverReaches r s.base s.count 0 q1 → NeverMeet r q1 s q2 false
still_none r s q1 q2 e none = λ k l a m. none k (omega arith) m.first_below (still_reach r s q1 q2 k l a e m)

-- A region without a stride is met by the first instance that reaches its words.
pub still_found : (r s : Region) (q1 q2 k : ℕ) → s.stride ≡ 0 → IsFirstReaching r s.base s.count 0 q1 k → IsCandidate r q1 s q2 false k
still_found r s q1 q2 k e h = record {
  below = h.below;
  first = λ i j b m. h.least i (omega arith) (still_reach r s q1 q2 i j b e m);
  met = λ none i j b m. none j (max (r.base + r.stride * k) (s.base + s.stride * j))
      (meet_of r s q1 q2 false k j h.below m.second_below (λ f. absurd cc)
      (reach_back s r j k (subst (λ (x : ℕ). Reaches r x s.count k) (sym (still_start s j e)) h.reaches)));
}

-- ---- candidates by remainders

-- An instance that meets any ends after the other region's first word.
ends_after : (r s : Region) (q1 q2 : ℕ) (k l a : ℕ) → Meets r q1 s q2 false k l a → s.base < r.base + r.stride * k + r.count
ends_after r s q1 q2 k l a m = let h = reach_of r s q1 q2 false k l a m in let begins = h.begins in omega arith

-- If all instances of the first region lie below the second, none meet.
pub apart_none_inside : (r s : Region) (q1 q2 : ℕ) → ((k : ℕ) → IsInside r k s.base) → NeverMeet r q1 s q2 false
apart_none_inside r s q1 q2 inside = λ k l a m. let e = ends_after r s q1 q2 k l a m in let f = inside_end r k s.base (inside k) in omega arith

-- It isn't before the first that does.
from_low : (r s : Region) (q1 q2 low : ℕ) (k l a : ℕ) → AllInside r low s.base → Meets r q1 s q2 false k l a → low ≤ k
from_low r s q1 q2 low k l a inside m = ⊎_elim
    (λ (h : k < low). let e = ends_after r s q1 q2 k l a m in let f = inside_end r k s.base (inside k h) in absurd (omega arith)) (λ (h : low ≤ k). h) (cases_lt k low)

-- If the first instance that leaves that room is past the last, none meet.
pub apart_none_late : (r s : Region) (q1 q2 low : ℕ) → AllInside r low s.base → q1 ≤ low → NeverMeet r q1 s q2 false
apart_none_late r s q1 q2 low inside late = λ k l a m. let f = from_low r s q1 q2 low k l a inside m in let b = m.first_below in omega arith

-- A number at most d above a multiple of m leaves at most d.
leaves : (z d m j : ℕ) → m * j ≤ z → z ≤ m * j + d → z % m ≤ d
leaves z d m j low high =
    let e : z ≡ (z - m * j) + m * j = omega arith in
    let f : z % m ≡ (z - m * j) % m = ap (λ (x : ℕ). x % m) e ∙ add-mul-mod_self_left (z - m * j) m j in
    omega (arith, f, mod-le (z - m * j) m)

-- How far the last word of an instance that stands x after the first is past the other region's base.
past_at : (r s : Region) (low past x : ℕ) → s.base < r.base + r.stride * low + r.count → past ≡ r.base + r.stride * low + r.count - 1 - s.base
    → r.stride * x + past + s.base + 1 ≡ r.base + r.stride * (low + x) + r.count
past_at r s low past x beyond e = omega arith

-- An instance that meets any leaves a small remainder.
small_at : (r s : Region) (q1 q2 low past : ℕ) (k l a : ℕ) → s.base < r.base + r.stride * low + r.count → past ≡ r.base + r.stride * low + r.count - 1 - s.base → low ≤ k
    → Meets r q1 s q2 false k l a → (r.stride * (k - low) + past) % s.stride ≤ r.count + s.count - 2
small_at r s q1 q2 low past k l a beyond e from m =
    let h = reach_of r s q1 q2 false k l a m in let begins = h.begins in let ends = h.ends in
    let some : 1 ≤ r.count = r.nonempty in let more : 1 ≤ s.count = s.nonempty in
    let f = past_at r s low past (k - low) beyond e in
    let g : r.stride * (low + (k - low)) ≡ r.stride * k = ap (λ (z : ℕ). r.stride * z) (omega arith) in
    leaves (r.stride * (k - low) + past) (r.count + s.count - 2) s.stride l (omega arith) (omega arith)

-- If no residue falls on a word of the second region, none meet.
pub apart_none : (r s : Region) (q1 q2 low past : ℕ) → IsOutside r low s.base → AllInside r low s.base → past ≡ r.base + r.stride * low + r.count - 1 - s.base
    → HasNoResidue (q1 - low) r.stride past s.stride (r.count + s.count - 2) → NeverMeet r q1 s q2 false
apart_none r s q1 q2 low past outside inside e none = λ k l a m.
    let from = from_low r s q1 q2 low k l a inside m in
    let below = m.first_below in
    let small = small_at r s q1 q2 low past k l a (outside_end r low s.base outside) e from m in
    let large = none (k - low) (omega arith) in
    omega arith

-- The least residue that falls on a word of the second region gives the first that meet.
pub apart_found : (r s : Region) (q1 q2 low past x : ℕ) → IsOutside r low s.base → AllInside r low s.base → past ≡ r.base + r.stride * low + r.count - 1 - s.base
    → IsLeastResidue (q1 - low) r.stride past s.stride (r.count + s.count - 2) x → IsCandidate r q1 s q2 false (low + x)
apart_found r s q1 q2 low past x outside inside e h =
    let within = h.below in
    record { below = omega arith; first = first; met = λ none i j b m. met none i j b m (cases_lt j ((r.stride * x + past) / s.stride)) }
  where
    beyond : s.base < r.base + r.stride * low + r.count
    beyond = outside_end r low s.base outside

    first : (i j b : ℕ) → Meets r q1 s q2 false i j b → low + x ≤ i
    first i j b m = ⊎_elim
        (λ (l : i < low + x).
        let from = from_low r s q1 q2 low i j b inside m in
        let small = small_at r s q1 q2 low past i j b beyond e from m in
        let large = h.least (i - low) (omega arith) in
        absurd (omega arith))
        (λ (l : low + x ≤ i). l) (cases_lt i (low + x))

    meets_at : NeverAt r q1 s q2 false (low + x) → (l : ℕ) → l < q2 → Reaches s (r.base + r.stride * (low + x)) r.count l → ⊥
    meets_at none l below reaches =
        let within = h.below in
        none l (max (r.base + r.stride * (low + x)) (s.base + s.stride * l)) (meet_of r s q1 q2 false (low + x) l (omega arith) below (λ f. absurd cc) reaches)

    met : NeverAt r q1 s q2 false (low + x) → (i j b : ℕ) → Meets r q1 s q2 false i j b → (j < (r.stride * x + past) / s.stride) ⊎ ((r.stride * x + past) / s.stride ≤ j) → ⊥
    met none i j b m order =
        let f = past_at r s low past x beyond e in
        let g = div-add-mod (r.stride * x + past) s.stride in
        let small = h.small in
        let some : 1 ≤ r.count = r.nonempty in let more : 1 ≤ s.count = s.nonempty in
        let reaches = reach_of r s q1 q2 false i j b m in
        let ends = reaches.ends in
        let below = m.second_below in
        ⊎_elim
        (λ (l : j < (r.stride * x + past) / s.stride).
        let earlier = later_start s j ((r.stride * x + past) / s.stride) (omega arith) in
        let later = later_start r (low + x) i (first i j b m) in
        meets_at none j below (record { begins = omega arith; ends = omega arith }))
        (λ (l : (r.stride * x + past) / s.stride ≤ j).
        meets_at none ((r.stride * x + past) / s.stride) (omega arith) (record { begins = omega arith; ends = omega arith }))
        order

-- ---- answers of calls

-- What is said of the value of an Option may be weakened.
pub if_some : {X : Type 0} (P Q : X → Type 0) (o : Option X) → ((x : X) → P x → Q x) → IfSome o P → IfSome o Q
if_some P Q None f h = h
if_some P Q (Some x) f h = f x h

-- What is said of an Option without a value may be weakened.
pub if_none : {X : Type 0} (P Q : Type 0) (o : Option X) → (P → Q) → IfNone o P → IfNone o Q
if_none P Q None f h = f h
if_none P Q (Some x) f h = h

-- The least meeting of the first instance that has one is the least of all.
pub least_of : (r s : Region) (q1 q2 : ℕ) (same : Bool) (k : ℕ) (o : Option Meet) → ((i j b : ℕ) → Meets r q1 s q2 same i j b → k ≤ i)
    → IfSome o (λ m. (m.k ≡ k) × IsLeastAt r q1 s q2 same k m.l m.a) → IfSome o (λ m. IsLeastMeet r q1 s q2 same m.k m.l m.a)
least_of r s q1 q2 same k o first h = if_some (λ m. (m.k ≡ k) × IsLeastAt r q1 s q2 same k m.l m.a) (λ m. IsLeastMeet r q1 s q2 same m.k m.l m.a) o (λ m p. subst (λ (x : ℕ). IsLeastMeet r q1 s q2 same x m.l m.a) (sym p.0) (least_from r s q1 q2 same k m.l m.a first p.1)) h
