-- The least triple with a property.
use Rattle.std.proofs.Common.{ℕ, ◌≡◌, ◌⊎◌, ◌+◌, ◌<◌, Bool, true, false, List, length, take, get_or, Option, Some, None, refl, inl, inr, ⊎_elim, arith}
use Rattle.std.specs.Prelude.{IfSome, IfNone, if◌then◌else◌}
use Rattle.std.specs.List.{Any}
use Rattle.std.proofs.lemmas.Bool.Decides.{nat_tests}
use Rattle.plural_regions.specs.declared.region.Region.{Region}
use Rattle.plural_regions.specs.declared.triple.Meet.{Meet}
use Rattle.plural_regions.specs.Meeting.{IsNoLater, IsLeastMeet, NeverMeet}
use Rattle.plural_crew.specs.Search.{IsLeastOf, OneWrites, MeetWriting, is_less, lesser}
use Rattle.plural_crew.proofs.ListLemmas.{any_more, any_kept, any_last}

-- ---- the order of triples

later_trans : (k l a i j b p q c : ℕ) → IsNoLater k l a i j b → IsNoLater i j b p q c → IsNoLater k l a p q c
later_trans k l a i j b p q c g h =
    let one = g.first in let two = h.first in
    record {
      first = omega arith;
      second = λ e. let m = g.second (omega arith) in let n = h.second (omega arith) in omega arith;
      third = λ e f.
          let m = g.second (omega arith) in let n = h.second (omega arith) in
          let o = g.third (omega arith) (omega arith) in let r = h.third (omega arith) (omega arith) in
          omega arith;
    }

less_no_later : (m n : Meet) → is_less m n ≡ true → IsNoLater m.k m.l m.a n.k n.l n.a
less_no_later m n h = record { first = grind (arith, nat_tests); second = λ e. grind (arith, nat_tests); third = λ e f. grind (arith, nat_tests) }

not_less_later : (m n : Meet) → is_less m n ≡ false → IsNoLater n.k n.l n.a m.k m.l m.a
not_less_later m n h = record { first = grind (arith, nat_tests); second = λ e. grind (arith, nat_tests); third = λ e f. grind (arith, nat_tests) }

-- ---- the lesser of two

-- A property that is the same has the same least triple.
pub least_same : (P Q : ℕ → ℕ → ℕ → Type 0) (o : Option Meet) → ((k l a : ℕ) → P k l a → Q k l a) → ((k l a : ℕ) → Q k l a → P k l a) → IsLeastOf P o → IsLeastOf Q o
least_same P Q None to from h = λ k l a q. h k l a (from k l a q)
least_same P Q (Some m) to from h = record { has = to m.k m.l m.a h.has; least = λ i j b q. h.least i j b (from i j b q) }

-- Of two properties the lesser of the least triples is the least with either.
lesser_of : (P Q : ℕ → ℕ → ℕ → Type 0) (x y : Option Meet) → IsLeastOf P x → IsLeastOf Q y → IsLeastOf (λ k l a. P k l a ⊎ Q k l a) (lesser x y)
lesser_of P Q None None p q = λ k l a. ⊎_elim (p k l a) (q k l a)
lesser_of P Q None (Some n) p q = record { has = inr q.has; least = λ i j b. ⊎_elim (λ h. absurd (p i j b h)) (q.least i j b) }
lesser_of P Q (Some m) None p q = record { has = inl p.has; least = λ i j b. ⊎_elim (p.least i j b) (λ h. absurd (q i j b h)) }
lesser_of P Q (Some m) (Some n) p q = by_test (is_less n m) refl
  where
    by_test : (b : Bool) → is_less n m ≡ b → IsLeastOf (λ k l a. P k l a ⊎ Q k l a) (if b then Some n else Some m)
    by_test true e = record {
      has = inr q.has;
      least = λ i j b. ⊎_elim (λ h. later_trans n.k n.l n.a m.k m.l m.a i j b (less_no_later n m e) (p.least i j b h)) (q.least i j b);
    }
    by_test false e = record {
      has = inl p.has;
      least = λ i j b. ⊎_elim (p.least i j b) (λ h. later_trans m.k m.l m.a n.k n.l n.a i j b (not_less_later n m e) (q.least i j b h));
    }

-- ---- along a list

-- Among no elements there is no least triple.
pub least_none : {X : Type 0} (P : X → ℕ → ℕ → ℕ → Type 0) (xs : List X) → IsLeastOf (λ k l a. Any (λ x. P x k l a) (take 0 xs)) None
least_none P xs = λ k l a h. let within : h.0 < length (take 0 xs) = h.2 in nothing h.0 within
  where
    nothing : (i : ℕ) → i < 0 → ⊥
    nothing i l = omega arith

-- The lesser of what the first elements give and what the next gives is what one more gives.
pub least_more : {X : Type 0} (P : X → ℕ → ℕ → ℕ → Type 0) (xs : List X) (n : ℕ) (d : X) (x y : Option Meet) → n < length xs → IsLeastOf (λ k l a. Any (λ z. P z k l a) (take n xs)) x
    → IsLeastOf (P (get_or xs n d)) y → IsLeastOf (λ k l a. Any (λ z. P z k l a) (take (n + 1) xs)) (lesser x y)
least_more P xs n d x y l p q = least_same (λ k l a. Any (λ z. P z k l a) (take n xs) ⊎ P (get_or xs n d) k l a) (λ k l a. Any (λ z. P z k l a) (take (n + 1) xs)) (lesser x y)
    (λ k l' a. ⊎_elim (any_kept (λ z. P z k l' a) xs n l) (any_last (λ z. P z k l' a) xs n d l))
    (λ k l' a. any_more (λ z. P z k l' a) xs n d l)
    (lesser_of (λ k l' a. Any (λ z. P z k l' a) (take n xs)) (P (get_or xs n d)) x y p q)

-- ---- one meeting

-- The least meeting of two regions of which one is written is the least at which they meet so.
pub least_of_meet : (r : Region) (q1 : ℕ) (s : Region) (q2 : ℕ) (same_task : Bool) (o : Option Meet) → OneWrites r s
    → IfSome o (λ m. IsLeastMeet r q1 s q2 same_task m.k m.l m.a) → IfNone o (NeverMeet r q1 s q2 same_task) → IsLeastOf (MeetWriting r q1 s q2 same_task) o
least_of_meet r q1 s q2 same_task None w found none = λ k l a h. none k l a h.1
least_of_meet r q1 s q2 same_task (Some m) w found none = record { has = (w, found.meets); least = λ i j b h. found.least i j b h.1 }
