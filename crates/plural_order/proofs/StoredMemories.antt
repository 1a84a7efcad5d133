-- Memories with stores set in order.
use Rattle.std.proofs.Common.{◌≡◌, ◌≢◌, ℕ, zero, suc, Bool, true, false, List, [], ◌∷◌, length, get_or, refl, sym, ap, ◌∙◌, arith, get_or-set_other}
use Rattle.std.specs.Prelude.{slice_set}
use Rattle.std.specs.List.{All}
use Rattle.std.proofs.Math.ListN.{length-set}
use Rattle.std.proofs.lemmas.Bool.{both_ways}
use Rattle.std.proofs.lemmas.List.Elements.{All-head, All-tail}
use Rattle.plural_base.specs.Stores.{sets}

-- Stores keep a memory's length.
pub sets_long : (m : List ℕ) (ss : List (ℕ × ℕ)) → length (sets m ss) ≡ length m
sets_long m [] = refl
sets_long m (s ∷ ss) = sets_long (slice_set m s.0 s.1) ss ∙ length-set m s.0 s.1

-- Stores leave a word that none of them is to.
pub sets_else : (writes : ℕ → Bool) (m : List ℕ) (ss : List (ℕ × ℕ)) (a : ℕ) → All (λ s. writes s.0 ≡ true) ss → writes a ≡ false → get_or (sets m ss) a 0 ≡ get_or m a 0
sets_else writes m [] a h f = refl
sets_else writes m (s ∷ ss) a h f =
    let here : writes s.0 ≡ true = All-head (λ (s : ℕ × ℕ). writes s.0 ≡ true) s ss h in
    let other : a ≢ s.0 = λ (e : a ≡ s.0). both_ways (writes s.0) (ap writes (sym e) ∙ f) here in
    sets_else writes (slice_set m s.0 s.1) ss a (All-tail (λ (s : ℕ × ℕ). writes s.0 ≡ true) s ss h) f
    ∙ get_or-set_other m s.0 a s.1 0 other

set_same : (m n : List ℕ) (i v a : ℕ) → length m ≡ length n → get_or m a 0 ≡ get_or n a 0 → get_or (slice_set m i v) a 0 ≡ get_or (slice_set n i v) a 0
set_same [] [] i v a l e = refl
set_same [] (y ∷ ys) i v a l e = absurd (omega arith)
set_same (x ∷ xs) [] i v a l e = absurd (omega arith)
set_same (x ∷ xs) (y ∷ ys) zero v zero l e = refl
set_same (x ∷ xs) (y ∷ ys) zero v (suc a) l e = e
set_same (x ∷ xs) (y ∷ ys) (suc i) v zero l e = e
set_same (x ∷ xs) (y ∷ ys) (suc i) v (suc a) l e = set_same xs ys i v a (omega arith) e

-- Over memories of one length that agree at a word, the same stores leave the same there.
pub sets_same : (m n : List ℕ) (ss : List (ℕ × ℕ)) (a : ℕ) → length m ≡ length n → get_or m a 0 ≡ get_or n a 0 → get_or (sets m ss) a 0 ≡ get_or (sets n ss) a 0
sets_same m n [] a l e = e
sets_same m n (s ∷ ss) a l e =
    sets_same (slice_set m s.0 s.1) (slice_set n s.0 s.1) ss a
    (length-set m s.0 s.1 ∙ (l ∙ sym (length-set n s.0 s.1)))
    (set_same m n s.0 s.1 a l e)

-- Memories of one length that agree at each word are equal.
pub memories_same : (m n : List ℕ) → length m ≡ length n → ((a : ℕ) → get_or m a 0 ≡ get_or n a 0) → m ≡ n
memories_same [] [] l h = refl
memories_same [] (y ∷ ys) l h = absurd (omega arith)
memories_same (x ∷ xs) [] l h = absurd (omega arith)
memories_same (x ∷ xs) (y ∷ ys) l h = let e : x ≡ y = h 0 in let r = memories_same xs ys (omega arith) (λ a. h (suc a)) in cc
