-- How many pairs of a buffer are of each class of words.
use Rattle.std.proofs.Common.{◌≡◌, ◌≢◌, ◌<◌, ◌≤◌, ◌+◌, ⊎_elim, ℕ, List, [], ◌∷◌, ◌++◌, length, get_or, set, take, refl, ap, ◌∙◌, arith}
use Rattle.std.specs.Prelude.{◌%◌, ◌==◌, if◌then◌else◌}
use Rattle.std.proofs.lemmas.List.{get_or-set_same, get_or-set_other, take-set}
use Rattle.std.proofs.lemmas.Grind.{take_at_read}
use Rattle.std.proofs.Math.ListN.{length-set}
use Rattle.std.proofs.lemmas.Bool.{cases_eq}
use Rattle.std.proofs.lemmas.Bool.Decides.{nat_tests}
use Rattle.plural_base.specs.Stores.{sets}
use Rattle.plural_cache.specs.Buffer.{of_class, AreCounted}

-- A pair counts for its own class.
one_here : (k r : ℕ) → r ≡ k → ◌≡◌ {A = ℕ} (if k == r then 1 else 0) 1
one_here k r e = grind (arith, nat_tests, e)

-- It counts for no other.
one_elsewhere : (k r : ℕ) → r ≢ k → ◌≡◌ {A = ℕ} (if k == r then 1 else 0) 0
one_elsewhere k r e = grind (arith, nat_tests, e)

one_few : (k r : ℕ) → (if k == r then 1 else 0) ≤ 1
one_few k r = ⊎_elim (λ (e : r ≡ k). omega (arith, one_here k r e)) (λ (e : r ≢ k). omega (arith, one_elsewhere k r e)) (cases_eq r k)

-- One pair more counts for its own class.
pub of_class_more : (r : ℕ) (pairs : List (ℕ × ℕ)) (s : ℕ × ℕ)
    → of_class r (pairs ++ s ∷ []) ≡ of_class r pairs + (if s.0 % 64 == r then 1 else 0)
of_class_more r [] s = omega arith
of_class_more r (x ∷ rest) s = omega (arith, of_class_more r rest s)

-- A class has no more pairs than there are.
pub of_class_few : (r : ℕ) (pairs : List (ℕ × ℕ)) → of_class r pairs ≤ length pairs
of_class_few r [] = omega arith
of_class_few r (x ∷ rest) = omega (arith, one_few (x.0 % 64) r, of_class_few r rest)

-- If no pair is of the class of a word, the word stays.
pub none_of_class : (m : List ℕ) (pairs : List (ℕ × ℕ)) (a : ℕ) → of_class (a % 64) pairs ≡ 0
    → get_or (sets m pairs) a 0 ≡ get_or m a 0
none_of_class m [] a h = refl
none_of_class m (s ∷ rest) a h =
    none_of_class (set m s.0 s.1) rest a (omega (arith, h)) ∙ get_or-set_other m s.0 a s.1 0 (λ e. omega (arith, h, one_here (s.0 % 64) (a % 64) (ap (λ n. n % 64) e)))

-- The pairs after one more was put after the first so many.
pub taken_more : (pairs : List (ℕ × ℕ)) (used : ℕ) (s : ℕ × ℕ) → used < length pairs
    → take (used + 1) (set pairs used s) ≡ take used pairs ++ s ∷ []
taken_more pairs used s h =
    (take_at_read (set pairs used s) used s (omega (arith, length-set pairs used s))).1
    ∙ ap (λ (first : List (ℕ × ℕ)). first ++ get_or (set pairs used s) used s ∷ []) (take-set pairs used s)
    ∙ ap (λ (x : ℕ × ℕ). take used pairs ++ x ∷ []) (get_or-set_same pairs used s s h)

-- The numbers by class with one pair more.
pub counted_more : (pairs : List (ℕ × ℕ)) (counts : List ℕ) (s : ℕ × ℕ) → AreCounted pairs counts
    → AreCounted (pairs ++ s ∷ []) (set counts (s.0 % 64) (get_or counts (s.0 % 64) 0 + 1))
counted_more pairs counts s c =
    let k = s.0 % 64 in
    let n = get_or counts k 0 + 1 in
    record {
      all = length-set counts k n ∙ c.all;
      each = λ r h. ⊎_elim
          (λ (e : r ≡ k). ap (λ x. get_or (set counts k n) x 0) e ∙ get_or-set_same counts k n 0 (omega (arith, c.all, h, e)) ∙ omega (arith, ap (λ i. of_class i pairs) e, c.each k (omega (arith, h, e)), of_class_more r pairs s, one_here k r e))
          (λ (e : r ≢ k). get_or-set_other counts k r n 0 e ∙ omega (arith, c.each r h, of_class_more r pairs s, one_elsewhere k r e))
          (cases_eq r k);
    }
