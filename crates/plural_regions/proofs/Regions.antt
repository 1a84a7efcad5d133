use Rattle.std.proofs.Common.{ℕ, List, [], ◌∷◌, ◌≡◌, ◌+◌, ◌-◌, ◌*◌, ◌<◌, ◌≤◌, Bool, true, false, ◌&&◌, arith, sym, ◌∙◌, IsTrue, ◌↔◌, refl}
use Rattle.std.specs.List.{Any}
use Rattle.std.proofs.lemmas.Bool.Decides.{nat_tests}
use Rattle.std.proofs.lemmas.List.Folds.{Any-from_list_any, list_any-from_Any}
use Rattle.plural_regions.specs.Rights.{IsIn, is_in, is_write, may_read, may_write, InReads, InWrites}
use Rattle.plural_regions.specs.declared.region.Region.{Region}
use Rattle.plural_regions.specs.declared.region.Mode.{Mode}
use Rattle.plural_regions.specs.declared.region.Mode.TheVariants as mode

-- A word of the region passes the test.
pub is_in_when : (r : Region) (k a : ℕ) → IsIn r k a → is_in r k a ≡ true
is_in_when r k a h = let i = h.0 in let l = h.1 in let e = h.2 in grind (arith, nat_tests)

-- What passes the test is a word of the region.
pub in_from_test : (r : Region) (k a : ℕ) → is_in r k a ≡ true → IsIn r k a
in_from_test r k a h =
    let low : r.base + r.stride * k ≤ a = grind (arith, nat_tests) in
    let high : a < r.base + r.stride * k + r.count = grind (arith, nat_tests) in
    (a - (r.base + r.stride * k), omega arith, omega arith)

-- The test for being a word of a region is true exactly if the word is one.
pub is_in_iff : (r : Region) (k a : ℕ) (b : Bool) → b ≡ is_in r k a → IsTrue b ↔ IsIn r k a
is_in_iff r k a b e = ((λ h. in_from_test r k a (sym e ∙ h)), (λ h. e ∙ is_in_when r k a h))

-- What may be written may be read.
pub may_read_from_write : (rs : List Region) (k a : ℕ) → may_write rs k a ≡ true → may_read rs k a ≡ true
may_read_from_write [] k a h = h
may_read_from_write (r ∷ rs) k a h = grind (arith, may_read_from_write rs k a)

-- A property of some element, by another that follows from it.
any_from : {X : Type 0} (P Q : X → Type 0) (xs : List X) → ((x : X) → P x → Q x) → Any P xs → Any Q xs
any_from P Q xs f h = (h.0, h.1, h.2, h.3, f h.1 h.4)

-- The test for what an instance may read is true exactly if some region has the word.
pub reads_iff : (rs : List Region) (k a : ℕ) → IsTrue (may_read rs k a) ↔ InReads rs k a
reads_iff rs k a = (
  (λ h. any_from (λ r. is_in r k a ≡ true) (λ r. IsIn r k a) rs (λ r p. in_from_test r k a p) (Any-from_list_any (λ r. is_in r k a) rs h)),
  (λ h. list_any-from_Any (λ r. is_in r k a) rs (any_from (λ r. IsIn r k a) (λ r. is_in r k a ≡ true) rs (λ r p. is_in_when r k a p) h)),
)

write_is : (m : Mode) → is_write m ≡ true → m ≡ mode.Write
write_is mode.Read h = cc
write_is mode.Write h = refl

both_true : (a b : Bool) → a && b ≡ true → (a ≡ true) × (b ≡ true)
both_true true b h = (refl, h)
both_true false b h = cc

writes_from_test : (k a : ℕ) (r : Region) → is_write r.mode && is_in r k a ≡ true → (r.mode ≡ mode.Write) × IsIn r k a
writes_from_test k a r h = let p = both_true (is_write r.mode) (is_in r k a) h in (write_is r.mode p.0, in_from_test r k a p.1)

test_from_writes : (k a : ℕ) (r : Region) → (r.mode ≡ mode.Write) × IsIn r k a → is_write r.mode && is_in r k a ≡ true
test_from_writes k a r h = rw (h.0, is_in_when r k a h.1) refl

-- The test for what an instance may write is true exactly if some write region has the word.
pub writes_iff : (rs : List Region) (k a : ℕ) → IsTrue (may_write rs k a) ↔ InWrites rs k a
writes_iff rs k a = (
  (λ h. any_from (λ r. is_write r.mode && is_in r k a ≡ true) (λ r. (r.mode ≡ mode.Write) × IsIn r k a) rs (writes_from_test k a)
      (Any-from_list_any (λ r. is_write r.mode && is_in r k a) rs h)),
  (λ h. list_any-from_Any (λ r. is_write r.mode && is_in r k a) rs
      (any_from (λ r. (r.mode ≡ mode.Write) × IsIn r k a) (λ r. is_write r.mode && is_in r k a ≡ true) rs (test_from_writes k a) h)),
)
