-- Tasks have one first clash, and one answer that tells it.
use Rattle.std.proofs.Common.{◌≡◌, ℕ, List, sym, subst, ◌∙◌, arith, ◌⊎◌, inl, inr}
use Rattle.plural_map.specs.Value.{TaskValue}
use Rattle.plural_crew.specs.Clashes.{IsAccepted, IsFirstClash}
use Rattle.plural_cli.specs.Check.{clash_text, IsClashing}
use Rattle.plural_promise.proofs.OneFault.{IsOne}

-- The five numbers of two clashes are the same.
record AreSame (t k u l a t' k' u' l' a' : ℕ) : Type 0 where
  first : t ≡ t'
  first_instance : k ≡ k'
  second : u ≡ u'
  second_instance : l ≡ l'
  word : a ≡ a'

-- First clashes of the same two tasks are the same.
same_tasks : (tasks : List TaskValue) (t u k l a k' l' a' : ℕ) → IsFirstClash tasks t k u l a → IsFirstClash tasks t k' u l' a' → AreSame t k u l a t k' u l' a'
same_tasks tasks t u k l a k' l' a' f g =
    let x = f.least k' l' a' g.clash g.ordered in
    let y = g.least k l a f.clash f.ordered in
    let kk : k ≡ k' = omega (arith, x.first, y.first) in
    let ll : l ≡ l' = omega (arith, x.second kk, y.second (sym kk)) in
    record { first = omega arith; first_instance = kk; second = omega arith; second_instance = ll; word = omega (arith, x.third kk ll, y.third (sym kk) (sym ll)) }

same_first : (tasks : List TaskValue) (t k u l a k' u' l' a' : ℕ) → IsFirstClash tasks t k u l a → IsFirstClash tasks t k' u' l' a' → AreSame t k u l a t k' u' l' a'
same_first tasks t k u l a k' u' l' a' f g =
    let uu : u' ≡ u = omega (arith, f.second k' u' l' a' g.clash g.ordered, g.second k u l a f.clash f.ordered) in
    let s = same_tasks tasks t u k l a k' l' a' f (subst (λ v. IsFirstClash tasks t k' v l' a') uu g) in
    record { first = s.first; first_instance = s.first_instance; second = sym uu; second_instance = s.second_instance; word = s.word }

one_clash : (tasks : List TaskValue) (t k u l a t' k' u' l' a' : ℕ) → IsFirstClash tasks t k u l a → IsFirstClash tasks t' k' u' l' a' → AreSame t k u l a t' k' u' l' a'
one_clash tasks t k u l a t' k' u' l' a' f g =
    let tt' : t' ≡ t = omega (arith, f.first t' k' u' l' a' g.clash g.ordered, g.first t k u l a f.clash f.ordered) in
    let s = same_first tasks t k u l a k' u' l' a' f (subst (λ v. IsFirstClash tasks v k' u' l' a') tt' g) in
    record { first = sym tt'; first_instance = s.first_instance; second = s.second; second_instance = s.second_instance; word = s.word }

one_clashing : (tasks : List TaskValue) → IsOne (IsClashing tasks)
one_clashing tasks s t s' t' f g =
    let e = one_clash tasks f.t f.k f.u f.l f.a g.t g.k g.u g.l g.a f.first g.first in (
      f.status_is ∙ sym g.status_is,
      f.text_is ∙ (λ i. clash_text tasks (e.first i) (e.first_instance i) (e.second i) (e.second_instance i) (e.word i)) ∙ sym g.text_is,
    )

-- An answer to tasks without a clash, or the one that tells their first, is one if the former is.
pub one_or_clashing : (tasks : List TaskValue) (Is : ℕ → List ℕ → Type 0) → ((s : ℕ) (t : List ℕ) → Is s t → IsAccepted tasks) → IsOne Is → IsOne (λ s t. Is s t ⊎ IsClashing tasks s t)
one_or_clashing tasks Is accepted one s t s' t' (inl a) (inl b) = one s t s' t' a b
one_or_clashing tasks Is accepted one s t s' t' (inl a) (inr c) = absurd (accepted s t a c.t c.k c.u c.l c.a c.first.clash)
one_or_clashing tasks Is accepted one s t s' t' (inr c) (inl b) = absurd (accepted s' t' b c.t c.k c.u c.l c.a c.first.clash)
one_or_clashing tasks Is accepted one s t s' t' (inr c) (inr d) = one_clashing tasks s t s' t' c d
