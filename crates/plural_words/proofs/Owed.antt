-- One of the duties that a seat owes: where it stands, and the others.
use Rattle.std.proofs.Common.{◌≡◌, ℕ, zero, suc, ◌==◌, ◌&&◌, Bool, true, false, cond, List, [], ◌∷◌, ◌++◌, Contains, sym, refl, ap, ◌∙◌, ⊎_elim, eqb-true, eq-eqb, arith}
use Rattle.std.proofs.lemmas.Bool.{cases_Bool}
use Rattle.plural_map.specs.declared.outcome.Outcome.{Outcome}
use Rattle.plural_map.specs.declared.outcome.Outcome.TheVariants as outcome
use Rattle.plural_counters.specs.declared.duty.Duty.{Duty}
use Rattle.plural_counters.specs.declared.duty.Duty.TheVariants.{Flag, Count, Close, Tell, Decide, Arm, Told}
use Rattle.plural_words.specs.Settling.{same_half, same_outcome, same_duty, without, outcome_told, place_told, telling}

and_left : (a b : Bool) → a && b ≡ true → a ≡ true
and_left true b h = refl
and_left false b h = h

and_right : (a b : Bool) → a && b ≡ true → b ≡ true
and_right true b h = h
and_right false b h = absurd (cc h)

half_is : (h i : Bool) → same_half h i ≡ true → h ≡ i
half_is true true e = refl
half_is true false e = absurd (cc e)
half_is false true e = absurd (cc e)
half_is false false e = refl

outcome_is : (o p : Outcome) → same_outcome o p ≡ true → o ≡ p
outcome_is outcome.Ended0 outcome.Ended0 e = refl
outcome_is outcome.Ended1 outcome.Ended1 e = refl
outcome_is outcome.Skipped outcome.Skipped e = refl
outcome_is outcome.Failed outcome.Failed e = refl
outcome_is _ _ e = absurd (cc e)

-- Duties that pass the test are equal.
duty_is : (d e : Duty) → same_duty d e ≡ true → d ≡ e
duty_is (Flag t k) (Flag u l) h = ap (λ x. Flag x k) (eqb-true t u (and_left _ _ h)) ∙ ap (λ x. Flag u x) (eqb-true k l (and_right (t == u) _ h))
duty_is (Count t k) (Count u l) h = ap (λ x. Count x k) (eqb-true t u (and_left _ _ h)) ∙ ap (λ x. Count u x) (eqb-true k l (and_right (t == u) _ h))
duty_is (Close t) (Close u) h = ap Close (eqb-true t u h)
duty_is (Tell t o e h) (Tell u p f i) q =
    let numbers = and_left ((t == u) && (e == f)) _ q in
    let others = and_right ((t == u) && (e == f)) _ q in
    ap (λ x. Tell x o e h) (eqb-true t u (and_left _ _ numbers))
    ∙ (ap (λ x. Tell u o x h) (eqb-true e f (and_right (t == u) _ numbers))
    ∙ (ap (λ x. Tell u x f h) (outcome_is o p (and_left _ _ others))
    ∙ ap (λ x. Tell u p f x) (half_is h i (and_right (same_outcome o p) _ others))))
duty_is (Decide t) (Decide u) h = ap Decide (eqb-true t u h)
duty_is (Arm t) (Arm u) h = ap Arm (eqb-true t u h)
duty_is (Told t o) (Told u p) h = ap (λ x. Told x o) (eqb-true t u (and_left _ _ h)) ∙ ap (λ x. Told u x) (outcome_is o p (and_right (t == u) _ h))
duty_is _ _ h = absurd (cc h)

both : {a b : Bool} → a ≡ true → b ≡ true → a && b ≡ true
both {a} {b} p q = ap (λ (x : Bool). x && b) p ∙ q

half_same : (h : Bool) → same_half h h ≡ true
half_same true = refl
half_same false = refl

outcome_same : (o : Outcome) → same_outcome o o ≡ true
outcome_same outcome.Ended0 = refl
outcome_same outcome.Ended1 = refl
outcome_same outcome.Skipped = refl
outcome_same outcome.Failed = refl

-- A duty passes the test with itself.
duty_same : (d : Duty) → same_duty d d ≡ true
duty_same (Flag t k) = both (eq-eqb t t refl) (eq-eqb k k refl)
duty_same (Count t k) = both (eq-eqb t t refl) (eq-eqb k k refl)
duty_same (Close t) = eq-eqb t t refl
duty_same (Tell t o e h) = both (both (eq-eqb t t refl) (eq-eqb e e refl)) (both (outcome_same o) (half_same h))
duty_same (Decide t) = eq-eqb t t refl
duty_same (Arm t) = eq-eqb t t refl
duty_same (Told t o) = both (eq-eqb t t refl) (outcome_same o)

-- Without the first of some duties the others are left.
pub without_first : (d : Duty) (l : List Duty) → without d (d ∷ l) ≡ l
without_first d l = ap (λ b. cond b l (d ∷ without d l)) (duty_same d)

-- Duties with one of them: those before its first place, and those after it.
pub record IsParted (d : Duty) (l : List Duty) : Type 0 where
  pub first : List Duty
  pub rest : List Duty
  pub all : l ≡ first ++ d ∷ rest
  pub others : without d l ≡ first ++ rest

-- It is one of the others, if it isn't the first.
else_later : (d e : Duty) (l : List Duty) → same_duty d e ≡ false → Contains (e ∷ l) d → Contains l d
else_later d e l miss (zero, few, at) = absurd (let no : true ≡ false = sym (ap (same_duty d) at ∙ duty_same d) ∙ miss in cc no)
else_later d e l miss (suc k, few, at) = (k, omega (arith, few), at)

-- Duties that have one are parted by it.
pub parted : (d : Duty) (l : List Duty) → Contains l d → IsParted d l
parted d [] (k, few, at) = absurd (omega (arith, few))
parted d (e ∷ l) there = ⊎_elim
    (λ hit. record { first = []; rest = l; all = ap (λ x. x ∷ l) (sym (duty_is d e hit)); others = ap (λ b. cond b l (e ∷ without d l)) hit })
    (λ miss. let p = parted d l (else_later d e l miss there) in record {
      first = e ∷ p.first;
      rest = p.rest;
      all = ap (λ x. e ∷ x) p.all;
      others = ap (λ b. cond b l (e ∷ without d l)) miss ∙ ap (λ x. e ∷ x) p.others;
    })
    (cases_Bool (same_duty d e))

-- The first of some duties is one of them.
pub first_there : (d : Duty) (l : List Duty) → Contains (d ∷ l) d
first_there d l = (0, omega arith, refl)

-- What is told of the task of a first duty that tells it.
pub outcome_first : (t : ℕ) (o : Outcome) (e : ℕ) (h : Bool) (l : List Duty) → outcome_told (Tell t o e h ∷ l) t ≡ o
outcome_first t o e h l = ap (λ b. cond b o (outcome_told l t)) (eq-eqb t t refl)

-- A task that is first told on is told next to the place that the duty says.
pub place_first : (t : ℕ) (o : Outcome) (e : ℕ) (h : Bool) (l : List Duty) → place_told (Tell t o e h ∷ l) t ≡ e
place_first t o e h l = ap (λ b. cond b e (place_told l t)) (eq-eqb t t refl)

-- Such a duty goes on telling it.
pub telling_first : (t : ℕ) (o : Outcome) (e : ℕ) (h b : Bool) (l : List Duty) → telling (Tell t o e h ∷ l) t b ≡ Tell t o e b
telling_first t o e h b l = ap (λ x. Tell t x (place_told (Tell t o e h ∷ l) t) b) (outcome_first t o e h l) ∙ ap (λ x. Tell t o x b) (place_first t o e h l)
