-- The newest lines of a set decide what hits.
use Rattle.std.proofs.Common.{◌≡◌, ℕ, zero, suc, ◌+◌, ◌/◌, ◌%◌, ◌≤◌, Bool, true, false, ◌&&◌, eqb, ltb, cond, List, [], ◌∷◌, ◌++◌, length, map, reverse, take, refl, sym, ap, ◌∙◌, arith, eq-eqb}
use Rattle.std.proofs.lemmas.Bool.Decides.{nat_tests}
use Rattle.std.proofs.lemmas.List.{reverse-append, map-append, length-reverse}
use Rattle.plural_cache.specs.Miss.{is_in, since, without, different, of_set, lines_back, hits_after, misses_back, hits, misses_of, present_after}

lines_back-append : (h : List ℕ) (a : ℕ) → lines_back (h ++ a ∷ []) ≡ a / 8 ∷ lines_back h
lines_back-append h a = ap reverse (map-append (λ a. a / 8) h (a ∷ [])) ∙ reverse-append (map (λ a. a / 8) h) (a / 8 ∷ [])

-- Two filters.
since-without : (x y : ℕ) (l : List ℕ) → eqb y x ≡ false → since x (without y l) ≡ without y (since x l)
since-without x y [] e = refl
since-without x y (z ∷ l) e = grind (arith, nat_tests, since-without x y l e)

since-of_set : (sets x : ℕ) (l : List ℕ) → since x (of_set sets (x % sets) l) ≡ of_set sets (x % sets) (since x l)
since-of_set sets x [] = refl
since-of_set sets x (z ∷ l) = grind (arith, nat_tests, since-of_set sets x l)

since-different : (x : ℕ) (l : List ℕ) → since x (different l) ≡ different (since x l)
since-different x [] = refl
since-different x (y ∷ l) = grind (arith, nat_tests, since-different x l, since-without x y (different l))

is_in-without : (x y : ℕ) (l : List ℕ) → eqb y x ≡ false → is_in x (without y l) ≡ is_in x l
is_in-without x y [] e = refl
is_in-without x y (z ∷ l) e = grind (arith, nat_tests, is_in-without x y l e)

is_in-different : (x : ℕ) (l : List ℕ) → is_in x (different l) ≡ is_in x l
is_in-different x [] = refl
is_in-different x (y ∷ l) = grind (arith, nat_tests, is_in-different x l, is_in-without x y (different l))

is_in-of_set : (sets x : ℕ) (l : List ℕ) → is_in x (of_set sets (x % sets) l) ≡ is_in x l
is_in-of_set sets x [] = refl
is_in-of_set sets x (y ∷ l) = grind (arith, nat_tests, is_in-of_set sets x l)

is_in-take : (x n : ℕ) (l : List ℕ) → is_in x (take n l) ≡ (is_in x l && ltb (length (since x l)) n)
is_in-take x zero l = grind (arith, nat_tests)
is_in-take x (suc n) [] = refl
is_in-take x (suc n) (y ∷ l) = grind (arith, nat_tests, is_in-take x n l)

-- No line stands twice.
abbrev pub Unique : List ℕ → Type 0
Unique [] = Unit {0}
Unique (y ∷ ys) = (is_in y ys ≡ false) × Unique ys

is_in-without_none : (x y : ℕ) (l : List ℕ) → is_in y l ≡ false → is_in y (without x l) ≡ false
is_in-without_none x y [] e = refl
is_in-without_none x y (z ∷ l) e = grind (arith, nat_tests, is_in-without_none x y l)

is_in-without_self : (y : ℕ) (l : List ℕ) → is_in y (without y l) ≡ false
is_in-without_self y [] = refl
is_in-without_self y (z ∷ l) = grind (arith, nat_tests, is_in-without_self y l)

unique_without : (x : ℕ) (l : List ℕ) → Unique l → Unique (without x l)
unique_without x [] u = tt
unique_without x (y ∷ l) u =
    elim (eqb y x) as (λ b. Unique (cond b (without x l) (y ∷ without x l))) [ true ↦ unique_without x l u.1 | false ↦ (is_in-without_none x y l u.0, unique_without x l u.1) ]

unique_different : (l : List ℕ) → Unique (different l)
unique_different [] = tt
unique_different (y ∷ l) = (is_in-without_self y (different l), unique_without y (different l) (unique_different l))

-- Without a line that is absent, the lines are as they were.
pub without_none : (x : ℕ) (l : List ℕ) → is_in x l ≡ false → without x l ≡ l
without_none x [] e = refl
without_none x (y ∷ l) e = grind (arith, nat_tests, without_none x l)

is_in-take_none : (x n : ℕ) (l : List ℕ) → is_in x l ≡ false → is_in x (take n l) ≡ false
is_in-take_none x zero l e = refl
is_in-take_none x (suc n) [] e = refl
is_in-take_none x (suc n) (y ∷ l) e = grind (arith, nat_tests, is_in-take_none x n l)

take-without_miss : (x n : ℕ) (l : List ℕ) → is_in x (take (suc n) l) ≡ false → take n (without x l) ≡ take n l
take-without_miss x zero l e = refl
take-without_miss x (suc n) [] e = refl
take-without_miss x (suc n) (y ∷ l) e = grind (arith, nat_tests, take-without_miss x n l)

take-without_hit : (x n : ℕ) (l : List ℕ) → Unique l → is_in x (take (suc n) l) ≡ true → take n (without x l) ≡ without x (take (suc n) l)
take-without_hit x zero [] u e = refl
take-without_hit x zero (y ∷ l) u e = grind (arith, nat_tests)
take-without_hit x (suc n) [] u e = refl
take-without_hit x (suc n) (y ∷ l) u e =
    let first = u.0 in
    let none : is_in y (take (suc n) l) ≡ false = is_in-take_none y (suc n) l first in
    let more = take-without_hit x n l u.1 in
    let gone = without_none y l first in
    let kept = without_none y (take (suc n) l) none in
    grind (arith, nat_tests)

unique_take : (n : ℕ) (l : List ℕ) → Unique l → Unique (take n l)
unique_take zero l u = tt
unique_take (suc n) [] u = tt
unique_take (suc n) (y ∷ l) u = (is_in-take_none y n l u.0, unique_take n l u.1)

take_take : (m n : ℕ) (l : List ℕ) → m ≤ n → take m (take n l) ≡ take m l
take_take zero n l le = refl
take_take (suc m) zero l le = absurd (let h : ⊥ = omega arith in h)
take_take (suc m) (suc n) [] le = refl
take_take (suc m) (suc n) (y ∷ l) le = ap (λ (r : List ℕ). y ∷ r) (take_take m n l (omega arith))

module _ (sets ways : ℕ) where
  pub hits_is : (h : List ℕ) (a : ℕ) → hits sets ways h a ≡ is_in (a / 8) (present_after sets ways h (a / 8 % sets))
  unfolding hits present_after
  hits_is h a =
      let x = a / 8 in
      let l = lines_back h in
      let own = of_set sets (x % sets) l in
      let present = is_in-take x ways (different own) in
      let there = is_in-different x own ∙ is_in-of_set sets x l in
      let since_own = since-different x own ∙ ap different (since-of_set sets x l) in
      sym (present ∙ ap (λ b. b && ltb (length (since x (different own))) ways) there ∙ ap (λ (d : List ℕ). is_in x l && ltb (length d) ways) since_own)

  pub misses_none : misses_of sets ways [] ≡ 0
  unfolding misses_of
  misses_none = refl

  pub misses_more : (h : List ℕ) (a : ℕ) → misses_of sets ways (h ++ a ∷ []) ≡ misses_of sets ways h + cond (hits sets ways h a) 0 1
  unfolding misses_of hits
  misses_more h a = ap (misses_back sets ways) (lines_back-append h a)

  pub present_none : (s : ℕ) → present_after sets ways [] s ≡ []
  unfolding present_after
  present_none s = grind arith

  present_next : (h : List ℕ) (a s : ℕ) → present_after sets ways (h ++ a ∷ []) s ≡ take ways (different (of_set sets s (a / 8 ∷ lines_back h)))
  unfolding present_after
  present_next h a s = ap (λ (l : List ℕ). take ways (different (of_set sets s l))) (lines_back-append h a)

  pub present_other : (h : List ℕ) (a s : ℕ) → eqb (a / 8 % sets) s ≡ false → present_after sets ways (h ++ a ∷ []) s ≡ present_after sets ways h s
  unfolding present_after
  present_other h a s e = present_next h a s ∙ ap (λ (b : Bool). take ways (different (cond b (a / 8 ∷ of_set sets s (lines_back h)) (of_set sets s (lines_back h))))) e

  own_next : (h : List ℕ) (a : ℕ) → present_after sets ways (h ++ a ∷ []) (a / 8 % sets) ≡ take ways (a / 8 ∷ without (a / 8) (different (of_set sets (a / 8 % sets) (lines_back h))))
  own_next h a = present_next h a (a / 8 % sets) ∙ ap (λ (b : Bool). take ways (different (cond b (a / 8 ∷ of_set sets (a / 8 % sets) (lines_back h)) (of_set sets (a / 8 % sets) (lines_back h))))) (eq-eqb (a / 8 % sets) (a / 8 % sets) refl)

  pub present_hit : (h : List ℕ) (a n : ℕ) → ways ≡ suc n → is_in (a / 8) (present_after sets ways h (a / 8 % sets)) ≡ true → present_after sets ways (h ++ a ∷ []) (a / 8 % sets) ≡ a / 8 ∷ without (a / 8) (present_after sets ways h (a / 8 % sets))
  unfolding present_after
  present_hit h a n e i =
      let d = different (of_set sets (a / 8 % sets) (lines_back h)) in
      let there : is_in (a / 8) (take (suc n) d) ≡ true = ap (λ w. is_in (a / 8) (take w d)) (sym e) ∙ i in
      own_next h a
      ∙ ap (λ w. take w (a / 8 ∷ without (a / 8) d)) e
      ∙ ap (λ (l : List ℕ). a / 8 ∷ l) (take-without_hit (a / 8) n d (unique_different _) there)
      ∙ ap (λ w. a / 8 ∷ without (a / 8) (take w d)) (sym e)

  pub present_miss : (h : List ℕ) (a n : ℕ) → ways ≡ suc n → is_in (a / 8) (present_after sets ways h (a / 8 % sets)) ≡ false → present_after sets ways (h ++ a ∷ []) (a / 8 % sets) ≡ a / 8 ∷ take n (present_after sets ways h (a / 8 % sets))
  unfolding present_after
  present_miss h a n e i =
      let d = different (of_set sets (a / 8 % sets) (lines_back h)) in
      let gone : is_in (a / 8) (take (suc n) d) ≡ false = ap (λ w. is_in (a / 8) (take w d)) (sym e) ∙ i in
      own_next h a
      ∙ ap (λ w. take w (a / 8 ∷ without (a / 8) d)) e
      ∙ ap (λ (l : List ℕ). a / 8 ∷ l) (take-without_miss (a / 8) n d gone ∙ sym (take_take n (suc n) d (omega arith)))
      ∙ ap (λ w. a / 8 ∷ take n (take w d)) (sym e)

  pub present_unique : (h : List ℕ) (s : ℕ) → Unique (present_after sets ways h s)
  unfolding present_after
  present_unique h s = unique_take ways _ (unique_different _)

  misses_back_few : (l : List ℕ) → misses_back sets ways l ≤ length l
  misses_back_few [] = omega arith
  misses_back_few (x ∷ l) =
      let more = misses_back_few l in
      elim (hits_after sets ways x l) as (λ b. misses_back sets ways l + cond b 0 1 ≤ suc (length l)) [ true ↦ omega arith | false ↦ omega arith ]

  pub misses_few : (h : List ℕ) → misses_of sets ways h ≤ length h
  unfolding misses_of
  misses_few h = omega (arith, misses_back_few (lines_back h), length-reverse (map (λ a. a / 8) h), length_lines h)
    where
      length_lines : (h : List ℕ) → length (map (λ a. a / 8) h) ≡ length h
      length_lines [] = refl
      length_lines (a ∷ h) = ap suc (length_lines h)
