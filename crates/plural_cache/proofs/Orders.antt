-- The order of the lines of a set.
use Rattle.std.proofs.Common.{◌≡◌, ℕ, zero, suc, ◌+◌, ◌-◌, ◌<◌, ◌≤◌, Bool, true, false, ◌||◌, ◌⊎◌, inl, inr, ⊎_elim, eqb, cond, List, [], ◌∷◌, ◌++◌, length, take, set, get_or, min, Option, Some, None, refl, sym, ap, ◌∙◌, subst, arith, eqb-true, eq-eqb}
use Rattle.std.specs.Prelude.{remove, IfSome}
use Rattle.std.proofs.lemmas.Bool.Decides.{nat_tests}
use Rattle.plural_cache.specs.declared.set.Line.{Line}
use Rattle.plural_cache.specs.Miss.{is_in, without}
use Rattle.plural_cache.specs.Lines.{keys, look, chosen, others, brought, updated, front, IsFirst}
use Rattle.plural_cache.proofs.Misses.{Unique, without_none}

-- A Bool is true or false.
pub bool_cases : (b : Bool) → (b ≡ true) ⊎ (b ≡ false)
bool_cases true = inl refl
bool_cases false = inr refl

-- A copy of the line before it, put at a place, leaves the line before it to be removed.
remove-copied : (ls : List Line) (k : ℕ) (c : Line) → suc k < length ls → c ≡ get_or ls k c → remove (set ls (suc k) c) k ≡ remove ls (suc k)
remove-copied [] k c lt e = absurd (let h : ⊥ = omega arith in h)
remove-copied (x ∷ []) k c lt e = absurd (let h : ⊥ = omega arith in h)
remove-copied (x ∷ y ∷ ls) zero c lt e = ap (λ (l : Line). l ∷ ls) e
remove-copied (x ∷ y ∷ ls) (suc k) c lt e = ap (λ (l : List Line). x ∷ l) (remove-copied (y ∷ ls) k c (omega arith) e)

-- The same for the place that is `i` places before `p`.
shifted_next : (ls : List Line) (p i : ℕ) (c : Line) → i < p → p < length ls → c ≡ get_or ls (p - i - 1) c → remove (set ls (p - i) c) (p - (i + 1)) ≡ remove ls (p - i)
shifted_next ls p i c lt within e =
    let k = p - (i + 1) in
    let here : p - i ≡ suc k = omega arith in
    let before : p - i - 1 ≡ k = omega arith in
    rw here (remove-copied ls k c (omega arith) (subst (λ n. c ≡ get_or ls n c) before e))

-- Once all are shifted, the new line stands before the old ones.
pub shifted_all : (ls old : List Line) (k : ℕ) (line : Line) → 0 < length ls → k ≡ 0 → remove ls k ≡ old → set ls 0 line ≡ line ∷ old
shifted_all [] old k line some e r = absurd (let h : ⊥ = omega arith in h)
shifted_all (x ∷ ls) old k line some e r = ap (λ (l : List Line). line ∷ l) (subst (λ n. remove (x ∷ ls) n ≡ old) e r)

-- The first line of that number.
pub keys-take : (p : ℕ) (ls : List Line) → keys (take p ls) ≡ take p (keys ls)
keys-take zero ls = refl
keys-take (suc p) [] = refl
keys-take (suc p) (l ∷ ls) = ap (λ (r : List ℕ). l.line ∷ r) (keys-take p ls)

length-keys : (ls : List Line) → length (keys ls) ≡ length ls
length-keys [] = refl
length-keys (l ∷ ls) = ap suc (length-keys ls)

key_at : (ls : List Line) (p : ℕ) (d : Line) → p < length ls → get_or (keys ls) p 0 ≡ (get_or ls p d).line
key_at [] p d lt = absurd (let h : ⊥ = omega arith in h)
key_at (l ∷ ls) zero d lt = refl
key_at (l ∷ ls) (suc p) d lt = key_at ls p d (omega arith)

is_in-next : (x i : ℕ) (ks : List ℕ) → i < length ks → is_in x (take i ks) ≡ false → eqb (get_or ks i 0) x ≡ false → is_in x (take (suc i) ks) ≡ false
is_in-next x i [] lt e n = absurd (let h : ⊥ = omega arith in h)
is_in-next x zero (k ∷ ks) lt e n = grind (arith, nat_tests)
is_in-next x (suc i) (k ∷ ks) lt e n = grind (arith, nat_tests, is_in-next x i ks)

key_before : (x p : ℕ) (l : Line) (ls : List Line) → IsFirst x (suc p) (l ∷ ls) → eqb l.line x ≡ false
key_before x p l ls f = let h = f.first in grind (arith, nat_tests)

first_after : (x p : ℕ) (l : Line) (ls : List Line) → IsFirst x (suc p) (l ∷ ls) → IsFirst x p ls
first_after x p l ls f =
    record {
      within = let w = f.within in omega arith;
      is = f.is;
      first = let h = f.first in grind (arith, nat_tests);
    }

chosen_at : (x p : ℕ) (ls : List Line) (d : Line) → IsFirst x p ls → chosen x ls ≡ get_or ls p d ∷ []
chosen_at x p [] d f = absurd (let w = f.within in let h : ⊥ = omega arith in h)
chosen_at x zero (l ∷ ls) d f = ap (λ b. cond b (l ∷ []) (chosen x ls)) (eq-eqb l.line x f.is)
chosen_at x (suc p) (l ∷ ls) d f = ap (λ b. cond b (l ∷ []) (chosen x ls)) (key_before x p l ls f) ∙ chosen_at x p ls d (first_after x p l ls f)

others_at : (x p : ℕ) (ls : List Line) → IsFirst x p ls → others x ls ≡ remove ls p
others_at x p [] f = absurd (let w = f.within in let h : ⊥ = omega arith in h)
others_at x zero (l ∷ ls) f = ap (λ b. cond b ls (l ∷ others x ls)) (eq-eqb l.line x f.is)
others_at x (suc p) (l ∷ ls) f = ap (λ b. cond b ls (l ∷ others x ls)) (key_before x p l ls f) ∙ ap (λ (r : List Line). l ∷ r) (others_at x p ls (first_after x p l ls f))

brought_at : (x p : ℕ) (ls : List Line) (d : Line) → IsFirst x p ls → get_or ls p d ∷ remove ls p ≡ brought x ls
brought_at x p ls d f =
    ap (λ (r : List Line). get_or ls p d ∷ r) (sym (others_at x p ls f)) ∙ ap (λ (r : List Line). r ++ others x ls) (sym (chosen_at x p ls d f))

present_at : (x p : ℕ) (ls : List Line) → IsFirst x p ls → is_in x (keys ls) ≡ true
present_at x p [] f = absurd (let w = f.within in let h : ⊥ = omega arith in h)
present_at x zero (l ∷ ls) f = ap (λ b. b || is_in x (keys ls)) (eq-eqb l.line x f.is)
present_at x (suc p) (l ∷ ls) f = ap (λ b. b || is_in x (keys ls)) (key_before x p l ls f) ∙ present_at x p ls (first_after x p l ls f)

chosen_none : (x : ℕ) (ls : List Line) → is_in x (keys ls) ≡ false → chosen x ls ≡ []
chosen_none x [] e = refl
chosen_none x (l ∷ ls) e = grind (arith, nat_tests, chosen_none x ls)

others_none : (x : ℕ) (ls : List Line) → is_in x (keys ls) ≡ false → others x ls ≡ ls
others_none x [] e = refl
others_none x (l ∷ ls) e = grind (arith, nat_tests, others_none x ls)

-- Bringing a line that is absent changes nothing.
pub brought_none : (x : ℕ) (ls : List Line) → is_in x (keys ls) ≡ false → brought x ls ≡ ls
brought_none x ls e = ap (λ (r : List Line). r ++ others x ls) (chosen_none x ls e) ∙ others_none x ls e

-- The lines in use are the first of all.
pub touched : (x p n : ℕ) (ls : List Line) (d : Line) → IsFirst x p (take n ls) → take n (get_or ls p d ∷ remove ls p) ≡ brought x (take n ls)
touched x p n ls d f = first_n p n ls d (let w = f.within in w) ∙ brought_at x p (take n ls) d f
  where
    rest_n : (p n : ℕ) (ls : List Line) → suc p ≤ length (take (suc n) ls) → take n (remove ls p) ≡ remove (take (suc n) ls) p
    rest_n p n [] le = absurd (let h : ⊥ = omega arith in h)
    rest_n zero n (l ∷ ls) le = refl
    rest_n (suc p) zero (l ∷ ls) le = absurd (let h : ⊥ = omega arith in h)
    rest_n (suc p) (suc n) (l ∷ ls) le = ap (λ (r : List Line). l ∷ r) (rest_n p n ls (omega arith))

    get_n : (p n : ℕ) (ls : List Line) (d : Line) → suc p ≤ length (take n ls) → get_or ls p d ≡ get_or (take n ls) p d
    get_n p zero ls d le = absurd (let h : ⊥ = omega arith in h)
    get_n p (suc n) [] d le = absurd (let h : ⊥ = omega arith in h)
    get_n zero (suc n) (l ∷ ls) d le = refl
    get_n (suc p) (suc n) (l ∷ ls) d le = get_n p n ls d (omega arith)

    first_n : (p n : ℕ) (ls : List Line) (d : Line) → suc p ≤ length (take n ls) → take n (get_or ls p d ∷ remove ls p) ≡ get_or (take n ls) p d ∷ remove (take n ls) p
    first_n p zero ls d le = absurd (let h : ⊥ = omega arith in h)
    first_n p (suc n) ls d le = ap (λ (y : Line). y ∷ take n (remove ls p)) (get_n p (suc n) ls d le) ∙ ap (λ (r : List Line). get_or (take (suc n) ls) p d ∷ r) (rest_n p n ls le)

take-remove : (k : ℕ) (ls : List Line) → k ≤ length ls → take k (remove ls k) ≡ take k ls
take-remove zero ls le = refl
take-remove (suc k) [] le = refl
take-remove (suc k) (l ∷ ls) le = ap (λ (r : List Line). l ∷ r) (take-remove k ls (omega arith))

take_none : (m : ℕ) → take {A = Line} m [] ≡ []
take_none zero = refl
take_none (suc m) = refl

take_min : (m n : ℕ) (ls : List Line) → take (min n m) ls ≡ take m (take n ls)
take_min m zero ls = ap (λ k. take k ls) (let e : min 0 m ≡ 0 = omega arith in e) ∙ sym (take_none m)
take_min zero (suc n) ls = ap (λ k. take k ls) (let e : min (suc n) 0 ≡ 0 = omega arith in e)
take_min (suc m) (suc n) [] = take_none (min (suc n) (suc m))
take_min (suc m) (suc n) (l ∷ ls) = ap (λ k. take k (l ∷ ls)) (let e : min (suc n) (suc m) ≡ suc (min n m) = omega arith in e) ∙ ap (λ (r : List Line). l ∷ r) (take_min m n ls)

-- A line before the first of the lines in use.
pub pushed : (n m : ℕ) (ls : List Line) (line : Line) → n ≤ length ls → take (min n m + 1) (line ∷ remove ls (min n m)) ≡ line ∷ take m (take n ls)
pushed n m ls line le =
    ap (λ k. take k (line ∷ remove ls (min n m))) (let e : min n m + 1 ≡ suc (min n m) = omega arith in e)
    ∙ ap (λ (r : List Line). line ∷ r) (take-remove (min n m) ls (omega arith) ∙ take_min m n ls)

with_word : Line → (w v : ℕ) → Line
with_word l w v = record l { words = set l.words w v }

updated_at : (x w v p : ℕ) (ls : List Line) (d : Line) → IsFirst x p ls → set ls p (record { line = (get_or ls p d).line; words = set (get_or ls p d).words w v }) ≡ updated x w v ls
updated_at x w v p [] d f = absurd (let h = f.within in let h : ⊥ = omega arith in h)
updated_at x w v zero (l ∷ ls) d f = ap (λ b. cond b (record { line = l.line; words = set l.words w v } ∷ ls) (l ∷ updated x w v ls)) (sym (eq-eqb l.line x f.is))
updated_at x w v (suc p) (l ∷ ls) d f =
    ap (λ (r : List Line). l ∷ r) (updated_at x w v p ls d (first_after x p l ls f))
    ∙ ap (λ b. cond b (record { line = l.line; words = set l.words w v } ∷ ls) (l ∷ updated x w v ls)) (sym (key_before x p l ls f))

-- A store to a line that is absent changes nothing.
pub updated_none : (x w v : ℕ) (ls : List Line) → is_in x (keys ls) ≡ false → updated x w v ls ≡ ls
updated_none x w v [] e = refl
updated_none x w v (l ∷ ls) e = grind (arith, nat_tests, updated_none x w v ls)

take-set : (n i : ℕ) (ls : List Line) (v : Line) → set (take n ls) i v ≡ take n (set ls i v)
take-set zero i ls v = refl
take-set (suc n) i [] v = refl
take-set (suc n) zero (l ∷ ls) v = refl
take-set (suc n) (suc i) (l ∷ ls) v = ap (λ (r : List Line). l ∷ r) (take-set n i ls v)

get_in_use : (p n : ℕ) (ls : List Line) (d : Line) → suc p ≤ length (take n ls) → get_or (take n ls) p d ≡ get_or ls p d
get_in_use p zero ls d le = absurd (let h : ⊥ = omega arith in h)
get_in_use p (suc n) [] d le = absurd (let h : ⊥ = omega arith in h)
get_in_use zero (suc n) (l ∷ ls) d le = refl
get_in_use (suc p) (suc n) (l ∷ ls) d le = get_in_use p n ls d (omega arith)

-- The same among all lines.
pub updated_in_use : (x w v p n : ℕ) (ls : List Line) (d : Line) → IsFirst x p (take n ls) → take n (set ls p (record { line = (get_or ls p d).line; words = set (get_or ls p d).words w v })) ≡ updated x w v (take n ls)
updated_in_use x w v p n ls d f =
    let at : Line → Line = λ l. record { line = l.line; words = set l.words w v } in
    sym (take-set n p ls (at (get_or ls p d)))
    ∙ ap (λ (l : Line). set (take n ls) p (at l)) (sym (get_in_use p n ls d (let h = f.within in h)))
    ∙ updated_at x w v p (take n ls) d f

look_at : (x p : ℕ) (ls : List Line) (d : Line) → IsFirst x p ls → look x ls ≡ Some (get_or ls p d).words
look_at x p [] d f = absurd (let h = f.within in let h : ⊥ = omega arith in h)
look_at x zero (l ∷ ls) d f = ap (λ b. cond b (Some l.words) (look x ls)) (eq-eqb l.line x f.is)
look_at x (suc p) (l ∷ ls) d f = ap (λ b. cond b (Some l.words) (look x ls)) (key_before x p l ls f) ∙ look_at x p ls d (first_after x p l ls f)

-- The line at a place in use has eight words if the one there has.
pub eight_at : (x p n : ℕ) (ls : List Line) (d : Line) → IsFirst x p (take n ls) → length (get_or ls p d).words ≡ 8 → IfSome (look x (take n ls)) (λ ws. length ws ≡ 8)
eight_at x p n ls d f e =
    subst (λ (o : Option (List ℕ)). IfSome o (λ ws. length ws ≡ 8)) (sym (look_at x p (take n ls) d f))
    (ap (λ (l : Line). length l.words) (get_in_use p n ls d (let h = f.within in h)) ∙ e)

-- A line that is absent shows no words.
pub look_none : (x : ℕ) (ls : List Line) → is_in x (keys ls) ≡ false → look x ls ≡ None
look_none x [] e = refl
look_none x (l ∷ ls) e = grind (arith, nat_tests, look_none x ls)

-- What a set shows after a line was brought.
look_chosen : (x : ℕ) (ls rest : List Line) → look x (chosen x ls ++ rest) ≡ cond (is_in x (keys ls)) (look x ls) (look x rest)
look_chosen x [] rest = refl
look_chosen x (l ∷ ls) rest =
    grind (arith, nat_tests, look_chosen x ls rest)

look_other_chosen : (x y : ℕ) (ls rest : List Line) → eqb x y ≡ false → look y (chosen x ls ++ rest) ≡ look y rest
look_other_chosen x y [] rest e = refl
look_other_chosen x y (l ∷ ls) rest e =
    grind (arith, nat_tests, look_other_chosen x y ls rest)

look_others : (x y : ℕ) (ls : List Line) → eqb x y ≡ false → look y (others x ls) ≡ look y ls
look_others x y [] e = refl
look_others x y (l ∷ ls) e = grind (arith, nat_tests, look_others x y ls)

-- Bringing a line to the front changes the words of none.
pub look_brought : (x y : ℕ) (ls : List Line) → is_in x (keys ls) ≡ true → look y (brought x ls) ≡ look y ls
look_brought x y ls i =
    ⊎_elim
    (λ t. ap (λ z. look z (brought x ls)) (sym (eqb-true x y t)) ∙ look_chosen x ls (others x ls) ∙ ap (λ b. cond b (look x ls) (look x (others x ls))) i ∙ ap (λ z. look z ls) (eqb-true x y t))
    (λ f. look_other_chosen x y ls (others x ls) f ∙ look_others x y ls f)
    (bool_cases (eqb x y))

front_chosen : (x : ℕ) (ls rest : List Line) → is_in x (keys ls) ≡ true → look x ls ≡ Some (front (chosen x ls ++ rest))
front_chosen x [] rest i = absurd (cc i)
front_chosen x (l ∷ ls) rest i = let more = front_chosen x ls rest in grind (arith, nat_tests, more)

-- Once a line is brought, the words in front are its own.
pub front_brought : (x : ℕ) (ls : List Line) → is_in x (keys ls) ≡ true → look x ls ≡ Some (front (brought x ls))
front_brought x ls i = front_chosen x ls (others x ls) i

keys-append : (ks ls : List Line) → keys (ks ++ ls) ≡ keys ks ++ keys ls
keys-append [] ls = refl
keys-append (k ∷ ks) ls = ap (λ (r : List ℕ). k.line ∷ r) (keys-append ks ls)

keys_chosen : (x : ℕ) (ls : List Line) → is_in x (keys ls) ≡ true → keys (chosen x ls) ≡ x ∷ []
keys_chosen x [] i = absurd (cc i)
keys_chosen x (l ∷ ls) i = let more = keys_chosen x ls in grind (arith, nat_tests, more)

keys_others : (x : ℕ) (ls : List Line) → Unique (keys ls) → keys (others x ls) ≡ without x (keys ls)
keys_others x [] u = refl
keys_others x (l ∷ ls) u =
    let more = keys_others x ls u.1 in
    let gone = without_none l.line (keys ls) u.0 in
    grind (arith, nat_tests, more, gone)

-- Once a line is brought, its number is first and the others follow as before.
pub keys_brought : (x : ℕ) (ls : List Line) → is_in x (keys ls) ≡ true → Unique (keys ls) → keys (brought x ls) ≡ x ∷ without x (keys ls)
keys_brought x ls i u = keys-append (chosen x ls) (others x ls) ∙ ap (λ (k : List ℕ). k ++ keys (others x ls)) (keys_chosen x ls i) ∙ ap (λ (k : List ℕ). x ∷ k) (keys_others x ls u)

-- Once a line is brought, there is a line.
pub some_brought : (x : ℕ) (ls : List Line) → is_in x (keys ls) ≡ true → 0 < length (brought x ls)
some_brought x [] i = absurd (cc i)
some_brought x (l ∷ ls) i = elim (eqb l.line x) as (λ b. 0 < length (cond b (l ∷ []) (chosen x ls) ++ cond b ls (l ∷ others x ls))) [ true ↦ omega arith | false ↦ more (chosen x ls) (others x ls) ]
  where
    more : (ks rest : List Line) → 0 < length (ks ++ l ∷ rest)
    more [] rest = omega arith
    more (k ∷ ks) rest = omega arith

-- Bringing the line in front changes nothing.
pub touched_first : (x p : ℕ) (ls : List Line) → p ≡ 0 → IsFirst x p ls → ls ≡ brought x ls
touched_first x zero [] e f = absurd (let w = f.within in let h : ⊥ = omega arith in h)
touched_first x zero (l ∷ ls) e f = brought_at x 0 (l ∷ ls) l f
touched_first x (suc p) ls e f = absurd (let h : ⊥ = omega arith in h)
