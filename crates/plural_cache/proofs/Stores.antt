-- What a store makes of a cache, and a cache with no line.
use Rattle.std.proofs.Common.{◌≡◌, ◌≢◌, ℕ, zero, suc, ◌+◌, ◌/◌, ◌%◌, ◌<◌, Bool, true, false, ⊎_elim, eqb, cond, List, [], ◌∷◌, ◌++◌, length, set, get_or, Option, Some, refl, sym, ap, ◌∙◌, subst, arith, eqb-true, eq-eqb, replicate}
use Rattle.std.specs.Prelude.{IfSome}
use Rattle.std.proofs.lemmas.Bool.Decides.{nat_tests}
use Rattle.std.proofs.lemmas.List.{get_or-set_same, get_or-set_other}
use Rattle.plural_cache.specs.declared.set.Line.{Line}
use Rattle.plural_cache.specs.Miss.{present_after}
use Rattle.plural_cache.specs.Lines.{keys, look, updated}
use Rattle.plural_base.specs.Told.{Told, with_store}
use Rattle.plural_cache.specs.Cache.{CacheValue, set_of, StandsFor, Agrees, IsCache, IsFresh, fresh}
use Rattle.plural_cache.proofs.Misses.{present_none, misses_none}
use Rattle.plural_cache.proofs.Orders.{bool_cases}
use Rattle.plural_cache.proofs.Loads.{set_is, set_same, set_other}

keys-updated : (x w v : ℕ) (ls : List Line) → keys (updated x w v ls) ≡ keys ls
keys-updated x w v [] = refl
keys-updated x w v (l ∷ ls) = elim (eqb l.line x) as (λ b. keys (cond b (record l { words = set l.words w v } ∷ ls) (l ∷ updated x w v ls)) ≡ l.line ∷ keys ls) [ true ↦ refl | false ↦ ap (λ (k : List ℕ). l.line ∷ k) (keys-updated x w v ls) ]

look_updated_other : (x w v y : ℕ) (ls : List Line) → eqb x y ≡ false → look y (updated x w v ls) ≡ look y ls
look_updated_other x w v y [] e = refl
look_updated_other x w v y (l ∷ ls) e = let more = look_updated_other x w v y ls in grind (arith, nat_tests, more)

-- What P says of the old words, Q says of the new.
look_updated : (x w v : ℕ) (ls : List Line) (P Q : List ℕ → Type 0) → ((ws : List ℕ) → P ws → length ws ≡ 8 → Q (set ws w v)) → IfSome (look x ls) P → IfSome (look x ls) (λ ws. length ws ≡ 8) → IfSome (look x (updated x w v ls)) Q
look_updated x w v [] P Q f p e = tt
look_updated x w v (l ∷ ls) P Q f p e =
    ⊎_elim
    (λ t.
    let P' : Bool → Type 0 = λ b. IfSome (cond b (Some l.words) (look x ls)) P in
    let E' : Bool → Type 0 = λ b. IfSome (cond b (Some l.words) (look x ls)) (λ ws. length ws ≡ 8) in
    let Q' : Bool → Type 0 = λ b. IfSome (look x (cond b (record l { words = set l.words w v } ∷ ls) (l ∷ updated x w v ls))) Q in
    subst Q' (sym t) (subst (λ b. IfSome (cond b (Some (set l.words w v)) (look x ls)) Q) (sym t) (f l.words (subst P' t p) (subst E' t e))))
    (λ n.
    let P' : Bool → Type 0 = λ b. IfSome (cond b (Some l.words) (look x ls)) P in
    let E' : Bool → Type 0 = λ b. IfSome (cond b (Some l.words) (look x ls)) (λ ws. length ws ≡ 8) in
    let Q' : Bool → Type 0 = λ b. IfSome (look x (cond b (record l { words = set l.words w v } ∷ ls) (l ∷ updated x w v ls))) Q in
    subst Q' (sym n) (subst (λ b. IfSome (cond b (Some l.words) (look x (updated x w v ls))) Q) (sym n) (look_updated x w v ls P Q f (subst P' n p) (subst E' n e))))
    (bool_cases (eqb l.line x))

set_word : (ws holds : List ℕ) (a b v : ℕ) → length ws ≡ 8 → a < length holds → b / 8 ≡ a / 8 → get_or ws (b % 8) 0 ≡ get_or holds b 0 → get_or (set ws (a % 8) v) (b % 8) 0 ≡ get_or (set holds a v) b 0
set_word ws holds a b v eight within same e =
    ⊎_elim
    (λ t. let is = eqb-true a b t in
    subst (λ b. get_or (set ws (a % 8) v) (b % 8) 0 ≡ get_or (set holds a v) b 0) is (get_or-set_same ws (a % 8) v 0 (omega arith) ∙ sym (get_or-set_same holds a v 0 within)))
    (λ n. let apart : a ≢ b = λ k. absurd (cc (sym n ∙ eq-eqb a b k)) in
    get_or-set_other ws (a % 8) (b % 8) v 0 (λ k. apart (omega arith)) ∙ e ∙ sym (get_or-set_other holds a b v 0 (λ k. apart (sym k))))
    (bool_cases (eqb a b))

module _ (c : CacheValue) (ok : IsCache c) (a v : ℕ) (was new : List Line) (there : was ≡ get_or c.held (a / 8 % c.sets) was) (order : new ≡ updated (a / 8) (a % 8) v was) where
  inside : a / 8 % c.sets < length c.held
  inside = let t = ok.table in let some = ok.some_sets in omega arith

  was_is : was ≡ set_of c (a / 8 % c.sets)
  was_is = set_is c.held (a / 8 % c.sets) was inside there

  own_store_stands : (n : ℕ) (h : List ℕ) → StandsFor c h → StandsFor (record c { held = set c.held (a / 8 % c.sets) new; stores = n }) h
  own_store_stands n h f =
      record {
        present = λ s below.
            ⊎_elim
            (λ e. let is = eqb-true (a / 8 % c.sets) s e in
            subst (λ s. keys (get_or (set c.held (a / 8 % c.sets) new) s []) ≡ present_after c.sets c.ways h s) is
            (ap keys (set_same c.held (a / 8 % c.sets) new inside ∙ order) ∙ keys-updated (a / 8) (a % 8) v was ∙ ap keys was_is ∙ f.present (a / 8 % c.sets) (let t = ok.table in let i = inside in omega arith)))
            (λ e. ap keys (set_other c.held (a / 8 % c.sets) s new e) ∙ f.present s below)
            (bool_cases (eqb (a / 8 % c.sets) s));
        loads = f.loads;
        misses = f.misses;
      }

  Shows : List ℕ → List Line → ℕ → Type 0
  Shows holds ls b = IfSome (look (b / 8) ls) (λ ws. get_or ws (b % 8) 0 ≡ get_or holds b 0)

  own_store_agrees : (n : ℕ) (told : Told) → a < length told.words → IfSome (look (a / 8) was) (λ ws. length ws ≡ 8) → Agrees c told → Agrees (record c { held = set c.held (a / 8 % c.sets) new; stores = n }) (with_store a v told)
  unfolding Shows
  own_store_agrees n told within eight g =
      record {
        same = λ b l.
            ⊎_elim
            (λ e.
            let is : a / 8 ≡ b / 8 = eqb-true (a / 8) (b / 8) e in
            let before : Shows told.words was b = subst (λ (ls : List Line). Shows told.words ls b) (sym was_is) (subst (λ x. Shows told.words (set_of c (x % c.sets)) b) (sym is) (g.same b l)) in
            let start : IfSome (look (a / 8) was) (λ ws. get_or ws (b % 8) 0 ≡ get_or told.words b 0) = subst (λ x. IfSome (look x was) (λ ws. get_or ws (b % 8) 0 ≡ get_or told.words b 0)) (sym is) before in
            let found : IfSome (look (a / 8) (updated (a / 8) (a % 8) v was)) (λ ws. get_or ws (b % 8) 0 ≡ get_or (set told.words a v) b 0) =
            look_updated (a / 8) (a % 8) v was _ _ (λ ws p k. set_word ws told.words a b v k within (sym is) p) start eight in
            subst (λ x. IfSome (look x (get_or (set c.held (a / 8 % c.sets) new) (x % c.sets) [])) (λ ws. get_or ws (b % 8) 0 ≡ get_or (set told.words a v) b 0)) is
            (subst (λ (ls : List Line). IfSome (look (a / 8) ls) (λ ws. get_or ws (b % 8) 0 ≡ get_or (set told.words a v) b 0)) (sym (set_same c.held (a / 8 % c.sets) new inside ∙ order)) found))
            (λ e.
            let apart : b ≢ a = λ k. absurd (cc (sym e ∙ eq-eqb (a / 8) (b / 8) (ap (λ i. i / 8) (sym k)))) in
            subst (λ z. IfSome (look (b / 8) (get_or (set c.held (a / 8 % c.sets) new) (b / 8 % c.sets) [])) (λ ws. get_or ws (b % 8) 0 ≡ z)) (sym (get_or-set_other told.words a b v 0 apart))
            (⊎_elim
            (λ t.
            let is = eqb-true (a / 8 % c.sets) (b / 8 % c.sets) t in
            subst (λ s. Shows told.words (get_or (set c.held (a / 8 % c.sets) new) s []) b) is
            (subst (λ (o : Option (List ℕ)). IfSome o (λ ws. get_or ws (b % 8) 0 ≡ get_or told.words b 0))
            (sym (ap (look (b / 8)) (set_same c.held (a / 8 % c.sets) new inside ∙ order) ∙ look_updated_other (a / 8) (a % 8) v (b / 8) was e))
            (subst (λ (ls : List Line). Shows told.words ls b) (sym was_is) (subst (λ s. Shows told.words (set_of c s) b) (sym is) (g.same b l)))))
            (λ f. subst (λ (ls : List Line). Shows told.words ls b) (sym (set_other c.held (a / 8 % c.sets) (b / 8 % c.sets) new f)) (g.same b l))
            (bool_cases (eqb (a / 8 % c.sets) (b / 8 % c.sets)))))
            (bool_cases (eqb (a / 8) (b / 8)));
      }

-- The same, at a place that is the set's number.
module _ (c : CacheValue) (ok : IsCache c) (a v s : ℕ) (at : s ≡ a / 8 % c.sets) (was new : List Line) (there : was ≡ get_or c.held s was) (order : new ≡ updated (a / 8) (a % 8) v was) where
  pub store_stands : (n : ℕ) (h : List ℕ) → StandsFor c h → StandsFor (record c { held = set c.held s new; stores = n }) h
  store_stands n h f =
      subst (λ s. StandsFor (record c { held = set c.held s new; stores = n }) h) (sym at)
      (own_store_stands c ok a v was new (there ∙ ap (λ s. get_or c.held s was) at) order n h f)

  pub store_agrees : (n : ℕ) (told : Told) → a < length told.words → IfSome (look (a / 8) was) (λ ws. length ws ≡ 8) → Agrees c told → Agrees (record c { held = set c.held s new; stores = n }) (with_store a v told)
  store_agrees n told within eight g =
      subst (λ s. Agrees (record c { held = set c.held s new; stores = n }) (with_store a v told)) (sym at)
      (own_store_agrees c ok a v was new (there ∙ ap (λ s. get_or c.held s was) at) order n told within eight g)

empty_set : (n s : ℕ) → get_or {A = List Line} (replicate n []) s [] ≡ []
empty_set zero s = refl
empty_set (suc n) zero = refl
empty_set (suc n) (suc s) = empty_set n s

fresh_is : (sets ways : ℕ) → IsFresh (fresh sets ways) sets ways
fresh_is sets ways =
    record {
      is = refl;
      stands = record {
        present = λ s below. ap keys (empty_set sets s) ∙ sym (present_none sets ways s);
        loads = refl;
        misses = sym (misses_none sets ways);
      };
      agrees = λ told. record {
        same = λ a l. subst (λ (ls : List Line). IfSome (look (a / 8) ls) (λ ws. get_or ws (a % 8) 0 ≡ get_or told.words a 0)) (sym (empty_set sets (a / 8 % sets))) tt;
      };
    }

replicate_more : (n : ℕ) (ls : List Line) → replicate (n + 1) ls ≡ replicate n ls ++ ls ∷ []
replicate_more n ls = ap (λ k. replicate k ls) (let e : n + 1 ≡ suc n = omega arith in e) ∙ more n ls
  where
    more : (n : ℕ) (ls : List Line) → replicate (suc n) ls ≡ replicate n ls ++ ls ∷ []
    more zero ls = refl
    more (suc n) ls = ap (λ (r : List (List Line)). ls ∷ r) (more n ls)

-- A table of empty sets.
pub fresh_table : (sets ways : ℕ) (t : List (List Line)) → t ≡ replicate sets [] → IsFresh (record { sets = sets; ways = ways; held = t; loads = 0; misses = 0; stores = 0 }) sets ways
fresh_table sets ways t e = subst (λ (t : List (List Line)). IsFresh (record { sets = sets; ways = ways; held = t; loads = 0; misses = 0; stores = 0 }) sets ways) (sym e) (fresh_is sets ways)
