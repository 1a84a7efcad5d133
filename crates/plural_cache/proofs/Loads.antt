-- What a load access makes of a cache.
use Rattle.std.proofs.Common.{◌≡◌, ℕ, zero, suc, ◌+◌, ◌-◌, ◌*◌, ◌/◌, ◌%◌, ◌<◌, true, false, ⊎_elim, eqb, cond, List, [], ◌∷◌, ◌++◌, length, take, set, get_or, Option, Some, refl, sym, ap, ◌∙◌, subst, arith, eqb-true}
use Rattle.std.specs.Prelude.{IfSome}
use Rattle.std.proofs.lemmas.Bool.Decides.{nat_tests}
use Rattle.plural_cache.specs.declared.set.Line.{Line}
use Rattle.plural_cache.specs.Miss.{is_in, without, hits, misses_of, present_after}
use Rattle.plural_cache.specs.Lines.{keys, look, brought, front}
use Rattle.plural_base.specs.Told.{Told}
use Rattle.plural_cache.specs.Cache.{CacheValue, set_of, is_present, StandsFor, Agrees, IsCache, loaded}
use Rattle.plural_cache.proofs.Misses.{Unique, hits_is, misses_more, present_other, present_hit, present_miss, present_unique}
use Rattle.plural_cache.proofs.Orders.{bool_cases, keys-take, look_brought, front_brought, keys_brought}

whole_word : (a : ℕ) → 8 * (a / 8) + a % 8 ≡ a
whole_word a = omega arith

-- The set that was replaced is the new one.
pub set_same : (t : List (List Line)) (s : ℕ) (ls : List Line) → s < length t → get_or (set t s ls) s [] ≡ ls
set_same [] s ls lt = absurd (let h : ⊥ = omega arith in h)
set_same (x ∷ t) zero ls lt = refl
set_same (x ∷ t) (suc s) ls lt = set_same t s ls (omega arith)

-- A set that was not replaced is as it was.
pub set_other : (t : List (List Line)) (s r : ℕ) (ls : List Line) → eqb s r ≡ false → get_or (set t s ls) r [] ≡ get_or t r []
set_other [] s r ls e = refl
set_other (x ∷ t) zero zero ls e = absurd (cc e)
set_other (x ∷ t) zero (suc r) ls e = refl
set_other (x ∷ t) (suc s) zero ls e = refl
set_other (x ∷ t) (suc s) (suc r) ls e = set_other t s r ls (grind (arith, nat_tests))

-- Fewer lines show no other words.
look_take : (y n : ℕ) (ls : List Line) (P : List ℕ → Type 0) → IfSome (look y ls) P → IfSome (look y (take n ls)) P
look_take y zero ls P h = tt
look_take y (suc n) [] P h = h
look_take y (suc n) (l ∷ ls) P h =
    (elim (eqb l.line y) as (λ b. IfSome (cond b (Some l.words) (look y ls)) P → IfSome (cond b (Some l.words) (look y (take n ls))) P) [ true ↦ λ k. k | false ↦ look_take y n ls P ]) h

-- A cache whose set for the word a is now ls.
abbrev pub with_load : CacheValue → (a : ℕ) → List Line → CacheValue
with_load c a ls = record c { held = set c.held (a / 8 % c.sets) ls; loads = c.loads + 1; misses = c.misses + cond (is_present c a) 0 1 }

module _ (c : CacheValue) (ok : IsCache c) (a : ℕ) (new : List Line) (told : Told) where
  old : List Line
  old = set_of c (a / 8 % c.sets)

  in_table : a / 8 % c.sets < length c.held
  in_table = let t = ok.table in let some = ok.some_sets in omega arith

  abbrev pub Order : Type 0
  Order = new ≡ loaded (is_in (a / 8) (keys (set_of c (a / 8 % c.sets)))) c.ways (a / 8) (front new) (set_of c (a / 8 % c.sets))

  pub new_hit : Order → is_present c a ≡ true → new ≡ brought (a / 8) (set_of c (a / 8 % c.sets))
  new_hit o p = o ∙ ap (λ b. loaded b c.ways (a / 8) (front new) (set_of c (a / 8 % c.sets))) p

  pub new_miss : Order → is_present c a ≡ false → new ≡ record { line = a / 8; words = front new } ∷ take (c.ways - 1) (set_of c (a / 8 % c.sets))
  new_miss o p = o ∙ ap (λ b. loaded b c.ways (a / 8) (front new) (set_of c (a / 8 % c.sets))) p

  -- The keys of the set.
  pub next_keys : Order → (h : List ℕ) → StandsFor c h → keys new ≡ present_after c.sets c.ways (h ++ a ∷ []) (a / 8 % c.sets)
  next_keys o h f =
      let s = a / 8 % c.sets in
      let there : keys (set_of c s) ≡ present_after c.sets c.ways h s = f.present s (let some = ok.some_sets in omega arith) in
      let some : c.ways ≡ suc (c.ways - 1) = let w = ok.shape.some_ways in omega arith in
      ⊎_elim
      (λ t.
      ap keys (new_hit o t)
      ∙ keys_brought (a / 8) (set_of c s) t (subst Unique (sym there) (present_unique c.sets c.ways h s))
      ∙ ap (λ (k : List ℕ). a / 8 ∷ without (a / 8) k) there
      ∙ sym (present_hit c.sets c.ways h a (c.ways - 1) some (ap (is_in (a / 8)) (sym there) ∙ t)))
      (λ n.
      ap keys (new_miss o n)
      ∙ ap (λ (k : List ℕ). a / 8 ∷ k) (keys-take (c.ways - 1) (set_of c s) ∙ ap (take (c.ways - 1)) there)
      ∙ sym (present_miss c.sets c.ways h a (c.ways - 1) some (ap (is_in (a / 8)) (sym there) ∙ n)))
      (bool_cases (is_present c a))

  pub hits_present : (h : List ℕ) → StandsFor c h → hits c.sets c.ways h a ≡ is_present c a
  hits_present h f =
      hits_is c.sets c.ways h a ∙ ap (is_in (a / 8)) (sym (f.present (a / 8 % c.sets) (let some = ok.some_sets in omega arith)))

  pub stands : Order → (h : List ℕ) → StandsFor c h → StandsFor (with_load c a new) (h ++ a ∷ [])
  stands o h f =
      record {
        present = λ s below.
            ⊎_elim
            (λ e. let is = eqb-true (a / 8 % c.sets) s e in
            subst (λ s. keys (get_or (set c.held (a / 8 % c.sets) new) s []) ≡ present_after c.sets c.ways (h ++ a ∷ []) s) is (ap keys (set_same c.held (a / 8 % c.sets) new in_table) ∙ next_keys o h f))
            (λ e. ap keys (set_other c.held (a / 8 % c.sets) s new e) ∙ f.present s below ∙ sym (present_other c.sets c.ways h a s e))
            (bool_cases (eqb (a / 8 % c.sets) s));
        loads = ap (λ n. n + 1) f.loads ∙ sym (length_more h a);
        misses = ap (λ n. n + cond (is_present c a) 0 1) f.misses ∙ ap (λ b. misses_of c.sets c.ways h + cond b 0 1) (sym (hits_present h f)) ∙ sym (misses_more c.sets c.ways h a);
      }
    where
      length_more : (h : List ℕ) (a : ℕ) → length (h ++ a ∷ []) ≡ length h + 1
      length_more [] a = refl
      length_more (x ∷ h) a = let more = length_more h a in omega arith

  abbrev pub Filled : Type 0
  Filled = is_present c a ≡ false → (w : ℕ) → w < 8 → told.lawful (8 * (a / 8) + w) ≡ true → get_or (front new) w 0 ≡ get_or told.words (8 * (a / 8) + w) 0

  at_word : (ws : List ℕ) (b : ℕ) → get_or ws (b % 8) 0 ≡ get_or told.words (8 * (b / 8) + b % 8) 0 → get_or ws (b % 8) 0 ≡ get_or told.words b 0
  at_word ws b e = e ∙ ap (λ i. get_or told.words i 0) (whole_word b)

  filled_at : Filled → is_present c a ≡ false → (b : ℕ) → b / 8 ≡ a / 8 → told.lawful b ≡ true → get_or (front new) (b % 8) 0 ≡ get_or told.words b 0
  filled_at f p b e l =
      at_word (front new) b
      (subst (λ x. get_or (front new) (b % 8) 0 ≡ get_or told.words (8 * x + b % 8) 0) (sym e)
      (f p (b % 8) (omega arith) (ap (λ x. told.lawful (8 * x + b % 8)) (sym e) ∙ ap told.lawful (whole_word b) ∙ l)))

  pub loaded_value : Order → Filled → Agrees c told → told.lawful a ≡ true → get_or (front new) (a % 8) 0 ≡ get_or told.words a 0
  loaded_value o f g l =
      ⊎_elim
      (λ t.
      let ls = set_of c (a / 8 % c.sets) in
      let shown = subst (λ (k : Option (List ℕ)). IfSome k (λ ws. get_or ws (a % 8) 0 ≡ get_or told.words a 0)) (front_brought (a / 8) ls t) (g.same a l) in
      ap (λ (ls : List Line). get_or (front ls) (a % 8) 0) (new_hit o t) ∙ shown)
      (λ n. filled_at f n a refl l)
      (bool_cases (is_present c a))

  abbrev pub shows : List Line → ℕ → Type 0
  shows ls b = IfSome (look (b / 8) ls) (λ ws. get_or ws (b % 8) 0 ≡ get_or told.words b 0)

  miss_shows : Filled → is_present c a ≡ false → (b : ℕ) → told.lawful b ≡ true → shows (set_of c (a / 8 % c.sets)) b → shows (record { line = a / 8; words = front new } ∷ take (c.ways - 1) (set_of c (a / 8 % c.sets))) b
  miss_shows f p b l h =
      ⊎_elim
      (λ e. subst (λ t. IfSome (cond t (Some (front new)) (look (b / 8) (take (c.ways - 1) (set_of c (a / 8 % c.sets))))) (λ ws. get_or ws (b % 8) 0 ≡ get_or told.words b 0)) (sym e)
      (filled_at f p b (sym (eqb-true (a / 8) (b / 8) e)) l))
      (λ e. subst (λ t. IfSome (cond t (Some (front new)) (look (b / 8) (take (c.ways - 1) (set_of c (a / 8 % c.sets))))) (λ ws. get_or ws (b % 8) 0 ≡ get_or told.words b 0)) (sym e)
      (look_take (b / 8) (c.ways - 1) (set_of c (a / 8 % c.sets)) _ h))
      (bool_cases (eqb (a / 8) (b / 8)))

  own_shows : Order → Filled → (b : ℕ) → told.lawful b ≡ true → shows (set_of c (a / 8 % c.sets)) b → shows new b
  own_shows o f b l h =
      ⊎_elim
      (λ t. subst (λ (k : Option (List ℕ)). IfSome k (λ ws. get_or ws (b % 8) 0 ≡ get_or told.words b 0)) (sym (ap (look (b / 8)) (new_hit o t) ∙ look_brought (a / 8) (b / 8) (set_of c (a / 8 % c.sets)) t)) h)
      (λ n. subst (λ (ls : List Line). shows ls b) (sym (new_miss o n)) (miss_shows f n b l h))
      (bool_cases (is_present c a))

  pub still_agrees : Order → Filled → Agrees c told → Agrees (with_load c a new) told
  still_agrees o f g =
      record {
        same = λ b l.
            ⊎_elim
            (λ e.
            let is : a / 8 % c.sets ≡ b / 8 % c.sets = eqb-true (a / 8 % c.sets) (b / 8 % c.sets) e in
            subst (λ s. shows (get_or (set c.held (a / 8 % c.sets) new) s []) b) is
            (subst (λ (ls : List Line). shows ls b) (sym (set_same c.held (a / 8 % c.sets) new in_table))
            (own_shows o f b l (subst (λ s. shows (set_of c s) b) (sym is) (g.same b l)))))
            (λ e. subst (λ (ls : List Line). shows ls b) (sym (set_other c.held (a / 8 % c.sets) (b / 8 % c.sets) new e)) (g.same b l))
            (bool_cases (eqb (a / 8 % c.sets) (b / 8 % c.sets)));
      }

-- The set that a place of the table shows is the one that stands there.
pub set_is : (t : List (List Line)) (s : ℕ) (d : List Line) → s < length t → d ≡ get_or t s d → d ≡ get_or t s []
set_is [] s d lt e = absurd (let h : ⊥ = omega arith in h)
set_is (x ∷ t) zero d lt e = e
set_is (x ∷ t) (suc s) d lt e = set_is t s d (omega arith) e

-- The same, over what the body knows.
module _ (c : CacheValue) (ok : IsCache c) (a m s : ℕ) (at : s ≡ a / 8 % c.sets) (was new : List Line) (told : Told) (there : was ≡ get_or c.held s was) (order : new ≡ loaded (is_in (a / 8) (keys was)) c.ways (a / 8) (front new) was) where
  was_is : was ≡ set_of c (a / 8 % c.sets)
  was_is = set_is c.held (a / 8 % c.sets) was (let t = ok.table in let some = ok.some_sets in omega arith) (there ∙ ap (λ s. get_or c.held s was) at)

  in_order : Order c ok a new told
  in_order = subst (λ (ls : List Line). new ≡ loaded (is_in (a / 8) (keys ls)) c.ways (a / 8) (front new) ls) was_is order

  filled : (is_in (a / 8) (keys was) ≡ false → (w : ℕ) → w < 8 → told.lawful (8 * (a / 8) + w) ≡ true → get_or (front new) w 0 ≡ get_or told.words (8 * (a / 8) + w) 0) → Filled c ok a new told
  filled f n = f (ap (λ (ls : List Line). is_in (a / 8) (keys ls)) was_is ∙ n)

  pub load_stands : m ≡ cond (is_in (a / 8) (keys was)) 0 1 → (h : List ℕ) → StandsFor c h → StandsFor (record c { held = set c.held s new; loads = c.loads + 1; misses = c.misses + m }) (h ++ a ∷ [])
  load_stands e h f =
      subst (λ s. StandsFor (record c { held = set c.held s new; loads = c.loads + 1; misses = c.misses + m }) (h ++ a ∷ [])) (sym at)
      (subst (λ m. StandsFor (record c { held = set c.held (a / 8 % c.sets) new; loads = c.loads + 1; misses = c.misses + m }) (h ++ a ∷ []))
      (sym (e ∙ ap (λ (ls : List Line). cond (is_in (a / 8) (keys ls)) 0 1) was_is))
      (stands c ok a new told in_order h f))

  pub load_reads : (h : List ℕ) → StandsFor c h → ◌≡◌ {A = ℕ} (cond (is_in (a / 8) (keys was)) 0 8) (cond (hits c.sets c.ways h a) 0 8)
  load_reads h f = ap (λ (ls : List Line). cond (is_in (a / 8) (keys ls)) 0 8) was_is ∙ ap (λ b. cond b 0 8) (sym (hits_present c ok a new told h f))

  pub load_value : (is_in (a / 8) (keys was) ≡ false → (w : ℕ) → w < 8 → told.lawful (8 * (a / 8) + w) ≡ true → get_or (front new) w 0 ≡ get_or told.words (8 * (a / 8) + w) 0) → Agrees c told → told.lawful a ≡ true → get_or (front new) (a % 8) 0 ≡ get_or told.words a 0
  load_value f g l = loaded_value c ok a new told in_order (filled f) g l

  pub load_agrees : (is_in (a / 8) (keys was) ≡ false → (w : ℕ) → w < 8 → told.lawful (8 * (a / 8) + w) ≡ true → get_or (front new) w 0 ≡ get_or told.words (8 * (a / 8) + w) 0) → Agrees c told → Agrees (record c { held = set c.held s new; loads = c.loads + 1; misses = c.misses + m }) told
  load_agrees f g =
      subst (λ s. Agrees (record c { held = set c.held s new; loads = c.loads + 1; misses = c.misses + m }) told) (sym at)
      (record { same = (still_agrees c ok a new told in_order (filled f) g).same })
