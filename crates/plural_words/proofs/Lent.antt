-- One read and one store of a seat that is lent to a bus.
use Rattle.std.proofs.Common.{◌≡◌, ℕ, zero, suc, ◌+◌, ◌&&◌, nat_lt, Bool, true, false, List, [], ◌∷◌, ◌++◌, length, take, drop, set, refl, sym, ap, ◌∙◌, subst, length-set, arith, Some}
use Rattle.plural_base.specs.Told.{Told, with_store}
use Rattle.plural_base.specs.Stores.{sets}
use Rattle.plural_core.proofs.LifeLaws.{sets_append}
use Rattle.plural_order.specs.World.{start_at, value_at}
use Rattle.plural_rule.specs.Opening.{Opening, world_in, stores_of}
use Rattle.plural_rule.specs.Steps.{one_store}
use Rattle.plural_rule.specs.declared.view.Stage.{Stage}
use Rattle.plural_rule.specs.declared.view.Stage.TheVariants.{Free, Got, Begun, Ended}
use Rattle.plural_words.specs.Seen.{WordsSeen, SeatSeen, IsSeatOf}
use Rattle.plural_words.specs.Stages.{IsBegun, IsUnderWay, memory_of, may_read, to_come}
use Rattle.plural_words.specs.Lent.{counts_in, told_in, at_start, IsLent}

-- If both tests pass, the second does.
second_passes : (a b : Bool) → a && b ≡ true → b ≡ true
second_passes true b h = h
second_passes false b h = absurd (cc h)

-- A lawful word may be read by the instance.
pub lawful_may : (o : Opening) (s : Stage) (a : ℕ) → (told_in o s).lawful a ≡ true → may_read o s a ≡ true
lawful_may o s a h = second_passes _ (may_read o s a) h

-- ---- the next store

-- The first more than n of a list, whose next is x.
take_next : (xs : List (ℕ × ℕ)) (n : ℕ) (x : ℕ × ℕ) (rest : List (ℕ × ℕ)) → drop n xs ≡ x ∷ rest → take (suc n) xs ≡ take n xs ++ x ∷ []
take_next [] zero x rest e = absurd (cc e)
take_next [] (suc n) x rest e = absurd (cc e)
take_next (y ∷ ys) zero x rest e = cc e
take_next (y ∷ ys) (suc n) x rest e = ap (λ (l : List (ℕ × ℕ)). y ∷ l) (take_next ys n x rest e)

-- What comes after it.
drop_next : (xs : List (ℕ × ℕ)) (n : ℕ) (x : ℕ × ℕ) (rest : List (ℕ × ℕ)) → drop n xs ≡ x ∷ rest → drop (suc n) xs ≡ rest
drop_next [] zero x rest e = absurd (cc e)
drop_next [] (suc n) x rest e = absurd (cc e)
drop_next (y ∷ ys) zero x rest e = cc e
drop_next (y ∷ ys) (suc n) x rest e = drop_next ys n x rest e

-- A store sets its word in the memory of the instance.
value_next : (o : Opening) (t k made a v : ℕ) (rest : List (ℕ × ℕ)) → drop made (stores_of o t k) ≡ (a, v) ∷ rest → value_at (world_in o) (t, k) (made + 1) ≡ set (value_at (world_in o) (t, k) made) a v
unfolding value_at
value_next o t k made a v rest e =
    let stores = stores_of o t k in
    let first = start_at (world_in o) (t, k) in
    let one : made + 1 ≡ suc made = omega arith in
    ap (λ (n : ℕ). sets first (take n stores)) one
    ∙ (ap (λ (l : List (ℕ × ℕ)). sets first l) (take_next stores made (a, v) rest e)
    ∙ sets_append first (take made stores) ((a, v) ∷ []))

-- After one store more the memory of the instance is the one before with that store.
pub memory_next : (o : Opening) (s : Stage) (a v : ℕ) (rest : List (ℕ × ℕ)) → to_come o s ≡ (a, v) ∷ rest → memory_of o (one_store s) ≡ set (memory_of o s) a v
memory_next o Free a v rest e = absurd (cc e)
memory_next o (Got t k) a v rest e = absurd (cc e)
memory_next o (Begun t k start made reads) a v rest e = value_next o t k made a v rest e
memory_next o (Ended t k start end reads noted) a v rest e = absurd (cc e)

come_next : (o : Opening) (s : Stage) (a v : ℕ) (rest : List (ℕ × ℕ)) → to_come o s ≡ (a, v) ∷ rest → to_come o (one_store s) ≡ rest
come_next o Free a v rest e = absurd (cc e)
come_next o (Got t k) a v rest e = absurd (cc e)
come_next o (Begun t k start made reads) a v rest e = ap (λ (n : ℕ). drop n (stores_of o t k)) (let one : made + 1 ≡ suc made = omega arith in one) ∙ drop_next (stores_of o t k) made (a, v) rest e
come_next o (Ended t k start end reads noted) a v rest e = absurd (cc e)

may_next : (o : Opening) (s : Stage) → may_read o (one_store s) ≡ may_read o s
may_next o Free = refl
may_next o (Got t k) = refl
may_next o (Begun t k start made reads) = refl
may_next o (Ended t k start end reads noted) = refl

-- What is told after the next store.
pub told_next : (o : Opening) (s : Stage) (a v : ℕ) (rest : List (ℕ × ℕ)) → to_come o s ≡ (a, v) ∷ rest → told_in o (one_store s) ≡ with_store a v (told_in o s)
told_next o s a v rest e =
    let words = memory_next o s a v rest e in
    let long : length (memory_of o (one_store s)) ≡ length (memory_of o s) = ap length words ∙ length-set (memory_of o s) a v in
    let come : to_come o (one_store s) ≡ drop 1 (to_come o s) = come_next o s a v rest e ∙ sym (ap (drop 1) e) in
    ap (λ (l : List ℕ). let b : Told = record { words = l; lawful = λ x. nat_lt x (length (memory_of o (one_store s))) && may_read o (one_store s) x; expects = Some (to_come o (one_store s)) } in b) words
    ∙ (ap (λ (n : ℕ). let b : Told = record { words = set (memory_of o s) a v; lawful = λ x. nat_lt x n && may_read o (one_store s) x; expects = Some (to_come o (one_store s)) } in b) long
    ∙ (ap (λ (f : ℕ → Bool). let b : Told = record { words = set (memory_of o s) a v; lawful = λ x. nat_lt x (length (memory_of o s)) && f x; expects = Some (to_come o (one_store s)) } in b) (may_next o s)
    ∙ ap (λ (l : List (ℕ × ℕ)). let b : Told = record { words = set (memory_of o s) a v; lawful = λ x. nat_lt x (length (memory_of o s)) && may_read o s x; expects = Some l } in b) come))

-- A store of an instance under way.
pub record IsOneStore (s : Stage) : Type 0 where
  pub begun : IsBegun (one_store s)
  pub read : (counts_in (one_store s)).reads ≡ (counts_in s).reads
  pub written : (counts_in (one_store s)).writes ≡ (counts_in s).writes + 1
  pub start : at_start (one_store s) ≡ at_start s

-- It is one.
pub one_store_is : (s : Stage) → IsBegun s → IsOneStore s
one_store_is Free h = absurd h
one_store_is (Got t k) h = absurd h
one_store_is (Begun t k start made reads) h = record { begun = tt; read = refl; written = refl; start = refl }
one_store_is (Ended t k start end reads noted) h = absurd h

-- ---- a seat that comes back from a bus

-- Its instance is the one that was under way.
pub begun_again : (s n : Stage) (t k start made reads : ℕ) → at_start n ≡ at_start s → s ≡ Begun t k start made reads → n ≡ Begun t k start (counts_in n).writes (counts_in n).reads
begun_again s Free t k start made reads e is = let no : Free ≡ Begun t k start 0 0 = e ∙ ap at_start is in absurd (cc no)
begun_again s (Got u l) t k start made reads e is = let no : Got u l ≡ Begun t k start 0 0 = e ∙ ap at_start is in absurd (cc no)
begun_again s (Begun u l first m r) t k start made reads e is = let same : Begun u l first 0 0 ≡ Begun t k start 0 0 = e ∙ ap at_start is in cc same
begun_again s (Ended u l first end r noted) t k start made reads e is = let no : Ended u l first end r noted ≡ Begun t k start 0 0 = e ∙ ap at_start is in absurd (cc no)

-- ---- a seat that may be lent

-- A seat whose instance has just begun may be lent.
pub lent_at_start : (w : WordsSeen) (s : SeatSeen) (i : ℕ × ℕ) (start : ℕ) → IsSeatOf w s → IsUnderWay w.opening i start s.view.stage → IsLent w s
lent_at_start w s i start of way = record { of = of; begun = subst IsBegun (sym way.stage) tt; long = way.long }
