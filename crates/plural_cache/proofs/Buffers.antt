-- A buffer's pairs, and what they make of a memory.
use Rattle.std.proofs.Common.{append_assoc, ◌⊎◌, inl, inr, ◌≡◌, ◌≢◌, ℕ, ◌+◌, ◌<◌, ⊎_elim, List, [], ◌∷◌, ◌++◌, length, set, get_or, take, drop, Option, Some, None, refl, sym, ap, ◌∙◌, subst, arith}
use Rattle.std.specs.List.{All}
use Rattle.std.proofs.lemmas.List.Elements.{All-append, All-tail, All-cons, All-nil}
use Rattle.std.proofs.lemmas.List.{get_or-set_same, get_or-set_other, drop-drop, length-append}
use Rattle.std.proofs.lemmas.Grind.{take_at_read}
use Rattle.std.proofs.Math.ListN.{length-set}
use Rattle.std.proofs.Math.Seq.{drop-append_seam}
use Rattle.plural_base.specs.Stores.{sets}
use Rattle.plural_base.specs.Told.{Told, IsNext, Foresees, with_store, after}
use Rattle.plural_cache.specs.Buffer.{IsBufferOver, told_through}
use Rattle.plural_cache.specs.Buffering.{length_sets}

-- Stores one after another.
pub sets_append : (m : List ℕ) (xs ys : List (ℕ × ℕ)) → sets m (xs ++ ys) ≡ sets (sets m xs) ys
sets_append m [] ys = refl
sets_append m (x ∷ xs) ys = sets_append (set m x.0 x.1) xs ys

-- Word a of what one pair more leaves: the pair's if it is of this word, else what it was.
pub pair_here : (m : List ℕ) (pairs : List (ℕ × ℕ)) (i : ℕ) (d : ℕ × ℕ) (a : ℕ) → i < length pairs → a < length m
    → (get_or pairs i d).0 ≡ a → (get_or pairs i d).1 ≡ get_or (sets m (take (i + 1) pairs)) a 0
pair_here m pairs i d a within inside e =
    let s = get_or pairs i d in
    let more : sets m (take (i + 1) pairs) ≡ set (sets m (take i pairs)) s.0 s.1 = ap (λ (ps : List (ℕ × ℕ)). sets m ps) (take_at_read pairs i d within).1 ∙ sets_append m (take i pairs) (s ∷ []) in
    sym (ap (λ (n : List ℕ). get_or n a 0) more ∙ ap (λ b. get_or (set (sets m (take i pairs)) b s.1) a 0) e ∙ get_or-set_same (sets m (take i pairs)) a s.1 0 (omega (arith, length_sets m (take i pairs))))

-- A pair of another word leaves it.
pub pair_elsewhere : (m : List ℕ) (pairs : List (ℕ × ℕ)) (i : ℕ) (d : ℕ × ℕ) (a : ℕ) → i < length pairs
    → (get_or pairs i d).0 ≢ a → get_or (sets m (take i pairs)) a 0 ≡ get_or (sets m (take (i + 1) pairs)) a 0
pair_elsewhere m pairs i d a within e =
    let s = get_or pairs i d in
    let more : sets m (take (i + 1) pairs) ≡ set (sets m (take i pairs)) s.0 s.1 = ap (λ (ps : List (ℕ × ℕ)). sets m ps) (take_at_read pairs i d within).1 ∙ sets_append m (take i pairs) (s ∷ []) in
    sym (ap (λ (n : List ℕ). get_or n a 0) more ∙ get_or-set_other (sets m (take i pairs)) s.0 a s.1 0 (λ k. e (sym k)))

-- ---- over a bus

-- What is foreseen after one store is what was foreseen but that.
foreseen_rest : (e : Option (List (ℕ × ℕ))) (s : ℕ × ℕ) (rest : List (ℕ × ℕ)) → Foresees e (s ∷ rest) → Foresees (after 1 e) rest
foreseen_rest None s rest h = tt
foreseen_rest (Some stores) s rest h = (h.0, ap (λ (l : List (ℕ × ℕ)). drop 1 l) h.1)

-- Once the oldest pair is written, the others may be.
pub over_rest : (s : ℕ × ℕ) (rest : List (ℕ × ℕ)) (told : Told) → IsBufferOver (s ∷ rest) told → IsBufferOver rest (with_store s.0 s.1 told)
over_rest s rest told h =
    let n = length-set told.words s.0 s.1 in
    record {
      within = subst (λ n. All (λ (s : ℕ × ℕ). s.0 < n) rest) (sym n) (All-tail (λ (s : ℕ × ℕ). s.0 < length told.words) s rest h.within);
      foreseen = foreseen_rest told.expects s rest h.foreseen;
    }

-- The next store after those foreseen is foreseen.
foreseen_next : (e : Option (List (ℕ × ℕ))) (pairs : List (ℕ × ℕ)) (s : ℕ × ℕ) → Foresees e pairs → IsNext (after (length pairs) e) s → Foresees e (pairs ++ s ∷ [])
foreseen_next None pairs s h k = tt
foreseen_next (Some stores) pairs s h k =
    (k.0, h.1 ∙ ap (λ (l : List (ℕ × ℕ)). pairs ++ l) (sym (drop-append_seam pairs h.0) ∙ ap (λ (l : List (ℕ × ℕ)). drop (length pairs) l) (sym h.1) ∙ k.1) ∙ sym (append_assoc pairs (s ∷ []) k.0))

-- The next store of those to come may be added.
pub over_next : (pairs : List (ℕ × ℕ)) (told : Told) (s : ℕ × ℕ) → IsBufferOver pairs told → s.0 < length (told_through pairs told).words → IsNext (told_through pairs told).expects s → IsBufferOver (pairs ++ s ∷ []) told
over_next pairs told s h within next =
    record {
      within = All-append (λ (s : ℕ × ℕ). s.0 < length told.words) pairs (s ∷ []) h.within
          (All-cons (λ (s : ℕ × ℕ). s.0 < length told.words) s [] (omega (arith, length_sets told.words pairs)) (All-nil (λ (s : ℕ × ℕ). s.0 < length told.words)));
      foreseen = foreseen_next told.expects pairs s h.foreseen next;
    }

after_more : (m n : ℕ) (e : Option (List (ℕ × ℕ))) → after m (after n e) ≡ after (n + m) e
after_more m n None = refl
after_more m n (Some stores) = ap (λ (l : List (ℕ × ℕ)). Some l) (drop-drop m n stores)

-- What is told through one pair more.
pub told_next : (pairs : List (ℕ × ℕ)) (told : Told) (s : ℕ × ℕ) → told_through (pairs ++ s ∷ []) told ≡ with_store s.0 s.1 (told_through pairs told)
told_next pairs told s =
    ap (λ (m : List ℕ). record { words = m; lawful = told.lawful; expects = after (length (pairs ++ s ∷ [])) told.expects }) (sets_append told.words pairs (s ∷ []))
    ∙ ap (λ (e : Option (List (ℕ × ℕ))). record { words = set (sets told.words pairs) s.0 s.1; lawful = told.lawful; expects = e }) (ap (λ n. after n told.expects) (length-append pairs (s ∷ [])) ∙ sym (after_more 1 (length pairs) told.expects))

-- One pair more.
pub count_next : (pairs : List (ℕ × ℕ)) (s : ℕ × ℕ) (n : ℕ) → n + length (pairs ++ s ∷ []) ≡ n + length pairs + 1
count_next pairs s n = omega (arith, length-append pairs (s ∷ []))

-- With one pair more the buffer is full, or else nothing was written.
pub late_next : (pairs new : List (ℕ × ℕ)) (s : ℕ × ℕ) (n : ℕ) → new ≡ pairs ++ s ∷ [] → (length pairs ≡ 15) ⊎ (n ≡ 0) → (length new ≡ 16) ⊎ (n ≡ 0)
late_next pairs new s n e h = ⊎_elim (λ full. inl (omega (arith, ap length e, length-append pairs (s ∷ [])))) (λ none. inr none) h
