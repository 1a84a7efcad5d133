-- The records of a legal log are those of the serial run, in another order: so each sum over them is the same.
use Rattle.std.proofs.Common.{◌≡◌, ℕ, zero, suc, ◌+◌, ◌<◌, List, [], ◌∷◌, length, map, get_or, Some, None, All, refl, sym, ap, ◌∙◌, subst, inl, inr, arith, Bool, true, false, eq-eqb, eqb-true}
use Rattle.std.specs.Prelude.{◌==◌, sum_by}
use Rattle.std.specs.List.{AllPairs, remove}
use Rattle.std.specs.List.Sorted.{IsPermutation}
use Rattle.std.proofs.lemmas.Bool.{cases_lt, and_parts}
use Rattle.std.proofs.lemmas.List.{get_or_default}
use Rattle.std.proofs.lemmas.List.Edits.{length-remove, get_or-remove_below, get_or-remove_above}
use Rattle.std.proofs.lemmas.List.Elements.{All-head, All-tail}
use Rattle.std.proofs.lemmas.List.Sums.{sum_by-cons}
use Rattle.std.proofs.lemmas.List.Quantifiers.{all_pairs_remove}
use Rattle.std.proofs.lemmas.List.Sorted.{IsPermutation-refl, IsPermutation-sym, IsPermutation-cons, IsPermutation-remove, IsPermutation-map, IsPermutation-trans, All-permutation, Contains-permutation}
use Rattle.plural_map.specs.Value.{TaskValue}
use Rattle.plural_serial.specs.declared.record_.Record.{Record}
use Rattle.plural_trace.specs.declared.entry.Entry.{Entry}
use Rattle.plural_trace.specs.Rules.{record_for, is_of}
use Rattle.plural_trace.specs.Legality.{IsOther, HasEntry, HasRecords}
use Rattle.plural_trace.proofs.RecordOrder.{InOrder}

-- The record of an entry.
abbrev pub rec_of : Entry → Record
rec_of e = e.rec

-- A record that is of the instance is the one for it, if it is the first; and one that isn't is passed over.
for_first : (t k : ℕ) (r : Record) (rs : List Record) → r.t ≡ t → r.k ≡ k → record_for t k (r ∷ rs) ≡ Some r
for_first t k r rs a b = rw (eq-eqb r.t t a, eq-eqb r.k k b) refl

passed : (t k : ℕ) (r : Record) (rs : List Record) → (r.t ≡ t → r.k ≡ k → ⊥) → record_for t k (r ∷ rs) ≡ record_for t k rs
passed t k r rs other = by (is_of t k r) refl
  where
    by : (b : Bool) → is_of t k r ≡ b → record_for t k (r ∷ rs) ≡ record_for t k rs
    by true e = let h = and_parts (r.t == t) (r.k == k) e in absurd (other (eqb-true r.t t h.0) (eqb-true r.k k h.1))
    by false e = rw e refl

-- The other entries are of other instances.
others : (es : List Entry) (i : ℕ) (e : Entry) → AllPairs IsOther es → i < length es → get_or es i e ≡ e → All (λ (f : Entry). e.rec.t ≡ f.rec.t → e.rec.k ≡ f.rec.k → ⊥) (remove es i)
others es i e pairs lt is j d within = elim (cases_lt j i) [
  | inl low ↦ λ a b.
      let f = get_or-remove_below es i d j low lt in
      let here : get_or es i d ≡ e = get_or_default es i d e lt ∙ is in
      pairs j i d low lt (ap (λ (x : Entry). x.rec.t) (sym f) ∙ (sym a ∙ ap (λ (x : Entry). x.rec.t) (sym here))) (ap (λ (x : Entry). x.rec.k) (sym f) ∙ (sym b ∙ ap (λ (x : Entry). x.rec.k) (sym here)))
  | inr high ↦ λ a b.
      let f = get_or-remove_above es i d j high lt in
      let here : get_or es i d ≡ e = get_or_default es i d e lt ∙ is in
      pairs i (j + 1) d (omega (arith, high)) (omega (arith, within, length-remove es i lt)) (ap (λ (x : Entry). x.rec.t) here ∙ (a ∙ ap (λ (x : Entry). x.rec.t) f)) (ap (λ (x : Entry). x.rec.k) here ∙ (b ∙ ap (λ (x : Entry). x.rec.k) f))
]

-- An entry of an instance stands among the others, if it isn't of the first.
there_after : (e : Entry) (es : List Entry) (s : Record) → HasEntry (e ∷ es) s → (e.rec.t ≡ s.t → e.rec.k ≡ s.k → ⊥) → HasEntry es s
there_after e es s (zero, f, lt, is, own) other =
    absurd (other (ap (λ (x : Entry). x.rec.t) is ∙ own.0) (ap (λ (x : Entry). x.rec.k) is ∙ own.1))
there_after e es s (suc k, f, lt, is, own) other = (k, f, omega (arith, lt), is, own)

-- It stands among the same entries in another order.
moved_entry : (es fs : List Entry) (s : Record) → IsPermutation es fs → HasEntry es s → HasEntry fs s
moved_entry es fs s moved (k, f, lt, is, own) =
    let c = Contains-permutation es fs f moved (k, lt, is) in
    (c.0, f, c.1, c.2, own)

-- The records are those of the entries, in another order.
pub legal_records : (tasks : List TaskValue) (rs : List Record) (es : List Entry) → InOrder tasks rs → HasRecords rs es → IsPermutation rs (map rec_of es)
legal_records tasks [] [] o h = IsPermutation-refl []
legal_records tasks [] (e ∷ es) o h = absurd (let none : None ≡ Some e.rec = h.recorded 0 e (omega arith) in cc)
legal_records tasks (r ∷ rs) es o h =
    let there = All-head (HasEntry es) r rs h.whole in
    let i = there.0 in let e = there.1 in let lt = there.2 in let own = there.4 in
    let rest = remove es i in
    let moved : IsPermutation es (e ∷ rest) = IsPermutation-remove es i e lt (sym there.3) in
    let apart = others es i e h.once lt there.3 in
    let recorded = All-permutation (λ (f : Entry). record_for f.rec.t f.rec.k (r ∷ rs) ≡ Some f.rec) es (e ∷ rest) moved h.recorded in
    let first : Some r ≡ Some e.rec = sym (for_first e.rec.t e.rec.k r rs (sym own.0) (sym own.1)) ∙ All-head (λ (f : Entry). record_for f.rec.t f.rec.k (r ∷ rs) ≡ Some f.rec) e rest recorded in
    let same : r ≡ e.rec = cc in
    let next : HasRecords rs rest = record {
      recorded = λ j d within. let f = get_or rest j d in
          sym (passed f.rec.t f.rec.k r rs (λ a b. apart j d within (own.0 ∙ a) (own.1 ∙ b))) ∙ All-tail (λ (f : Entry). record_for f.rec.t f.rec.k (r ∷ rs) ≡ Some f.rec) e rest recorded j d within;
      once = all_pairs_remove IsOther es i lt h.once;
      whole = λ j d within. let s = get_or rs j d in
          there_after e rest s (moved_entry es (e ∷ rest) s moved (All-tail (HasEntry es) r rs h.whole j d within)) (λ a b. (o.1 j d within).other (sym own.0 ∙ a) (sym own.1 ∙ b));
    } in
    IsPermutation-trans (r ∷ rs) (map rec_of (e ∷ rest)) (map rec_of es)
    (subst (λ (x : Record). IsPermutation (r ∷ rs) (x ∷ map rec_of rest)) same (IsPermutation-cons r rs (map rec_of rest) (legal_records tasks rs rest o.2 next)))
    (IsPermutation-map rec_of (e ∷ rest) es (IsPermutation-sym es (e ∷ rest) moved))

-- A sum over the records is one over the entries.
pub sum_of_records : (f : Record → ℕ) (es : List Entry) → sum_by f (map rec_of es) ≡ sum_by (λ (e : Entry). f e.rec) es
sum_of_records f [] = refl
sum_of_records f (e ∷ es) = sum_by-cons f e.rec (map rec_of es) ∙ ap (λ n. f e.rec + n) (sum_of_records f es) ∙ sym (sum_by-cons (λ (x : Entry). f x.rec) e es)
