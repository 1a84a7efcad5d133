-- Tests of the entries before a place.
use Rattle.std.proofs.Common.{◌≡◌, ℕ, zero, suc, ◌<◌, ◌≤◌, Bool, true, false, ◌||◌, List, [], ◌∷◌, length, take, refl, ap, ◌∙◌, arith}
use Rattle.std.specs.List.{list_any}
use Rattle.std.proofs.lemmas.Bool.{or_left, or_right}
use Rattle.plural_trace.specs.declared.entry.Entry.{Entry}
use Rattle.plural_trace.specs.Rules.{entry_at}

-- A test passes on the entries before place i if one of them passes it.
pub any_first : (p : Entry → Bool) (es : List Entry) (k i : ℕ) → k < i → i ≤ length es → p (entry_at es k) ≡ true → list_any p (take i es) ≡ true
any_first p es k zero lt le h = absurd (omega arith)
any_first p [] k (suc i) lt le h = absurd (omega arith)
any_first p (e ∷ es) zero (suc i) lt le h = or_left (p e) (list_any p (take i es)) h
any_first p (e ∷ es) (suc k) (suc i) lt le h = or_right (p e) (list_any p (take i es)) (any_first p es k i (omega arith) (omega arith) h)

-- It doesn't if none of them does.
pub none_first : (p : Entry → Bool) (es : List Entry) (i : ℕ) → i ≤ length es → ((k : ℕ) → k < i → p (entry_at es k) ≡ false) → list_any p (take i es) ≡ false
none_first p es zero le h = refl
none_first p [] (suc i) le h = refl
none_first p (e ∷ es) (suc i) le h = ap (λ b. b || list_any p (take i es)) (h 0 (omega arith)) ∙ none_first p es i (omega arith) (λ k l. h (suc k) (omega arith))
