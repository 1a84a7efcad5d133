use Rattle.std.proofs.Common.{◌≡◌, ℕ, zero, suc, ◌+◌, ◌-◌, ◌<◌, Bool, true, false, cond, List, [], ◌∷◌, length, take, refl, sym, ap, ◌∙◌, arith}
use Rattle.std.specs.List.{count_by, onto_first}
use Rattle.std.proofs.lemmas.List.Sums.{sum_by-cons}
use Rattle.memchr.proofs.lemmas.CallerLemmas.{length-places}
use Rattle.plural_bytes.specs.Lines.{pieces, is_line_end}
use Rattle.plural_bytes.proofs.lines.line_count.Goals as goal

-- A byte put before the first of some lines makes no line more.
onto_counted : (c : ℕ) (ps : List (List ℕ)) → 0 < length ps → length (onto_first c ps) ≡ length ps
onto_counted c [] some = absurd (omega arith)
onto_counted c (p ∷ ps) some = refl

-- The lines of a text are one more than the line ends before its last byte.
lines_counted : (n : ℕ) (text : List ℕ) → length text ≡ suc n → length (pieces text) ≡ count_by is_line_end (take n text) + 1
lines_counted n [] e = absurd (omega arith)
lines_counted zero (c ∷ []) e = by (is_line_end c) refl
  where
    by : (b : Bool) → is_line_end c ≡ b → length (pieces (c ∷ [])) ≡ 1
    by true t = rw t refl
    by false t = rw t refl
lines_counted zero (c ∷ d ∷ ds) e = absurd (omega arith)
lines_counted (suc n) (c ∷ cs) e = by (is_line_end c) refl (lines_counted n cs (omega arith))
  where
    by : (b : Bool) → is_line_end c ≡ b → length (pieces cs) ≡ count_by is_line_end (take n cs) + 1 → length (pieces (c ∷ cs)) ≡ count_by is_line_end (c ∷ take n cs) + 1
    by true t i = rw (sum_by-cons (λ x. cond (is_line_end x) 1 0) c (take n cs), t) (omega (arith, i))
    by false t i = rw (sum_by-cons (λ x. cond (is_line_end x) 1 0) c (take n cs), t) (omega (arith, i, onto_counted c (pieces cs) (omega (arith, i))))

-- The lines are one more than the line ends before the last byte.
pub returns-in-len1-up : goal.returns-in-len1-up
returns-in-len1-up c =
    let text = c.args.text.now in
    let ends = c.count.ensures ∙ ap length c.memchr_iter.ensures.value ∙ length-places is_line_end (take (length text - 1) text) in
    ap (λ n. n + 1) ends ∙ sym (lines_counted (length text - 1) text (omega arith))
