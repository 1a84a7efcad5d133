-- Lines after so many that close a section.
use Rattle.std.proofs.Common.{◌≡◌, ℕ, ◌+◌, true, false, cond, List, [], ◌∷◌, ◌++◌, fold, refl, ap, sym, ◌∙◌, append_assoc, append-nil}
use Rattle.std.specs.List.{AllByRecursion}
use Rattle.std.proofs.lemmas.Bool.{cond-true, cond-false}
use Rattle.std.proofs.lemmas.List.Sums.{fold-append, sum_by-append, sum_by-cons}
use Rattle.plural_bytes.specs.Lines.{TextLine}
use Rattle.plural_sections.specs.Sections.{closes, closings, since}

-- no line closes a section
abbrev pub NoneCloses : List TextLine → Type 0
NoneCloses lines = AllByRecursion (λ l. closes l.1 ≡ false) lines

since_more : (s before : List TextLine) → NoneCloses before → fold (λ s l. cond (closes l.1) [] (s ++ l ∷ [])) s before ≡ s ++ before
since_more s [] h = sym (append-nil s)
since_more s (l ∷ ls) h =
    ap (λ t. fold (λ s l. cond (closes l.1) [] (s ++ l ∷ [])) t ls) (cond-false (closes l.1) [] (s ++ l ∷ []) h.0)
    ∙ since_more (s ++ l ∷ []) ls h.1
    ∙ append_assoc s (l ∷ []) ls

closings_none : (before : List TextLine) → NoneCloses before → closings before ≡ 0
closings_none [] h = refl
closings_none (l ∷ ls) h =
    sum_by-cons (λ m. cond (closes m.1) 1 0) l ls ∙ ap (λ b. cond b 1 0 + closings ls) h.0 ∙ ap (λ n. 0 + n) (closings_none ls h.1)

-- after these lines and others of which none closes a section, so many sections are closed, and those others are the
-- lines since
pub record Begins (body : List TextLine) (n : ℕ) : Type 0 where
  pub count : (before : List TextLine) → NoneCloses before → closings (body ++ before) ≡ n
  pub last : (before : List TextLine) → NoneCloses before → since (body ++ before) ≡ before

-- Before any line no section is closed.
pub begins_nothing : Begins [] 0
begins_nothing = record { count = λ before h. closings_none before h; last = λ before h. since_more [] before h }

-- A line that closes a section after others that don't closes one more.
pub begins_next : (body lines : List TextLine) (n : ℕ) (line : TextLine) → Begins body n → NoneCloses lines → closes line.1 ≡ true → Begins (body ++ (lines ++ line ∷ [])) (n + 1)
begins_next body lines n line b h e = record { count = count; last = last }
  where
    split : (before : List TextLine) → (body ++ (lines ++ line ∷ [])) ++ before ≡ (body ++ lines) ++ line ∷ before
    split before = ap (λ x. x ++ before) (sym (append_assoc body lines (line ∷ []))) ∙ append_assoc (body ++ lines) (line ∷ []) before

    count : (before : List TextLine) → NoneCloses before → closings ((body ++ (lines ++ line ∷ [])) ++ before) ≡ n + 1
    count before g =
        ap closings (split before)
        ∙ sum_by-append (λ m. cond (closes m.1) 1 0) (body ++ lines) (line ∷ before)
        ∙ ap (λ x. x + closings (line ∷ before)) (b.count lines h)
        ∙ ap (λ x. n + x) (sum_by-cons (λ m. cond (closes m.1) 1 0) line before ∙ ap (λ x. cond x 1 0 + closings before) e ∙ ap (λ x. 1 + x) (closings_none before g))

    last : (before : List TextLine) → NoneCloses before → since ((body ++ (lines ++ line ∷ [])) ++ before) ≡ before
    last before g =
        ap since (split before)
        ∙ fold-append (λ s l. cond (closes l.1) [] (s ++ l ∷ [])) [] (body ++ lines) (line ∷ before)
        ∙ ap (λ t. fold (λ s l. cond (closes l.1) [] (s ++ l ∷ [])) t before) (cond-true (closes line.1) [] (since (body ++ lines) ++ line ∷ []) e)
        ∙ since_more [] before g

-- as many of two lists as of both
pub closings_more : (xs ys : List TextLine) → closings (xs ++ ys) ≡ closings xs + closings ys
closings_more xs ys = sum_by-append (λ m. cond (closes m.1) 1 0) xs ys
