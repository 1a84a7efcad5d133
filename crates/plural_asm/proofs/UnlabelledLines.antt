-- Lines without a label: a word, and operands after a blank.
use Rattle.std.proofs.Common.{◌≡◌, ℕ, ◌<◌, true, false, None, List, [], ◌∷◌, ◌++◌, length, refl, ◌∙◌}
use Rattle.std.specs.List.{list_all}
use Rattle.std.proofs.lemmas.Bool.{and_from}
use Rattle.std.proofs.lemmas.List.Folds.{list_all-append}
use Rattle.plural_base.proofs.ListTests.{HasNone, none_pass, position_none, all_append}
use Rattle.plural_bytes.proofs.PrintedLines.{is_inner, EndsInToken, IsLine, all_inner, ends_of, ends_after, plain_line, line_more}
use Rattle.plural_statement.specs.Statement.{is_colon, label_of, unlabelled}
use Rattle.plural_asm.proofs.Plain.{is_word, is_solid, IsOperand, solid_no_colon, solid_of, plain_of}

no_colon_in : (xs : List ℕ) → list_all is_solid xs ≡ true → HasNone is_colon xs
no_colon_in xs h = none_pass is_solid is_colon solid_no_colon xs h

-- a line of its own without a colon
pub record IsUnlabelled (text : List ℕ) : Type 0 where
  pub line : IsLine text
  pub no_colon : HasNone is_colon text

-- what stands after a mnemonic's blank
pub record IsTail (text : List ℕ) : Type 0 where
  pub inner : list_all is_inner text ≡ true
  pub ends : EndsInToken text
  pub no_colon : HasNone is_colon text

-- An operand ends a line.
pub last_tail : (x : List ℕ) → IsOperand x → IsTail x
last_tail x h = record { inner = all_inner x (plain_of x h.solid); ends = ends_of x (plain_of x h.solid) h.some; no_colon = no_colon_in x h.solid }

-- An operand, a comma and a blank may stand before the end of a line.
pub more_tail : (x y : List ℕ) → IsOperand x → IsTail y → IsTail (x ++ 44 ∷ 32 ∷ y)
more_tail x y h t = record {
  inner = list_all-append is_inner x (44 ∷ 32 ∷ y) ∙ and_from _ _ (all_inner x (plain_of x h.solid)) t.inner;
  ends = ends_after x (44 ∷ 32 ∷ y) (ends_after (44 ∷ 32 ∷ []) y t.ends);
  no_colon = all_append (λ c. is_colon c ≡ false) x (44 ∷ 32 ∷ y) (no_colon_in x h.solid) (refl, (refl, t.no_colon));
}

-- A word is a line without a label.
pub word_line : (xs : List ℕ) → list_all is_word xs ≡ true → 0 < length xs → IsUnlabelled xs
word_line xs h l = record { line = plain_line xs (plain_of xs (solid_of xs h)) l; no_colon = no_colon_in xs (solid_of xs h) }

-- A word, a blank and operands are a line without a label.
pub tail_line : (xs y : List ℕ) → list_all is_word xs ≡ true → 0 < length xs → IsTail y → IsUnlabelled (xs ++ 32 ∷ y)
tail_line xs y h l t = record {
  line = line_more xs y (plain_of xs (solid_of xs h)) l t.inner t.ends;
  no_colon = all_append (λ c. is_colon c ≡ false) xs (32 ∷ y) (no_colon_in xs (solid_of xs h)) (refl, t.no_colon);
}

-- A line without a colon has no label.
pub no_label : (text : List ℕ) → IsUnlabelled text → label_of text ≡ None
no_label text h = rw (position_none is_colon text h.no_colon) refl

-- A line without a colon is left whole.
pub all_left : (text : List ℕ) → IsUnlabelled text → unlabelled text ≡ text
all_left text h = rw (position_none is_colon text h.no_colon) refl
