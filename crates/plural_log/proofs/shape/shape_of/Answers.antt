use Rattle.std.proofs.Common.{◌≡◌, ℕ, false, None, List, [], ◌∷◌, refl, ap, sym, ◌∙◌}
use Rattle.std.specs.Prelude.{codes, bytes_eq}
use Rattle.std.proofs.lemmas.Bool.{false_from_ne_true}
use Rattle.std.proofs.lemmas.Slice.Eq.{bytes_eq-Decides}
use Rattle.plural_bytes.specs.Lines.{tokens}
use Rattle.plural_log.specs.Shape.{shape}
use Rattle.plural_log.proofs.shape.shape_of.Goals as goal

other : (w word : List ℕ) (ts : List (List ℕ)) → ((us : List (List ℕ)) → w ∷ ts ≡ word ∷ us → ⊥) → bytes_eq w word ≡ false
other w word ts apart = false_from_ne_true (bytes_eq w word) (λ h. apart ts (ap (λ (x : List ℕ). x ∷ ts) ((bytes_eq-Decides w word).0 h)))

-- A line that begins with none of the three words has no shape.
no_shape : (ts : List (List ℕ)) → ((us : List (List ℕ)) → ts ≡ codes "run" ∷ us → ⊥) → ((us : List (List ℕ)) → ts ≡ codes "task" ∷ us → ⊥) → ((us : List (List ℕ)) → ts ≡ codes "log" ∷ us → ⊥) → shape ts ≡ None
no_shape [] run task log = refl
no_shape (w ∷ ts) run task log = rw (other w (codes "log") ts log, other w (codes "task") ts task, other w (codes "run") ts run) refl

-- The line begins with none of them.
pub returns-in_err-rest : goal.returns-in_err-rest
returns-in_err-rest c = c.from_residual.ensures ∙ sym (no_shape (tokens c.args.text.now) c.in_default.ensures c.in_default-after_token.ensures c.in_err-rest.ensures)
