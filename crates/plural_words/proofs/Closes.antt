-- What closed words say, and where a word of them stands.
use Rattle.std.proofs.Common.{◌≡◌, ◌≢◌, ℕ, zero, suc, ◌+◌, ◌*◌, ◌^◌, ◌<◌, cond, eq-eqb, ne_eqb, List, [], ◌∷◌, get_or, sym, ap, ◌∙◌, subst}
use mathlib.Core.Option.{some, some-injective, some-ne-none}
use lib.ListN.{get_elem?}
use Rattle.atomic_table.specs.Table.{Final, Seen}
use Rattle.plural_rule.specs.Opening.{Opening, task_count, outcome_of}
use Rattle.plural_counters.specs.Laws.{outcome_of_state, outcome_of_flags}
use Rattle.plural_rule.specs.Layout.{counters_at}
use Rattle.plural_rule.specs.Content.{content}
use Rattle.plural_rule.specs.Kept.{Kept}
use Rattle.plural_rule.specs.Stages.{outs_of}
use Rattle.plural_rule.specs.declared.view.View.{View}
use Rattle.plural_rule.specs.declared.view.Role.TheVariants.{Root}
use Rattle.plural_rule.specs.Laws.{IsToldAsRun}
use Rattle.plural_rule.proofs.LastWords.{closes_words, told_outcome}
use Rattle.plural_words.specs.Closing.{ClosedSeen, IsClosed, HasToldTask}
use Rattle.plural_words.specs.Tells.{Holds}

-- What stands at a place.
pub word_at : (l : List ℕ) (i x : ℕ) → get_elem? l i ≡ some x → x ≡ get_or l i 0
word_at [] i x e = absurd (some-ne-none x (sym e))
word_at (y ∷ ys) zero x e = sym (some-injective y x e)
word_at (y ∷ ys) (suc i) x e = word_at ys i x e

-- The last state of a table whose root was alone.
pub closed_by : (o : Opening) (id : ℕ) (v : View) (words : List ℕ) (slots : List (Unit {0})) → id ≡ 0 → v.role ≡ Root (outs_of v.role) → outs_of v.role ≡ [] → Final (Seen (Holds o) id v) words slots
    → IsClosed (record { opening = o; words = words; root = v })
closed_by o id v words slots first role alone last =
    let s = last.0 in
    let views = s.views in
    let at : get_elem? views 0 ≡ some v = subst (λ (j : ℕ). get_elem? views j ≡ some v) first last.1.1 in
    let kept : Kept o words views = subst (λ (ws : List ℕ). Kept o ws views) last.2 last.1.0 in
    record { views = views; kept = kept; root = at; last = λ told. closes_words o words views v kept at (role ∙ ap Root alone) told }

-- A word of the memory has 32 bits.
pub narrow_word : (c : ClosedSeen) (a : ℕ) → IsClosed c → a < c.opening.program.map.words → get_or c.words a 0 < 2 ^ 32
narrow_word c a is small = is.kept.narrow a small

-- ---- a task that the root had told

module _ (c : ClosedSeen) (t : ℕ) (is : IsClosed c) (told : HasToldTask c.root t) where
  told_as_run : IsToldAsRun c.opening c.words t told.outcome
  told_as_run = told_outcome c.opening c.words is.views 0 c.root t told.outcome is.kept is.root told.there

  -- It is one of the program's.
  pub told_task : t < task_count c.opening.program
  told_task = told_as_run.task

  -- If it wasn't armed, its state says its outcome.
  pub unarmed_outcome : (first : ℕ) → first ≡ counters_at c.opening.program → get_or c.words (first + 5 * t) 0 ≡ 0 → outcome_of_state (get_or c.words (first + 5 * t + 3) 0) ≡ outcome_of c.opening t
  unarmed_outcome first at unarmed =
      let P : ℕ → Type 0 = λ n. get_or c.words (n + 5 * t) 0 ≡ 0 → outcome_of_state (get_or c.words (n + 5 * t + 3) 0) ≡ outcome_of c.opening t in
      let says = content c.opening.program c.words in
      subst P (sym at) (λ e. sym (ap (λ b. cond b (outcome_of_state (says.state t)) (outcome_of_flags (says.flags t))) (eq-eqb (says.alloc t) 0 e)) ∙ told_as_run.counters) unarmed

  -- If it was armed, its flags do.
  pub armed_outcome : (first : ℕ) → first ≡ counters_at c.opening.program → get_or c.words (first + 5 * t) 0 ≢ 0 → outcome_of_flags (get_or c.words (first + 5 * t + 1) 0) ≡ outcome_of c.opening t
  armed_outcome first at armed =
      let P : ℕ → Type 0 = λ n. get_or c.words (n + 5 * t) 0 ≢ 0 → outcome_of_flags (get_or c.words (n + 5 * t + 1) 0) ≡ outcome_of c.opening t in
      let says = content c.opening.program c.words in
      subst P (sym at) (λ ne. sym (ap (λ b. cond b (outcome_of_state (says.state t)) (outcome_of_flags (says.flags t))) (ne_eqb (says.alloc t) 0 ne)) ∙ told_as_run.counters) armed
