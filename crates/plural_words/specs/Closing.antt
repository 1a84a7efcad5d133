-- What the words say when they are closed. (This project's own.)
use Rattle.std.specs.Prelude.{ℕ, ◌≡◌, List, []}
use Rattle.std.specs.List.{Contains}
use mathlib.Core.Option.{some}
use lib.ListN.{get_elem?}
use Rattle.plural_map.specs.declared.outcome.Outcome.{Outcome}
use Rattle.plural_rule.specs.Opening.{Opening}
use Rattle.plural_rule.specs.Content.{content}
use Rattle.plural_rule.specs.Kept.{Kept}
use Rattle.plural_rule.specs.Last.{KnowsWhole, HasTold, IsLast}
use Rattle.plural_rule.specs.Stages.{outs_of}
use Rattle.plural_rule.specs.declared.view.View.{View}

-- Closed words: what they were opened with, the words, and what the root knew.
pub record ClosedSeen : Type 0 where
  pub opening : Opening
  pub words : List ℕ
  pub root : View

-- One with these parts.
abbrev pub closed_seen : Opening → (words : List ℕ) → (root : View) → ClosedSeen
closed_seen o words root = record { opening = o; words = words; root = root }

-- If no seat is out, and the root knows each task that it knows as armed as wholly handed out, it has told every task.
abbrev pub HasToldIfAlone : Opening → (root : View) → Type 0
HasToldIfAlone o v = outs_of v.role ≡ [] → KnowsWhole o v → HasTold o v

-- The view has told task t.
pub record HasToldTask (v : View) (t : ℕ) : Type 0 where
  pub outcome : Outcome
  pub there : Contains v.told (t, outcome)

-- The rule holds of them, with the root's view as the first. If the root had told every task, they are the last ones.
pub record IsClosed (c : ClosedSeen) : Type 0 where
  pub views : List View
  pub kept : Kept c.opening c.words views
  pub root : get_elem? views 0 ≡ some c.root
  pub last : HasTold c.opening c.root → IsLast c.opening (content c.opening.program c.words)
