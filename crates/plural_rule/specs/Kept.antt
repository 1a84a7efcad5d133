-- The rule over the words themselves. (This project's own.)
use Rattle.std.specs.Prelude.{ℕ, ◌≡◌, ◌<◌, ◌^◌, List, ◌++◌, length, slice_index}
use Rattle.plural_counters.specs.Counters.{Counters, Counted}
use Rattle.plural_counters.specs.Steps.{as_duties}
use Rattle.plural_counters.specs.declared.duty.Duty.{Duty}
use Rattle.plural_rule.specs.Opening.{Opening, graph_in}
use Rattle.plural_rule.specs.Layout.{word_count}
use Rattle.plural_rule.specs.Content.{Content, content}
use Rattle.plural_rule.specs.Rule.{Rule}
use Rattle.plural_rule.specs.declared.view.View.{View}

-- What a view owes and what it was told, as duties.
abbrev pub duties : View → List Duty
duties v = v.owes ++ as_duties v.told

-- What the counters say.
abbrev pub counters : Content → Counters
counters c = record {
  alloc = c.alloc;
  done = c.done;
  flags = c.flags;
  left = c.left;
  state = c.state;
  open_deps = c.open_deps;
}

-- There are as many words as the program wants; those of the memory are below 2^32; what they say is so by the views;
-- and so it is of the counters by the duties of all views.
pub record Kept (o : Opening) (words : List ℕ) (views : List View) : Type 0 where
  pub long : length words ≡ word_count o.program
  pub narrow : (a : ℕ) → a < o.program.map.words → slice_index words a < 2 ^ 32
  pub rule : Rule o (content o.program words) views
  pub counted : Counted duties (graph_in o) (counters (content o.program words)) views
