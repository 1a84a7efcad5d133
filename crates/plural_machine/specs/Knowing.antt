-- What the root knows while seats are out and when they come back. (This project's own.)
use Rattle.std.specs.Prelude.{ℕ, ◌≤◌, zero, suc, List, [], ◌∷◌, slice_index, Option, None, Some}
use Rattle.plural_rule.specs.declared.view.View.{View}
use Rattle.plural_rule.specs.declared.view.Role.{Role}
use Rattle.plural_rule.specs.declared.view.Role.TheVariants as role
use Rattle.plural_rule.specs.Steps.{joined}
use Rattle.plural_words.specs.Seen.{RootSeen, SeatSeen, root_with}
use Rattle.plural_cores.specs.Cores.{CoreSeen}

-- The core numbers below n, the greatest first: those of the seats that are out once n were sent.
abbrev pub numbers_below : ℕ → List ℕ
numbers_below zero = []
numbers_below (suc n) = n ∷ numbers_below n

-- Of each task no more was found in the first list than in the second.
abbrev pub IsNoLess : List ℕ → List ℕ → Type 0
IsNoLess first found = (t : ℕ) → slice_index first t ≤ slice_index found t

-- The view in another role.
abbrev pub with_role : View → Role → View
with_role v r = record v { role = r }

-- The root with the seats of the core numbers below n out, and no others.
abbrev pub with_out : RootSeen → (n : ℕ) → RootSeen
with_out r n = root_with r (with_role r.view (role.Root (numbers_below n)))

-- The root's view after a seat came back, if there was one.
abbrev pub joined_with : View → Option SeatSeen → View
joined_with v None = v
joined_with v (Some s) = joined v s.view

-- The root's view after the seats of these cores came back, that of the last core first.
abbrev pub all_joined : View → List CoreSeen → View
all_joined v [] = v
all_joined v (c ∷ cores) = joined_with (all_joined v cores) c.seat
