-- The life of an instance: its turns one after another, alone over one memory. (This project's own.)
use Rattle.std.specs.Prelude.{ℕ, zero, suc, ◌-◌, List, [], ◌++◌, Option, Some, None}
use Rattle.plural_regions.specs.declared.region.Region.{Region}
use Rattle.plural_core.specs.Turn.{State, Place, Step, Core, turn, place_of}
use Rattle.plural_core.specs.declared.end.End.{End}

-- No turn at all.
abbrev pub stay : State → List ℕ → Step
stay s m = record { state = s; memory = m; loads = []; stores = [] }

-- One step after another: the accesses of both, and the state and memory of the second.
abbrev pub join : Step → Step → Step
join a b = record { state = b.state; memory = b.memory; loads = a.loads ++ b.loads; stores = a.stores ++ b.stores }

-- The step of a state without end; a state with an end stays.
abbrev pub unless_over : Option End → Step → Step → Step
unless_over None step stays = step
unless_over (Some e) step stays = stays

-- The state, memory and accesses after n turns.
unfoldable pub life : ℕ → Place → State → List ℕ → Step
life zero p s m = stay s m
life (suc n) p s m = unless_over s.over (join (turn p s m) (life n p (turn p s m).state (turn p s m).memory)) (stay s m)

-- The rest of a core's life: as many turns as its budget leaves.
abbrev pub rest_of : List ℕ → List Region → Core → List ℕ → Step
rest_of code regions c m = life (c.budget - c.state.count) (place_of code regions c) c.state m
