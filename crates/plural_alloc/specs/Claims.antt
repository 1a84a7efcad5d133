-- What a claim does to the view of its seat, by its answer. (This project's own.)
use Rattle.std.specs.Prelude.{ℕ, ◌+◌, ◌<◌, ◌≤◌, List, slice_set}
use Rattle.plural_rule.specs.Steps.{risen}
use Rattle.plural_rule.specs.declared.view.View.{View}
use Rattle.plural_rule.specs.declared.view.Stage.{Stage}
use Rattle.plural_rule.specs.declared.view.Stage.TheVariants as stage
use Rattle.plural_alloc.specs.declared.answer.Claim.{Claim}
use Rattle.plural_alloc.specs.declared.answer.Claim.TheVariants.{Got, Unarmed, Handed, Lost}

-- What was last found in the alloc word of the task, which has this many instances: 0 if it isn't armed; one more
-- than all of them if all were handed out; one more than those up to the one that was claimed, which the exchange left
-- there; or what the exchange saw.
abbrev pub found_by : (quota : ℕ) → Claim → ℕ
found_by quota (Got k) = k + 2
found_by quota Unarmed = 0
found_by quota Handed = 1 + quota
found_by quota (Lost saw) = saw

-- How often an exchange of each task was lost: once more of task t if this one was.
abbrev pub losses_after : (t : ℕ) → Claim → (losses : List ℕ) → List ℕ
losses_after t (Got k) losses = losses
losses_after t Unarmed losses = losses
losses_after t Handed losses = losses
losses_after t (Lost saw) losses = risen losses t

-- The seat holds the instance that it got, and else none.
abbrev pub stage_after : (t : ℕ) → Claim → Stage
stage_after t (Got k) = stage.Got t k
stage_after t Unarmed = stage.Free
stage_after t Handed = stage.Free
stage_after t (Lost saw) = stage.Free

-- The view after a claim of an instance of task t: it was looked at once.
abbrev pub claimed : (quota t : ℕ) → Claim → View → View
claimed quota t claim v = record v {
  found = slice_set v.found t (found_by quota claim);
  looks = risen v.looks t;
  losses = losses_after t claim v.losses;
  stage = stage_after t claim;
}

-- What an answer says besides, if the seat had found this much: the task has the instance that was claimed, which the
-- seat hadn't found handed out; what the exchange saw is more than this call's load, which found an armed task and no
-- less than the seat had found.
abbrev pub IsClaim : (quota found : ℕ) → Claim → Type 0
IsClaim quota found (Got k) = (k < quota) × (found ≤ k + 1)
IsClaim quota found Unarmed = Unit {0}
IsClaim quota found Handed = Unit {0}
IsClaim quota found (Lost saw) =
    (loaded : ℕ) × (1 ≤ loaded) × (found ≤ loaded) × (loaded < saw) × (saw ≤ 1 + quota)
