-- What a free seat finds as it tries the tasks in turn. (This project's own.)
use Rattle.std.specs.Prelude.{ℕ, ◌≡◌, ◌≢◌, ◌+◌, ◌<◌, ◌≤◌, ◌⊎◌, Bool, true, false, nat_lt, [], slice_index}
use Rattle.plural_serial.specs.Program.{task_at}
use Rattle.plural_rule.specs.Opening.{Opening, IsInstance, task_count, quota_of}
use Rattle.plural_rule.specs.declared.view.View.{View}
use Rattle.plural_rule.specs.declared.view.Stage.TheVariants.{Free, Got}
use Rattle.plural_words.specs.Seen.{SeatSeen}
use Rattle.plural_alloc.specs.declared.answer.Claim.{Claim}
use Rattle.plural_alloc.specs.declared.answer.Claim.TheVariants as answer
use Rattle.plural_cores.specs.Later.{IsLater, to_find}
use Rattle.plural_cores.specs.declared.sweep.Instance.{Instance}
use Rattle.plural_cores.specs.declared.sweep.Sweep.{Sweep}
use Rattle.plural_cores.specs.declared.sweep.Sweep.TheVariants as sweep

-- An exchange of the alloc word of task t was lost, and found more there than had been found.
pub record WasLost (t : ℕ) (old new : View) : Type 0 where
  pub lost : slice_index new.losses t ≡ slice_index old.losses t + 1
  pub more : slice_index old.found t < slice_index new.found t

-- Task t, with this many instances, was looked at once: it was found unarmed or wholly handed out, or an exchange was
-- lost.
pub record IsTried (quota t : ℕ) (old new : View) : Type 0 where
  pub looked : slice_index new.looks t ≡ slice_index old.looks t + 1
  pub few : slice_index new.found t ≤ 1 + quota
  pub cause : (slice_index new.found t ≡ 0) ⊎ ((slice_index new.found t ≡ 1 + quota) ⊎ WasLost t old new)

-- Task t wasn't tried.
pub record IsUntried (t : ℕ) (old new : View) : Type 0 where
  pub looks : slice_index new.looks t ≡ slice_index old.looks t
  pub losses : slice_index new.losses t ≡ slice_index old.losses t
  pub found : slice_index new.found t ≡ slice_index old.found t

-- The first n tasks were tried and no other, and no instance was claimed.
pub record HasTried (o : Opening) (n : ℕ) (old new : SeatSeen) : Type 0 where
  pub later : IsLater old new
  pub free : new.view.stage ≡ Free
  pub nothing : new.view.owes ≡ []
  pub told : new.view.told ≡ old.view.told
  pub tried : (t : ℕ) → t < n → IsTried (quota_of o.program t) t old.view new.view
  pub untried : (t : ℕ) → n ≤ t → IsUntried t old.view new.view

-- An instance was claimed: the tasks before its own were tried, and those after it weren't. Less is left to find, and
-- its budget is within the limit of a task.
pub record HasClaimed (o : Opening) (i : Instance) (old new : SeatSeen) : Type 0 where
  pub later : IsLater old new
  pub is : IsInstance o.program i.t i.k
  pub got : new.view.stage ≡ Got i.t i.k
  pub nothing : new.view.owes ≡ []
  pub told : new.view.told ≡ old.view.told
  pub tried : (t : ℕ) → t < i.t → IsTried (quota_of o.program t) t old.view new.view
  pub looked : slice_index new.view.looks i.t ≡ slice_index old.view.looks i.t + 1
  pub untried : (t : ℕ) → i.t < t → IsUntried t old.view new.view
  pub short : (task_at o.program i.t).budget ≤ 100000000
  pub less : to_find o.program new.view < to_find o.program old.view

-- A claim tells that its task, with this many instances, isn't armed or is wholly handed out.
abbrev pub tells_whole : (quota : ℕ) → Claim → Bool
tells_whole quota (answer.Got k) = false
tells_whole quota answer.Unarmed = true
tells_whole quota answer.Handed = true
tells_whole quota (answer.Lost saw) = nat_lt quota saw

-- An exchange of an armed task was lost, of which instances are left as far as the view knows.
pub record IsLeftOver (quota t : ℕ) (old new : View) : Type 0 where
  pub lost : WasLost t old new
  pub armed : 1 ≤ slice_index new.found t
  pub some_left : slice_index new.found t ≢ 1 + quota

-- Whether the view knows each of the first n tasks that it knows as armed as wholly handed out. If not, an exchange of
-- one of them was lost.
pub record IsWhole (o : Opening) (n : ℕ) (whole : Bool) (old new : View) : Type 0 where
  pub so : whole ≡ true → (t : ℕ) → t < n → 1 ≤ slice_index new.found t
      → slice_index new.found t ≡ 1 + quota_of o.program t
  pub not_so : whole ≡ false → (t : ℕ) × (t < n) × IsLeftOver (quota_of o.program t) t old new

-- Each task was tried, and none had an instance left.
pub record HasNone (o : Opening) (whole : Bool) (old new : SeatSeen) : Type 0 where
  pub all : HasTried o (task_count o.program) old new
  pub known : IsWhole o (task_count o.program) whole old.view new.view

-- What a try of the tasks in turn leaves, by its answer.
abbrev pub HasSwept : Opening → (old : SeatSeen) → Sweep → (new : SeatSeen) → Type 0
HasSwept o old (sweep.Got i) new = HasClaimed o i old new
HasSwept o old (sweep.Spent whole) new = HasNone o whole old new
