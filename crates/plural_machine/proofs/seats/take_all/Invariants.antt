use Rattle.std.proofs.Common.{◌≡◌, ◌<◌, ◌≤◌, ◌⊎◌, ℕ, length, drop, slice_index_or}
use Rattle.plural_rule.specs.Last.{KnowsWhole, HasTold}
use Rattle.plural_rule.specs.declared.view.Role.TheVariants as role
use Rattle.plural_words.specs.Seen.{IsRootOf}
use Rattle.plural_cores.specs.Cores.{CoreSeen}
use Rattle.plural_machine.specs.Knowing.{numbers_below, all_joined}
use Rattle.plural_machine.specs.Together.{IsIdle, IsBack}
use Rattle.plural_machine.proofs.Joined.{IsStill}
use Rattle.plural_machine.proofs.seats.take_all.Given as goal

abbrev pub invariant-loop-i : goal.invariant-loop-i
invariant-loop-i l = IsRootOf l.words l.root × (l.root.view.role ≡ role.Root (numbers_below l.i)) × (length l.cores ≡ length l.initial.cores) × (l.i ≤ length l.cores) × ((k : ℕ) (d : CoreSeen) → k < l.i → IsBack l.words l.initial.root.view.found k (slice_index_or l.cores k d)) × ((k : ℕ) (d : CoreSeen) → l.i ≤ k → k < length l.cores → IsIdle l.words k (slice_index_or l.cores k d)) × (KnowsWhole l.words.opening l.root.view ⊎ (l.root.view.found ≡ l.initial.root.view.found)) × (l.i < length l.cores → l.i ≡ 0 → HasTold l.words.opening l.root.view) × (l.root.view ≡ all_joined l.initial.root.view (drop l.i l.initial.cores)) × ((k : ℕ) (d : CoreSeen) → k < l.i → IsStill l.initial.cores k (slice_index_or l.cores k d))

abbrev pub decreases-loop-i : goal.decreases-loop-i
decreases-loop-i l = l.i
