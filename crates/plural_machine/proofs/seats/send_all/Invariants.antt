use Rattle.std.proofs.Common.{◌≡◌, ◌<◌, ◌≤◌, ℕ, length, slice_index_or}
use Rattle.plural_rule.specs.declared.view.Role.TheVariants as role
use Rattle.plural_words.specs.Seen.{IsRootOf, root_with}
use Rattle.plural_cores.specs.Cores.{CoreSeen}
use Rattle.plural_machine.specs.Knowing.{numbers_below, with_role}
use Rattle.plural_machine.specs.Together.{IsIdle, IsSent}
use Rattle.plural_machine.proofs.seats.send_all.Given as goal

abbrev pub invariant-loop-i : goal.invariant-loop-i
invariant-loop-i l = IsRootOf l.words l.root × (l.root ≡ root_with l.initial.root (with_role l.initial.root.view (role.Root (numbers_below l.i)))) × (length l.cores ≡ length l.initial.cores) × ((k : ℕ) (d : CoreSeen) → k < l.i → IsSent l.words l.initial.root.view.found k (slice_index_or l.cores k d)) × ((k : ℕ) (d : CoreSeen) → l.i ≤ k → k < length l.cores → IsIdle l.words k (slice_index_or l.cores k d))
