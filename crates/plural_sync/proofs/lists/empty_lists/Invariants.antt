use Rattle.std.proofs.Common.{◌≡◌, [], length, All}
use Rattle.plural_sync.proofs.lists.empty_lists.Given as goal

abbrev pub invariant-loop-t : goal.invariant-loop-t
invariant-loop-t l = (length l.lists.items ≡ l._t) × All (λ v. v.items ≡ []) l.lists.items
