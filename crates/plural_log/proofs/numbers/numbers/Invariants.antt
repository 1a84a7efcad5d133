use Rattle.std.proofs.Common.{◌≡◌, ℕ, List, take}
use Rattle.std.specs.BTreeMap.{get_by}
use Rattle.std.specs.Cmp.Lexicographic.{slice_cmp}
use Rattle.std.specs.Ordering.{nat_cmp}
use Rattle.plural_log.specs.Numbers.{number_for}
use Rattle.plural_log.proofs.numbers.numbers.Given as goal

abbrev pub invariant-loop-t : goal.invariant-loop-t
invariant-loop-t l = (q : List ℕ) → get_by (λ k. slice_cmp nat_cmp q k) l.numbers ≡ number_for (take l.t l.tasks) q
