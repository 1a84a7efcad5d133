use Rattle.std.proofs.Common.{rules}
use Rattle.std.proofs.lemmas.List.Sorted.{IsNonDecreasingBy-from_sort_by_key}
use Rattle.plural_trace.specs.declared.entry.Entry.{Entry}
use Rattle.plural_finished.proofs.entering.sort.Goals as goal

-- Sorted entries are still one of each done instance.
pub returns-clause-sorted : goal.returns-clause-sorted
returns-clause-sorted c = IsNonDecreasingBy-from_sort_by_key (λ (e : Entry). e.start) _ c.sort_unstable_by_key.ensures.sorted (λ a r q k. search rules)
