use Rattle.plural_map.specs.declared.outcome.Outcome.TheVariants as outcome
use Rattle.plural_words.proofs.words.Words.count.Given as goal

abbrev pub ghosts-count_as : goal.ghosts-count_as
ghosts-count_as a = record { task = a.t; number = a._k; outcome = outcome.Failed }
