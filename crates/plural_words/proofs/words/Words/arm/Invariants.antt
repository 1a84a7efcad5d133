use Rattle.plural_map.specs.declared.outcome.Outcome.TheVariants as outcome
use Rattle.plural_words.proofs.words.Words.arm.Given as goal

abbrev pub ghosts-arm_as : goal.ghosts-arm_as
ghosts-arm_as a = record { task = a.t; number = 0; outcome = outcome.Failed }
