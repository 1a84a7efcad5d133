use Rattle.plural_map.specs.declared.outcome.Outcome.TheVariants as outcome
use Rattle.plural_words.proofs.words.Words.load_state.Given as goal

abbrev pub ghosts-load_state_as : goal.ghosts-load_state_as
ghosts-load_state_as a = record { task = a.t; number = 0; outcome = outcome.Failed }
