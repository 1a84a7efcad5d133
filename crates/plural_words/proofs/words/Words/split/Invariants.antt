use Rattle.plural_words.proofs.words.Words.split.Given as goal

abbrev pub ghosts-split_as : goal.ghosts-split_as
ghosts-split_as a = record { core = a.core }
