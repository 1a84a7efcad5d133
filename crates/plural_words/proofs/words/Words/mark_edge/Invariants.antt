use Rattle.plural_words.specs.Settling.{outcome_told, place_told}
use Rattle.plural_words.proofs.words.Words.mark_edge.Given as goal

abbrev pub ghosts-mark_edge_as : goal.ghosts-mark_edge_as
ghosts-mark_edge_as a = record { task = a._t; number = place_told a.seat.now.view.owes a._t; outcome = outcome_told a.seat.now.view.owes a._t }
