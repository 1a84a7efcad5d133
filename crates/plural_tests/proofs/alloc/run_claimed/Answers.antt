use Rattle.std.proofs.Common.{ap, ◌∙◌}
use Rattle.plural_words.specs.Seen.{SeatSeen}
use Rattle.plural_cores.proofs.Turns.{owes_flag}
use Rattle.plural_tests.proofs.alloc.run_claimed.Goals as goal

-- It owes that the instance's end be flagged.
pub deliver-requires-clause-owes : goal.deliver-requires-clause-owes
deliver-requires-clause-owes c =
    owes_flag _ _ _ _ _ (ap (λ (s : SeatSeen). s.view.owes) c.begin.ensures.seat ∙ c.requires.nothing)
    (c.drain.ensures.fixed ∙ c.run-end.ensures.fixed) c.finish.ensures.seat
