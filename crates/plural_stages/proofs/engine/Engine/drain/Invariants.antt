use Rattle.std.proofs.Common.{◌≡◌, drop}
use Rattle.plural_words.specs.Lent.{fixed_of}
use Rattle.plural_words.specs.Seen.{IsSeatOf}
use Rattle.plural_stages.specs.Engines.{IsRunning, all_turns_of}
use Rattle.plural_stages.proofs.engine.Engine.drain.Given as goal

abbrev pub invariant-loop-i : goal.invariant-loop-i
invariant-loop-i l = IsSeatOf l.words l.seat × (fixed_of l.seat ≡ fixed_of l.fn.seat)
    × IsRunning l.words.opening l.t l.k (all_turns_of l.words.opening l.t l.k) l.self l.seat
    × (l.self.pairs ≡ drop l._i l.fn.self.pairs) × (l.self.core ≡ l.fn.self.core)
