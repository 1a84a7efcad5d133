use Rattle.std.proofs.Common.{◌≡◌, take, false}
use Rattle.plural_cache.specs.Miss.{is_in}
use Rattle.plural_cache.specs.Lines.{keys}
use Rattle.plural_cache.proofs.set.Set.find.Given as goal

abbrev pub invariant-loop-i : goal.invariant-loop-i
invariant-loop-i l = is_in l.x (take l.i (keys l.self)) ≡ false
