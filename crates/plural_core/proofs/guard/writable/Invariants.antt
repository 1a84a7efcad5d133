use Rattle.std.proofs.Common.{◌≡◌, take, false}
use Rattle.plural_regions.specs.Rights.{may_write}
use Rattle.plural_core.proofs.guard.writable.Given as goal

-- No region before this one has the word.
abbrev pub invariant-loop-i : goal.invariant-loop-i
invariant-loop-i l = may_write (take l.i l.regions) l.k l.a ≡ false
