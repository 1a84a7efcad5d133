use Rattle.std.proofs.Common.{◌≡◌, ◌≤◌, ◌+◌, ◌-◌, vec_len}
use Rattle.std.specs.Io.KnownBytes.{Consumes}
use Rattle.plural_bytes.proofs.reading.read_all.Given as goal

-- what was taken is kept, and is not too long
abbrev pub invariant-loop-bytes : goal.invariant-loop-bytes
invariant-loop-bytes g l =
    let S = g.S.Source in
    record {
      short : vec_len l.bytes ≤ l.limit;
      taken : Consumes (S.left l.fn.source) (S.left l.source) l.bytes.items;
      unfailed : S.faults l.source ≡ S.faults l.fn.source;
    }

abbrev pub decreases-loop-bytes : goal.decreases-loop-bytes
decreases-loop-bytes g l = l.limit + 1 - vec_len l.bytes
