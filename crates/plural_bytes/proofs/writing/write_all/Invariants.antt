use Rattle.std.proofs.Common.{ℕ, ◌≡◌, List, ◌++◌, length}
use Rattle.std.specs.Io.KnownBytes.{Appends}
use Rattle.plural_bytes.proofs.writing.write_all.Given as goal

-- A prefix of the text is written, and the rest of it is left.
abbrev pub invariant-loop-rest : goal.invariant-loop-rest
invariant-loop-rest g l =
    let K = g.K.Sink in
    record {
      part : (prefix : List ℕ) × (l.text ≡ prefix ++ l.rest) × Appends (K.holds l.fn.sink) (K.holds l.sink) prefix;
      unfailed : K.faults l.sink ≡ K.faults l.fn.sink;
      nothing : length l.text ≡ 0 → l.sink ≡ l.fn.sink;
    }

abbrev pub decreases-loop-rest : goal.decreases-loop-rest
decreases-loop-rest g l = length l.rest
