use Rattle.plural_bytes.proofs.KnownBytes.{appends_kept, prefix_by_count}
use Rattle.plural_bytes.proofs.adapters.StdSinkSink.write.Goals as goal

-- A write whose flush failed has taken a prefix of the piece.
pub returns-then-is_err-clause-bytes : goal.returns-then-is_err-clause-bytes
returns-then-is_err-clause-bytes g c =
    let held = g.W.Write.contents in
    prefix_by_count (held c.args.self.now.inner) (held c.flush.new.self) c.args.from.now c.in-Ok.n
    (appends_kept (held c.args.self.now.inner) (held c.write.new.self) (held c.flush.new.self) _ c.in-Ok.ensures.bytes c.flush.ensures.bytes)
