use Rattle.std.proofs.Common.{◌++◌, ◌∙◌, ◌<◌, length, take, sym, arith}
use Rattle.std.proofs.lemmas.Bool.{eqb-false}
use Rattle.plural_bytes.proofs.KnownBytes.{appends_more, prefix_more, cut_more, nothing_left}
use Rattle.plural_bytes.proofs.writing.write_all.Goals as goal

-- One more prefix of the text is written.
pub loop-rest-preserved : goal.loop-rest-preserved
loop-rest-preserved g c =
    let i = c.loop-rest.invariant in
    let K = g.K.Sink in
    let rest = c.loop-rest.rest.now in
    let bytes = c.in-Ok.ensures.bytes in
    let nonzero = eqb-false _ _ (sym c.is_empty.ensures ∙ c.loop-rest-test.true) in
    let some : 0 < length rest = omega (arith, nonzero) in
    record {
      part = (i.part.0 ++ take c.in-Ok.n rest, cut_more c.args.text.now i.part.0 rest c.in-Ok.n i.part.1, appends_more (K.holds c.args.sink.now) (K.holds c.loop-rest.sink) (K.holds c.write.new.self) i.part.0 (take c.in-Ok.n rest) i.part.2 bytes);
      unfailed = c.in-Ok.ensures.cause.unfailed ∙ i.unfailed;
      nothing = λ e. absurd (nothing_left c.args.text.now i.part.0 rest i.part.1 some e);
    }

-- A write that failed leaves a prefix of the text written.
pub returns-in-Err-clause-err : goal.returns-in-Err-clause-err
returns-in-Err-clause-err g c =
    let i = c.loop-rest.invariant in
    let K = g.K.Sink in
    prefix_more (K.holds c.args.sink.now) (K.holds c.loop-rest.sink) (K.holds c.write.new.self) c.args.text.now i.part.0 c.loop-rest.rest.now i.part.1 i.part.2 c.in-Err.ensures.bytes
