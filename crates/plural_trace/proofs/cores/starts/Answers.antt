use Rattle.std.proofs.Common.{◌<◌, arith, length}
use Rattle.std.proofs.lemmas.List.{length-set}
use Rattle.plural_trace.proofs.CoreSweep.{start_below, starts_there, starts_each}
use Rattle.plural_trace.proofs.cores.starts.Goals as goal

-- The call of `index_mut` has what it requires.
pub index_mut-requires : goal.index_mut-requires
index_mut-requires c =
    let es = c.args.entries.now in
    let l = c.loop-i in
    let within : l.i < length es = let m = c.requires.m in let t = c.loop-i-test.true in omega arith in
    let low = start_below es l.i c.requires.tickets within in
    let long = l.invariant.long in
    omega arith

-- A turn of `loop-i` keeps its invariant.
pub loop-i-preserved : goal.loop-i-preserved
loop-i-preserved c =
    let es = c.args.entries.now in
    let l = c.loop-i in
    let within : l.i < length es = let m = c.requires.m in let t = c.loop-i-test.true in omega arith in
    record {
      long = simp length-set l.invariant.long;
      there = starts_there es c.args.m l.i l.starts.items c.requires.tickets l.invariant.long within l.invariant.there;
      each = starts_each es l.i l.starts.items c.requires.tickets l.invariant.long within l.invariant.each;
    }
