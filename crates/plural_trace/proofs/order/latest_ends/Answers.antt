use Rattle.std.proofs.Common.{◌≡◌, ◌∙◌, ◌+◌, ap, max, get_or, set, arith}
use Rattle.std.proofs.lemmas.List.{length-set, get_or_read}
use Rattle.plural_trace.specs.Rules.{no_entry, entry_at}
use Rattle.plural_trace.proofs.LatestEnds.{ends_next}
use Rattle.plural_trace.proofs.order.latest_ends.Goals as goal

-- A turn of `loop-i` keeps its invariant.
pub loop-i-preserved : goal.loop-i-preserved
loop-i-preserved c =
    let es = c.args.entries.now in
    let l = c.loop-i in
    let e = entry_at es l.i in
    let own = c.requires.tasks l.i no_entry c.loop-i-test.true in
    let read : c.index.result.now ≡ get_or l.ends.items e.rec.t 0 = get_or_read l.ends.items _ _ (let long = l.invariant.long in omega arith) c.index.ensures 0 in
    let is : c.max.result ≡ max (get_or l.ends.items e.rec.t 0) (e.end_at + 1) = c.max.ensures ∙ ap (λ x. max x (e.end_at + 1)) read in
    record {
      long = simp length-set l.invariant.long;
      ends = λ t below. ap (λ m. get_or (set l.ends.items e.rec.t m) t 0) is ∙ ends_next es l.ends.items l.i t c.args.tasks l.invariant.long c.loop-i-test.true own below l.invariant.ends;
    }
