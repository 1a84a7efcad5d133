use Rattle.std.proofs.Common.{◌∙◌, ap, subst, sym}
use Rattle.plural_cache.specs.declared.cache.Counts.{Counts}
use Rattle.plural_words.specs.Seen.{SeatSeen}
use Rattle.plural_stages.specs.Engines.{EngineSeen, IsDrained}
use Rattle.plural_stages.proofs.Endings.{has_run, noted_none, noted_more, record_noted}
use Rattle.plural_stages.proofs.engine.Engine.finish.Goals as goal

-- The instance has made all its stores and reads.
pub end-requires-clause-run : goal.end-requires-clause-run
end-requires-clause-run c = has_run c.args.words.now.opening c.args.t c.args.k c.args.end c.args.self.now c.args.seat.now c.requires.drained

-- Its record is noted as in the serial run.
pub finish-requires-clause-noted : goal.finish-requires-clause-noted
finish-requires-clause-noted c =
    let o = c.args.words.now.opening in
    let t = c.args.t in
    let k = c.args.k in
    let s = c.args.seat.now in
    let drained = subst (λ (e : EngineSeen). IsDrained o t k c.args.end e s) (sym c.self.view_is) c.requires.drained in
    let run = drained.running in
    let n0 = noted_none s c.end.new.seat t k c.self.inside.start run.made _ c.end.result run.stage c.end.ensures.seat in
    let n1 = noted_more s _ c.note.new.seat _ _ n0 c.note.ensures.seat in
    let n2 = noted_more s _ c.note-2.new.seat _ _ n1 c.note-2.ensures.seat in
    let n3 = noted_more s _ c.note-3.new.seat _ _ n2 c.note-3.ensures.seat in
    let n4 = noted_more s _ c.note-4.new.seat _ _ n3 c.note-4.ensures.seat in
    let n5 = noted_more s _ c.note-5.new.seat _ _ n4 c.note-5.ensures.seat in
    let n6 = noted_more s _ c.note-6.new.seat _ _ n5 c.note-6.ensures.seat in
    let n7 = noted_more s _ c.note-7.new.seat _ _ n6 c.note-7.ensures.seat in
    let counts = c.counts-counts.ensures.all in
    record_noted o t k c.args.end
    (record { cache = c.self.inside.cache; pairs = c.self.inside.buffer; core = c.self.inside.hart; start = c.self.inside.start })
    s c.note-7.new.seat c.word_of_end.result c.counted.result
    c.counts-counts.result.loads c.counts-counts.result.misses c.counts-counts.result.stores c.core.result
    drained c.word_of_end.ensures c.counted.ensures
    (ap (λ (x : Counts). x.loads) counts) (ap (λ (x : Counts). x.misses) counts) (ap (λ (x : Counts). x.stores) counts)
    (c.core.ensures ∙ ap (λ (x : SeatSeen). x.core) n6) n7
