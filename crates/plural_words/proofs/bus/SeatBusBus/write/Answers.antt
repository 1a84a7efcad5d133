use Rattle.std.proofs.Common.{◌≡◌, ap, ◌∙◌, sym, subst, refl, length, length-set}
use Rattle.plural_rule.specs.Steps.{stored}
use Rattle.plural_words.specs.Seen.{SeatSeen, seat_with}
use Rattle.plural_words.specs.Stages.{IsBegun, memory_of}
use Rattle.plural_words.specs.Lent.{counts_in, told_in, fixed_of}
use Rattle.plural_words.proofs.Lent.{told_next, memory_next, one_store_is}
use Rattle.plural_words.proofs.bus.SeatBusBus.write.Goals as goal

-- A write is the next store of the instance.
pub returns : goal.returns
returns c =
    let o = c.args.self.now.words.now.opening in
    let s = c.args.self.now.seat.now in
    let next = c.requires.expected in
    let now : c.store_mem.new.seat ≡ seat_with s (stored s.view) = c.store_mem.ensures.seat in
    let one = one_store_is s.view.stage c.requires.sound.begun in
    record {
      step = record {
        stored = ap (λ (n : SeatSeen). told_in o n.view.stage) now ∙ told_next o s.view.stage c.args.a c.args.v next.0 next.1;
        read = ap (λ (n : SeatSeen). (counts_in n.view.stage).reads) now ∙ one.read;
        written = ap (λ (n : SeatSeen). (counts_in n.view.stage).writes) now ∙ one.written;
        kept = (
          refl,
          refl,
          ap fixed_of now ∙ ap (λ x. seat_with s (let v = s.view in record v { stage = x })) one.start,
        );
        sound = record {
          of = c.store_mem.ensures.of;
          begun = subst (λ (n : SeatSeen). IsBegun n.view.stage) (sym now) one.begun;
          long = ap (λ (n : SeatSeen). length (memory_of o n.view.stage)) now
              ∙ (ap length (memory_next o s.view.stage c.args.a c.args.v next.0 next.1)
              ∙ (length-set (memory_of o s.view.stage) c.args.a c.args.v ∙ c.requires.sound.long));
        };
      };
    }
