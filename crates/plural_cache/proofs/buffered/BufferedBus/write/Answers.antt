use Rattle.std.proofs.Common.{◌<◌, ◌+◌, ◌∙◌, List, ℕ, length, ap, subst, sym, refl}
use Rattle.plural_base.specs.Told.{Told, Counted, IsNext, with_store}
use Rattle.plural_cache.specs.Buffer.{IsBufferOver, told_through}
use Rattle.plural_cache.proofs.Buffers.{over_next, told_next, late_next, count_next}
use Rattle.plural_cache.proofs.buffered.BufferedBus.write.Goals as goal

-- The answer meets the contract.
pub returns : goal.returns
returns g c =
    let B = g.B.Bus in
    let s : ℕ × ℕ = (c.args.a, c.args.v) in
    let pairs = c.make_room.new.self in
    let bus = c.make_room.new.bus in
    let told = B.told bus in
    let room = c.make_room.ensures in
    let was = told_through c.args.self.now.buffer.now (B.told c.args.self.now.bus.now) in
    let within : c.args.a < length (told_through pairs told).words = subst (λ (t : Told). c.args.a < length t.words) (sym room.told) c.requires.within in
    let next : IsNext (told_through pairs told).expects s = subst (λ (t : Told). IsNext t.expects s) (sym room.told) c.requires.expected in
    record {
      step = record {
        stored = ap (λ (ps : List (ℕ × ℕ)). told_through ps told) c.push.ensures ∙ told_next pairs told s ∙ ap (λ (t : Told). with_store c.args.a c.args.v t) room.told;
        read = ap (λ (n : Counted). n.reads) room.counts;
        written = ap (λ (ps : List (ℕ × ℕ)). (B.counts bus).writes + length ps) c.push.ensures ∙ count_next pairs s (B.counts bus).writes ∙ ap (λ (n : Counted). n.writes + 1) room.counts;
        kept = (refl, refl, room.keeps);
        sound = (
          room.sound,
          subst (λ (ps : List (ℕ × ℕ)). IsBufferOver ps told) (sym c.push.ensures) (over_next pairs told s room.over within next),
          late_next pairs c.push.new.self s (B.counts bus).writes c.push.ensures room.late,
        );
      };
    }
