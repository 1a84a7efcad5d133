use Rattle.std.proofs.Common.{◌≡◌, length, None}
use Rattle.plural_tests.proofs.cache.write_words.Given as goal

-- The first words are written.
abbrev pub invariant-loop-i : goal.invariant-loop-i
invariant-loop-i g l =
    let B = g.B.Bus in
    record {
      sound : B.is_sound l.bus;
      words : length (B.told l.bus).words ≡ length (B.told l.fn.bus).words;
      untold : (B.told l.bus).expects ≡ None;
      writes : (B.counts l.bus).writes ≡ l.i;
      kept : B.keeps l.fn.bus l.bus;
    }
