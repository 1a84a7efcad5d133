use Rattle.std.proofs.Common.{ℕ, ◌≡◌, ◌<◌, ◌+◌, ◌*◌, true, length, get_or}
use Rattle.plural_cache.specs.Bus.{Reads}
use Rattle.plural_cache.proofs.filling.fill.Given as goal

abbrev pub invariant-loop-w : goal.invariant-loop-w
invariant-loop-w g l =
    let B = g.B.Bus in
    record {
      eight : length l.words ≡ 8;
      value : (w : ℕ) → w < l.w → (B.told l.fn.bus).lawful (8 * l.line + w) ≡ true → get_or l.words w 0 ≡ get_or (B.told l.fn.bus).words (8 * l.line + w) 0;
      step : Reads B.told B.counts B.keeps B.is_sound l.w l.fn.bus l.bus;
    }
