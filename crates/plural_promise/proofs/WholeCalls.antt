-- Calls of `plural` that nothing disturbed.
use Rattle.std.proofs.Common.{◌≡◌, ℕ, ◌≤◌, List, sym, subst, arith}
use Rattle.std.specs.Prelude.{◌≢◌, None}
use Rattle.plural_serial.specs.Serial.{serial_of}
use Rattle.plural_made.specs.Laws.{made_bundle}
use Rattle.plural_cli.specs.Made.{made_run_status}
use Rattle.plural_cli.specs.Output.{Writes, WritesMadeRun, IsAnswer}
use Rattle.plural_promise.specs.Calls.{Call, WroteAlone, WroteMadeRun, CallsAreWhole}
use Rattle.plural_promise.proofs.RunStatuses.{status_low}

-- A whole text of a status, beside which nothing is kept.
alone : (status : ℕ) (text : List ℕ) (c : Call) → Writes status text c.result c.before c.after → c.result ≢ 6 → c.kept ≡ None → WroteAlone status text c
alone status text c w not_6 none = let h = w.whole not_6 in record { status_is = h.0; whole = h.1; unkept = none }

made_status_low : (seed : ℕ) → made_run_status seed ≤ 1
unfolding made_run_status
made_status_low seed = let b = made_bundle seed in status_low (serial_of b.program b.image).outcomes

-- The whole line of a run of a seed's bundle.
made_run : (seed cores : ℕ) (c : Call) → WritesMadeRun seed cores c.result c.before c.after c.kept → c.result ≢ 6 → WroteMadeRun seed cores c
made_run seed cores c w not_6 =
    let h = w.writes.whole not_6 in
    record { status_is = h.0; whole = h.1; machine = w.machine (omega (arith, h.0, made_status_low seed)) }

-- The status and the whole text of an undisturbed call.
pub calls_are_whole : CallsAreWhole
calls_are_whole c k u =
    let not_5 : c.result ≢ 5 = λ e. u.source (k.read e) in
    let not_6 : c.result ≢ 6 = λ e. u.sink (k.write e) in
    record {
      asked = λ request asks.
          let a = k.answer request asks not_5 u.memory in
          let w = a.writes.whole not_6 in
          let held = a.answer in
          record {
            text = a.text;
            answer = record { bytes = held.bytes; held = held.held; answer = subst (λ s. IsAnswer request held.bytes s a.text) (sym w.0) held.answer };
            whole = w.1;
            machine = a.machine;
          };
      made = λ seed asks. alone 0 _ c (k.made seed asks u.memory) not_6 (k.made_unkept seed asks);
      ran = λ seed cores asks. made_run seed cores c (k.ran seed cores asks u.memory) not_6;
      usage = λ asks.
          let w = k.usage asks in
          alone 2 _ c w not_6 (k.unkept (let e = (w.whole not_6).0 in omega (arith, e)));
    }
