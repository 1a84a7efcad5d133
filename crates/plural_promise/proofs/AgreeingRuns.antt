-- Runs of one bundle on different numbers of cores and in different orders agree.
use Rattle.std.proofs.Common.{ℕ, List, sym, ◌∙◌, arith}
use Rattle.plural_trace.specs.Logs.{LogValue}
use Rattle.plural_trace.specs.SerialLog.{serial_log}
use Rattle.plural_promise.specs.Outputs.{bundle_in}
use Rattle.plural_promise.specs.Agreement.{Agree, AreReadAlike, AreAlike, RunsAgree, SerialAgrees}
use Rattle.plural_promise.proofs.OneRun.{outcomes_same}
use Rattle.plural_promise.proofs.SameRecords.{same_records}
use Rattle.plural_promise.proofs.RunOutputs.{bundle_fits, IsWritten, read_as, serial_written, run_written}
use Rattle.plural_promise.proofs.RunStatuses.{SameStatus, runs_status, serial_status}

-- The outputs of two runs of a bundle agree, since both are legal.
agree : (bytes text words : List ℕ) (log other : LogValue) (last final : List ℕ) → IsWritten bytes text log last → IsWritten bytes words other final
    → Agree (record { log = log; image = last }) (record { log = other; image = final })
agree bytes text words log other last final v w =
    let b = bundle_in bytes in
    let f = bundle_fits bytes v.bundle in
    record {
      image = v.legal.words ∙ sym w.legal.words;
      outcomes = outcomes_same log.outcomes other.outcomes (v.legal.outcomes ∙ sym w.legal.outcomes);
      records = same_records b.program b.image f.map log other last final v.legal w.legal;
    }

read_alike : (bytes text words : List ℕ) (log other : LogValue) (last final : List ℕ) (end : ℕ) → IsWritten bytes text log last → IsWritten bytes words other final → AreReadAlike (bundle_in bytes) text words end
read_alike bytes text words log other last final end v w = record {
  first = record { log = log; image = last };
  second = record { log = other; image = final };
  read_first = read_as bytes text log last end v;
  read_second = read_as bytes words other final end w;
  agree = agree bytes text words log other last final v w;
}

-- All answers of `run` to an input are alike.
pub runs_agree : RunsAgree
runs_agree bytes status text other words end f g =
    let same : SameStatus status text other words = runs_status bytes f.cores f.order status text g.cores g.order other words f.answer g.answer in
    let alike : AreAlike bytes status text other words end = record {
      statuses = same.0;
      texts = same.1;
      runs = λ l.
          let v = run_written f.cores f.order bytes status text f.answer l in
          let w = run_written g.cores g.order bytes other words g.answer (omega (arith, l, same.0)) in
          read_alike bytes text words v.log w.log v.last w.last end v.written w.written;
    } in
    alike

-- Each is like that of `serial`.
pub serial_agrees : SerialAgrees
serial_agrees bytes status text other words end f no_clash g =
    let same : SameStatus status text other words = serial_status bytes f.cores f.order status text other words f.answer no_clash g in
    let alike : AreAlike bytes status text other words end = record {
      statuses = same.0;
      texts = same.1;
      runs = λ l.
          let v = run_written f.cores f.order bytes status text f.answer l in
          let w = serial_written bytes other words g (omega (arith, l, same.0)) in
          read_alike bytes text words v.log (serial_log w.run) v.last w.run.image end v.written w.written;
    } in
    alike
