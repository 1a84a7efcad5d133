-- All legal logs of one program have the same records, in any order.
use Rattle.std.proofs.Common.{◌≡◌, ℕ, List, length, sym, ◌∙◌}
use Rattle.std.specs.Prelude.{IsPermutation}
use Rattle.std.proofs.lemmas.List.{length-map}
use Rattle.std.proofs.lemmas.List.Sorted.{IsPermutation-sym, IsPermutation-trans, length_permutation}
use Rattle.plural_map.specs.Limits.{IsMap}
use Rattle.plural_serial.specs.Program.{ProgramValue}
use Rattle.plural_trace.specs.Logs.{LogValue}
use Rattle.plural_trace.specs.Verdicts.{records_of, expected_of, IsLegal}
use Rattle.plural_trace.proofs.RecordOrder.{records_in_order}
use Rattle.plural_cli.proofs.RecordSums.{rec_of, legal_records}
use Rattle.plural_promise.specs.Agreement.{records_in}

module _ (p : ProgramValue) (m : List ℕ) (limits : IsMap p.map) where
  -- A legal log has the records of the serial run.
  pub has_records : (log : LogValue) (last : List ℕ) → IsLegal (expected_of p m) log last → IsPermutation (records_of p m) (records_in log)
  has_records log last h = legal_records p.map.tasks (records_of p m) log.entries (records_in_order p m limits) h.records

  -- So two have the same.
  pub same_records : (log other : LogValue) (last final : List ℕ) → IsLegal (expected_of p m) log last → IsLegal (expected_of p m) other final → IsPermutation (records_in log) (records_in other)
  same_records log other last final h g =
      IsPermutation-trans (records_in log) (records_of p m) (records_in other) (IsPermutation-sym (records_of p m) (records_in log) (has_records log last h)) (has_records other final g)

  -- It has an entry for each record.
  pub entry_count : (log : LogValue) (last : List ℕ) → IsLegal (expected_of p m) log last → length log.entries ≡ length (records_of p m)
  entry_count log last h = sym (length-map log.entries rec_of) ∙ length_permutation (records_of p m) (records_in log) (has_records log last h)
