use Rattle.plural_serial.proofs.Few.{few_records}
use Rattle.plural_serial.proofs.laws.few_records.Goals as goal

-- The answer meets the contract.
pub returns : goal.returns
returns c = few_records
