-- Runs of one bundle, on different numbers of cores and in different orders.
use Rattle.std.specs.Prelude.{ℕ, ◌≡◌, ◌≢◌, ◌≤◌, List, map, IsPermutation}
use Rattle.plural_serial.specs.declared.record_.Record.{Record}
use Rattle.plural_trace.specs.Logs.{LogValue}
use Rattle.plural_bundle.specs.Value.{BundleValue}
use Rattle.plural_output.specs.Value.{OutputValue}
use Rattle.plural_cli.specs.declared.command.Order.{Order}
use Rattle.plural_cli.specs.declared.command.Request.TheVariants as request
use Rattle.plural_cli.specs.Output.{IsAnswer}
use Rattle.plural_promise.specs.Outputs.{bundle_in, IsReadAs}

-- The records of a log: which instances ran, and of each its end and its counts.
abbrev pub records_in : LogValue → List Record
records_in log = map (λ e. e.rec) log.entries

-- The two outputs have the same last memory, the same outcome of each task, and the same records in any order. Cores
-- and tickets may differ.
pub record Agree (o p : OutputValue) : Type 0 where
  pub image : o.image ≡ p.image
  pub outcomes : o.log.outcomes ≡ p.log.outcomes
  pub records : IsPermutation (records_in o.log) (records_in p.log)

-- The lines of both texts are outputs of runs of the bundle, and the outputs that they spell agree.
pub record AreReadAlike (b : BundleValue) (text words : List ℕ) (end : ℕ) : Type 0 where
  pub first : OutputValue
  pub second : OutputValue
  pub read_first : IsReadAs b text end first
  pub read_second : IsReadAs b words end second
  pub agree : Agree first second

-- The two answers to one input are alike: the statuses are the same. If they are above 1 the texts are the same too;
-- if they are 0 or 1 the texts are read as outputs that agree.
pub record AreAlike (bytes : List ℕ) (status : ℕ) (text : List ℕ) (other : ℕ) (words : List ℕ) (end : ℕ)
    : Type 0 where
  pub statuses : status ≡ other
  pub texts : 2 ≤ status → text ≡ words
  pub runs : status ≤ 1 → AreReadAlike (bundle_in bytes) text words end

-- This is an answer of `run` to the input, on some number of cores and in some order.
pub record IsOfRun (bytes : List ℕ) (status : ℕ) (text : List ℕ) : Type 0 where
  pub cores : ℕ
  pub order : Order
  pub answer : IsAnswer (request.Run cores order) bytes status text

-- All answers of `run` to an input are alike, whatever the numbers of cores and the orders.
abbrev pub RunsAgree : Type 0
RunsAgree = (bytes : List ℕ) (status : ℕ) (text : List ℕ) (other : ℕ) (words : List ℕ) (end : ℕ)
    → IsOfRun bytes status text → IsOfRun bytes other words → AreAlike bytes status text other words end

-- Each is like that of `serial`, unless it tells a clash.
abbrev pub SerialAgrees : Type 0
SerialAgrees = (bytes : List ℕ) (status : ℕ) (text : List ℕ) (other : ℕ) (words : List ℕ) (end : ℕ)
    → IsOfRun bytes status text → status ≢ 4 → IsAnswer request.Serial bytes other words
    → AreAlike bytes status text other words end
