-- The output of a run after its bundle, as `verify` judges it.
use Rattle.std.specs.Prelude.{ℕ, ◌≡◌, ◌≤◌, List, [], ◌∷◌, ◌++◌, length}
use Rattle.plural_serial.specs.Serial.{serial_of}
use Rattle.plural_bundle.specs.Value.{BundleValue}
use Rattle.plural_crew.specs.Clashes.{IsAccepted}
use Rattle.plural_cli.specs.declared.command.Request.{Request}
use Rattle.plural_cli.specs.declared.command.Request.TheVariants as request
use Rattle.plural_cli.specs.Output.{IsAnswer}
use Rattle.plural_cli.specs.Verify.{legal_text}
use Rattle.plural_promise.specs.Outputs.{bundle_in}
use Rattle.plural_promise.specs.Agreement.{IsOfRun}

-- The request answers these bytes with this status and text, and with no other.
pub record IsTheAnswer (request : Request) (bytes : List ℕ) (status : ℕ) (text : List ℕ) : Type 0 where
  pub is : IsAnswer request bytes status text
  pub only : (other : ℕ) (words : List ℕ) → IsAnswer request bytes other words → (other ≡ status) × (words ≡ text)

-- How many instances the serial run of a bundle runs.
abbrev pub runs_of : BundleValue → ℕ
runs_of b = length (serial_of b.program b.image).ran

-- The text ends with a line end.
abbrev pub EndsWithLine : List ℕ → Type 0
EndsWithLine text = (front : List ℕ) × (text ≡ front ++ 10 ∷ [])

-- `verify` answers a bundle and this text after it with status 0 and the line for a legal log of so many entries:
-- after a bundle that ends with a line end, and after any bundle and a line end. The input is never too long.
pub record IsLegalAfter (bytes text : List ℕ) (entries : ℕ) : Type 0 where
  pub together : EndsWithLine bytes → IsTheAnswer request.Verify (bytes ++ text) 0 (legal_text entries)
  pub apart : IsTheAnswer request.Verify ((bytes ++ 10 ∷ []) ++ text) 0 (legal_text entries)

-- `verify` answers a bundle and what `run` wrote of it, on any number of cores and in any order, with status 0 or 1,
-- as a legal log.
abbrev pub RunIsLegal : Type 0
RunIsLegal = (bytes : List ℕ) (status : ℕ) (text : List ℕ) → IsOfRun bytes status text → status ≤ 1
    → IsLegalAfter bytes text (runs_of (bundle_in bytes))

-- The same of what `serial` wrote of a bundle whose map has no clash.
abbrev pub SerialIsLegal : Type 0
SerialIsLegal = (bytes : List ℕ) (status : ℕ) (text : List ℕ) → IsAnswer request.Serial bytes status text
    → status ≤ 1 → IsAccepted (bundle_in bytes).program.map.tasks
    → IsLegalAfter bytes text (runs_of (bundle_in bytes))
