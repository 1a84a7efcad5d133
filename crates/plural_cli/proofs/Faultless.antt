-- Lines that are a bundle have no first fault.
use Rattle.std.proofs.Common.{ℕ, List}
use Rattle.plural_bytes.specs.Lines.{TextLine}
use Rattle.plural_bundle.specs.Answer.{IsBundle}
use Rattle.plural_cli.specs.Lines.{IsFaulty}

-- No answer tells a fault of lines that are a bundle.
pub never_faulty : (input lines : List TextLine) (end status : ℕ) (text : List ℕ) → IsBundle input lines end → IsFaulty input lines end status text → ⊥
never_faulty input lines end status text good bad =
    good.none bad.line bad.kind (record { before = bad.first.before; text = bad.first.text; after = bad.first.after; whole = bad.first.whole; breaks = bad.first.breaks })
