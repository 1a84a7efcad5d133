-- The answer to an input.
use Rattle.std.specs.Prelude.{⊤, ℕ, ◌≡◌, ◌≤◌, List}
use Rattle.plural_cli.specs.declared.command.Request.{Request}
use Rattle.plural_cli.specs.declared.command.Request.TheVariants as request
use Rattle.plural_cli.specs.Output.{IsAnswer}

-- An answer with this status has one text. This is so of each request but `run`, whose text with status 0 or 1 tells
-- which core ran what, and when.
abbrev pub HasOneText : Request → (status : ℕ) → Type 0
HasOneText (request.Run cores order) status = 2 ≤ status
HasOneText request.Serial status = ⊤
HasOneText request.Check status = ⊤
HasOneText request.Asm status = ⊤
HasOneText request.Dis status = ⊤
HasOneText request.Verify status = ⊤

-- The bytes of an input determine the status of the answer of a request, and the text if it has one text.
abbrev pub AnswerIsOne : Type 0
AnswerIsOne = (request : Request) (bytes : List ℕ) (status : ℕ) (text : List ℕ) (other : ℕ) (words : List ℕ)
    → IsAnswer request bytes status text → IsAnswer request bytes other words
    → (status ≡ other) × (HasOneText request status → text ≡ words)
