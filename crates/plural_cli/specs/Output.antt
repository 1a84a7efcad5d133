-- What `plural` answers: the status and the text of each command, and what is written of the text.
use Rattle.std.specs.Prelude.{ℕ, ◌≡◌, ◌≢◌, ◌<◌, ◌≤◌, ◌⊎◌, List, Option, Some, None, String, string_bytes, length, map, IfSome}
use Rattle.std.specs.declared.alloc.Global.{Global}
use Rattle.std.specs.Option.{IsSomeAnd}
use Rattle.std.specs.Io.KnownBytes.{Appends, IsAtEnd}
use Rattle.plural_bytes.specs.Streams.{AppendsPrefix}
use Rattle.plural_finished.specs.Finishing.{FinishedValue}
use Rattle.plural_made.specs.Laws.{made_bundle}
use Rattle.plural_cli.specs.declared.command.Request.{Request}
use Rattle.plural_cli.specs.declared.command.Request.TheVariants as request
use Rattle.plural_cli.specs.declared.command.Command.TheVariants as command
use Rattle.plural_cli.specs.Command.{command_of}
use Rattle.plural_cli.specs.Made.{made_bytes, made_run_line, made_run_status}
use Rattle.plural_cli.specs.Run.{IsSerialAnswer, IsRunAnswer}
use Rattle.plural_cli.specs.Kept.{IsMachineOf, IsKept}
use Rattle.plural_cli.specs.Check.{IsCheckAnswer}
use Rattle.plural_cli.specs.Asm.{IsAsmAnswer}
use Rattle.plural_cli.specs.Dis.{IsDisAnswer}
use Rattle.plural_cli.specs.Verify.{IsVerifyAnswer}
use Rattle.plural_cli.specs.Texts.{too_long_text, verify_too_long_text}

-- The most bytes that an input may have; that of `verify` is a bundle and an output.
abbrev pub limit_of : Request → ℕ
limit_of request.Verify = 67108864
limit_of (request.Run cores order) = 16777216
limit_of request.Serial = 16777216
limit_of request.Check = 16777216
limit_of request.Asm = 16777216
limit_of request.Dis = 16777216

-- The line for an input that is too long.
abbrev pub too_long_of : Request → List ℕ
too_long_of request.Verify = verify_too_long_text
too_long_of (request.Run cores order) = too_long_text
too_long_of request.Serial = too_long_text
too_long_of request.Check = too_long_text
too_long_of request.Asm = too_long_text
too_long_of request.Dis = too_long_text

-- What each request answers to an input that isn't too long.
abbrev pub Answers : Request → List ℕ → ℕ → List ℕ → Type 0
Answers (request.Run cores order) bytes status text = IsRunAnswer cores bytes status text
Answers request.Serial bytes status text = IsSerialAnswer bytes status text
Answers request.Check bytes status text = IsCheckAnswer bytes status text
Answers request.Asm bytes status text = IsAsmAnswer bytes status text
Answers request.Dis bytes status text = IsDisAnswer bytes status text
Answers request.Verify bytes status text = IsVerifyAnswer bytes status text

-- The status and the text of an input: too long an input is refused, every other is answered by the request.
pub record IsAnswer (request : Request) (bytes : List ℕ) (status : ℕ) (text : List ℕ) : Type 0 where
  pub too_long : limit_of request < length bytes → (status ≡ 3) × (text ≡ too_long_of request)
  pub answered : length bytes ≤ limit_of request → Answers request bytes status text

-- The answer of a request to what a source held: to some bytes, which are those that the source held if it told them.
pub record AnswersHeld (request : Request) (left : Option (List ℕ)) (status : ℕ) (text : List ℕ) : Type 0 where
  pub bytes : List ℕ
  pub held : IfSome left (λ all. all ≡ bytes)
  pub answer : IsAnswer request bytes status text

-- The answer of a request to what a source held, and what is kept beside it.
pub record AnswersWith (request : Request) (left : Option (List ℕ)) (status : ℕ) (text : List ℕ)
    (kept : Option FinishedValue) : Type 0 where
  pub answer : AnswersHeld request left status text
  pub machine : IsKept request answer.bytes status text kept

-- A status that tells of the input, and of nothing outside.
pub record IsTold (status : ℕ) : Type 0 where
  pub words : status ≢ 2
  pub reading : status ≢ 5
  pub writing : status ≢ 6
  pub memory : status ≢ 7

-- The words ask for a request, which reads an input.
abbrev pub Asks : List (String Global) → Request → Type 0
Asks words request = command_of (map string_bytes words) ≡ Some (command.Read request)

-- The words ask for the bundle of a seed.
abbrev pub AsksToMake : List (String Global) → ℕ → Type 0
AsksToMake words seed = command_of (map string_bytes words) ≡ Some (command.Make seed)

-- The words ask for the bundle of a seed, and a run of it on so many cores.
abbrev pub AsksToRunMade : List (String Global) → (seed cores : ℕ) → Type 0
AsksToRunMade words seed cores = command_of (map string_bytes words) ≡ Some (command.RunMade seed cores)

-- The words name no command.
abbrev pub AsksNothing : List (String Global) → Type 0
AsksNothing words = command_of (map string_bytes words) ≡ None

-- A text that belongs to a status is written to a sink: all of it, and the call ends with this status; or a prefix of
-- it, and the call ends with status 6.
pub record Writes (status : ℕ) (text : List ℕ) (result : ℕ) (before after : Option (List ℕ)) : Type 0 where
  pub whole : result ≢ 6 → (result ≡ status) × Appends before after text
  pub failed : result ≡ 6 → AppendsPrefix before after text

-- The answer of a request to what a source held is written. What is kept goes with the status that the call ends with,
-- and with the text of this answer.
pub record WritesAnswer (request : Request) (left : Option (List ℕ)) (result : ℕ) (before after : Option (List ℕ))
    (kept : Option FinishedValue) : Type 0 where
  pub status : ℕ
  pub text : List ℕ
  pub answer : AnswersHeld request left status text
  pub writes : Writes status text result before after
  pub machine : IsKept request answer.bytes result text kept

-- The answer of the request that the words ask for is written, unless the call ends with status 5 or 7.
abbrev pub AnswersRequest : List (String Global) → (left : Option (List ℕ)) (result : ℕ)
    (before after : Option (List ℕ)) → Option FinishedValue → Type 0
AnswersRequest words left result before after kept =
    (request : Request) → Asks words request → result ≢ 5 → result ≢ 7
    → WritesAnswer request left result before after kept

-- The bundle of the seed that the words ask for is written, with status 0, unless the call ends with status 7.
abbrev pub MakesBundle : List (String Global) → (result : ℕ) (before after : Option (List ℕ)) → Type 0
MakesBundle words result before after =
    (seed : ℕ) → AsksToMake words seed → result ≢ 7 → Writes 0 (made_bytes seed) result before after

-- The line of the run of a seed's bundle is written, with its status. If the call ends with this status, which is 0 or
-- 1, a machine of so many cores is kept that was opened with the bundle of the seed.
pub record WritesMadeRun (seed cores result : ℕ) (before after : Option (List ℕ)) (kept : Option FinishedValue)
    : Type 0 where
  pub writes : Writes (made_run_status seed) (made_run_line seed) result before after
  pub machine : result ≤ 1 → IsSomeAnd kept (IsMachineOf cores (made_bundle seed))

-- The line of the run that the words ask for is written, unless the call ends with status 7.
abbrev pub RunsMade : List (String Global) → (result : ℕ) (before after : Option (List ℕ)) → Option FinishedValue
    → Type 0
RunsMade words result before after kept =
    (seed cores : ℕ) → AsksToRunMade words seed cores → result ≢ 7 → WritesMadeRun seed cores result before after kept

-- A status of an answer to a whole input: each that a request has but 3, which tells a fault.
abbrev pub IsOfWhole : ℕ → Type 0
IsOfWhole status = (status ≡ 0) ⊎ (status ≡ 1) ⊎ (status ≡ 4) ⊎ (status ≡ 8)

-- An input of the request that isn't too long was read to its end.
abbrev pub ReadsToEnd : Request → (left rest : Option (List ℕ)) → Type 0
ReadsToEnd request left rest = IfSome left (λ bytes. length bytes ≤ limit_of request → IsAtEnd rest)

-- An input with a fault was read to its end, unless it is too long.
abbrev pub ReadsFaulty : List (String Global) → (result : ℕ) (left rest : Option (List ℕ)) → Type 0
ReadsFaulty words result left rest =
    (request : Request) → Asks words request → result ≡ 3 → ReadsToEnd request left rest
