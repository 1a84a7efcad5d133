-- What a call of `plural` leaves if nothing outside failed and memory sufficed.
use Rattle.std.specs.Prelude.{ℕ, ◌≡◌, ◌≢◌, ◌≤◌, List, Option, None, String}
use Rattle.std.specs.Option.{IsSomeAnd}
use Rattle.std.specs.declared.alloc.Global.{Global}
use Rattle.std.specs.Io.KnownBytes.{Appends}
use Rattle.plural_bytes.specs.Causes.{Rose}
use Rattle.plural_finished.specs.Finishing.{FinishedValue}
use Rattle.plural_made.specs.Laws.{made_bundle}
use Rattle.plural_cli.specs.declared.command.Request.{Request}
use Rattle.plural_cli.specs.Kept.{IsMachineOf, IsKept}
use Rattle.plural_cli.specs.Made.{made_bytes, made_run_line, made_run_status}
use Rattle.plural_cli.specs.Texts.{usage_text}
use Rattle.plural_cli.specs.Output.{AnswersHeld, Asks, AsksToMake, AsksToRunMade, AsksNothing, Writes, AnswersRequest, MakesBundle, RunsMade}

-- A call of `plural` with words: what the source held before it, the status that it ended with, what the sink held
-- before and after it, the finished machine that it kept, and the counts of faults of the source and the sink before
-- and after it.
pub record Call : Type 0 where
  pub words : List (String Global)
  pub left : Option (List ℕ)
  pub result : ℕ
  pub before : Option (List ℕ)
  pub after : Option (List ℕ)
  pub kept : Option FinishedValue
  pub source_before : ℕ
  pub source_after : ℕ
  pub sink_before : ℕ
  pub sink_after : ℕ

-- The clauses of the contract of `plural` hold of the call: what it writes and keeps for each kind of words, and the
-- causes of the statuses 5 and 6.
pub record Keeps (c : Call) : Type 0 where
  pub answer : AnswersRequest c.words c.left c.result c.before c.after c.kept
  pub made : MakesBundle c.words c.result c.before c.after
  pub made_unkept : (seed : ℕ) → AsksToMake c.words seed → c.kept ≡ None
  pub ran : RunsMade c.words c.result c.before c.after c.kept
  pub usage : AsksNothing c.words → Writes 2 usage_text c.result c.before c.after
  pub read : c.result ≡ 5 → Rose c.source_before c.source_after
  pub write : c.result ≡ 6 → Rose c.sink_before c.sink_after
  pub unkept : 2 ≤ c.result → c.kept ≡ None

-- Neither count of faults rose, and the status isn't the one that tells that memory ran out.
pub record IsUndisturbed (c : Call) : Type 0 where
  pub source : Rose c.source_before c.source_after → ⊥
  pub sink : Rose c.sink_before c.sink_after → ⊥
  pub memory : c.result ≢ 7

-- The sink got a whole text, the answer of the request to what the source held, and the status is that of this answer.
-- Of a run the machine is kept whose log and image the text spells.
pub record WroteAnswer (request : Request) (c : Call) : Type 0 where
  pub text : List ℕ
  pub answer : AnswersHeld request c.left c.result text
  pub whole : Appends c.before c.after text
  pub machine : IsKept request answer.bytes c.result text c.kept

-- The sink got this whole text, the status is this one, and no machine is kept.
pub record WroteAlone (status : ℕ) (text : List ℕ) (c : Call) : Type 0 where
  pub status_is : c.result ≡ status
  pub whole : Appends c.before c.after text
  pub unkept : c.kept ≡ None

-- The sink got the whole line of the run of a seed's bundle, the status is that of this run, and a machine of so many
-- cores is kept that was opened with the bundle.
pub record WroteMadeRun (seed cores : ℕ) (c : Call) : Type 0 where
  pub status_is : c.result ≡ made_run_status seed
  pub whole : Appends c.before c.after (made_run_line seed)
  pub machine : IsSomeAnd c.kept (IsMachineOf cores (made_bundle seed))

-- The status and the text are an answer to the words and the input, and the text is whole.
pub record IsWhole (c : Call) : Type 0 where
  pub asked : (request : Request) → Asks c.words request → WroteAnswer request c
  pub made : (seed : ℕ) → AsksToMake c.words seed → WroteAlone 0 (made_bytes seed) c
  pub ran : (seed cores : ℕ) → AsksToRunMade c.words seed cores → WroteMadeRun seed cores c
  pub usage : AsksNothing c.words → WroteAlone 2 usage_text c

-- A call of `plural` during which neither count of faults rose has the status and the whole text of an answer to its
-- words and its input, or ended with status 7.
abbrev pub CallsAreWhole : Type 0
CallsAreWhole = (c : Call) → Keeps c → IsUndisturbed c → IsWhole c
