-- What a run leaves beside its text: the finished machine that it comes from.
use Rattle.std.specs.Prelude.{ℕ, ◌≡◌, ◌≤◌, List, Option, None}
use Rattle.std.specs.Option.{IsSomeAnd}
use Rattle.plural_bytes.specs.Lines.{content_lines}
use Rattle.plural_trace.specs.Verdicts.{expected_of, IsLegal}
use Rattle.plural_finished.specs.Finishing.{FinishedValue, IsFinished, log_of}
use Rattle.plural_output.specs.Text.{output_text}
use Rattle.plural_bundle.specs.Value.{BundleValue, bundle_of}
use Rattle.plural_cli.specs.declared.command.Request.{Request}
use Rattle.plural_cli.specs.declared.command.Request.TheVariants as request

-- A finished machine of so many cores, opened with the program and the image of this bundle. All that it has is what
-- the closed words of its whole run say; so its log is legal with its image for this bundle.
pub record IsMachineOf (cores : ℕ) (b : BundleValue) (f : FinishedValue) : Type 0 where
  pub finished : IsFinished f
  pub cores_are : f.cores ≡ cores
  pub program : f.closed.opening.program ≡ b.program
  pub opened : f.closed.opening.image ≡ b.image
  pub legal : IsLegal (expected_of b.program b.image) (log_of f) f.image

-- Such a machine, whose log and image the text spells.
pub record IsToldBy (cores : ℕ) (b : BundleValue) (text : List ℕ) (f : FinishedValue) : Type 0 where
  pub machine : IsMachineOf cores b f
  pub text_is : text ≡ output_text b.program.map (log_of f) f.image

-- If the status is 0 or 1, the machine that the text comes from is kept, else none is.
pub record IsKeptOf (cores : ℕ) (b : BundleValue) (status : ℕ) (text : List ℕ) (kept : Option FinishedValue)
    : Type 0 where
  pub there : status ≤ 1 → IsSomeAnd kept (IsToldBy cores b text)
  pub absent : 2 ≤ status → kept ≡ None

-- What is kept beside an answer of this status: of `run` the machine, and of another request nothing.
abbrev pub IsKept : Request → (bytes : List ℕ) (status : ℕ) (text : List ℕ) → Option FinishedValue → Type 0
IsKept (request.Run cores order) bytes status text kept =
    IsKeptOf cores (bundle_of (content_lines bytes)) status text kept
IsKept request.Serial bytes status text kept = kept ≡ None
IsKept request.Check bytes status text kept = kept ≡ None
IsKept request.Asm bytes status text kept = kept ≡ None
IsKept request.Dis bytes status text kept = kept ≡ None
IsKept request.Verify bytes status text kept = kept ≡ None
