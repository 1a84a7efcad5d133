-- What `run` and `serial` write is read again.
use Rattle.std.proofs.Common.{◌≡◌, ℕ, ◌≤◌, Bool, true, false, ltb, List, length, refl, sym, subst, ap, ◌∙◌, arith, inl, inr}
use Rattle.std.proofs.lemmas.Bool.{ltb-true, ltb-false}
use Rattle.plural_bytes.specs.Lines.{content_lines}
use Rattle.plural_map.specs.Limits.{IsMap}
use Rattle.plural_map.proofs.Lookups.{AreNamed}
use Rattle.plural_serial.specs.Program.{IsMemory}
use Rattle.plural_serial.specs.Answer.{AnswerValue, IsSerial}
use Rattle.plural_trace.specs.Logs.{LogValue, IsLog}
use Rattle.plural_trace.specs.SerialLog.{serial_log}
use Rattle.plural_trace.specs.Verdicts.{expected_of, IsLegal}
use Rattle.plural_trace.proofs.SerialLegal.{serial_is_legal}
use Rattle.plural_trace.proofs.SerialLog.{serial_is_log}
use Rattle.plural_bundle.specs.Answer.{IsBundle}
use Rattle.plural_crew.specs.Clashes.{IsAccepted}
use Rattle.plural_output.specs.Answer.{IsOutput}
use Rattle.plural_output.specs.Text.{output_text}
use Rattle.plural_output.specs.Value.{output_of}
use Rattle.plural_cli.specs.Lines.{line_after}
use Rattle.plural_cli.specs.Run.{IsRan, IsSerialAnswer, IsRunAnswer}
use Rattle.plural_cli.specs.declared.command.Order.{Order}
use Rattle.plural_cli.specs.declared.command.Request.TheVariants as request
use Rattle.plural_cli.specs.Output.{IsAnswer}
use Rattle.plural_promise.specs.Outputs.{bundle_in, IsReadAs, IsReadAgain, SerialIsRead, IsReadLegal, RunIsRead}
use Rattle.plural_promise.proofs.LogText.{lines_have_text}
use Rattle.plural_promise.proofs.BundleMaps.{InParts, in_parts, map_fits_parts}
use Rattle.plural_promise.proofs.OutputLines.{output_read}

-- ---- bundles

-- The bytes are a bundle that isn't too long.
pub record IsBundleOf (bytes : List ℕ) : Type 0 where
  pub short : length bytes ≤ 16777216
  pub bundle : IsBundle (content_lines bytes) (content_lines bytes) (line_after bytes)

-- What holds of each bundle: its parts, its map, and the names of its tasks.
pub record IsFit (bytes : List ℕ) : Type 0 where
  pub parts : InParts (content_lines bytes)
  pub map : IsMap (bundle_in bytes).program.map
  pub named : AreNamed (bundle_in bytes).program.map.tasks

-- All this holds of each.
pub bundle_fits : (bytes : List ℕ) → IsBundleOf bytes → IsFit bytes
bundle_fits bytes h =
    let parts = in_parts (content_lines bytes) (line_after bytes) (lines_have_text 1 bytes) h.bundle in
    let maps = map_fits_parts (content_lines bytes) parts in
    record { parts = parts; map = maps.0; named = maps.1 }

-- ---- what was written

-- The text of a bundle's run: it spells this log and this last memory, which are of the map, and legal for the bundle.
pub record IsWritten (bytes text : List ℕ) (log : LogValue) (last : List ℕ) : Type 0 where
  pub bundle : IsBundleOf bytes
  pub legal : IsLegal (expected_of (bundle_in bytes).program (bundle_in bytes).image) log last
  pub logged : IsLog (bundle_in bytes).program.map log
  pub memory : IsMemory (bundle_in bytes).program.map last
  pub text_is : text ≡ output_text (bundle_in bytes).program.map log last

-- Such a text is read again as this log and this memory.
pub read_as : (bytes text : List ℕ) (log : LogValue) (last : List ℕ) (end : ℕ) → IsWritten bytes text log last → IsReadAs (bundle_in bytes) text end (record { log = log; image = last })
read_as bytes text log last end w =
    let b = bundle_in bytes in
    let f = bundle_fits bytes w.bundle in
    let o = output_read b.program.map log last 1 end f.map f.named w.logged w.memory in
    record {
      output = subst (λ t. IsOutput b.program.map.tasks b.program.map.words (content_lines t) end) (sym w.text_is) o.0;
      value = ap (λ t. output_of b.program.map.tasks b.program.map.words (content_lines t)) w.text_is ∙ o.1;
    }

-- ---- answers of `serial` with status 0 or 1

-- The text is that of a serial run.
pub record IsOfSerial (bytes text : List ℕ) : Type 0 where
  pub run : AnswerValue
  pub serial : IsSerial (bundle_in bytes).program (bundle_in bytes).image run
  pub written : IsWritten bytes text (serial_log run) run.image

by_ran : (bytes : List ℕ) (status : ℕ) (text : List ℕ) → IsBundleOf bytes → IsRan (bundle_in bytes) status text → IsOfSerial bytes text
by_ran bytes status text bundle r =
    let b = bundle_in bytes in
    let f = bundle_fits bytes bundle in
    let written : IsWritten bytes text (serial_log r.run) r.run.image = record {
      bundle = bundle;
      legal = serial_is_legal b.program b.image r.run f.map r.serial;
      logged = serial_is_log b.program b.image r.run r.program f.map r.serial;
      memory = r.memory;
      text_is = r.text_is;
    } in
    record { run = r.run; serial = r.serial; written = written }

by_serial : (bytes : List ℕ) (status : ℕ) (text : List ℕ) → length bytes ≤ 16777216 → IsSerialAnswer bytes status text → status ≤ 1 → IsOfSerial bytes text
by_serial bytes status text short (inl h) l = by_ran bytes status text (record { short = short; bundle = h.0 }) h.1
by_serial bytes status text short (inr r) l = absurd (omega (arith, l, r.status_is))

-- The text of an answer of `serial` with status 0 or 1 is that of a serial run.
pub serial_written : (bytes : List ℕ) (status : ℕ) (text : List ℕ) → IsAnswer request.Serial bytes status text → status ≤ 1 → IsOfSerial bytes text
serial_written bytes status text a l = by (ltb 16777216 (length bytes)) refl
  where
    by : (b : Bool) → ltb 16777216 (length bytes) ≡ b → IsOfSerial bytes text
    by true e = absurd (omega (arith, l, (a.too_long (ltb-true 16777216 (length bytes) e)).0))
    by false e = let short = ltb-false 16777216 (length bytes) e in by_serial bytes status text short (a.answered short) l

-- ---- answers of `run` with status 0 or 1

-- The text is that of a run on so many cores of a map without a clash.
pub record IsOnCores (cores : ℕ) (bytes text : List ℕ) : Type 0 where
  pub accepted : IsAccepted (bundle_in bytes).program.map.tasks
  pub log : LogValue
  pub last : List ℕ
  pub cores_are : log.cores ≡ cores
  pub written : IsWritten bytes text log last

by_run : (cores : ℕ) (bytes : List ℕ) (status : ℕ) (text : List ℕ) → length bytes ≤ 16777216 → IsRunAnswer cores bytes status text → status ≤ 1 → IsOnCores cores bytes text
by_run cores bytes status text short (inr r) l = absurd (omega (arith, l, r.status_is))
by_run cores bytes status text short (inl h) l = elim h.1 [
  | inl a ↦
      let r = a.1 in
      let bundle : IsBundleOf bytes = record { short = short; bundle = h.0 } in
      let written : IsWritten bytes text r.log r.last = record { bundle = bundle; legal = r.legal; logged = r.logged; memory = r.memory; text_is = r.text_is } in
      record { accepted = a.0; log = r.log; last = r.last; cores_are = r.cores_are; written = written }
  | inr c ↦ absurd (omega (arith, l, c.status_is))
]

-- The text of an answer of `run` with status 0 or 1 is that of a run on its cores.
pub run_written : (cores : ℕ) (order : Order) (bytes : List ℕ) (status : ℕ) (text : List ℕ) → IsAnswer (request.Run cores order) bytes status text → status ≤ 1 → IsOnCores cores bytes text
run_written cores order bytes status text a l = by (ltb 16777216 (length bytes)) refl
  where
    by : (b : Bool) → ltb 16777216 (length bytes) ≡ b → IsOnCores cores bytes text
    by true e = absurd (omega (arith, l, (a.too_long (ltb-true 16777216 (length bytes) e)).0))
    by false e = let short = ltb-false 16777216 (length bytes) e in by_run cores bytes status text short (a.answered short) l

-- ---- the laws

-- What `serial` writes is read again.
pub serial_is_read : SerialIsRead
serial_is_read bytes status text end a l =
    let h = serial_written bytes status text a l in
    let again : IsReadAgain (bundle_in bytes) text end = record { run = h.run; serial = h.serial; read = read_as bytes text (serial_log h.run) h.run.image end h.written } in
    again

-- And what `run` writes.
pub run_is_read : RunIsRead
run_is_read bytes cores order status text end a l =
    let h = run_written cores order bytes status text a l in
    let legal : IsReadLegal (bundle_in bytes) cores text end = record {
      output = record { log = h.log; image = h.last };
      read = read_as bytes text h.log h.last end h.written;
      cores_are = h.cores_are;
      legal = h.written.legal;
    } in
    legal
