-- What a finished machine of a bundle is, as an answer of `run`.
use Rattle.std.proofs.Common.{length, get_or, ◌≡◌, ◌≢◌, ℕ, ◌<◌, ◌≤◌, Bool, true, false, leb, List, map, Option, Some, None, refl, ap, sym, subst, ◌∙◌, arith}
use Rattle.std.proofs.lemmas.Bool.{leb-true, leb-false}
use Rattle.std.proofs.lemmas.List.{length-take-le, get_or-take, get_or_default}
use Rattle.std.specs.Option.{IsSomeAnd}
use Rattle.std.specs.List.{sum_by}
use Rattle.std.specs.List.Sorted.{IsPermutation}
use Rattle.std.proofs.lemmas.List.Sorted.{length_permutation, sum_by-IsPermutation}
use Rattle.plural_map.specs.Value.{TaskValue}
use Rattle.plural_map.specs.Limits.{IsMap}
use Rattle.plural_serial.specs.declared.record_.Record.{Record}
use Rattle.plural_serial.specs.Program.{ProgramValue, IsMemory}
use Rattle.plural_trace.specs.Logs.{IsLog}
use Rattle.plural_trace.specs.Verdicts.{expected_of, records_of, IsLegal}
use Rattle.plural_trace.proofs.RecordOrder.{records_in_order}
use Rattle.plural_rule.specs.Opening.{Opening}
use Rattle.plural_finished.specs.Finishing.{FinishedValue, IsFinished, log_of}
use Rattle.plural_finished.proofs.Results.{finished_is_legal, finished_is_log}
use Rattle.plural_bundle.specs.Value.{BundleValue}
use Rattle.plural_cli.specs.declared.command.Request.{Request}
use Rattle.plural_cli.specs.declared.command.Request.TheVariants as request
use Rattle.plural_cli.specs.Kept.{IsMachineOf, IsToldBy, IsKeptOf, IsKept}
use Rattle.plural_cli.specs.Run.{status_of, IsRanOn}
use Rattle.plural_cli.specs.Made.{made_line, line_of, serial_line}
use Rattle.plural_cli.proofs.RecordSums.{rec_of, legal_records}

-- A finished machine that was opened with the bundle's program and image is one of the bundle.
pub machine_of : (cores : ℕ) (b : BundleValue) (f : FinishedValue) → IsFinished f → f.closed.opening ≡ record { program = b.program; image = b.image; cores = cores } → IsMachineOf cores b f
machine_of cores b f finished e = record {
  finished = finished;
  cores_are = finished.cores ∙ ap (λ (o : Opening). o.cores) e;
  program = ap (λ (o : Opening). o.program) e;
  opened = ap (λ (o : Opening). o.image) e;
  legal = subst (λ (o : Opening). IsLegal (expected_of o.program o.image) (log_of f) f.image) e (finished_is_legal f finished);
}

-- Its log is one of the map.
pub machine_log : (cores : ℕ) (b : BundleValue) (f : FinishedValue) → IsMachineOf cores b f → IsLog b.program.map (log_of f)
machine_log cores b f m = subst (λ (p : ProgramValue). IsLog p.map (log_of f)) m.program (finished_is_log f m.finished)

-- The words of its image are those of the closed table.
finished_memory : (f : FinishedValue) → IsFinished f → IsMemory f.closed.opening.program.map f.image
finished_memory f is =
    let kept = is.run.closed.kept in
    let long : length f.image ≡ f.closed.opening.program.map.words = ap length is.image ∙ length-take-le f.closed.opening.program.map.words f.closed.words (omega (arith, kept.long)) in
    record {
      all = long;
      each = λ k d h.
          let inside : k < f.closed.opening.program.map.words = omega (arith, h, long) in
          let read = ap (λ (ws : List ℕ). get_or ws k d) is.image ∙ get_or-take f.closed.opening.program.map.words f.closed.words k d inside in
          let narrow = kept.narrow k inside in
          let zero = get_or_default f.closed.words k d 0 (omega (arith, inside, kept.long)) in
          omega (arith, read, zero, narrow);
    }

-- Its image is a memory of the map.
pub machine_memory : (cores : ℕ) (b : BundleValue) (f : FinishedValue) → IsMachineOf cores b f → IsMemory b.program.map f.image
machine_memory cores b f m = subst (λ (p : ProgramValue). IsMemory p.map f.image) m.program (finished_memory f m.finished)

-- The records of its entries are those of the serial run, in another order.
pub machine_records : (cores : ℕ) (b : BundleValue) (f : FinishedValue) → IsMachineOf cores b f → IsPermutation (records_of b.program b.image) (map rec_of f.entries)
machine_records cores b f m =
    let limits = subst (λ (p : ProgramValue). IsMap p.map) m.program m.finished.run.opening.limits in
    legal_records b.program.map.tasks (records_of b.program b.image) f.entries (records_in_order b.program b.image limits) m.legal.records

-- So the line of its entries and its image is that of the serial run.
pub machine_line : (cores : ℕ) (b : BundleValue) (f : FinishedValue) → IsMachineOf cores b f → line_of b.program.map.tasks (map rec_of f.entries) f.image ≡ serial_line b
machine_line cores b f m =
    let rs = records_of b.program b.image in let own = map rec_of f.entries in
    let moved = machine_records cores b f m in
    let many : length own ≡ length rs = length_permutation rs own moved in
    let instructions : sum_by (λ (r : Record). r.instructions) own ≡ sum_by (λ (r : Record). r.instructions) rs = sum_by-IsPermutation (λ (r : Record). r.instructions) rs own moved in
    let stores : sum_by (λ (r : Record). r.stores) own ≡ sum_by (λ (r : Record). r.stores) rs = sum_by-IsPermutation (λ (r : Record). r.stores) rs own moved in
    let last = m.legal.words in
    λ i. made_line (sum_by (λ (t : TaskValue). t.quota) b.program.map.tasks) (many i) (instructions i) (stores i) (get_or (last i) 32808 0) (get_or (last i) 32812 0)

-- A text that spells both is the answer of a run of the bundle.
pub told_runs : (cores : ℕ) (b : BundleValue) (status : ℕ) (text : List ℕ) (f : FinishedValue) → IsToldBy cores b text f → status ≡ status_of (map (λ o. Some o) f.outcomes) → IsRanOn cores b status text
told_runs cores b status text f told s =
    let m = told.machine in
    record {
      log = log_of f;
      last = f.image;
      cores_are = m.cores_are;
      legal = m.legal;
      logged = machine_log cores b f m;
      memory = machine_memory cores b f m;
      status_is = s ∙ ap status_of m.legal.outcomes;
      text_is = told.text_is;
    }

-- With a status that isn't 0 or 1 nothing is kept.
pub kept_none : (r : Request) (bytes : List ℕ) (status : ℕ) (text : List ℕ) → 2 ≤ status → IsKept r bytes status text None
kept_none (request.Run cores order) bytes status text h = record { there = λ l. absurd (omega (arith, l, h)); absent = λ _. refl }
kept_none request.Serial bytes status text h = refl
kept_none request.Check bytes status text h = refl
kept_none request.Asm bytes status text h = refl
kept_none request.Dis bytes status text h = refl
kept_none request.Verify bytes status text h = refl

-- What is kept of an answer once it is written: as much as goes with the status of the call.
pub kept_written : (r : Request) (bytes : List ℕ) (status result : ℕ) (text : List ℕ) (kept last : Option FinishedValue) → IsKept r bytes status text kept → (result ≢ 6 → result ≡ status)
    → (result ≤ 1 → last ≡ kept) → (2 ≤ result → last ≡ None) → IsKept r bytes result text last
kept_written r bytes status result text kept last k same whole lost = by (leb 2 result) refl
  where
    by : (b : Bool) → leb 2 result ≡ b → IsKept r bytes result text last
    by true e = let h = leb-true 2 result e in subst (IsKept r bytes result text) (sym (lost h)) (kept_none r bytes result text h)
    by false e =
        let h : result ≤ 1 = let m = leb-false 2 result e in omega (arith, m) in
        let own = same (λ six. absurd (omega (arith, h, six))) in
        subst (IsKept r bytes result text) (sym (whole h)) (subst (λ s. IsKept r bytes s text kept) (sym own) k)

-- What is kept beside a run that isn't refused.
pub kept_told : (cores : ℕ) (b : BundleValue) (status : ℕ) (text : List ℕ) (kept : Option FinishedValue) → status ≤ 1 → IsSomeAnd kept (IsToldBy cores b text) → IsKeptOf cores b status text kept
kept_told cores b status text kept l h = record { there = λ _. h; absent = λ m. absurd (omega (arith, l, m)) }

-- And beside one that is.
pub kept_refused : (cores : ℕ) (b : BundleValue) (status : ℕ) (text : List ℕ) → 2 ≤ status → IsKeptOf cores b status text None
kept_refused cores b status text h = record { there = λ l. absurd (omega (arith, l, h)); absent = λ _. refl }
