-- The status of a run is one, whatever the number of cores and the order, and so is a text that tells no run.
use Rattle.std.proofs.Common.{◌≡◌, ◌≢◌, ℕ, zero, suc, ◌≤◌, Bool, true, false, ltb, List, [], length, Option, refl, sym, subst, ◌∙◌, arith, ◌⊎◌, inl, inr}
use Rattle.std.specs.List.{list_any}
use Rattle.std.proofs.lemmas.Bool.{ltb-true, ltb-false}
use Rattle.plural_bytes.specs.Lines.{content_lines}
use Rattle.plural_map.specs.declared.outcome.Outcome.{Outcome}
use Rattle.plural_map.specs.Decisions.{is_failed}
use Rattle.plural_serial.specs.Serial.{serial_of}
use Rattle.plural_bundle.specs.Value.{BundleValue}
use Rattle.plural_crew.specs.Clashes.{IsAccepted}
use Rattle.plural_cli.specs.Lines.{line_after, ToBundle, IsFaulty}
use Rattle.plural_cli.specs.Check.{IsClashing}
use Rattle.plural_cli.specs.Run.{status_of, IsSerialAnswer, IsRunOf, IsRunAnswer}
use Rattle.plural_cli.specs.declared.command.Order.{Order}
use Rattle.plural_cli.specs.declared.command.Request.TheVariants as request
use Rattle.plural_cli.specs.Output.{IsAnswer}
use Rattle.plural_promise.specs.Outputs.{bundle_in}
use Rattle.plural_promise.proofs.OneFault.{IsOne}
use Rattle.plural_promise.proofs.OneClash.{one_or_clashing}
use Rattle.plural_promise.proofs.BundleAnswers.{one_accepted, one_to_bundle}

-- ---- texts that tell a run are left out

-- An answer's text, but nothing of one that tells a run.
settled : (status : ℕ) → List ℕ → List ℕ
settled zero text = []
settled (suc zero) text = []
settled (suc (suc n)) text = text

settled_run : (status : ℕ) (text : List ℕ) → status ≤ 1 → settled status text ≡ []
unfolding settled
settled_run zero text l = refl
settled_run (suc zero) text l = refl
settled_run (suc (suc n)) text l = absurd (omega (arith, l))

settled_other : (status : ℕ) (text : List ℕ) → 2 ≤ status → settled status text ≡ text
unfolding settled
settled_other zero text l = absurd (omega (arith, l))
settled_other (suc zero) text l = absurd (omega (arith, l))
settled_other (suc (suc n)) text l = refl

-- The statuses are the same, and the texts too unless they tell runs.
abbrev pub SameStatus : (s : ℕ) (t : List ℕ) (s' : ℕ) (t' : List ℕ) → Type 0
SameStatus s t s' t' = (s ≡ s') × (2 ≤ s → t ≡ t')

unsettled : (s : ℕ) (t : List ℕ) (s' : ℕ) (t' : List ℕ) → (s ≡ s') × (settled s t ≡ settled s' t') → SameStatus s t s' t'
unsettled s t s' t' h = (h.0, λ l. sym (settled_other s t l) ∙ h.1 ∙ settled_other s' t' (omega (arith, l, h.0)))

same_texts : (s : ℕ) (t : List ℕ) (s' : ℕ) (t' words : List ℕ) → (s ≡ 3) × (t ≡ words) → (s' ≡ 3) × (t' ≡ words) → SameStatus s t s' t'
same_texts s t s' t' words a b = (a.0 ∙ sym b.0, λ l. a.1 ∙ sym b.1)

-- ---- what is left

-- The status of a serial run, and no text.
abbrev IsStatus : BundleValue → (status : ℕ) (text : List ℕ) → Type 0
IsStatus b status text = (status ≡ status_of (serial_of b.program b.image).outcomes) × (text ≡ [])

one_status : (b : BundleValue) → IsOne (IsStatus b)
one_status b s t s' t' f g = (f.0 ∙ sym g.0, f.1 ∙ sym g.1)

-- The same of a map without a clash; of another the first clash is told.
abbrev IsStatusOrClash : BundleValue → (status : ℕ) (text : List ℕ) → Type 0
IsStatusOrClash b status text = (IsAccepted b.program.map.tasks × IsStatus b status text) ⊎ IsClashing b.program.map.tasks status text

one_status_or_clash : (b : BundleValue) → IsOne (IsStatusOrClash b)
one_status_or_clash b =
    let tasks = b.program.map.tasks in
    one_or_clashing tasks (λ s t. IsAccepted tasks × IsStatus b s t) (λ s t a. a.0) (one_accepted tasks (IsStatus b) (one_status b))

-- A run's status is 0 or 1.
pub status_low : (outcomes : List (Option Outcome)) → status_of outcomes ≤ 1
status_low outcomes = by (list_any is_failed outcomes) refl
  where
    by : (b : Bool) → list_any is_failed outcomes ≡ b → status_of outcomes ≤ 1
    by true e = rw e (omega arith)
    by false e = rw e (omega arith)

status_is : (b : BundleValue) (status : ℕ) (text : List ℕ) → status ≡ status_of (serial_of b.program b.image).outcomes → IsStatus b status (settled status text)
status_is b status text e = (e, settled_run status text (omega (arith, e, status_low (serial_of b.program b.image).outcomes)))

-- A relation of a status and a text with a status above 1 holds of the text that is left.
stays : (Is : ℕ → List ℕ → Type 0) (status : ℕ) (text : List ℕ) → 2 ≤ status → Is status text → Is status (settled status text)
stays Is status text l h = subst (Is status) (sym (settled_other status text l)) h

faulty_stays : (bytes : List ℕ) (status : ℕ) (text : List ℕ) → IsFaulty (content_lines bytes) (content_lines bytes) (line_after bytes) status text → IsFaulty (content_lines bytes) (content_lines bytes) (line_after bytes) status (settled status text)
faulty_stays bytes status text r = stays (IsFaulty (content_lines bytes) (content_lines bytes) (line_after bytes)) status text (omega (arith, r.status_is)) r

of_run : (cores : ℕ) (b : BundleValue) (status : ℕ) (text : List ℕ) → IsRunOf cores b status text → IsStatusOrClash b status (settled status text)
of_run cores b status text (inl a) = inl (a.0, status_is b status text a.1.status_is)
of_run cores b status text (inr c) = inr (stays (IsClashing b.program.map.tasks) status text (omega (arith, c.status_is)) c)

run_left : (cores : ℕ) (bytes : List ℕ) (status : ℕ) (text : List ℕ) → IsRunAnswer cores bytes status text → ToBundle IsStatusOrClash bytes status (settled status text)
run_left cores bytes status text (inl h) = inl (h.0, of_run cores (bundle_in bytes) status text h.1)
run_left cores bytes status text (inr r) = inr (faulty_stays bytes status text r)

no_clash : (cores : ℕ) (b : BundleValue) (status : ℕ) (text : List ℕ) → status ≢ 4 → IsRunOf cores b status text → IsStatus b status (settled status text)
no_clash cores b status text other (inl a) = status_is b status text a.1.status_is
no_clash cores b status text other (inr c) = absurd (other c.status_is)

accepted_left : (cores : ℕ) (bytes : List ℕ) (status : ℕ) (text : List ℕ) → status ≢ 4 → IsRunAnswer cores bytes status text → ToBundle IsStatus bytes status (settled status text)
accepted_left cores bytes status text other (inl h) = inl (h.0, no_clash cores (bundle_in bytes) status text other h.1)
accepted_left cores bytes status text other (inr r) = inr (faulty_stays bytes status text r)

serial_left : (bytes : List ℕ) (status : ℕ) (text : List ℕ) → IsSerialAnswer bytes status text → ToBundle IsStatus bytes status (settled status text)
serial_left bytes status text (inl h) = inl (h.0, status_is (bundle_in bytes) status text h.1.status_is)
serial_left bytes status text (inr r) = inr (faulty_stays bytes status text r)

-- ---- two answers to one input

-- Two answers of `run` have the same status.
pub runs_status : (bytes : List ℕ) (cores : ℕ) (order : Order) (s : ℕ) (t : List ℕ) (others : ℕ) (drawn : Order) (s' : ℕ) (t' : List ℕ)
    → IsAnswer (request.Run cores order) bytes s t → IsAnswer (request.Run others drawn) bytes s' t' → SameStatus s t s' t'
runs_status bytes cores order s t others drawn s' t' f g = by (ltb 16777216 (length bytes)) refl
  where
    by : (b : Bool) → ltb 16777216 (length bytes) ≡ b → SameStatus s t s' t'
    by true e = let long = ltb-true 16777216 (length bytes) e in same_texts s t s' t' _ (f.too_long long) (g.too_long long)
    by false e =
        let short = ltb-false 16777216 (length bytes) e in
        let a = run_left cores bytes s t (f.answered short) in
        let b = run_left others bytes s' t' (g.answered short) in
        unsettled s t s' t' (one_to_bundle IsStatusOrClash bytes one_status_or_clash s (settled s t) s' (settled s' t') a b)

-- An answer of `run` that tells no clash has the status of that of `serial`.
pub serial_status : (bytes : List ℕ) (cores : ℕ) (order : Order) (s : ℕ) (t : List ℕ) (s' : ℕ) (t' : List ℕ)
    → IsAnswer (request.Run cores order) bytes s t → s ≢ 4 → IsAnswer request.Serial bytes s' t' → SameStatus s t s' t'
serial_status bytes cores order s t s' t' f other g = by (ltb 16777216 (length bytes)) refl
  where
    by : (b : Bool) → ltb 16777216 (length bytes) ≡ b → SameStatus s t s' t'
    by true e = let long = ltb-true 16777216 (length bytes) e in same_texts s t s' t' _ (f.too_long long) (g.too_long long)
    by false e =
        let short = ltb-false 16777216 (length bytes) e in
        let a = accepted_left cores bytes s t other (f.answered short) in
        let b = serial_left bytes s' t' (g.answered short) in
        unsettled s t s' t' (one_to_bundle IsStatus bytes one_status s (settled s t) s' (settled s' t') a b)
