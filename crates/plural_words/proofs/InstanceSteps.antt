-- Steps of a seat that holds an instance.
use Rattle.std.proofs.Common.{◌≡◌, ℕ, ◌+◌, ◌%◌, ◌^◌, ◌<◌, ◌≤◌, true, List, ◌∷◌, length, get_or, set, drop, sym, refl, ap, ◌∙◌, subst, arith}
use mathlib.Core.Option.{none, some}
use lib.ListN.{get_elem?}
use Rattle.atomic_table.specs.Table.{step, Allows}
use Rattle.plural_serial.specs.Program.{ProgramValue}
use Rattle.plural_rule.specs.Opening.{Opening, IsInstance, HasSerialRun, MayRead, world_in, stores_of}
use Rattle.plural_order.specs.World.{value_at, start_at}
use Rattle.plural_order.proofs.Runs.{starts_long}
use Rattle.plural_counters.proofs.Sums.{pair_same}
use Rattle.plural_rule.specs.Layout.{clock_at, field_at, done_at, counters_at}
use Rattle.plural_rule.specs.Content.{content}
use Rattle.plural_rule.specs.Kept.{Kept}
use Rattle.plural_rule.specs.Stages.{holds, IsStage}
use Rattle.plural_rule.specs.Laws.{HasNoted}
use Rattle.plural_rule.specs.Steps.{begun_at, began, did_read, stored, ended, one_note, did_note, finished}
use Rattle.plural_rule.specs.declared.view.View.{View}
use Rattle.plural_rule.specs.declared.view.Stage.{Stage}
use Rattle.plural_rule.specs.declared.view.Stage.TheVariants.{Free, Got, Begun, Ended}
use Rattle.plural_rule.specs.declared.view.Role.TheVariants.{Seat}
use Rattle.plural_rule.proofs.Writes.{field_low}
use Rattle.plural_rule.proofs.Live.{held_once, live_runs}
use Rattle.plural_rule.proofs.InstanceLaws.{begins_instance, ends_instance, loads_memory, stores_memory, notes_a_field, finishes_instance}
use Rattle.plural_words.specs.Stages.{IsGot, instance_of, IsUnderWay, memory_of, may_read, to_come, HasRun, IsEnded, IsNoted}
use Rattle.plural_words.specs.Places.{record_at, IsPlaceOf}
use Rattle.plural_words.specs.Tells.{Holds, Token, IsNow, TellsBegin, TellsRead, TellsStore, TellsEnd, TellsNote, TellsFinish}
use Rattle.plural_words.proofs.Moves.{loads, writes}

-- ---- stages

-- The instance of a stage that was handed one.
got_is : (s : Stage) → IsGot s → (t : ℕ) × (k : ℕ) × (s ≡ Got t k)
got_is Free h = absurd h
got_is (Got t k) h = (t, k, refl)
got_is (Begun t k start made reads) h = absurd h
got_is (Ended t k start end reads noted) h = absurd h

-- ---- the clock

-- The words of the memory at a start are those of the map.
start_words : (o : Opening) (t k : ℕ) → HasSerialRun o → length (value_at (world_in o) (t, k) 0) ≡ o.program.map.words
unfolding value_at
start_words o t k run = starts_long (world_in o) run.world (t, k) ∙ run.words

-- Before its first store an instance has the memory of its start.
start_value : (o : Opening) (t k : ℕ) → value_at (world_in o) (t, k) 0 ≡ start_at (world_in o) (t, k)
unfolding value_at
start_value o t k = refl

-- An instance that a seat was handed is one of the serial run, and is under way as there once it has begun.
under_way : (o : Opening) (ws : List ℕ) (views : List View) (id : ℕ) (v : View) (start t k : ℕ) → Kept o ws views → get_elem? views id ≡ some v → v.stage ≡ Got t k
    → IsUnderWay o (instance_of v.stage) start (began v start).stage
under_way o ws views id v start t k kept at got =
    let c = content o.program ws in
    let inst : IsInstance o.program t k = subst (λ (s : Stage). IsStage o c.clock s) got (kept.rule.known id v at).stage in
    let one : holds v.stage t k ≡ 1 = ap (λ s. holds s t k) got ∙ pair_same t k t k refl refl in
    let live = held_once o c views id v t k at kept.rule.held inst one in
    let P : Stage → Type 0 = λ s. IsUnderWay o (instance_of s) start (begun_at s start) in
    subst P (sym got) (record {
      stage = refl;
      runs = live_runs o c kept.rule.run kept.rule.tasks t k live.1;
      memory = start_value o t k;
      long = start_words o t k kept.rule.run;
    })

own_begin : (n id : ℕ) (m : Token) (core : ℕ) → m.0.role ≡ Seat core → IsGot m.0.stage
    → Allows (Holds m.0.opening) n id m (clock_at m.0.opening.program) (λ y. (y + 1) % 2 ^ 64) (TellsBegin (step n (clock_at m.0.opening.program) 1 0 none) m)
own_begin n id m core role got = let o = m.0.opening in let i = clock_at o.program in
    writes o n id m i (TellsBegin (step n i 1 0 none) m) (λ y. (y + 1) % 2 ^ 64) (λ ws views k at few.
    let clock : ℕ = get_or ws i 0 in
    let g = got_is m.0.stage got in
    let is = begins_instance o ws views id m.0 core k at role g.0 g.1 g.2 in
    let value : (clock + 1) % 2 ^ 64 ≡ clock + 1 = omega (arith, is.low) in
    let started = under_way o ws views id m.0 clock g.0 g.1 k at g.2 in
    (began m.0 clock, subst (λ (y : ℕ). Kept o (set ws i y) (set views id (began m.0 clock))) (sym value) is.kept, (refl, is.low, started)))

-- The table allows it.
pub begin_allowed : (o : Opening) (n id : ℕ) (m : Token) (core i : ℕ) → m.0.opening ≡ o → m.0.role ≡ Seat core → IsGot m.0.stage → i ≡ clock_at o.program
    → Allows (Holds o) n id m i (λ y. (y + 1) % 2 ^ 64) (TellsBegin (step n i 1 0 none) m)
begin_allowed o n id m core i is role got at =
    let P : Opening → Type 0 = λ x. Allows (Holds x) n id m (clock_at x.program) (λ y. (y + 1) % 2 ^ 64) (TellsBegin (step n (clock_at x.program) 1 0 none) m) in
    let Q : ℕ → Type 0 = λ j. Allows (Holds o) n id m j (λ y. (y + 1) % 2 ^ 64) (TellsBegin (step n j 1 0 none) m) in
    subst Q (sym at) (subst P is (own_begin n id m core role got))

-- The stage of an instance that has run.
run_is : (o : Opening) (s : Stage) → HasRun o s → (t : ℕ) × (k : ℕ) × (start : ℕ) × (made : ℕ) × (reads : ℕ) × (s ≡ Begun t k start made reads) × (made ≡ length (stores_of o t k))
run_is o Free h = absurd h
run_is o (Got t k) h = absurd h
run_is o (Begun t k start made reads) h = (t, k, start, made, reads, refl, h.0)
run_is o (Ended t k start end reads noted) h = absurd h

own_end : (n id : ℕ) (m : Token) (core : ℕ) → m.0.role ≡ Seat core → HasRun m.0.opening m.0.stage
    → Allows (Holds m.0.opening) n id m (clock_at m.0.opening.program) (λ y. (y + 1) % 2 ^ 64) (TellsEnd (step n (clock_at m.0.opening.program) 1 0 none) m)
own_end n id m core role run = let o = m.0.opening in let i = clock_at o.program in
    writes o n id m i (TellsEnd (step n i 1 0 none) m) (λ y. (y + 1) % 2 ^ 64) (λ ws views k at few.
    let clock : ℕ = get_or ws i 0 in
    let g = run_is o m.0.stage run in
    let is = ends_instance o ws views id m.0 core k at role g.0 g.1 g.2 g.3 g.4 g.5 g.6 in
    let value : (clock + 1) % 2 ^ 64 ≡ clock + 1 = omega (arith, is.low) in
    (ended m.0 clock, subst (λ (y : ℕ). Kept o (set ws i y) (set views id (ended m.0 clock))) (sym value) is.kept, (refl, is.low)))

-- The table allows it.
pub end_allowed : (o : Opening) (n id : ℕ) (m : Token) (core i : ℕ) → m.0.opening ≡ o → m.0.role ≡ Seat core → HasRun o m.0.stage → i ≡ clock_at o.program
    → Allows (Holds o) n id m i (λ y. (y + 1) % 2 ^ 64) (TellsEnd (step n i 1 0 none) m)
end_allowed o n id m core i is role run at =
    let P : Opening → Type 0 = λ x. HasRun x m.0.stage → Allows (Holds x) n id m (clock_at x.program) (λ y. (y + 1) % 2 ^ 64) (TellsEnd (step n (clock_at x.program) 1 0 none) m) in
    let Q : ℕ → Type 0 = λ j. Allows (Holds o) n id m j (λ y. (y + 1) % 2 ^ 64) (TellsEnd (step n j 1 0 none) m) in
    subst Q (sym at) (subst P is (own_end n id m core role) run)

-- ---- the memory

-- What an instance under way reads.
read_value : (o : Opening) (s : Stage) (a x : ℕ) → ((t k start made reads : ℕ) → s ≡ Begun t k start made reads → MayRead o t k a → x ≡ get_or (value_at (world_in o) (t, k) made) a 0) → may_read o s a ≡ true → x ≡ get_or (memory_of o s) a 0
read_value o Free a x h may = absurd (cc may)
read_value o (Got t k) a x h may = absurd (cc may)
read_value o (Begun t k start made reads) a x h may = h t k start made reads refl may
read_value o (Ended t k start end reads noted) a x h may = absurd (cc may)

-- The table allows it.
pub read_allowed : (o : Opening) (n id : ℕ) (m : Token) (core a : ℕ) → m.0.opening ≡ o → m.0.role ≡ Seat core → a < o.program.map.words
    → Allows (Holds o) n id m a (λ y. y) (TellsRead (step n a 0 0 none) m)
read_allowed o n id m core a is role small =
    let P : Opening → Type 0 = λ x. a < x.program.map.words → Allows (Holds x) n id m a (λ y. y) (TellsRead (step n a 0 0 none) m) in
    let own : P m.0.opening = λ h. let p = m.0.opening in
    loads p n id m a (TellsRead (step n a 0 0 none) m) (λ ws views k at.
    let got = loads_memory p ws views id m.0 core k at role a h in
    (did_read m.0, got.kept, (refl, got.narrow, read_value p m.0.stage a (get_or ws a 0) got.value))) in
    subst P is own small

-- What a load of a word told.
pub read_told : (o : Opening) (m w : Token) (n a found : ℕ) → m.0.opening ≡ o → TellsRead (step n a 0 0 none) m found w → may_read o m.0.stage a ≡ true → found ≡ get_or (memory_of o m.0.stage) a 0
read_told o m w n a found is told =
    let P : Opening → Type 0 = λ x. may_read x m.0.stage a ≡ true → found ≡ get_or (memory_of x m.0.stage) a 0 in
    subst P is told.2

-- The stage of an instance whose next store is this.
next_is : (o : Opening) (s : Stage) (x : ℕ × ℕ) (rest : List (ℕ × ℕ)) → to_come o s ≡ x ∷ rest → (t : ℕ) × (k : ℕ) × (start : ℕ) × (made : ℕ) × (reads : ℕ) × (s ≡ Begun t k start made reads) × (drop made (stores_of o t k) ≡ x ∷ rest)
next_is o Free x rest e = absurd (cc e)
next_is o (Got t k) x rest e = absurd (cc e)
next_is o (Begun t k start made reads) x rest e = (t, k, start, made, reads, refl, e)
next_is o (Ended t k start end reads noted) x rest e = absurd (cc e)

-- The table allows it.
pub store_allowed : (o : Opening) (n id : ℕ) (m : Token) (core a x : ℕ) (rest : List (ℕ × ℕ)) → m.0.opening ≡ o → m.0.role ≡ Seat core → x < 2 ^ 32 → to_come o m.0.stage ≡ (a, x) ∷ rest
    → Allows (Holds o) n id m a (λ _. x) (λ _. TellsStore (step n a x 0 none) m x)
store_allowed o n id m core a x rest is role narrow next =
    let P : Opening → Type 0 = λ p. to_come p m.0.stage ≡ (a, x) ∷ rest → Allows (Holds p) n id m a (λ _. x) (λ _. TellsStore (step n a x 0 none) m x) in
    let own : P m.0.opening = λ e. let p = m.0.opening in let g = next_is p m.0.stage (a, x) rest e in
    writes p n id m a (λ _. TellsStore (step n a x 0 none) m x) (λ _. x) (λ ws views k at few.
    (stored m.0, (stores_memory p ws views id m.0 core k at role g.0 g.1 g.2 g.3 g.4 a x rest g.5 g.6 narrow).kept, refl)) in
    subst P is own next

-- ---- the record

-- The instance of an ended stage, with the place of its record and its end ticket.
pub ended_is : (p : ProgramValue) (s : Stage) (place last : ℕ) → IsEnded s → IsPlaceOf p s place last
    → (t : ℕ) × (k : ℕ) × (start : ℕ) × (end : ℕ) × (reads : ℕ) × (noted : List (ℕ × ℕ)) × (s ≡ Ended t k start end reads noted) × IsInstance p t k × (place ≡ field_at p t k 0) × (last ≡ end) × (end ≤ 131072) × (place ≤ 1572864)
ended_is p Free place last h at = absurd h
ended_is p (Got t k) place last h at = absurd h
ended_is p (Begun t k start made reads) place last h at = absurd h
ended_is p (Ended t k start end reads noted) place last h at = (t, k, start, end, reads, noted, refl, at.0.is, at.0.here, at.1, at.2, at.0.low)

-- Its record lies before the counters.
pub record_low : (p : ProgramValue) (s : Stage) (place last : ℕ) → IsEnded s → IsPlaceOf p s place last → (place + 7 < counters_at p) × (place ≤ 1572864) × (place ≡ record_at p s)
record_low p s place last h at = let g = ended_is p s place last h at in
    let same : record_at p s ≡ field_at p g.0 g.1 0 = ap (record_at p) g.6 in
    (omega (arith, g.8, field_low p g.0 g.1 7 g.7 (omega arith)), g.11, g.8 ∙ sym same)

-- The table allows it.
pub note_allowed : (o : Opening) (n id : ℕ) (m : Token) (core f x i : ℕ) (place last : ℕ) → m.0.opening ≡ o → m.0.role ≡ Seat core → IsEnded m.0.stage → IsPlaceOf m.0.opening.program m.0.stage place last → f < 7 → i ≡ place + f
    → Allows (Holds o) n id m i (λ _. x) (λ _. TellsNote (step n i x 0 none) m x)
note_allowed o n id m core f x i place last is role over places few at =
    let p = m.0.opening in
    let g = ended_is p.program m.0.stage place last over places in
    let here : i ≡ field_at p.program g.0 g.1 f = omega (arith, at, g.8) in
    let base : record_at p.program m.0.stage ≡ field_at p.program g.0 g.1 0 = ap (record_at p.program) g.6 in
    let own : Allows (Holds p) n id m (field_at p.program g.0 g.1 f) (λ _. x) (λ _. TellsNote (step n (field_at p.program g.0 g.1 f) x 0 none) m x) =
    writes p n id m (field_at p.program g.0 g.1 f) (λ _. TellsNote (step n (field_at p.program g.0 g.1 f) x 0 none) m x) (λ _. x) (λ ws views k at wide. (
      did_note m.0 f x,
      notes_a_field p ws views id m.0 core k at role g.0 g.1 g.2 g.3 g.4 g.5 f x g.6 few,
      λ h e.
          let same : f ≡ h = omega (arith, e, base) in subst (λ (y : ℕ). IsNow m (did_note m.0 y x) (did_note m.0 f x, m.1)) same refl,
    )) in
    let P : Opening → Type 0 = λ q. Allows (Holds q) n id m (field_at p.program g.0 g.1 f) (λ _. x) (λ _. TellsNote (step n (field_at p.program g.0 g.1 f) x 0 none) m x) in
    let Q : ℕ → Type 0 = λ j. Allows (Holds o) n id m j (λ _. x) (λ _. TellsNote (step n j x 0 none) m x) in
    subst Q (sym here) (subst P is own)

-- The stage of an instance whose record is noted.
noted_is : (o : Opening) (core : ℕ) (s : Stage) → IsNoted o core s → IsEnded s × ((t k start end reads : ℕ) (noted : List (ℕ × ℕ)) → s ≡ Ended t k start end reads noted → HasNoted o t k start core noted)
noted_is o core Free h = absurd h
noted_is o core (Got t k) h = absurd h
noted_is o core (Begun t k start made reads) h = absurd h
noted_is o core (Ended t k start end reads noted) h = (tt, λ u l s e r n q. subst (λ (st : Stage). IsNoted o core st) q h)

-- It has ended.
pub noted_ended : (o : Opening) (core : ℕ) (s : Stage) → IsNoted o core s → IsEnded s
noted_ended o core s h = (noted_is o core s h).0

-- The table allows it.
pub finish_allowed : (o : Opening) (n id : ℕ) (m : Token) (core x i : ℕ) (place last : ℕ) → m.0.opening ≡ o → m.0.role ≡ Seat core → IsNoted o core m.0.stage → IsPlaceOf m.0.opening.program m.0.stage place last → i ≡ place + 7 → x ≡ 1 + last
    → Allows (Holds o) n id m i (λ _. x) (λ _. TellsFinish (step n i x 0 none) m x)
finish_allowed o n id m core x i place last is role noted places at value =
    let p = m.0.opening in
    let own_noted : IsNoted p core m.0.stage = subst (λ (q : Opening). IsNoted q core m.0.stage) (sym is) noted in
    let h = noted_is p core m.0.stage own_noted in
    let g = ended_is p.program m.0.stage place last h.0 places in
    let end : ℕ = g.3 in
    let here : i ≡ done_at p.program g.0 g.1 = omega (arith, at, g.8) in
    let own : Allows (Holds p) n id m (done_at p.program g.0 g.1) (λ _. 1 + end) (λ _. TellsFinish (step n (done_at p.program g.0 g.1) (1 + end) 0 none) m (1 + end)) =
    writes p n id m (done_at p.program g.0 g.1) (λ _. TellsFinish (step n (done_at p.program g.0 g.1) (1 + end) 0 none) m (1 + end)) (λ _. 1 + end) (λ ws views k at wide.
    (finished m.0, finishes_instance p ws views id m.0 core k at role g.0 g.1 g.2 g.3 g.4 g.5 g.6 (h.1 g.0 g.1 g.2 g.3 g.4 g.5 g.6), refl)) in
    let P : Opening → Type 0 = λ q. Allows (Holds q) n id m (done_at p.program g.0 g.1) (λ _. 1 + end) (λ _. TellsFinish (step n (done_at p.program g.0 g.1) (1 + end) 0 none) m (1 + end)) in
    let Q : ℕ → Type 0 = λ j. Allows (Holds o) n id m j (λ _. 1 + end) (λ _. TellsFinish (step n j (1 + end) 0 none) m (1 + end)) in
    let R : ℕ → Type 0 = λ y. Allows (Holds o) n id m i (λ _. y) (λ _. TellsFinish (step n i y 0 none) m y) in
    let is_value : 1 + end ≡ x = omega (arith, value, g.9) in
    subst R is_value (subst Q (sym here) (subst P is own))

-- They are still those of the instance once a field is noted.
pub noted_place : (p : ProgramValue) (s : Stage) (place last f x : ℕ) → IsPlaceOf p s place last → IsPlaceOf p (one_note s f x) place last
noted_place p Free place last f x at = at
noted_place p (Got t k) place last f x at = at
noted_place p (Begun t k s made reads) place last f x at = at
noted_place p (Ended t k s end reads noted) place last f x at = at
