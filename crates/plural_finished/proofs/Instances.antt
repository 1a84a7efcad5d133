-- What is known of a done instance of a whole run: its record is that of the serial run, and its tickets are in turn.
use Rattle.std.proofs.Common.{◌≡◌, ℕ, suc, ◌+◌, ◌-◌, ◌/◌, ◌^◌, ◌<◌, ◌≤◌, true, List, [], ◌∷◌, map, All, Contains, refl, sym, ap, ◌∙◌, subst, ⊎_elim, arith}
use Rattle.std.proofs.lemmas.Bool.{or_cases}
use Rattle.std.proofs.lemmas.List.Elements.{All-contains}
use Rattle.plural_core.specs.Ends.{IsEnd}
use Rattle.plural_core.specs.declared.end.End.{End}
use Rattle.plural_core.specs.declared.end.End.TheVariants as end
use Rattle.plural_serial.specs.declared.record_.Record.{Record}
use Rattle.plural_serial.specs.Records.{IsRecord}
use Rattle.plural_serial.specs.Instances.{Inst as Instance, same, is_in}
use Rattle.plural_serial.specs.Serial.{serial_of}
use Rattle.plural_serial.specs.Answer as answer
use Rattle.plural_serial.proofs.Records.{serial_records}
use Rattle.plural_trace.specs.declared.entry.Entry.{Entry}
use Rattle.plural_trace.specs.Logs.{IsEntry}
use Rattle.plural_trace.specs.RecordWords.{RecordWords, end_word, words_of, entry_of}
use Rattle.plural_trace.proofs.SerialLog.{entry_made}
use Rattle.plural_trace.proofs.RecordWords.{record_round_trip}
use Rattle.plural_order.proofs.Instances.{same_is}
use Rattle.plural_order.specs.Sums.{sum_below, sign}
use Rattle.plural_counters.proofs.Sums.{sign_le, below_few, below_le}
use Rattle.plural_rule.specs.Opening.{Opening, Runs, world_in, record_of, task_count, quota_of}
use Rattle.plural_rule.specs.Named.{IsNamed}
use Rattle.plural_rule.specs.Last.{IsLast}
use Rattle.plural_rule.proofs.ProgramRuns.{serial_run_named}
use Rattle.plural_rule.proofs.TicketSums.{done_low}
use Rattle.plural_words.specs.Closing.{ClosedSeen}
use Rattle.plural_finished.specs.Finishing.{says, IsClosedRun, IsDone, words_in, entry_in}

-- An instance of a list stands in it, and so does what is made of it.
there_in : {A : Type 0} (f : Instance → A) (i : Instance) (is : List Instance) → is_in i is ≡ true → Contains (map f is) (f i)
there_in f i [] h = absurd cc
there_in f i (j ∷ js) h = ⊎_elim
    (λ t. (0, omega arith, sym (ap f (same_is i j t))))
    (λ r. let c = there_in f i js r in let low = c.1 in (suc c.0, omega arith, c.2))
    (or_cases (same i j) (is_in i js) h)

-- The record of an instance is of it.
pub record_own : (o : Opening) (t k : ℕ) → ((record_of o t k).t ≡ t) × ((record_of o t k).k ≡ k)
unfolding record_of
record_own o t k = (refl, refl)

-- The words of an entry are small enough for its numbers.
pub record AreLow (w : RecordWords) : Type 0 where
  pub ended : w.«end» / 2 ^ 32 < 2 ^ 8
  pub instructions : w.instructions < 2 ^ 32
  pub loads : w.loads < 2 ^ 32
  pub misses : w.misses < 2 ^ 32
  pub stores : w.stores < 2 ^ 32
  pub start : w.start < 2 ^ 32
  pub core : w.core < 2 ^ 32
  pub done : w.done < 2 ^ 32

-- So is the word of an end.
end_low : (e : End) → IsEnd e → end_word e / 2 ^ 32 < 2 ^ 8
end_low end.Code0 h = omega arith
end_low end.Code1 h = omega arith
end_low end.Exhausted h = omega arith
end_low (end.Trap cause pc) h = let high = h.1 in let few = h.2 in omega arith

module _ (c : ClosedSeen) (run : IsClosedRun c) where
  -- What the words say.
  pub last : IsLast c.opening (says c)
  last = run.closed.last run.told

  -- What the names of the serial run say.
  pub named : IsNamed c.opening
  named = serial_run_named c.opening run.opening.limits

  -- The clock is at most twice the number of instances.
  pub clock_low : (says c).clock ≤ 131072
  clock_low =
      let p = c.opening.program in
      omega (
        arith,
        last.clock,
        below_le (λ t. sum_below (λ k. sign ((says c).done t k)) (quota_of p t)) (quota_of p) (task_count p) (λ t h. below_few (λ k. sign ((says c).done t k)) (quota_of p t) (λ k. sign_le ((says c).done t k))),
        run.closed.kept.rule.run.few_instances,
      )

  -- The records of the serial run, by its instances.
  pub records_are : map (answer.record_of c.opening.program) (serial_of c.opening.program c.opening.image).ran ≡ map (λ i. record_of c.opening i.0 i.1) (world_in c.opening).ran
  records_are = named.records

  -- The record of an instance that runs is one of the map.
  pub record_is : (t k : ℕ) → Runs c.opening t k → IsRecord c.opening.program.map (record_of c.opening t k)
  record_is t k ran =
      let all : All (IsRecord c.opening.program.map) (map (λ (i : Instance). record_of c.opening i.0 i.1) (world_in c.opening).ran)
      = subst (λ (rs : List Record). All (IsRecord c.opening.program.map) rs) named.records (serial_records c.opening.program c.opening.image run.program run.opening.limits) in
      All-contains (IsRecord c.opening.program.map) _ (record_of c.opening t k) all (there_in (λ i. record_of c.opening i.0 i.1) (t, k) (world_in c.opening).ran ran)

  module _ (t k : ℕ) (is : IsDone c t k) where
    -- It runs in the serial run.
    pub runs : Runs c.opening t k
    runs = last.only t k is.inst is.done

    -- Its tickets are below the clock.
    pub low : ((says c).done t k ≤ (says c).clock) × ((says c).field t k 5 < (says c).clock)
    low = done_low c.opening (says c) [] t k (λ x. omega (arith, last.tickets x)) is.inst is.done

    -- The entry with its record.
    abbrev own_entry : Entry
    own_entry = record { rec = record_of c.opening t k; core = (says c).field t k 6; start = (says c).field t k 5; end_at = (says c).done t k - 1 }

    words_is : words_in c t k ≡ words_of own_entry
    words_is =
        let ended : (says c).field t k 0 ≡ end_word (record_of c.opening t k).«end» = last.records t k 0 is.inst is.done (omega arith) in
        let instructions : (says c).field t k 1 ≡ (record_of c.opening t k).instructions = last.records t k 1 is.inst is.done (omega arith) in
        let loads : (says c).field t k 2 ≡ (record_of c.opening t k).loads = last.records t k 2 is.inst is.done (omega arith) in
        let misses : (says c).field t k 3 ≡ (record_of c.opening t k).misses = last.records t k 3 is.inst is.done (omega arith) in
        let stores : (says c).field t k 4 ≡ (record_of c.opening t k).stores = last.records t k 4 is.inst is.done (omega arith) in
        let done : (says c).done t k ≡ 1 + ((says c).done t k - 1) = omega (arith, is.done) in
        λ i. record {
          «end» = ended i;
          instructions = instructions i;
          loads = loads i;
          misses = misses i;
          stores = stores i;
          start = (says c).field t k 5;
          core = (says c).field t k 6;
          done = done i;
        }

    -- Its numbers are below 2^32, and its end is one of the known kinds.
    pub own_is_entry : IsEntry (task_count c.opening.program) own_entry
    own_is_entry = entry_made c.opening.program.map own_entry run.opening.limits (record_is t k runs)
        (omega (arith, last.cores t k is.inst is.done, run.few_cores))
        (omega (arith, low.1, clock_low))
        (omega (arith, low.0, clock_low))

    -- It is the entry that the words tell.
    pub entry_is : entry_in c t k ≡ own_entry
    entry_is =
        let own = record_own c.opening t k in
        let named : entry_of t k (words_in c t k) ≡ entry_of (record_of c.opening t k).t (record_of c.opening t k).k (words_of own_entry) = λ i. entry_of (sym own.0 i) (sym own.1 i) (words_is i) in
        named ∙ (record_round_trip (task_count c.opening.program) own_entry own_is_entry).0

    -- So the entry has the record of the serial run.
    pub entry_record : (entry_in c t k).rec ≡ record_of c.opening t k
    entry_record = ap (λ (e : Entry). e.rec) entry_is

    -- And it can be printed.
    pub entry_printed : IsEntry (task_count c.opening.program) (entry_in c t k)
    entry_printed = subst (IsEntry (task_count c.opening.program)) (sym entry_is) own_is_entry

    -- Its words are small enough for the numbers of an entry.
    pub words_low : AreLow (words_in c t k)
    words_low =
        let e = own_is_entry in
        subst AreLow (sym words_is) (record {
          ended = end_low own_entry.rec.«end» e.ended;
          instructions = omega (arith, e.instructions);
          loads = omega (arith, e.loads);
          misses = omega (arith, e.misses);
          stores = omega (arith, e.stores);
          start = omega (arith, e.start);
          core = omega (arith, e.core);
          done = omega (arith, low.0, clock_low, is.done);
        })
