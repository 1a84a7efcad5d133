-- What the limits of a program say of its places and numbers.
use Rattle.std.proofs.Common.{◌≡◌, ℕ, zero, suc, ◌+◌, ◌<◌, ◌≤◌, ◌-◌, ◌*◌, List, get_or, ap, arith}
use mathlib.Core.Logic.{dite}
use native.Mathlib.Decide.{ℕ_discrete}
use Rattle.std.proofs.lemmas.Option.{get_or_from_slice_get}
use Rattle.plural_serial.specs.Program.{ProgramValue}
use Rattle.plural_order.specs.Sums.{sum_below}
use Rattle.plural_rule.specs.Opening.{IsInstance, task_count, quota_of}
use Rattle.plural_rule.specs.Layout.{counters_at, field_at}
use Rattle.plural_rule.proofs.Writes.{field_low}
use Rattle.plural_words.specs.Places.{place_of, HasPlaces, HasRecord}
use Rattle.plural_words.specs.Fields.{number_of}
use Rattle.plural_words.specs.declared.field.Field.{Field}
use Rattle.plural_words.specs.declared.field.Field.TheVariants as field
use Rattle.plural_words.specs.declared.place.Place.{Place}

-- A part of a sum is no more than the sum.
part_low : (f : ℕ → ℕ) (n t : ℕ) → t < n → f t ≤ sum_below f n
part_low f zero t h = absurd (omega arith)
part_low f (suc n) t h = dite (ℕ_discrete t n)
    (λ e. let same : f t ≡ f n = ap f e in omega (arith, same))
    (λ ne. omega (arith, part_low f n t (omega arith)))

-- No task has more instances than a program has.
pub quota_low : (p : ProgramValue) (places : List Place) {first t : ℕ} → HasPlaces p places first → t < task_count p → quota_of p t ≤ 65536
quota_low p places {first} {t} has small = omega (arith, part_low (quota_of p) (task_count p) t small, has.small.instances)

-- The counters begin far below 2^32.
pub counters_low : (p : ProgramValue) (places : List Place) (first : ℕ) → HasPlaces p places first → counters_at p ≤ 1572864
counters_low p places first has = omega (arith, has.small.words, has.small.instances)

-- What the places say of a task.
pub place_is : (p : ProgramValue) (places : List Place) (first t : ℕ) (none : Place) → HasPlaces p places first → t < task_count p → get_or places t none ≡ place_of p t
place_is p places first t none has small = get_or_from_slice_get places t (place_of p t) none (has.places.each t small)

-- Where the record of an instance that is handed out begins.
pub handed_low : (p : ProgramValue) (places : List Place) (first t from : ℕ) → HasPlaces p places first → t < task_count p → 1 ≤ from → from ≤ quota_of p t → HasRecord p t (from - 1) (field_at p t 0 0 + 8 * (from - 1))
handed_low p places first t from has small low high =
    let inst : IsInstance p t (from - 1) = (small, omega (arith, low, high)) in
    record {
      is = inst;
      here = omega arith;
      low = omega (arith, field_low p t (from - 1) 0 inst (omega arith), counters_low p places first has);
    }

-- A field has one of eight places.
pub number_low : (f : Field) → number_of f < 8
number_low field.End = omega arith
number_low field.Instructions = omega arith
number_low field.Loads = omega arith
number_low field.Misses = omega arith
number_low field.Stores = omega arith
number_low field.Start = omega arith
number_low field.Core = omega arith
number_low field.Done = omega arith
