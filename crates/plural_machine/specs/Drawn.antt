-- The cores of a machine take turns on one thread. (This project's own.)
use Rattle.std.specs.Prelude.{ℕ, zero, suc, ◌≡◌, ◌<◌, ◌%◌, ◌⊎◌, List, [], length, slice_index, slice_index_or, slice_set}
use Rattle.std.specs.List.{Contains, remove, range_with_len, sum_by}
use Rattle.rand_core.specs.Pcg32Seed.{pcg32_seed}
use Rattle.rand_pcg.specs.Lcg.{Lcg}
use Rattle.rand_pcg.specs.Pcg.{pcg32, pcg32_of_seed}
use Rattle.plural_rule.specs.Opening.{Opening}
use Rattle.plural_words.specs.Seen.{WordsSeen}
use Rattle.plural_cores.specs.Cores.{CoreSeen, IsAtTurn, HasLeft, HasCoreTurned, core_turns_left}
use Rattle.plural_cores.specs.declared.answer.CoreTurn.{CoreTurn}
use Rattle.plural_cores.specs.declared.answer.CoreTurn.TheVariants.{Worked, Nothing, Left}
use Rattle.plural_machine.specs.Together.{Each}

-- The place that the generator's next word draws, of so many.
abbrev pub drawn_place : Lcg → ℕ → ℕ
drawn_place g count = (pcg32 g).0 % count

-- The numbers rise, and are all below this one.
pub record AreRising (all : ℕ) (numbers : List ℕ) : Type 0 where
  pub below : (k : ℕ) → k < length numbers → slice_index numbers k < all
  pub rise : (k l : ℕ) → k < l → l < length numbers → slice_index numbers k < slice_index numbers l

-- The core has this number, and is between two turns.
pub record IsBetween (w : WordsSeen) (first : List ℕ) (i : ℕ) (c : CoreSeen) : Type 0 where
  pub number : c.number ≡ i
  pub at_turn : IsAtTurn w first c

-- Each core is between two turns, and one whose number isn't among these has left.
pub record AreStaying (w : WordsSeen) (first numbers : List ℕ) (cores : List CoreSeen) : Type 0 where
  pub each : Each (IsBetween w first) cores
  pub gone : (i : ℕ) (d : CoreSeen) → i < length cores
      → Contains numbers i ⊎ HasLeft w first (slice_index_or cores i d)

-- The numbers that are left after a turn of the one at this place: it goes if its core has left.
abbrev pub staying_after : CoreTurn → (place : ℕ) → List ℕ → List ℕ
staying_after Left place numbers = remove numbers place
staying_after Worked place numbers = numbers
staying_after Nothing place numbers = numbers

-- The core whose number is at this place has had a turn, and no other core has.
pub record HasHadTurn (w : WordsSeen) (place : ℕ) (stayed : List ℕ) (old : List CoreSeen)
    (stay : List ℕ) (new : List CoreSeen) : Type 0 where
  pub answer : CoreTurn
  pub became : CoreSeen
  pub turned : (d : CoreSeen) → HasCoreTurned w (slice_index_or old (slice_index stayed place) d) answer became
  pub others : new ≡ slice_set old (slice_index stayed place) became
  pub numbers : stay ≡ staying_after answer place stayed

-- ---- turns one after another

-- How far the turns that a generator draws have come: the generator, the numbers of the cores that stay, and the
-- cores.
pub record Drawn : Type 0 where
  pub generator : Lcg
  pub staying : List ℕ
  pub cores : List CoreSeen

-- The one of these three.
abbrev pub drawn : Lcg → List ℕ → List CoreSeen → Drawn
drawn g staying cores = record { generator = g; staying = staying; cores = cores }

-- The generator of a seed: Pcg32 with the 16 bytes that PCG32 expands the seed to.
abbrev pub generator_of : (seed : ℕ) → Lcg
generator_of seed = pcg32_of_seed (pcg32_seed 16 seed)

-- Before the first turn all cores stay.
abbrev pub drawn_first : (seed : ℕ) → List CoreSeen → Drawn
drawn_first seed cores = drawn (generator_of seed) (range_with_len 0 (length cores)) cores

-- One turn more, of the core at the place that the generator's next word draws.
pub record IsNextTurn (w : WordsSeen) (old new : Drawn) : Type 0 where
  pub turn : HasHadTurn w (drawn_place old.generator (length old.staying)) old.staying old.cores new.staying new.cores
  pub rest : new.generator ≡ (pcg32 old.generator).1

-- So many turns, one after another.
abbrev pub AreTurns : WordsSeen → (n : ℕ) → (first last : Drawn) → Type 0
AreTurns w zero x z = z ≡ x
AreTurns w (suc n) x z = (y : Drawn) × AreTurns w n x y × IsNextTurn w y z

-- The cores have had turns in the order that the seed draws, until none stayed.
pub record HaveHadTurns (w : WordsSeen) (seed : ℕ) (old new : List CoreSeen) : Type 0 where
  pub count : ℕ
  pub rest : Lcg
  pub turns : AreTurns w count (drawn_first seed old) (drawn rest [] new)

-- ---- how many turns are left

-- How many turns the cores have left at most, together.
abbrev pub all_turns_left : Opening → List CoreSeen → ℕ
all_turns_left o cores = sum_by (core_turns_left o) cores
