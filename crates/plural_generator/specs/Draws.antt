-- The image of the large filter bundle, from the words that the generator of its seed gives one after another.
use Rattle.std.specs.Prelude.{ℕ, ◌+◌, ◌-◌, ◌%◌, ◌&&◌, ◌==◌, List, map, nat_lt, nat_le, if◌then◌else◌}
use Rattle.std.specs.List.{range_with_len}
use Rattle.rand_core.specs.Pcg32Seed.{pcg32_seed}
use Rattle.rand_pcg.specs.Lcg.{Lcg, advance}
use Rattle.rand_pcg.specs.Pcg.{multiplier_64, pcg32, pcg32_of_seed}

-- The generator of a seed: Pcg32 with the 16 bytes that PCG32 expands the seed to.
abbrev pub generator_of : ℕ → Lcg
generator_of seed = pcg32_of_seed (pcg32_seed 16 seed)

-- The word at place i that a generator gives: the next word after i steps.
unfoldable pub drawn : Lcg → ℕ → ℕ
drawn g i = (pcg32 (advance 64 multiplier_64 i g)).0

-- Word i of the image. Words 0 to 16,398 are samples below 4,096, by the words drawn at places 0 to 16,398. Words
-- 16,400 to 16,415 are taps from 1 to 16, by those at places 16,399 to 16,414. Word 32,810 is the limit below
-- 1,048,576, by that at place 16,415. All others are 0.
abbrev pub made_word : Lcg → ℕ → ℕ
made_word g i =
    if nat_lt i 16399 then drawn g i % 4096
    else if nat_le 16400 i && nat_lt i 16416 then 1 + drawn g (16399 + (i - 16400)) % 16
    else if i == 32810 then drawn g 16415 % 1048576
    else 0

-- The image of a seed: 32,816 words.
unfoldable pub made_image : ℕ → List ℕ
made_image seed = map (made_word (generator_of seed)) (range_with_len 0 32816)
