-- One word of the image, by the generator as it stands when the word's turn comes.
use Rattle.std.specs.Prelude.{ℕ, ◌+◌, ◌%◌, ◌&&◌, ◌||◌, ◌==◌, nat_lt, nat_le, if◌then◌else◌}
use Rattle.rand_pcg.specs.Lcg.{Lcg}
use Rattle.rand_pcg.specs.Pcg.{pcg32}

-- Word i. If its number is drawn, it is by the generator's next word.
abbrev pub word_by : Lcg → ℕ → ℕ
word_by g i =
    if nat_lt i 16399 then (pcg32 g).0 % 4096
    else if nat_le 16400 i && nat_lt i 16416 then 1 + (pcg32 g).0 % 16
    else if i == 32810 then (pcg32 g).0 % 1048576
    else 0

-- The generator after word i: one step further if the word is drawn.
abbrev pub generator_after : Lcg → ℕ → Lcg
generator_after g i = if nat_lt i 16399 || (nat_le 16400 i && nat_lt i 16416) || i == 32810 then (pcg32 g).1 else g
