-- The one-line texts of the program, each ended by a line end.
use Rattle.std.specs.Prelude.{ℕ, List, codes}

-- The line for words that name no command.
abbrev pub usage_text : List ℕ
usage_text =
    codes "usage: plural run --cores N [--order SEED] | serial | check | asm | dis | make SEED [--cores N] | verify\n"

-- The line for an input that is too long.
abbrev pub too_long_text : List ℕ
too_long_text = codes "fault: input longer than 16777216 bytes\n"

-- The line for an input of `verify` that is too long.
abbrev pub verify_too_long_text : List ℕ
verify_too_long_text = codes "fault: input longer than 67108864 bytes\n"
