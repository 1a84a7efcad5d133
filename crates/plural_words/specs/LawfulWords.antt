-- What a bus over a lent seat calls lawful is a word of its memory. (This project's own.)
use Rattle.std.specs.Prelude.{ℕ, ◌≡◌, ◌<◌, ◌&&◌, Bool, true, false, length}
use Rattle.std.proofs.Common.{refl, ltb-true}
use Rattle.plural_rule.specs.Opening.{Opening}
use Rattle.plural_rule.specs.declared.view.Stage.{Stage}
use Rattle.plural_words.specs.Stages.{memory_of, may_read}
use Rattle.plural_words.specs.Lent.{told_in}

-- If both tests pass, the first does.
first_passes : (a b : Bool) → a && b ≡ true → a ≡ true
first_passes true b h = refl
first_passes false b h = h

-- A lawful word is a word of the memory.
pub lawful_within : (o : Opening) (s : Stage) (a : ℕ) → (told_in o s).lawful a ≡ true → a < length (memory_of o s)
lawful_within o s a h = ltb-true a (length (memory_of o s)) (first_passes _ (may_read o s a) h)
