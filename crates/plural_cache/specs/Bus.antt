-- What a bus does in a step. (This project's own; no section of a standard.)
use Rattle.std.specs.Prelude.{ℕ, ◌≡◌, ◌+◌}
use Rattle.plural_base.specs.Told.{Told, Counted, with_store}

-- The bus has read n words, and nothing else of it changed.
pub record Reads {B : Type 0} (told : B → Told) (counts : B → Counted) (keeps : B → B → Type 0) (is_sound : B → Type 0)
    (n : ℕ) (old new : B) : Type 0 where
  pub same : told new ≡ told old
  pub read : (counts new).reads ≡ (counts old).reads + n
  pub written : (counts new).writes ≡ (counts old).writes
  pub kept : keeps old new
  pub sound : is_sound new

-- The bus has written v at word a, which is gone from the stores expected, and nothing else of it changed.
pub record Writes {B : Type 0} (told : B → Told) (counts : B → Counted) (keeps : B → B → Type 0) (is_sound : B → Type 0)
    (a v : ℕ) (old new : B) : Type 0 where
  pub stored : told new ≡ with_store a v (told old)
  pub read : (counts new).reads ≡ (counts old).reads
  pub written : (counts new).writes ≡ (counts old).writes + 1
  pub kept : keeps old new
  pub sound : is_sound new
