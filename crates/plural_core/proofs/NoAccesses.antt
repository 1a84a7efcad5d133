-- Steps without accesses.
use Rattle.std.proofs.Common.{ℕ, ◌≡◌, ◌%◌, List, [], Bool, true, false, if◌then◌else◌, ◌==◌, arith, refl, ap, append-nil}
use Rattle.std.specs.Prelude.{ℤ}
use Rattle.plural_base.specs.Told.{Told, Counted}
use Rattle.plural_core.specs.Arithmetic.{word, sum_of}
use Rattle.plural_core.specs.Act as a
use Rattle.plural_core.specs.Act.{branch}
use Rattle.plural_core.specs.Turn.{State, Place, Step, does}
use Rattle.plural_core.specs.Port.{Makes}
use Rattle.plural_core.proofs.Lives.{after_none}

-- A step leaves the memory as it is, and makes no access.
pub record IsQuiet (m : List ℕ) (d : Step) : Type 0 where
  pub memory : d.memory ≡ m
  pub loads : d.loads ≡ []
  pub stores : d.stores ≡ []

-- A branch makes no access.
pub branch_quiet : (p : Place) (s : State) (m x : List ℕ) (pc : ℕ) (taken : Bool) (offset : ℤ) → IsQuiet m (does p s m (branch x pc taken offset))
branch_quiet p s m x pc false offset = record { memory = refl; loads = refl; stores = refl }
branch_quiet p s m x pc true offset =
    elim (sum_of pc (word offset) % 4 == 0) as (λ b. IsQuiet m (does p s m (if b then a.Go x (sum_of pc (word offset)) else a.Trap 3))) [
      | true ↦ record { memory = refl; loads = refl; stores = refl }
      | false ↦ record { memory = refl; loads = refl; stores = refl }
    ]

-- A port that does nothing makes such a step.
module _ {P : Type 0} (told : P → Told) (counts : P → Counted) (stands_for : P → List ℕ → Type 0) (keeps : P → P → Type 0) (is_sound : P → Type 0) where
  pub quiet : (x : P) (d : Step) → IsQuiet (told x).words d → keeps x x → is_sound x → Makes told counts stands_for keeps is_sound x x d
  quiet x d q none h = record {
    stored = rw (q.stores, q.memory) (ap (λ e. let r : Told = record { words = (told x).words; lawful = (told x).lawful; expects = e } in r) (after_none (told x).expects));
    stands = λ l s. rw (q.loads, append-nil) s;
    read = rw q.loads (omega arith);
    written = rw q.stores (omega arith);
    kept = none;
    sound = h;
  }
