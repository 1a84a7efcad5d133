-- Flags that tell of each number whether it is one of a list.
use Rattle.std.proofs.Common.{◌≡◌, Bool, false, List, [], sym, subst, ⊎_elim}
use Rattle.std.proofs.Math.ListN.{replicate}
use Rattle.std.proofs.lemmas.Bool.{cases_lt}
use Rattle.std.proofs.lemmas.List.{get_or-replicate, get_or_past, length-replicate}
use Rattle.plural_map.specs.Flags.{Tells}

none_up : Tells (replicate 256 false) []
none_up = record { count = length-replicate 256 false; each = λ t. ⊎_elim (λ l. get_or-replicate 256 t false false l) (λ h. get_or_past (replicate 256 false) t false (rw (length-replicate 256 false) h)) (cases_lt t 256) }

-- Flags of which none is up tell of no number.
pub tells_none : (flags : List Bool) → flags ≡ replicate 256 false → Tells flags []
tells_none flags e = subst (λ (f : List Bool). Tells f []) (sym e) none_up
