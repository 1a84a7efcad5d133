-- Which words an instance may read and write. (This project's own; no section of a standard.)
use Rattle.std.specs.Prelude.{ℕ, ◌≡◌, ◌+◌, ◌*◌, ◌<◌, List, Bool, true, false, ◌&&◌, nat_lt, nat_le, Any}
use Rattle.std.specs.List.{list_any}
use Rattle.plural_regions.specs.declared.region.Region.{Region}
use Rattle.plural_regions.specs.declared.region.Mode.{Mode}
use Rattle.plural_regions.specs.declared.region.Mode.TheVariants as mode

-- Word a is a word of the region for instance k: it is base + stride · k + i for some i below count.
abbrev pub IsIn : Region → ℕ → ℕ → Type 0
IsIn r k a = (i : ℕ) × (i < r.count) × (r.base + r.stride * k + i ≡ a)

-- Instance k may read word a: some region, of either mode, has it.
abbrev pub InReads : List Region → ℕ → ℕ → Type 0
InReads regions k a = Any (λ r. IsIn r k a) regions

-- Instance k may write word a: some write region has it.
abbrev pub InWrites : List Region → ℕ → ℕ → Type 0
InWrites regions k a = Any (λ r. (r.mode ≡ mode.Write) × IsIn r k a) regions

-- The test for being a word of the region: a is between the first word of instance k and the last.
abbrev pub is_in : Region → ℕ → ℕ → Bool
is_in r k a = nat_le (r.base + r.stride * k) a && nat_lt a (r.base + r.stride * k + r.count)

-- Whether a mode is that of a write region.
abbrev pub is_write : Mode → Bool
is_write mode.Read = false
is_write mode.Write = true

-- The test for what instance k may read.
abbrev pub may_read : List Region → ℕ → ℕ → Bool
may_read regions k a = list_any (λ r. is_in r k a) regions

-- The test for what instance k may write.
abbrev pub may_write : List Region → ℕ → ℕ → Bool
may_write regions k a = list_any (λ r. is_write r.mode && is_in r k a) regions
