-- A region as one instance has it: a half-open range of words. (This project's own; no section of a standard.)
use Rattle.std.specs.Prelude.{ℕ, ◌+◌, ◌*◌, Bool, ◌&&◌, nat_lt, nat_le}
use Rattle.plural_regions.specs.declared.region.Region.{Region}
use Rattle.plural_regions.specs.declared.window.Window.{Window}

-- The words that instance k has of a region.
abbrev pub window_of : ℕ → Region → Window
window_of k r = record { first = r.base + r.stride * k; past = r.base + r.stride * k + r.count }

-- The test for being a word of a window.
abbrev pub has : Window → ℕ → Bool
has w a = nat_le w.first a && nat_lt a w.past
