-- The regions that an instance used last. (This project's own; no section of a standard.)
use Rattle.std.specs.Prelude.{ℕ, ◌≡◌, Bool, true, List}
use Rattle.plural_regions.specs.Rights.{may_read, may_write}
use Rattle.plural_regions.specs.Windows.{has}
use Rattle.plural_regions.specs.declared.region.Region.{Region}
use Rattle.plural_regions.specs.declared.window.Window.{Window}
use Rattle.plural_core.specs.declared.guard.Recent.{Recent}

-- Each word of the window passes this test.
abbrev pub Passes : (ℕ → Bool) → Window → Type 0
Passes test w = (a : ℕ) → has w a ≡ true → test a ≡ true

-- Instance k may read each word of the windows read last, and may write each word of the one written last.
pub record IsRecent (regions : List Region) (k : ℕ) (recent : Recent) : Type 0 where
  pub read : Passes (may_read regions k) recent.read
  pub other : Passes (may_read regions k) recent.other
  pub write : Passes (may_write regions k) recent.write
