use Rattle.std.proofs.Common.{refl}
use Rattle.plural_generator.specs.Kernels.{quiet_text}
use Rattle.plural_generator.proofs.kernels.quiet.Goals as goal

-- The kernel's lines stand one after the other.
pub returns : goal.returns
unfolding quiet_text
returns c = refl
