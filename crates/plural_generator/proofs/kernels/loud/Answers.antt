use Rattle.std.proofs.Common.{refl}
use Rattle.plural_generator.specs.Kernels.{loud_text}
use Rattle.plural_generator.proofs.kernels.loud.Goals as goal

-- The kernel's lines stand one after the other.
pub returns : goal.returns
unfolding loud_text
returns c = refl
