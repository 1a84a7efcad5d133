use Rattle.std.proofs.Common.{refl}
use Rattle.plural_generator.specs.Kernels.{fir_text}
use Rattle.plural_generator.proofs.kernels.fir.Goals as goal

-- The kernel's lines stand one after the other.
pub returns : goal.returns
unfolding fir_text
returns c = refl
