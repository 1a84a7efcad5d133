use Rattle.std.proofs.Common.{refl}
use Rattle.plural_generator.specs.Kernels.{done_text}
use Rattle.plural_generator.proofs.kernels.done.Goals as goal

-- The kernel's lines stand one after the other.
pub returns : goal.returns
unfolding done_text
returns c = refl
