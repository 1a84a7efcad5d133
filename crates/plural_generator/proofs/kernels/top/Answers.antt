use Rattle.std.proofs.Common.{refl}
use Rattle.plural_generator.specs.Kernels.{top_text}
use Rattle.plural_generator.proofs.kernels.top.Goals as goal

-- The kernel's lines stand one after the other.
pub returns : goal.returns
unfolding top_text
returns c = refl
