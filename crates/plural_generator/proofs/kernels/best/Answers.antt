use Rattle.std.proofs.Common.{refl}
use Rattle.plural_generator.specs.Kernels.{best_text}
use Rattle.plural_generator.proofs.kernels.best.Goals as goal

-- The kernel's lines stand one after the other.
pub returns : goal.returns
unfolding best_text
returns c = refl
