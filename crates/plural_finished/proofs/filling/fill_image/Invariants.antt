use Rattle.std.proofs.Common.{◌≡◌, take, vec_capacity, vec_len}
use Rattle.plural_finished.proofs.filling.fill_image.Given as goal

abbrev pub invariant-loop-a : goal.invariant-loop-a
invariant-loop-a l = (l.image.items ≡ take l.a l.closed.words) × (vec_len l.image ≡ l.a) × (vec_capacity l.image ≡ vec_capacity l.fn.image)
