use Rattle.std.proofs.Common.{◌∙◌, ap, take, drop, arith}
use Rattle.plural_bytes.proofs.KnownBytes.{given_is}
use Rattle.plural_bytes.proofs.in_memory.give.Goals as goal

-- What is given and what stays are the bytes from the place on.
pub returns-clause-given : goal.returns-clause-given
returns-clause-given c =
    given_is c.args.bytes.now c.args.into.now c.copy_from_slice.new.self c.args.at c.min-n.result (c.copy_from_slice.ensures.after ∙ ap (λ k. take k (drop c.args.at c.args.bytes.now)) (omega arith)) (omega (arith, c.min-n.ensures))
