use Rattle.std.proofs.Common.{◌∙◌, ◌-◌, ◌%◌, ap, sym}
use Rattle.std.specs.Prelude.{bit_and}
use Rattle.std.proofs.lemmas.Nat.{and_mask}
use Rattle.plural_cache.proofs.Shapes.{power_of}
use Rattle.plural_cache.proofs.cache.set_index.Goals as goal

-- The answer meets the contract.
pub returns : goal.returns
returns c =
    let p = power_of c.args.sets c.requires in
    ap (λ n. bit_and c.args.line (n - 1)) p.is ∙ and_mask c.args.line p.exponent ∙ ap (λ n. c.args.line % n) (sym p.is)
