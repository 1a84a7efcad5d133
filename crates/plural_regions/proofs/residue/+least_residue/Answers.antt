use Rattle.std.proofs.Common.{◌<◌, ◌%◌, arith}
use Rattle.std.proofs.lemmas.Nat.{mod_below}
use Rattle.plural_regions.proofs.ResidueLemmas.{none_still, none_passes, found_pass, few_passes}
use Rattle.plural_regions.proofs.residue.+least_residue.Goals as goal

-- The answer at `then-step-eq0` meets the clause `none`.
pub returns-then-step-eq0-clause-none : goal.returns-then-step-eq0-clause-none
returns-then-step-eq0-clause-none t c = none_still c.args.n c.args.a c.args.b c.args.m c.args.hi (omega arith) c.if-step-eq0.true c.if-start-hi.false

-- The call of `least_residue` has what it requires.
pub least_residue-requires : goal.least_residue-requires
least_residue-requires t c =
    let positive : 0 < c.args.m = omega arith in
    let step = mod_below c.args.a c.args.m positive in
    let start = mod_below c.args.b c.args.m positive in
    let few = few_passes (c.args.a % c.args.m) (c.args.b % c.args.m) c.args.m c.args.n (omega arith) step start in
    (omega arith, (omega arith, (omega arith, (omega arith, (omega arith, (omega arith, omega arith))))))

-- The answer at `in_err-pass` meets the clause `none`.
pub returns-in_err-pass-clause-none : goal.returns-in_err-pass-clause-none
returns-in_err-pass-clause-none t c = rw c.from_residual.ensures (none_passes c.args.n c.args.a c.args.b c.args.m c.args.hi (omega arith) c.if-start-hi.false c.in_err-pass.ensures.none)

-- The answer meets the clause `found`.
pub returns-clause-found : goal.returns-clause-found
returns-clause-found t c = found_pass c.args.n c.args.a c.args.b c.args.m c.args.hi c.in_ok-pass.pass (omega arith) (omega arith) c.if-start-hi.false (omega arith) c.in_ok-pass.ensures.found
