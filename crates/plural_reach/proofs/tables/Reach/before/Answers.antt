use Rattle.std.proofs.Common.{◌<◌, length, sym, ◌∙◌, arith}
use Rattle.plural_reach.proofs.DepLemmas.{row_at}
use Rattle.plural_reach.proofs.tables.Reach.before.Goals as goal

-- The answer meets the clause `exact`.
pub returns-clause-exact : goal.returns-clause-exact
returns-clause-exact c = λ tasks is l.
    let within : c.args.u < length c.args.self.now.before = omega arith in
    let e = row_at c.args.self.now.before c.args.u c.args.t (record { low = 0; high = 0 }) within in
    let exact = is.exact c.args.t c.args.u l in
    ((λ h. exact.0 (e ∙ (sym c.has.ensures ∙ h))), (λ b. c.has.ensures ∙ (sym e ∙ exact.1 b)))
