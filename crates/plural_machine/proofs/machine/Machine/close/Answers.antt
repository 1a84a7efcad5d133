use Rattle.std.proofs.Common.{◌≡◌, ap, sym, ◌∙◌, subst}
use Rattle.plural_rule.specs.Opening.{Opening}
use Rattle.plural_rule.specs.Last.{HasTold}
use Rattle.plural_rule.specs.declared.view.View.{View}
use Rattle.plural_machine.specs.Machines.{MachineSeen, IsRunnable}
use Rattle.plural_machine.proofs.machine.Machine.close.Goals as goal

-- The closed words are those of a whole run.
pub of-requires-clause-run : goal.of-requires-clause-run
of-requires-clause-run c =
    let o : Opening = c.close-closed.result.opening in
    let is : o ≡ c.self.inside.words.opening = c.close-closed.ensures.opening in
    let run : IsRunnable o = subst (λ (p : Opening). IsRunnable p) (sym is) c.self.invariant.runnable in
    let own : c.args.self.opening ≡ o = ap (λ (m : MachineSeen). m.opening) (sym c.self.view_is) ∙ sym is in
    let root : c.args.self.root ≡ c.close-closed.result.root = ap (λ (m : MachineSeen). m.root) (sym c.self.view_is) ∙ sym c.close-closed.ensures.root in
    record {
      program = run.program;
      opening = run.opening;
      some_core = run.some_core;
      few_cores = run.few_cores;
      closed = c.close-closed.ensures.closed;
      told = subst (λ (v : View). HasTold o v) root (subst (λ (p : Opening). HasTold p c.args.self.root) own c.requires.told);
    }
