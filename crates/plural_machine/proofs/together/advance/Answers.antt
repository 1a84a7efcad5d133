use Rattle.std.proofs.Common.{◌<◌, ap, sym, ◌∙◌, subst, arith, length}
use Rattle.plural_cores.specs.Cores.{CoreSeen, IsReady, HasLeft}
use Rattle.plural_machine.specs.Together.{ComesBack}
use Rattle.plural_machine.proofs.together.advance.Goals as goal

-- Each core has left, with its seat.
pub returns-clause-back : goal.returns-clause-back
returns-clause-back g c = λ first sent. record {
  at = λ i d h.
      let low : i < length c.args.cores.now = omega (arith, h, c.for_each_mut.auto.s) in
      let r = (c.for_each_mut.ensures i d low).1 in
      let was = sent.at i d low in
      let q : ComesBack c.args.words.now r.argument.now r.after_call.now = r.call in
      let ready : IsReady c.args.words.now first r.argument.now = subst (λ (x : CoreSeen). IsReady c.args.words.now first x) (sym r.argument_is) was.ready in
      record {
        number = ap (λ (x : CoreSeen). x.number) (sym r.left) ∙ (q.number ∙ (ap (λ (x : CoreSeen). x.number) r.argument_is ∙ was.number));
        left = subst (λ (x : CoreSeen). HasLeft c.args.words.now first x) r.left (q.back first ready);
      };
}
