use Rattle.std.proofs.Common.{◌≡◌, ℕ, suc, ◌+◌, List, ◌∷◌, ap, sym, subst, ◌∙◌, arith}
use Rattle.std.proofs.lemmas.List.Elements.{All-push}
use Rattle.std.specs.List.{All}
use Rattle.plural_machine.specs.Knowing.{numbers_below}
use Rattle.plural_machine.proofs.Outs.{none_from}
use Rattle.plural_order.specs.Sums.{times}
use Rattle.plural_tests.specs.Workers.{IsIdle}
use Rattle.plural_tests.specs.declared.alloc.Worker.{Worker}
use Rattle.plural_tests.proofs.alloc.workers_of.Goals as goal

-- The numbers of the seats that are out are all less.
pub worker_of-requires-clause-away : goal.worker_of-requires-clause-away
worker_of-requires-clause-away c =
    ap (times c.loop-i.i) c.loop-i.invariant.1 ∙ none_from c.loop-i.i c.loop-i.i (omega arith)

-- One more seat is out, and one more worker is idle.
pub loop-i-preserved : goal.loop-i-preserved
loop-i-preserved c =
    let next : suc c.loop-i.i ≡ c.loop-i.i + 1 = omega arith in
    let P : Worker → Type 0 = λ w. IsIdle c.args.words.now w.seat w.engine in (
      c.worker_of.ensures.of,
      c.in_ok-worker_of.ensures.out ∙ (ap (λ (l : List ℕ). c.loop-i.i ∷ l) c.loop-i.invariant.1 ∙ ap numbers_below next),
      subst (λ (l : List Worker). All P l) (sym {A = List Worker} c.in_ok-push.ensures.items)
          (All-push P c.loop-i.workers.items c.in_ok-worker_of.field-0 c.loop-i.invariant.2 c.in_ok-worker_of.ensures.idle),
    )
