use Rattle.std.proofs.Common.{◌+◌, ◌++◌, ◌∷◌, [], List, ap, ◌∙◌, subst, sym, arith}
use Rattle.plural_trace.specs.declared.entry.Entry.{Entry}
use Rattle.plural_finished.specs.Finishing.{IsDone}
use Rattle.plural_finished.specs.Entering.{HasEntered}
use Rattle.plural_finished.proofs.Entered.{room_left, done_entered}
use Rattle.plural_finished.proofs.entering.enter.Goals as goal

-- The instance is done.
pub entry-requires-clause-done : goal.entry-requires-clause-done
entry-requires-clause-done c = record { inst = c.requires.instance; done = omega (arith, c.record.ensures, c.if-record-ne0.true) }

-- There is room for one entry more.
pub push_reserved-requires : goal.push_reserved-requires
push_reserved-requires c = let v = c.args.entries.now in omega (arith, room_left _ _ _ _ c.requires.entered c.requires.instance, c.requires.room, v.ok)

-- Its entry was added.
pub returns-then-record-ne0-clause-entered : goal.returns-then-record-ne0-clause-entered
returns-then-record-ne0-clause-entered c =
    let done : IsDone c.args.closed.now c.args.t c.args.k = record { inst = c.requires.instance; done = omega (arith, c.record.ensures, c.if-record-ne0.true) } in
    let list = c.push_reserved.ensures.items ∙ ap (λ (e : Entry). c.args.entries.now.items ++ e ∷ []) c.entry.ensures in
    subst (λ (es : List Entry). HasEntered c.args.closed.now c.args.t (c.args.k + 1) es) (sym list) (done_entered _ _ _ _ c.requires.entered done)
