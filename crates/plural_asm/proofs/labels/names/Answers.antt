use Rattle.std.proofs.Common.{Some, None, ◌∷◌, [], ◌++◌, ap, sym, ◌∙◌}
use Rattle.std.proofs.lemmas.List.{append-nil}
use Rattle.plural_asm.proofs.LineSums.{names_more}
use Rattle.plural_asm.proofs.labels.names.Goals as goal
use Rattle.plural_asm.proofs.labels.names.Goals.{in-Some+in_ok-push-in-Some, in-None}

-- One more line adds its name, if it has one.
pub loop-line-preserved : goal.loop-line-preserved
loop-line-preserved c = elim c.match-label_of.branch [
  | in-Some+in_ok-push-in-Some w ↦
      rw w.names-is
      (w.in_ok-push-in-Some.ensures.items ∙ ap (λ ns. ns ++ w.in-Some.name ∷ []) c.loop-line.invariant ∙ sym (names_more c.args.lines.now c.loop-line.line-index _ (Some w.in-Some.name) c.loop-line-test.true (sym w.in-Some.is ∙ c.label_of.ensures)))
  | in-None w ↦ rw w.names-is (c.loop-line.invariant ∙ sym (names_more c.args.lines.now c.loop-line.line-index _ None c.loop-line-test.true (sym w.in-None.is ∙ c.label_of.ensures) ∙ append-nil _))
]
