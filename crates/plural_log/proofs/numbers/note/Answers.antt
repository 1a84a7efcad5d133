use Rattle.std.proofs.Common.{◌≡◌, sym, ◌∙◌}
use Rattle.std.proofs.lemmas.Slice.Eq.{bytes_eq-Decides}
use Rattle.plural_log.proofs.NameNumbers.{noted_at}
use Rattle.plural_log.proofs.numbers.note.Goals as goal

-- The name has its number now, and the others have theirs.
pub returns-in_ok-insert-clause-ok : goal.returns-in_ok-insert-clause-ok
returns-in_ok-insert-clause-ok c = λ q. noted_at _ _ c.args.name.now q c.args.t (c.in_ok-insert.ensures.updates.0 q)
    (λ h. let same : c.args.name.now ≡ q = (bytes_eq-Decides c.args.name.now q).0 h in rw (← same) (sym c.contains_key.ensures ∙ c.if-not-contains_key.true))
