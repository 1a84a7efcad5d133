use Rattle.std.proofs.Common.{◌≡◌, ◌∙◌, sym, arith, true, false}
use Rattle.std.specs.Prelude.{slice_index}
use Rattle.plural_trace.proofs.RecordPlaces.{not_of_them, not_there}
use Rattle.plural_trace.proofs.records.place_of.Goals as goal
use Rattle.plural_trace.proofs.records.place_of.Goals.{else-place-records-via-then-place-records+else-is_same_record, else-place-records-via-else-place-records}

-- The answer at `then-rec-begins` meets the clause `none`.
pub returns-then-rec-begins-clause-none : goal.returns-then-rec-begins-clause-none
returns-then-rec-begins-clause-none c = not_of_them _ c.args.records.now c.args.rec.now c.requires.tasks c.if-rec-begins.true

-- The answer at `else-place-records` meets the clause `none`.
pub returns-else-place-records-clause-none : goal.returns-else-place-records-clause-none
returns-else-place-records-clause-none c =
    not_there (λ t. slice_index c.args.begins.now t) c.args.records.now c.args.rec.now c.requires.begins (λ l same.
    elim c.else-place-records.branch [
      | else-place-records-via-then-place-records+else-is_same_record w ↦ let f : false ≡ true = sym w.if-is_same_record.false ∙ w.is_same_record.ensures ∙ same in cc
      | else-place-records-via-else-place-records w ↦ let le = w.if-place-records.false in omega arith
    ])
