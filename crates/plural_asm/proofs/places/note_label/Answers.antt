use Rattle.std.proofs.Common.{sym}
use Rattle.plural_asm.proofs.LabelPlaces.{noted_false}
use Rattle.plural_asm.proofs.places.note_label.Goals as goal

-- A line without a label leaves the places.
pub returns-in-None : goal.returns-in-None
returns-in-None c = λ q. rw c.in-None.is (sym (noted_false _ c.args.place))
