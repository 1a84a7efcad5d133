use Rattle.std.proofs.Common.{◌≡◌, ap, sym, ◌∙◌}
use Rattle.std.specs.Prelude.{is_some}
use Rattle.std.specs.BTreeMap.{get_by}
use Rattle.std.specs.Cmp.Lexicographic.{slice_cmp}
use Rattle.std.specs.Ordering.{nat_cmp}
use Rattle.std.proofs.lemmas.Slice.Eq.{bytes_eq-Decides}
use Rattle.plural_asm.proofs.LabelPlaces.{noted_at, noted_again}
use Rattle.plural_asm.proofs.places.note.Goals as goal

-- A new label gets the place.
pub returns-in-None : goal.returns-in-None
returns-in-None c = λ q. noted_at _ _ c.args.name q c.args.place (c.in_ok-insert.ensures.updates.0 q)
    (λ h. let same : c.args.name ≡ q = (bytes_eq-Decides c.args.name q).0 h in rw (← same) (ap is_some (sym c.in_ok-insert.ensures.old ∙ c.in-None.is)))

-- Another one keeps its first.
pub returns-in_ok-insert-in-Some : goal.returns-in_ok-insert-in-Some
returns-in_ok-insert-in-Some c =
    λ q. noted_again (get_by (λ k. slice_cmp nat_cmp q k) c.args.places.now) (get_by (λ k. slice_cmp nat_cmp q k) c.insert.new.self) (get_by (λ k. slice_cmp nat_cmp q k) c.insert-in-Some.new.self) c.args.name q c.args.place c.in-Some.first
    (c.in_ok-insert.ensures.updates.0 q) (c.in_ok-insert-in-Some.ensures.updates.0 q)
    (λ h. let same : c.args.name ≡ q = (bytes_eq-Decides c.args.name q).0 h in rw (← same) (sym c.in_ok-insert.ensures.old ∙ c.in-Some.is))
