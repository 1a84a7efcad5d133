use Rattle.std.proofs.Common.{◌≡◌, ap, refl, sym, subst, length, arith}
use Rattle.plural_rule.specs.Opening.{Opening}
use Rattle.plural_rule.specs.Layout.{counters_at}
use Rattle.plural_rule.specs.Steps.{did_note}
use Rattle.plural_words.specs.Fields.{number_of}
use Rattle.plural_words.specs.Places.{IsPlaceOf}
use Rattle.plural_words.specs.Stages.{IsEnded}
use Rattle.plural_words.specs.Tells.{Token, IsNow}
use Rattle.plural_words.proofs.Tokens.{inside_of, view_of, view_kept, seat_kept}
use Rattle.plural_words.proofs.InstanceSteps.{record_low, note_allowed, noted_place}
use Rattle.plural_words.proofs.words.Words.note.Goals as goal
use Rattle.plural_words.proofs.words.Words.note.Goals.{After-store}

-- The field of the record is far below 2^64.
pub overflow_add-index : goal.overflow_add-index
overflow_add-index c =
    let over = view_of (λ v. IsEnded v.stage) c.seat.view_is c.requires.ended in
    let low = record_low c.seat.inside.token.me.0.opening.program _ _ _ over c.seat.invariant.1 in
    record { fits = omega (arith, low.1, c.number.ensures, c.requires.field) }

-- It may be noted.
pub store-requires : goal.store-requires
store-requires c =
    let is = inside_of c.self.view_is c.seat.view_is c.requires.of in
    let over = view_of (λ v. IsEnded v.stage) c.seat.view_is c.requires.ended in
    let low = record_low c.seat.inside.token.me.0.opening.program _ _ _ over c.seat.invariant.1 in
    let same = ap (λ (o : Opening). counters_at o.program) is.view.opening in
    let words = c.self.invariant.1 in
    (is.table, omega (arith, words, low.0, same, c.number.ensures, c.requires.field), note_allowed _ _ _ _ _ (number_of c.args.field) _ _ _ _ is.view.opening is.role over c.seat.invariant.1 c.requires.field (omega (arith, c.number.ensures)))

told : (c : After-store) → IsNow c.seat.inside.token.me (did_note c.seat.inside.token.me.0 (number_of c.args.field) c.args.value) c.store.new.seat.me
told c =
    let over = view_of (λ v. IsEnded v.stage) c.seat.view_is c.requires.ended in
    let low = record_low c.seat.inside.token.me.0.opening.program _ _ _ over c.seat.invariant.1 in
    c.store.ensures.2 (number_of c.args.field) (omega (arith, low.2, c.number.ensures))

-- The seat's record stays where it was.
pub invariant_of-seat : goal.invariant_of-seat
invariant_of-seat c = subst (λ (m : Token). (length m.1 ≡ 0) × IsPlaceOf m.0.opening.program m.0.stage c.seat.inside.record_place c.seat.inside.last) (sym (told c)) (c.seat.invariant.0, noted_place c.seat.inside.token.me.0.opening.program _ _ _ _ _ c.seat.invariant.1)

-- The seat is still of these words.
pub returns-clause-of : goal.returns-clause-of
returns-clause-of c = let d = (goal.at.returns-clause-of c).After-store in
    let same = told d in
    seat_kept d.self.view_is d.seat.view_is d.requires.of d.store.ensures.0 refl
    (λ v. view_kept v (ap (λ (m : Token). m.0.opening) same) (ap (λ (m : Token). length m.0.found) same) (ap (λ (m : Token). length m.0.looks) same) (ap (λ (m : Token). length m.0.losses) same))
    (ap (λ (m : Token). m.0.role) same)
