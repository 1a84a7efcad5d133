use Rattle.std.proofs.Common.{ℕ, ap, sym, subst, refl, arith}
use Rattle.plural_rule.specs.Opening.{Opening}
use Rattle.plural_rule.specs.Layout.{counters_at}
use Rattle.plural_words.specs.Seen.{SeatSeen}
use Rattle.plural_words.specs.Stages.{IsNoted}
use Rattle.plural_words.proofs.Tokens.{inside_of, key_of, view_of}
use Rattle.plural_words.proofs.InstanceSteps.{record_low, noted_ended, finish_allowed}
use Rattle.plural_words.proofs.words.Words.finish.Goals as goal

-- The last field of the record is far below 2^64.
pub overflow_add-index : goal.overflow_add-index
overflow_add-index c =
    let noted = view_of (λ v. IsNoted c.args.self.now.opening c.args.seat.now.core v.stage) c.seat.view_is c.requires.noted in
    let low = record_low c.seat.inside.token.me.0.opening.program _ _ _ (noted_ended _ _ _ noted) c.seat.invariant.1 in
    record { fits = omega (arith, low.1) }

-- It may be stored.
pub store-requires : goal.store-requires
store-requires c =
    let is = inside_of c.self.view_is c.seat.view_is c.requires.of in
    let noted = view_of (λ v. IsNoted c.self.inside.table.shared.key c.args.seat.now.core v.stage) c.seat.view_is (key_of (λ (o : Opening). IsNoted o c.args.seat.now.core c.args.seat.now.view.stage) c.self.view_is c.requires.noted) in
    let own_noted = subst (λ (x : ℕ). IsNoted c.self.inside.table.shared.key x c.seat.inside.token.me.0.stage) (sym (ap (λ (s : SeatSeen). s.core) c.seat.view_is)) noted in
    let low = record_low c.seat.inside.token.me.0.opening.program _ _ _ (noted_ended _ _ _ noted) c.seat.invariant.1 in
    let same = ap (λ (o : Opening). counters_at o.program) is.view.opening in
    let words = c.self.invariant.1 in
    (is.table, omega (arith, words, low.0, same), finish_allowed _ _ _ _ _ _ _ _ _ is.view.opening is.role own_noted c.seat.invariant.1 refl refl)
