use Rattle.std.proofs.Common.{◌≡◌, ℕ, ◌+◌, ◌-◌, ◌*◌, ◌<◌, ◌≤◌, ap, ◌∙◌, subst, sym, arith, length, slice_index}
use Rattle.plural_rule.specs.Opening.{Opening, task_count, quota_of}
use Rattle.plural_rule.specs.Layout.{alloc_at, field_at}
use Rattle.plural_rule.specs.declared.view.Stage.TheVariants.{Free}
use Rattle.plural_words.specs.Tells.{Token}
use Rattle.plural_words.specs.Places.{HasRecord, IsPlaceOf}
use Rattle.plural_words.specs.declared.place.Place.{Place}
use Rattle.plural_words.proofs.Tokens.{inside_of, key_of, view_of}
use Rattle.plural_words.proofs.Limits.{quota_low, handed_low, place_is}
use Rattle.plural_words.proofs.AllocSteps.{Exchange, exchange_allowed, exchange_told}
use Rattle.plural_words.proofs.words.Words.swap_alloc.Goals as goal
use Rattle.plural_words.proofs.words.Words.swap_alloc.Goals.{After-compare_exchange-found}

-- The place of the instance's record is far below 2^64.
pub overflow_add-place : goal.overflow_add-place
overflow_add-place c =
    let small = key_of (λ (o : Opening). c.args.t < task_count o.program) c.self.view_is c.requires.task in
    let high = key_of (λ (o : Opening). c.args.from ≤ quota_of o.program c.args.t) c.self.view_is c.requires.left.1 in
    let low = handed_low _ _ _ _ _ c.self.invariant.0 small c.requires.left.0 high in
    let place = ap (λ (x : Place). x.records) (c.index.ensures ∙ place_is _ _ _ _ c.index.result.now c.self.invariant.0 small) in
    record { fits = omega (arith, place, low.low, low.here) }

-- The alloc word of the task may be exchanged.
pub compare_exchange-found-requires : goal.compare_exchange-found-requires
compare_exchange-found-requires c =
    let is = inside_of c.self.view_is c.seat.view_is c.requires.of in
    let at = key_of (λ (o : Opening). c.alloc_index-index.result ≡ alloc_at o.program c.args.t) c.self.view_is c.alloc_index-index.ensures in
    let small = key_of (λ (o : Opening). c.args.t < task_count o.program) c.self.view_is c.requires.task in
    let high = key_of (λ (o : Opening). c.args.from ≤ quota_of o.program c.args.t) c.self.view_is c.requires.left.1 in
    let free = view_of (λ v. v.stage ≡ Free) c.seat.view_is c.requires.free in
    let known = view_of (λ v. slice_index v.found c.args.t ≡ c.args.from) c.seat.view_is c.requires.from in
    let words = c.self.invariant.1 in
    (is.table, omega (arith, words, at, small), exchange_allowed _ _ _ _ _ c.args.t _ _ is.view.opening is.role free known c.requires.left.0 at small high)

-- What the exchange tells.
told : (c : After-compare_exchange-found) → Exchange c.self.inside.table.shared.key c.seat.inside.token.me c.args.t c.args.from c.compare_exchange-found.result c.compare_exchange-found.new.seat.me
told c =
    let is = inside_of c.self.view_is c.seat.view_is c.requires.of in
    let at = key_of (λ (o : Opening). c.alloc_index-index.result ≡ alloc_at o.program c.args.t) c.self.view_is c.alloc_index-index.ensures in
    let small = key_of (λ (o : Opening). c.args.t < task_count o.program) c.self.view_is c.requires.task in
    exchange_told _ _ _ 0 c.args.t _ _ _ is.view.opening at small c.compare_exchange-found.ensures.2

-- The record of the seat is that of the instance that it was handed.
pub invariant_of-seat : goal.invariant_of-seat
invariant_of-seat c =
    let d = (goal.at.invariant_of-seat c).After-compare_exchange-found in
    let is = inside_of d.self.view_is d.seat.view_is d.requires.of in
    let small = key_of (λ (o : Opening). d.args.t < task_count o.program) d.self.view_is d.requires.task in
    let high = key_of (λ (o : Opening). d.args.from ≤ quota_of o.program d.args.t) d.self.view_is d.requires.left.1 in
    let low = handed_low _ _ _ _ _ d.self.invariant.0 small d.requires.left.0 high in
    let place = ap (λ (x : Place). x.records) (d.index.ensures ∙ place_is _ _ _ _ d.index.result.now d.self.invariant.0 small) in
    let here : d.index.result.now.records + 8 * (d.args.from - 1) ≡ field_at d.self.inside.table.shared.key.program d.args.t 0 0 + 8 * (d.args.from - 1) = ap (λ (x : ℕ). x + 8 * (d.args.from - 1)) place in
    let own : HasRecord d.self.inside.table.shared.key.program d.args.t (d.args.from - 1) (d.index.result.now.records + 8 * (d.args.from - 1)) = subst (λ (x : ℕ). HasRecord d.self.inside.table.shared.key.program d.args.t (d.args.from - 1) x) (sym here) low in
    let seen = subst (λ (o : Opening). HasRecord o.program d.args.t (d.args.from - 1) (d.index.result.now.records + 8 * (d.args.from - 1))) (sym is.view.opening) own in
    let now = (told d).1 c.if-found-old.true in
    subst (λ (m : Token). (length m.1 ≡ 0) × IsPlaceOf m.0.opening.program m.0.stage (d.index.result.now.records + 8 * (d.args.from - 1)) d.seat.inside.last) (sym now) (d.seat.invariant.0, seen)

-- What the exchange found has 32 bits.
pub overflow_cast-result : goal.overflow_cast-result
overflow_cast-result c =
    let d = (goal.at.overflow_cast-result c).After-compare_exchange-found in
    let small = key_of (λ (o : Opening). d.args.t < task_count o.program) d.self.view_is d.requires.task in
    record { fits = omega (arith, (told d).0, quota_low _ _ d.self.invariant.0 small) }
