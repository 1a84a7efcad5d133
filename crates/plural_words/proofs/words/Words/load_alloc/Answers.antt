use Rattle.std.proofs.Common.{◌<◌, ◌≡◌, ap, ◌∙◌, subst, sym, refl, arith, length, length-set}
use Rattle.plural_rule.specs.Opening.{Opening, task_count}
use Rattle.plural_rule.specs.Layout.{alloc_at}
use Rattle.plural_words.specs.Tells.{Token}
use Rattle.plural_words.specs.Places.{IsPlaceOf}
use Rattle.plural_words.proofs.Tokens.{inside_of, key_of, view_kept, seat_kept}
use Rattle.plural_words.proofs.Limits.{quota_low}
use Rattle.plural_words.proofs.AllocSteps.{Look, look_allowed, look_told}
use Rattle.plural_words.proofs.words.Words.load_alloc.Goals as goal
use Rattle.plural_words.proofs.words.Words.load_alloc.Goals.{After-load}

-- The alloc word of the task may be loaded.
pub load-requires : goal.load-requires
load-requires c =
    let is = inside_of c.self.view_is c.seat.view_is c.requires.of in
    let at = key_of (λ (o : Opening). c.alloc_index-index.result ≡ alloc_at o.program c.args.t) c.self.view_is c.alloc_index-index.ensures in
    let small = key_of (λ (o : Opening). c.args.t < task_count o.program) c.self.view_is c.requires.task in
    let words = c.self.invariant.1 in
    (is.table, omega (arith, words, at, small), look_allowed _ _ _ _ _ c.args.t _ is.view.opening is.role at small)

told : (c : After-load) → Look c.self.inside.table.shared.key c.seat.inside.token.me c.args.t c.load.result c.load.new.seat.me
told c =
    let is = inside_of c.self.view_is c.seat.view_is c.requires.of in
    let at = key_of (λ (o : Opening). c.alloc_index-index.result ≡ alloc_at o.program c.args.t) c.self.view_is c.alloc_index-index.ensures in
    let small = key_of (λ (o : Opening). c.args.t < task_count o.program) c.self.view_is c.requires.task in
    look_told _ _ _ 0 c.args.t _ _ is.view.opening at small c.load.ensures.2

-- It has 32 bits.
pub overflow_cast-result : goal.overflow_cast-result
overflow_cast-result c = let d = (goal.at.overflow_cast-result c).After-load in record { fits = omega (arith, (told d).2, quota_low _ _ d.self.invariant.0 (key_of (λ (o : Opening). c.args.t < task_count o.program) d.self.view_is d.requires.task)) }

-- The seat's record stays where it was.
pub invariant_of-seat : goal.invariant_of-seat
invariant_of-seat c = let t = told c in
    subst (λ (m : Token). (length m.1 ≡ 0) × IsPlaceOf m.0.opening.program m.0.stage c.seat.inside.record_place c.seat.inside.last) (sym t.0) c.seat.invariant

-- The seat is still of these words.
pub returns-clause-of : goal.returns-clause-of
returns-clause-of c = let d = (goal.at.returns-clause-of c).After-load in
    let same = (told d).0 in
    seat_kept d.self.view_is d.seat.view_is d.requires.of d.load.ensures.0 refl
    (λ v. view_kept v (ap (λ (m : Token). m.0.opening) same) (ap (λ (m : Token). length m.0.found) same ∙ length-set _ _ _) (ap (λ (m : Token). length m.0.looks) same ∙ length-set _ _ _) (ap (λ (m : Token). length m.0.losses) same))
    (ap (λ (m : Token). m.0.role) same)
