use Rattle.std.proofs.Common.{◌≡◌, ◌+◌, ◌*◌, ap, ◌∙◌, subst, sym, get_or, arith}
use Rattle.std.specs.Slots.{slots_items}
use Rattle.plural_counters.specs.Laws.{outcome_of_state, outcome_of_flags}
use Rattle.plural_rule.specs.Opening.{outcome_of}
use Rattle.plural_words.specs.Closing.{ClosedSeen, HasToldTask}
use Rattle.plural_words.proofs.Closes.{word_at, told_task, unarmed_outcome, armed_outcome}
use Rattle.plural_words.proofs.closed.Closed.outcome.Goals as goal
use Rattle.plural_words.proofs.closed.Closed.outcome.Goals.{After-word}

told : (c : After-word) → HasToldTask c.self.inside.root.value.me.0 c.args.t
told c = subst (λ (x : ClosedSeen). HasToldTask x.root c.args.t) (sym c.self.view_is) c.requires.told

-- The alloc word of the task is one of the words.
pub word-requires : goal.word-requires
word-requires c =
    let told = subst (λ (x : ClosedSeen). HasToldTask x.root c.args.t) (sym c.self.view_is) c.requires.told in
    let small = told_task _ c.args.t c.self.invariant.2 told in
    let first = c.self.invariant.1.places.next in
    (omega (arith, small, first, c.self.invariant.0.2), c.self.invariant.0.0)

-- So is its state.
pub word-requires-then-word-eq0 : goal.word-requires-then-word-eq0
word-requires-then-word-eq0 c =
    let d = (goal.at.word-requires-then-word-eq0 c).After-word in
    let small = told_task _ d.args.t d.self.invariant.2 (told d) in
    let first = d.self.invariant.1.places.next in
    (omega (arith, small, first, d.self.invariant.0.2), d.self.invariant.0.0)

-- So are its flags.
pub word-requires-else-word-eq0 : goal.word-requires-else-word-eq0
word-requires-else-word-eq0 c =
    let d = (goal.at.word-requires-else-word-eq0 c).After-word in
    let small = told_task _ d.args.t d.self.invariant.2 (told d) in
    let first = d.self.invariant.1.places.next in
    (omega (arith, small, first, d.self.invariant.0.2), d.self.invariant.0.0)

-- The state of a task that wasn't armed says its outcome.
pub returns-then-word-eq0 : goal.returns-then-word-eq0
returns-then-word-eq0 c =
    let d = (goal.at.returns-then-word-eq0 c).After-word in
    let first = d.self.invariant.1.places.next in
    let words = slots_items d.self.inside.inner.words in
    let was : get_or words (d.self.inside.counters + 5 * d.args.t) 0 ≡ 0 = omega (arith, word_at words (d.self.inside.counters + 5 * d.args.t) d.word.result d.word.ensures, c.if-word-eq0.true) in
    let state = word_at words (d.self.inside.counters + 5 * d.args.t + 3) c.word-then-word-eq0.result c.word-then-word-eq0.ensures in
    c.outcome_of_state.ensures ∙ (ap outcome_of_state state ∙ (unarmed_outcome _ d.args.t d.self.invariant.2 (told d) d.self.inside.counters first was ∙ ap (λ (x : ClosedSeen). outcome_of x.opening d.args.t) d.self.view_is))

-- The flags of a task that was armed say its outcome.
pub returns-else-word-eq0 : goal.returns-else-word-eq0
returns-else-word-eq0 c =
    let d = (goal.at.returns-else-word-eq0 c).After-word in
    let first = d.self.invariant.1.places.next in
    let words = slots_items d.self.inside.inner.words in
    let word = word_at words (d.self.inside.counters + 5 * d.args.t) d.word.result d.word.ensures in
    let flags = word_at words (d.self.inside.counters + 5 * d.args.t + 1) c.word-else-word-eq0.result c.word-else-word-eq0.ensures in
    c.outcome_of_flags.ensures ∙ (ap outcome_of_flags flags ∙ (armed_outcome _ d.args.t d.self.invariant.2 (told d) d.self.inside.counters first (λ z. c.if-word-eq0.false (word ∙ z)) ∙ ap (λ (x : ClosedSeen). outcome_of x.opening d.args.t) d.self.view_is))
