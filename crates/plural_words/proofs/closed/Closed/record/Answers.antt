use Rattle.std.proofs.Common.{◌≡◌, ℕ, ◌+◌, ◌*◌, ap, ◌∙◌, subst, sym, get_or, arith}
use Rattle.std.specs.Slots.{slots_items}
use Rattle.plural_rule.specs.Opening.{IsInstance}
use Rattle.plural_rule.specs.Layout.{field_at}
use Rattle.plural_rule.proofs.Writes.{field_low}
use Rattle.plural_words.specs.Closing.{ClosedSeen}
use Rattle.plural_words.specs.Fields.{number_of}
use Rattle.plural_words.specs.declared.place.Place.{Place}
use Rattle.plural_words.proofs.Limits.{counters_low, place_is, number_low}
use Rattle.plural_words.proofs.Closes.{word_at}
use Rattle.plural_words.proofs.closed.Closed.record.Goals as goal

-- The place of the instance's record is far below 2^64.
pub overflow_add-index : goal.overflow_add-index
overflow_add-index c =
    let inst = subst (λ (x : ClosedSeen). IsInstance x.opening.program c.args.t c.args.k) (sym c.self.view_is) c.requires.instance in
    let p = c.self.inside.table.value.shared.key.program in
    let place = ap (λ (x : Place). x.records) (c.index.ensures ∙ place_is p _ _ _ c.index.result.now c.self.invariant.1 inst.0) in
    record { fits = omega (arith, place, field_low p c.args.t c.args.k 7 inst (omega arith), counters_low p _ _ c.self.invariant.1) }

-- So is that of the field.
pub overflow_add-index-2 : goal.overflow_add-index-2
overflow_add-index-2 c =
    let inst = subst (λ (x : ClosedSeen). IsInstance x.opening.program c.args.t c.args.k) (sym c.self.view_is) c.requires.instance in
    let p = c.self.inside.table.value.shared.key.program in
    let place = ap (λ (x : Place). x.records) (c.index.ensures ∙ place_is p _ _ _ c.index.result.now c.self.invariant.1 inst.0) in
    record { fits = omega (arith, place, c.number.ensures, number_low c.args.field, field_low p c.args.t c.args.k 7 inst (omega arith), counters_low p _ _ c.self.invariant.1) }

-- The field is one of the words.
pub word-requires : goal.word-requires
word-requires c =
    let inst = subst (λ (x : ClosedSeen). IsInstance x.opening.program c.args.t c.args.k) (sym c.self.view_is) c.requires.instance in
    let p = c.self.inside.table.value.shared.key.program in
    let place = ap (λ (x : Place). x.records) (c.index.ensures ∙ place_is p _ _ _ c.index.result.now c.self.invariant.1 inst.0) in
    (omega (arith, place, c.self.invariant.0.2, c.number.ensures, number_low c.args.field, field_low p c.args.t c.args.k 7 inst (omega arith)), c.self.invariant.0.0)

-- It is the field of the record.
pub returns : goal.returns
returns c =
    let inst = subst (λ (x : ClosedSeen). IsInstance x.opening.program c.args.t c.args.k) (sym c.self.view_is) c.requires.instance in
    let p = c.self.inside.table.value.shared.key.program in
    let place = ap (λ (x : Place). x.records) (c.index.ensures ∙ place_is p _ _ _ c.index.result.now c.self.invariant.1 inst.0) in
    let at : c.index.result.now.records + 8 * c.args.k + c.number.result ≡ field_at p c.args.t c.args.k (number_of c.args.field) = omega (arith, place, c.number.ensures) in
    word_at (slots_items c.self.inside.inner.words) (c.index.result.now.records + 8 * c.args.k + c.number.result) c.word.result c.word.ensures
    ∙ (ap (λ (i : ℕ). get_or (slots_items c.self.inside.inner.words) i 0) at
    ∙ ap (λ (x : ClosedSeen). get_or x.words (field_at x.opening.program c.args.t c.args.k (number_of c.args.field)) 0) c.self.view_is)
