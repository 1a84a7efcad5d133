use Rattle.std.proofs.Common.{◌≡◌, [], ap, ◌∙◌, sym, subst}
use Rattle.std.specs.Slots.{slots_items}
use Rattle.plural_rule.specs.Opening.{Opening}
use Rattle.plural_rule.specs.Layout.{word_count}
use Rattle.plural_rule.specs.Stages.{outs_of}
use Rattle.plural_rule.specs.declared.view.View.{View}
use Rattle.plural_words.specs.Closing.{IsClosed}
use Rattle.plural_words.specs.Places.{HasPlaces}
use Rattle.plural_words.proofs.RootSteps.{root_inside, root_view_of}
use Rattle.plural_words.proofs.Closes.{closed_by}
use Rattle.plural_words.proofs.words.Words.close.Goals as goal
use Rattle.plural_words.proofs.words.Words.close.Goals.{After-close_with-inner}

opened : (c : After-close_with-inner) → c.of-opened.result.value.shared.key ≡ c.self.inside.table.shared.key
opened c = ap (λ t. t.shared.key) c.of-opened.ensures

closed : (c : After-close_with-inner) → IsClosed (record { opening = c.of-opened.result.value.shared.key; words = slots_items c.close_with-inner.result.words; root = c.of-seen.result.value.me.0 })
closed c =
    let is = root_inside c.self.view_is c.root.view_is c.requires.of in
    let alone = root_view_of (λ v. outs_of v.role ≡ []) c.root.view_is c.requires.alone in
    let own = closed_by c.self.inside.table.shared.key _ c.root.inside.token.me.0 _ _ c.root.invariant.1 is.role alone c.close_with-inner.ensures.values.2 in
    let keyed = subst (λ (o : Opening). IsClosed (record { opening = o; words = slots_items c.close_with-inner.result.words; root = c.root.inside.token.me.0 })) (sym (opened c)) own in
    subst (λ (v : View). IsClosed (record { opening = c.of-opened.result.value.shared.key; words = slots_items c.close_with-inner.result.words; root = v })) (sym (ap (λ t. t.me.0) c.of-seen.ensures)) keyed

-- The closed words are all there, where their places say.
pub invariant_of-result : goal.invariant_of-result
invariant_of-result c =
    let d = (goal.at.invariant_of-result c).After-close_with-inner in
    let key = opened d in (
      (
        c.close_with-inner.ensures.values.0,
        c.close_with-inner.ensures.counts.1 ∙ c.self.invariant.4,
        c.close_with-inner.ensures.counts.0 ∙ (c.self.invariant.1 ∙ ap (λ (o : Opening). word_count o.program) (sym key)),
      ),
      subst (λ (o : Opening). HasPlaces o.program c.self.inside.places.items c.self.inside.counters) (sym key) c.self.invariant.0,
      closed d,
      c.self.invariant.3 ∙ ap (λ (o : Opening). o.cores) (sym key),
    )

-- The rule holds of them.
pub returns-clause-closed : goal.returns-clause-closed
returns-clause-closed c = closed (goal.at.returns-clause-closed c).After-close_with-inner
