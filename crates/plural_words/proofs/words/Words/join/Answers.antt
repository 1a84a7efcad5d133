use Rattle.std.proofs.Common.{◌≡◌, [], ap, ◌∙◌, sym, subst, arith}
use Rattle.plural_rule.specs.Rule.{IsViewOf}
use Rattle.plural_rule.specs.Steps.{joined}
use Rattle.plural_rule.specs.declared.view.View.{View}
use Rattle.plural_rule.specs.declared.view.Stage.TheVariants.{Free}
use Rattle.plural_rule.specs.declared.view.Role.TheVariants.{Root}
use Rattle.plural_rule.specs.Stages.{outs_of}
use Rattle.plural_words.specs.Seen.{WordsSeen, IsRootOf}
use Rattle.plural_words.specs.Tells.{Token}
use Rattle.plural_words.proofs.Tokens.{inside_of, view_of}
use Rattle.plural_words.proofs.RootSteps.{root_inside, none_in, join_allowed, joined_view, joined_role, all_allowed, told_now}
use Rattle.plural_words.proofs.words.Words.join.Goals as goal
use Rattle.plural_words.proofs.words.Words.join.Goals.{After-load}

-- A seat that holds and owes nothing may come back.
pub join_seat-requires : goal.join_seat-requires
join_seat-requires c =
    let r = root_inside c.self.view_is c.root.view_is c.requires.of.0 in
    let s = inside_of c.self.view_is c.seat.view_is c.requires.of.1 in
    let free = view_of (λ v. v.stage ≡ Free) c.seat.view_is c.requires.free in
    let nothing = view_of (λ v. v.owes ≡ []) c.seat.view_is c.requires.nothing in
    let words = c.self.invariant.1 in
    (r.table, s.table, none_in _ c.seat.invariant.0, omega (arith, words), join_allowed _ _ _ _ _ _ _ c.root.invariant.1 r.role s.role free nothing)

-- The root may load any word.
pub load-requires : goal.load-requires
load-requires c =
    let r = root_inside c.self.view_is c.root.view_is c.requires.of.0 in
    let counters = c.self.invariant.0.places.next in
    let words = c.self.invariant.1 in
    (c.join_seat.ensures.0 ∙ r.table, omega (arith, words, counters), all_allowed _ _ _ _ _ (ap (λ (m : Token). m.0.opening) c.join_seat.ensures.2 ∙ r.view.opening) (c.join_seat.ensures.1 ∙ c.root.invariant.1))

now : (c : After-load) → c.load.new.seat.me.0 ≡ joined c.root.inside.token.me.0 c.seat.inside.token.me.0
now c = ap (λ (m : Token). m.0) (c.load.ensures.2.0 ∙ c.join_seat.ensures.2)

-- The root is still of these words.
pub returns-clause-of : goal.returns-clause-of
returns-clause-of c = let d = (goal.at.returns-clause-of c).After-load in
    let r = root_inside d.self.view_is d.root.view_is d.requires.of.0 in
    let s = inside_of d.self.view_is d.seat.view_is d.requires.of.1 in
    let own : IsRootOf (record { table = d.self.inside.table.shared.table_id; opening = d.self.inside.table.shared.key }) (record { table = d.load.new.seat.table_id; view = d.load.new.seat.me.0 }) = record {
      table = d.load.ensures.0 ∙ (d.join_seat.ensures.0 ∙ r.table);
      view = subst (λ (v : View). IsViewOf d.self.inside.table.shared.key v) (sym (now d)) (joined_view r.view s.view);
      role = subst (λ (v : View). v.role ≡ Root (outs_of v.role)) (sym (now d)) (joined_role d.root.inside.token.me.0 d.seat.inside.token.me.0 _ _ r.role s.role);
    } in
    subst (λ (x : WordsSeen). IsRootOf x (record { table = d.load.new.seat.table_id; view = d.load.new.seat.me.0 })) d.self.view_is own

-- If the root is alone then, its load tells whether all was told.
pub returns-clause-told : goal.returns-clause-told
returns-clause-told c = let d = (goal.at.returns-clause-told c).After-load in
    let r = root_inside d.self.view_is d.root.view_is d.requires.of.0 in
    let s = inside_of d.self.view_is d.seat.view_is d.requires.of.1 in
    let before = ap (λ (m : Token). m.0) d.join_seat.ensures.2 in
    told_now d.args.self.now.opening _ _ (ap (λ (v : View). v.opening) before ∙ (r.view.opening ∙ ap (λ (x : WordsSeen). x.opening) d.self.view_is))
    (subst (λ (v : View). v.role ≡ Root (outs_of v.role)) (sym before) (joined_role d.root.inside.token.me.0 d.seat.inside.token.me.0 _ _ r.role s.role)) d.load.ensures.2.0 d.load.ensures.2.1
