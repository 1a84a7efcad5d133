-- Steps of the root: seats are split off and joined, and it learns that all is told.
use Rattle.std.proofs.Common.{◌≡◌, ℕ, zero, suc, ◌<◌, ◌++◌, List, [], ◌∷◌, length, set, sym, refl, ap, ◌∙◌, subst, arith}
use mathlib.Core.Option.{some, none, some-injective}
use lib.ListN.{get_elem?}
use Rattle.atomic_table.specs.Table.{step, Allows, Splits, Joins}
use Rattle.plural_order.specs.Sums.{times}
use Rattle.plural_rule.specs.Opening.{Opening}
use Rattle.plural_rule.specs.Kept.{Kept}
use Rattle.plural_rule.specs.Last.{KnowsWhole, HasTold}
use Rattle.plural_rule.specs.Stages.{outs_of}
use Rattle.plural_rule.specs.Rule.{IsViewOf}
use Rattle.plural_rule.specs.Steps.{root_after, new_seat, back_in, joined, spent}
use Rattle.plural_rule.specs.declared.view.View.{View}
use Rattle.plural_rule.specs.declared.view.Role.TheVariants.{Seat, Root}
use Rattle.plural_rule.specs.declared.view.Stage.TheVariants.{Free}
use Rattle.plural_rule.proofs.Places.{set_else}
use Rattle.plural_rule.proofs.Seats.{larger_long}
use Rattle.plural_rule.proofs.SeatLaws.{splits_seat, joins_seat}
use Rattle.plural_rule.proofs.LastWords.{all_told}
use Rattle.plural_words.specs.Seen.{WordsSeen, RootSeen, IsRootOf, no_opening}
use Rattle.plural_words.specs.Tells.{Holds, Token, TellsAll}
use Rattle.plural_words.proofs.Moves.{loads}

-- ---- what is known of the root by its fields

-- The fields are those of the root of these words.
pub root_inside : {w' w : WordsSeen} {r' r : RootSeen} → w' ≡ w → r' ≡ r → IsRootOf w r → IsRootOf w' r'
root_inside {w'} {w} {r'} {r} e f is = subst (λ (x : WordsSeen). IsRootOf x r') (sym e) (subst (λ (y : RootSeen). IsRootOf w y) (sym f) is)

-- What is said of its view is so of its token's.
pub root_view_of : (P : View → Type 0) {r' r : RootSeen} → r' ≡ r → P r.view → P r'.view
root_view_of P e p = subst (λ (x : RootSeen). P x.view) (sym e) p

-- A list of no elements.
pub none_in : {A : Type 0} (l : List A) → length l ≡ 0 → l ≡ []
none_in [] e = refl
none_in (x ∷ xs) e = absurd (omega arith)

-- ---- a seat is split off

-- The table allows it.
pub split_allowed : (o : Opening) (id : ℕ) (v : View) (outs : List ℕ) (core : ℕ) → id ≡ 0 → v.role ≡ Root outs → times core outs ≡ 0 → core < o.cores
    → Splits (Holds o) id v (root_after v core) (new_seat v core)
split_allowed o id v outs core first role away low s kept at =
    let Q : ℕ → Type 0 = λ j. get_elem? s.views j ≡ some v → Kept o s.words (set s.views j (root_after v core) ++ new_seat v core ∷ []) in
    subst Q (sym first) (λ e. splits_seat o s.words s.views v outs core kept e role away low) at

-- ---- a seat comes back

-- The table allows it.
pub join_allowed : (o : Opening) (id other : ℕ) (v w : View) (outs : List ℕ) (core : ℕ) → id ≡ 0 → v.role ≡ Root outs → w.role ≡ Seat core → w.stage ≡ Free → w.owes ≡ []
    → Joins (Holds o) id v other w (joined v w) (spent no_opening)
join_allowed o id other v w outs core first root seat free nothing s kept at apart there =
    let Q : ℕ → Type 0 = λ j. get_elem? s.views j ≡ some v → (other ≡ j → ⊥) → get_elem? (set s.views j (joined v w)) other ≡ some w → Kept o s.words (set (set s.views j (joined v w)) other (spent no_opening)) in
    subst Q (sym first) (λ e ne f. joins_seat o s.words s.views other v w outs core no_opening kept e ne (sym (set_else s.views 0 other (joined v w) ne) ∙ f) root seat free nothing) at apart there

-- The root is still one of the words, and knows what the seat knew.
pub joined_view : {o : Opening} {v w : View} → IsViewOf o v → IsViewOf o w → IsViewOf o (joined v w)
joined_view {o} {v} {w} a b = record { opening = a.opening; found = larger_long v.found w.found _ a.found b.found; looks = a.looks; losses = a.losses }

-- Its role is still the root's.
pub joined_role : (v w : View) (outs : List ℕ) (core : ℕ) → v.role ≡ Root outs → w.role ≡ Seat core → (joined v w).role ≡ Root (outs_of (joined v w).role)
joined_role v w outs core root seat =
    let is : (joined v w).role ≡ back_in (Seat core) (Root outs) = ap (λ q. back_in q v.role) seat ∙ ap (back_in (Seat core)) root in
    is ∙ ap Root (sym (ap outs_of is))

-- ---- what the root learns

-- The table allows it.
pub all_allowed : (o : Opening) (n id : ℕ) (m : Token) (i : ℕ) → m.0.opening ≡ o → id ≡ 0 → Allows (Holds o) n id m i (λ y. y) (TellsAll (step n i 0 0 none) m)
all_allowed o n id m i is first =
    let P : Opening → Type 0 = λ p. Allows (Holds p) n id m i (λ y. y) (TellsAll (step n i 0 0 none) m) in
    let p = m.0.opening in
    subst P is (loads p n id m i (TellsAll (step n i 0 0 none) m) (λ ws views k at.
    let at_first : get_elem? views 0 ≡ some m.0 = subst (λ j. get_elem? views j ≡ some m.0) first at in
    (m.0, subst (λ (l : List View). Kept p ws l) (sym (set_same views id m.0 at)) k, (refl, λ role whole. all_told p ws views m.0 k at_first role whole))))
  where
    set_same : {A : Type 0} (l : List A) (j : ℕ) (a : A) → get_elem? l j ≡ some a → set l j a ≡ l
    set_same [] j a e = refl
    set_same (x ∷ xs) zero a e = ap (λ y. y ∷ xs) (sym (some-injective x a e))
    set_same (x ∷ xs) (suc j) a e = ap (λ l. x ∷ l) (set_same xs j a e)

-- What it learned, of what it then knows.
pub told_now : (o : Opening) (m n : Token) → m.0.opening ≡ o → m.0.role ≡ Root (outs_of m.0.role) → n ≡ m → (m.0.role ≡ Root [] → KnowsWhole m.0.opening m.0 → HasTold m.0.opening m.0)
    → outs_of n.0.role ≡ [] → KnowsWhole o n.0 → HasTold o n.0
told_now o m n is role same told =
    let P : Opening → Type 0 = λ p. outs_of m.0.role ≡ [] → KnowsWhole p m.0 → HasTold p m.0 in
    let own : P m.0.opening = λ none whole. told (role ∙ ap Root none) whole in
    subst (λ (x : Token). outs_of x.0.role ≡ [] → KnowsWhole o x.0 → HasTold o x.0) (sym same) (subst P is own)
