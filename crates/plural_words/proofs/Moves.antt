-- A step on one word that changes one view, as the table asks for it.
use Rattle.std.proofs.Common.{◌≡◌, ℕ, ◌^◌, ◌<◌, List, get_or, set, sym, subst}
use mathlib.Core.Option.{some}
use lib.ListN.{get_elem?}
use lib.Seq.{set-get_or}
use Rattle.atomic_table.specs.Table.{keeps, Allows}
use Rattle.plural_rule.specs.Opening.{Opening}
use Rattle.plural_rule.specs.Kept.{Kept}
use Rattle.plural_rule.specs.declared.view.View.{View}
use Rattle.plural_words.specs.Tells.{Holds, Token}

module _ (o : Opening) (n id : ℕ) (m : Token) (i : ℕ) (then : ℕ → Token → Type 0) where
  -- A step that writes: of any words and views that meet the rule, with the view of the token among them, it gives a new
  -- view with which they meet it again.
  pub writes : (f : ℕ → ℕ) → ((words : List ℕ) (views : List View) → Kept o words views → get_elem? views id ≡ some m.0 → get_or words i 0 < 2 ^ 64
      → (w : View) × Kept o (set words i (f (get_or words i 0))) (set views id w) × then (get_or words i 0) (w, m.1)) → Allows (Holds o) n id m i f then
  writes f h s kept wide at few = let r = h s.words s.views kept at few in (r.0, keeps, tt, r.1, r.2)

  -- A step that only loads.
  pub loads : ((words : List ℕ) (views : List View) → Kept o words views → get_elem? views id ≡ some m.0
      → (w : View) × Kept o words (set views id w) × then (get_or words i 0) (w, m.1)) → Allows (Holds o) n id m i (λ y. y) then
  loads h s kept wide at few =
      let r = h s.words s.views kept at in
      (r.0, keeps, tt, subst (λ (ws : List ℕ). Kept o ws (set s.views id r.0)) (sym (set-get_or s.words i 0)) r.1, r.2)
