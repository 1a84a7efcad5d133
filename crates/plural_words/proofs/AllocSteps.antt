-- Steps on the alloc word of a task.
use Rattle.std.proofs.Common.{◌≡◌, ◌≢◌, ℕ, ◌+◌, ◌<◌, ◌≤◌, List, get_or, set, sym, refl, ap, ◌∙◌, subst, arith, eqb, eq-eqb, ne_eqb}
use mathlib.Core.Logic.{dite}
use native.Mathlib.Decide.{ℕ_discrete}
use mathlib.Core.Option.{none}
use lib.Seq.{set-get_or}
use prog.Atomic.{either}
use Rattle.atomic_table.specs.Table.{step, Allows}
use Rattle.plural_rule.specs.Opening.{Opening, task_count, quota_of}
use Rattle.plural_rule.specs.Layout.{alloc_at}
use Rattle.plural_rule.specs.Kept.{Kept}
use Rattle.plural_rule.specs.Steps.{looked, lost, took}
use Rattle.plural_rule.specs.declared.view.View.{View}
use Rattle.plural_rule.specs.declared.view.Stage.TheVariants.{Free}
use Rattle.plural_rule.specs.declared.view.Role.TheVariants.{Seat}
use Rattle.plural_rule.proofs.InstanceLaws.{loads_alloc, takes_instance, loses_instance}
use Rattle.plural_words.specs.Tells.{Holds, Token, IsNow, TellsLook, TellsExchange}
use Rattle.plural_words.proofs.Moves.{loads, writes}

-- ---- a load

-- What it tells, by the words' opening.
abbrev pub Look : Opening → Token → (t found : ℕ) → Token → Type 0
Look o m t found n = IsNow m (looked m.0 t found) n × (get_or m.0.found t 0 ≤ found) × (found ≤ 1 + quota_of o.program t)

own_look : (n id : ℕ) (m : Token) (core t : ℕ) → m.0.role ≡ Seat core → t < task_count m.0.opening.program
    → Allows (Holds m.0.opening) n id m (alloc_at m.0.opening.program t) (λ y. y) (TellsLook (step n (alloc_at m.0.opening.program t) 0 0 none) m)
own_look n id m core t role small = let o = m.0.opening in
    loads o n id m (alloc_at o.program t) (TellsLook (step n (alloc_at o.program t) 0 0 none) m) (λ ws views k at.
    let found : ℕ = get_or ws (alloc_at o.program t) 0 in
    let is = loads_alloc o ws views id m.0 core k at role t small in
    (looked m.0 t found, is.kept, λ u h e. let same : t ≡ u = omega arith in subst (λ (x : ℕ). Look o m x found (looked m.0 t found, m.1)) same (refl, is.rose, is.few)))

-- The table allows it.
pub look_allowed : (o : Opening) (n id : ℕ) (m : Token) (core t i : ℕ) → m.0.opening ≡ o → m.0.role ≡ Seat core → i ≡ alloc_at o.program t → t < task_count o.program
    → Allows (Holds o) n id m i (λ y. y) (TellsLook (step n i 0 0 none) m)
look_allowed o n id m core t i is role at small =
    let P : Opening → Type 0 = λ x. t < task_count x.program → Allows (Holds x) n id m (alloc_at x.program t) (λ y. y) (TellsLook (step n (alloc_at x.program t) 0 0 none) m) in
    let Q : ℕ → Type 0 = λ j. Allows (Holds o) n id m j (λ y. y) (TellsLook (step n j 0 0 none) m) in
    subst Q (sym at) (subst P is (own_look n id m core t role) small)

-- What it told.
pub look_told : (o : Opening) (m w : Token) (n t i found : ℕ) → m.0.opening ≡ o → i ≡ alloc_at o.program t → t < task_count o.program → TellsLook (step n i 0 0 none) m found w → Look o m t found w
look_told o m w n t i found is at small told =
    let P : Opening → Type 0 = λ x. i ≡ alloc_at x.program t → t < task_count x.program → Look x m t found w in
    subst P is (λ e h. told t h e) at small

-- ---- an exchange

-- What it tells, by the words' opening.
abbrev pub Exchange : Opening → Token → (t from found : ℕ) → Token → Type 0
Exchange o m t from found n = (found ≤ 1 + quota_of o.program t) × (found ≡ from → IsNow m (took m.0 t from) n) × (found ≢ from → IsNow m (lost m.0 t found) n × (from < found))

own_exchange : (n id : ℕ) (m : Token) (core t from : ℕ) → m.0.role ≡ Seat core → m.0.stage ≡ Free → get_or m.0.found t 0 ≡ from → 1 ≤ from → t < task_count m.0.opening.program → from ≤ quota_of m.0.opening.program t
    → Allows (Holds m.0.opening) n id m (alloc_at m.0.opening.program t) (λ y. either (eqb y from) (from + 1) y) (TellsExchange (step n (alloc_at m.0.opening.program t) from (from + 1) none) m)
own_exchange n id m core t from role free known low small high = let o = m.0.opening in let i = alloc_at o.program t in
    writes o n id m i (TellsExchange (step n i from (from + 1) none) m) (λ y. either (eqb y from) (from + 1) y) (λ ws views k at few.
    let found : ℕ = get_or ws i 0 in
    dite (ℕ_discrete found from)
    (λ hit.
    let w : View = took m.0 t from in
    let value : either (eqb found from) (from + 1) found ≡ from + 1 = ap (λ b. either b (from + 1) found) (eq-eqb found from hit) in (
      w,
      subst (λ (y : ℕ). Kept o (set ws i y) (set views id w)) (sym value) (takes_instance o ws views id m.0 core k at role t from small free low high hit),
      λ u h e.
          let same : t ≡ u = omega arith in
          subst (λ (x : ℕ). Exchange o m x from found (w, m.1)) same (omega (arith, high, hit), (λ z. refl), (λ miss. absurd (miss hit))),
    ))
    (λ miss.
    let w : View = lost m.0 t found in
    let is = loses_instance o ws views id m.0 core k at role t from small known miss in
    let value : either (eqb found from) (from + 1) found ≡ found = ap (λ b. either b (from + 1) found) (ne_eqb found from miss) in (
      w,
      subst (λ (l : List ℕ). Kept o l (set views id w)) (sym (ap (set ws i) value ∙ set-get_or ws i 0)) is.kept,
      λ u h e.
          let same : t ≡ u = omega arith in
          subst (λ (x : ℕ). Exchange o m x from found (w, m.1)) same (is.few, (λ hit. absurd (miss hit)), (λ z. (refl, is.more))),
    )))

-- The table allows it.
pub exchange_allowed : (o : Opening) (n id : ℕ) (m : Token) (core t from i : ℕ) → m.0.opening ≡ o → m.0.role ≡ Seat core → m.0.stage ≡ Free → get_or m.0.found t 0 ≡ from → 1 ≤ from → i ≡ alloc_at o.program t → t < task_count o.program → from ≤ quota_of o.program t
    → Allows (Holds o) n id m i (λ y. either (eqb y from) (from + 1) y) (TellsExchange (step n i from (from + 1) none) m)
exchange_allowed o n id m core t from i is role free known low at small high =
    let P : Opening → Type 0 = λ x. t < task_count x.program → from ≤ quota_of x.program t → Allows (Holds x) n id m (alloc_at x.program t) (λ y. either (eqb y from) (from + 1) y) (TellsExchange (step n (alloc_at x.program t) from (from + 1) none) m) in
    let Q : ℕ → Type 0 = λ j. Allows (Holds o) n id m j (λ y. either (eqb y from) (from + 1) y) (TellsExchange (step n j from (from + 1) none) m) in
    subst Q (sym at) (subst P is (own_exchange n id m core t from role free known low) small high)

-- What it told.
pub exchange_told : (o : Opening) (m w : Token) (n t from i found : ℕ) → m.0.opening ≡ o → i ≡ alloc_at o.program t → t < task_count o.program → TellsExchange (step n i from (from + 1) none) m found w → Exchange o m t from found w
exchange_told o m w n t from i found is at small told =
    let P : Opening → Type 0 = λ x. i ≡ alloc_at x.program t → t < task_count x.program → Exchange x m t from found w in
    subst P is (λ e h. told t h e) at small
