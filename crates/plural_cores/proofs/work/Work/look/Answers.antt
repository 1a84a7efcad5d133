use Rattle.std.proofs.Common.{◌≡◌, ℕ, ◌⊎◌, true, false, sym, subst}
use Rattle.plural_cores.proofs.Turns.{waits_now}
use Rattle.plural_cores.proofs.work.Work.look.Goals as goal

-- A turn has found nothing, and the core stays.
pub returns-else-leaves : goal.returns-else-leaves
returns-else-leaves c = waits_now _ _ _ _ _ _ c.requires.holds c.requires.work c.in-Spent.ensures.of c.in-Spent.ensures.swept
    (λ p. let yes_ : c.leaves.result ≡ true = c.leaves.ensures.1 (p.0, subst (λ (n : ℕ). (n ≡ 1) ⊎ (c.args.self.now.idle ≡ 4096)) (sym c.cores.ensures) p.1) in
    let no_ : c.leaves.result ≡ false = c.if-leaves.false in absurd (cc))
    c.min-self.ensures
