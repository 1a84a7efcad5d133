use Rattle.std.proofs.Common.{◌≡◌, inl, inr, ⊎_elim, length, arith}
use Rattle.plural_reach.proofs.BranchLemmas.{exclusive_when, exclusive_in}
use Rattle.plural_reach.proofs.tables.Needs.exclusive.Goals as goal

-- The answer at `then-meets` meets the contract.
pub returns-then-meets : goal.returns-then-meets
returns-then-meets c = record {
  exact = λ tasks is k l.
      let z : length c.args.self.now.zero ≡ 256 = omega arith in
      let o : length c.args.self.now.one ≡ 256 = omega arith in
      ((λ h. exclusive_when tasks c.args.self.now c.args.t c.args.u is z o c.requires.first c.requires.second k l c.if-t-u.true (inl (c.meets.ensures.0 h))), (λ h. c.if-meets.true));
}

-- The answer at `else-meets` meets the contract.
pub returns-else-meets : goal.returns-else-meets
returns-else-meets c = record {
  exact = λ tasks is k l.
      let z : length c.args.self.now.zero ≡ 256 = omega arith in
      let o : length c.args.self.now.one ≡ 256 = omega arith in (
        (λ h. exclusive_when tasks c.args.self.now c.args.t c.args.u is z o c.requires.first c.requires.second k l c.if-t-u.true (inr (c.meets-else-meets.ensures.0 h))),
        (λ h. ⊎_elim (λ f. absurd (let b = c.meets.ensures.1 f in let n = c.if-meets.false in cc)) (λ f. c.meets-else-meets.ensures.1 f)
            (exclusive_in tasks c.args.self.now c.args.t c.args.u is z o c.requires.first c.requires.second k l h)),
      );
}
