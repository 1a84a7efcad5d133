use Rattle.std.proofs.Common.{◌≡◌, ℕ, List, ◌∙◌, ap, sym, subst, length, vec_len}
use Rattle.std.proofs.lemmas.List.{take_at}
use Rattle.plural_rule.specs.declared.view.View.{View}
use Rattle.plural_rule.specs.declared.view.Role.TheVariants as role
use Rattle.plural_words.specs.Seen.{RootSeen}
use Rattle.plural_cores.specs.Cores.{CoreSeen}
use Rattle.plural_machine.specs.Knowing.{numbers_below, with_role, all_joined}
use Rattle.plural_machine.specs.Together.{Each, IsSent}
use Rattle.plural_machine.specs.Drawn.{HaveHadTurns}
use Rattle.plural_machine.specs.Machines.{MachineSeen}
use Rattle.plural_machine.proofs.machine.Machine.run_in_order.Goals as goal

-- The cores had their turns in the order that the seed draws.
pub returns-clause-order : goal.returns-clause-order
returns-clause-order g c =
    let w = c.self.inside.words in
    let seen = c.self.view_is in
    let long : length c.as_mut_slice.result.now ≡ vec_len c.self.inside.cores = c.as_mut_slice.ensures.len in
    let sent : c.as_mut_slice-2.result.now ≡ c.send_all.new.cores =
    c.as_mut_slice-2.ensures.value ∙ take_at c.send_all.new.cores _ (vec_len c.self.inside.cores) (c.send_all.ensures.all ∙ long) in
    let back : c.as_mut_slice-3.result.now ≡ c.advance_in_order.new.cores =
    c.as_mut_slice-3.ensures.value ∙ take_at c.advance_in_order.new.cores _ (vec_len c.self.inside.cores) (c.advance_in_order.ensures.all ∙ (ap length sent ∙ (c.send_all.ensures.all ∙ long))) in
    let all : length c.as_mut_slice.result.now ≡ c.args.self.now.opening.cores =
    ap length c.as_mut_slice.ensures.value ∙ (c.self.invariant.all ∙ ap (λ (m : MachineSeen). m.opening.cores) seen) in
    let root : c.send_all.new.root.view ≡ with_role c.args.self.now.root (role.Root (numbers_below c.args.self.now.opening.cores)) =
    ap (λ (r : RootSeen). r.view) c.send_all.ensures.root
    ∙ (ap (λ (n : ℕ). with_role c.self.inside.root.view (role.Root (numbers_below n))) all
    ∙ ap (λ (m : MachineSeen). with_role m.root (role.Root (numbers_below c.args.self.now.opening.cores))) seen) in
    record {
      words = w;
      opening = ap (λ (m : MachineSeen). m.opening) seen;
      sent = c.as_mut_slice-2.result.now;
      back = c.as_mut_slice-3.result.now;
      all = ap length sent ∙ (c.send_all.ensures.all ∙ all);
      each = subst (λ (m : MachineSeen). Each (IsSent w m.root.found) c.as_mut_slice-2.result.now) seen
          (subst (λ (l : List CoreSeen). Each (IsSent w c.self.inside.root.view.found) l) (sym sent) c.send_all.ensures.sent);
      turns = subst (λ (l : List CoreSeen). HaveHadTurns w c.args.seed c.as_mut_slice-2.result.now l) (sym back) c.advance_in_order.ensures.turns;
      joined = c.take_all.ensures.joined ∙ ap (λ (v : View). all_joined v c.as_mut_slice-3.result.now) root;
    }
