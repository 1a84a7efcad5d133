use Rattle.std.proofs.Common.{◌≡◌, ◌<◌, ◌+◌, ◌-◌, ⊎_elim, inl, inr, ℕ, suc, List, ap, sym, ◌∙◌, refl, subst, arith, length, drop, length-set, slice_index_or, Some, None}
use Rattle.plural_rule.specs.Last.{KnowsWhole}
use Rattle.plural_rule.specs.Steps.{joined, back_in}
use Rattle.plural_rule.specs.Stages.{outs_of}
use Rattle.plural_rule.specs.declared.view.Role.{Role}
use Rattle.plural_rule.specs.declared.view.Role.TheVariants as role
use Rattle.plural_rule.specs.declared.view.View.{View}
use Rattle.plural_words.specs.Seen.{RootSeen, SeatSeen}
use Rattle.plural_words.specs.Seen.{IsSeatOf}
use Rattle.plural_cores.specs.Cores.{CoreSeen}
use Rattle.plural_machine.specs.Knowing.{numbers_below, IsNoLess, all_joined}
use Rattle.plural_machine.specs.Together.{IsIdle, IsBack}
use Rattle.plural_machine.proofs.Outs.{last_back, joins_whole}
use Rattle.plural_machine.proofs.CoreLists.{each_below_stays, each_above_set}
use Rattle.plural_machine.proofs.Joined.{IsStill, still_first, none_back, one_back}
use Rattle.plural_machine.proofs.seats.take_all.Goals as goal

-- Before the first seat comes back all are out.
pub loop-i-init : goal.loop-i-init
loop-i-init c = (
  c.requires.of,
  c.requires.out,
  refl,
  omega arith,
  (λ k d h. c.requires.back.at k d h),
  (λ k d l h. absurd (omega (arith, l, h))),
  inr refl,
  (λ h. absurd (omega (arith, h))),
  none_back c.args.root.now.view c.args.cores.now,
  (λ k d h. still_first c.args.cores.now k d h),
)

-- One seat more has come back.
pub loop-i-preserved : goal.loop-i-preserved
loop-i-preserved c =
    let inv = c.loop-i.invariant in
    let o = c.args.words.now.opening in
    let j : ℕ = c.loop-i.i - 1 in
    let next : c.loop-i.i ≡ j + 1 = omega (arith, c.loop-i-test.true) in
    let low : j < length c.loop-i.cores = omega (arith, c.loop-i-test.true, inv.3) in
    let core : CoreSeen = slice_index_or c.loop-i.cores j c.index-cores-i.result in
    let low_first : j < length c.args.cores.now = omega (arith, low, inv.2) in
    let still : IsStill c.args.cores.now j core = inv.9 j c.index-cores-i.result (omega (arith, c.loop-i-test.true)) in
    let was : IsBack c.args.words.now c.args.root.now.view.found j core = inv.4 j c.index-cores-i.result (omega (arith, c.loop-i-test.true)) in
    let ready = was.left.ready in
    let given : core.seat ≡ Some c.leave-seat.result = c.leave-seat.ensures.seat in
    let same : ready.seat ≡ c.leave-seat.result = cc (sym ready.has ∙ given) in
    let of : IsSeatOf c.args.words.now c.leave-seat.result = subst (λ (s : SeatSeen). IsSeatOf c.args.words.now s) same ready.of in
    let number : c.leave-seat.result.core ≡ j = ap (λ (s : SeatSeen). s.core) (sym same) ∙ (ready.number ∙ was.number) in
    let whole : KnowsWhole o c.leave-seat.result.view = subst (λ (s : SeatSeen). KnowsWhole o s.view) same was.left.whole in
    let found : IsNoLess c.args.root.now.view.found c.leave-seat.result.view.found = subst (λ (s : SeatSeen). IsNoLess c.args.root.now.view.found s.view.found) same ready.found in
    let v : View = c.loop-i.root.view in
    let s : View = c.leave-seat.result.view in
    let more : c.loop-i.i ≡ suc j = omega (arith, c.loop-i-test.true) in
    let out : v.role ≡ role.Root (numbers_below (suc j)) = inv.1 ∙ ap (λ (n : ℕ). role.Root (numbers_below n)) more in
    let seat : s.role ≡ role.Seat j = of.role ∙ ap (λ (n : ℕ). role.Seat n) number in
    let back : (joined v s).role ≡ role.Root (numbers_below j) = ap (λ (q : Role). back_in q v.role) seat ∙ (ap (λ (q : Role). back_in (role.Seat j) q) out ∙ ap (λ (l : List ℕ). role.Root l) (last_back j)) in
    let now : c.join.new.root.view ≡ joined v s = ap (λ (r : RootSeen). r.view) c.join.ensures.root in
    let role_now : c.join.new.root.view.role ≡ role.Root (numbers_below j) = ap (λ (w : View). w.role) now ∙ back in
    let knows : KnowsWhole o c.join.new.root.view = subst (λ (w : View). KnowsWhole o w) (sym now)
    (joins_whole o v s whole (⊎_elim (λ k. inl k) (λ e. inr (subst (λ (l : List ℕ). IsNoLess l s.found) (sym e) found)) inv.6)) in
    let bare : CoreSeen = record core { seat = None } in
    let is_bare : c.leave-seat.new.self ≡ bare = c.leave-seat.ensures.rest in
    let idle : IsIdle c.args.words.now j c.leave-seat.new.self = subst (λ (x : CoreSeen). IsIdle c.args.words.now j x) (sym is_bare) (record { is = was.number; empty = refl; shape = ready.shape }) in
    let long = length-set c.loop-i.cores j c.leave-seat.new.self in (
      c.join.ensures.of,
      role_now,
      long ∙ inv.2,
      omega (arith, low, long),
      each_below_stays (IsBack c.args.words.now c.args.root.now.view.found) c.loop-i.cores j c.leave-seat.new.self (λ k d h. inv.4 k d (omega (arith, h, next))),
      each_above_set (IsIdle c.args.words.now) c.loop-i.cores j c.leave-seat.new.self low (λ k d l h. inv.5 k d (omega (arith, l, next)) h) idle,
      inl knows,
      (λ h z. c.join.ensures.told (ap outs_of role_now ∙ ap numbers_below z) knows),
      now ∙ one_back c.args.root.now.view c.args.cores.now j c.loop-i.i v c.leave-seat.result core next low_first still given inv.8,
      each_below_stays (IsStill c.args.cores.now) c.loop-i.cores j c.leave-seat.new.self (λ k d h. inv.9 k d (omega (arith, h, next))),
    )

-- The seats of all cores have come back.
pub returns-clause-joined : goal.returns-clause-joined
returns-clause-joined c =
    let none : c.loop-i.i ≡ 0 = omega (arith, c.loop-i-test.false) in
    c.loop-i.invariant.8 ∙ ap (λ (n : ℕ). all_joined c.args.root.now.view (drop n c.args.cores.now)) none
