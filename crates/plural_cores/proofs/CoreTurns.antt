-- Turns of a whole core.
use Rattle.std.proofs.Common.{◌≡◌, ℕ, ◌≤◌, List, [], get_or, sym, refl, ap, ◌∙◌, subst, arith, Option, Some}
use Rattle.plural_serial.specs.Cached.{IsShaped}
use Rattle.plural_rule.specs.declared.view.Stage.TheVariants.{Free}
use Rattle.plural_words.specs.Seen.{WordsSeen, SeatSeen, IsSeatOf}
use Rattle.plural_cores.specs.Later.{IsLater}
use Rattle.plural_cores.specs.Works.{IsAtWork, IsHolding, IsIdle, HasTurned, HasGone}
use Rattle.plural_cores.specs.Cores.{CoreSeen, IsReady, HasLeft, IsAtTurn, IsCoreLater, HasCoreTurned}
use Rattle.plural_cores.specs.declared.answer.CoreTurn.{CoreTurn}
use Rattle.plural_cores.specs.declared.answer.CoreTurn.TheVariants.{Left}
use Rattle.plural_cores.specs.declared.held.Held.{Held}
use Rattle.plural_cores.specs.declared.held.Held.TheVariants.{Nothing}
use Rattle.plural_cores.specs.declared.work.Work.{Work}
use Rattle.plural_cores.proofs.Tries.{later_same, later_both}

-- A turn that answers that the core has left.
pub gone : (w : WordsSeen) (r s u : SeatSeen) (k l : Work) → IsLater r s → HasTurned w s k Left u l → HasGone w r u l
gone w r s u k l later is = record {
  work = is.work;
  later = later_both r s u later is.later;
  holds = is.turn.0.holds_none;
  free = is.turn.0.tried.free;
  whole = is.turn.1.whole;
}

-- A core of these parts.
abbrev pub core_with : ℕ → Option SeatSeen → Work → CoreSeen
core_with n s k = record { number = n; seat = s; held = k.held; engine = k.engine; idle = k.idle }

-- A core that holds nothing has been idle for 4,096 turns at most.
idle_few : (k : Work) → k.held ≡ Nothing → IsIdle k.held k.idle → k.idle ≤ 4096
idle_few k e h = subst (λ (x : Held). IsIdle x k.idle) e h

ready_work : (w : WordsSeen) (s : SeatSeen) (k : Work) → k.held ≡ Nothing → IsSeatOf w s → s.view.owes ≡ [] → IsShaped w.opening.program.map k.engine.cache → s.view.stage ≡ Free → k.idle ≤ 4096 → IsAtWork w s k
ready_work w s k e of nothing shape free few = record {
  of = of;
  nothing = nothing;
  shape = shape;
  holding = subst (λ (x : Held). IsHolding w.opening x k.engine s) (sym e) free;
  idle = subst (λ (x : Held). IsIdle x k.idle) (sym e) few;
}

-- A core that is ready is at work.
pub ready_at_turn : (w : WordsSeen) (first : List ℕ) (c : CoreSeen) → IsReady w first c → IsAtTurn w first c
ready_at_turn w first c is = record {
  seat = is.seat;
  has = is.has;
  number = is.number;
  found = is.found;
  at_work = ready_work w is.seat (record { held = c.held; engine = c.engine; idle = c.idle }) is.holds is.of is.nothing is.shape is.free is.patient;
}

-- What it has found since then, after which its seat is this one.
found_since : (first : List ℕ) (s u : SeatSeen) → ((t : ℕ) → get_or first t 0 ≤ get_or s.view.found t 0) → IsLater s u → (t : ℕ) → get_or first t 0 ≤ get_or u.view.found t 0
found_since first s u h later t = omega (arith, h t, later.found t)

left_so : (w : WordsSeen) (n : ℕ) (first : List ℕ) (s u : SeatSeen) (l : Work) → HasGone w s u l → s.core ≡ n → ((t : ℕ) → get_or first t 0 ≤ get_or s.view.found t 0) → HasLeft w first (core_with n (Some u) l)
left_so w n first s u l is number found = record {
  ready = record {
    seat = u;
    has = refl;
    of = is.work.of;
    number = is.later.core ∙ number;
    free = is.free;
    nothing = is.work.nothing;
    found = found_since first s u found is.later;
    shape = is.work.shape;
    holds = is.holds;
    patient = idle_few l is.holds is.work.idle;
  };
  whole = is.whole;
}

-- The seat of a core that has one.
seat_is : {s u : SeatSeen} → Some s ≡ Some u → s ≡ u
seat_is e = cc

number_is : (s u : SeatSeen) (n : ℕ) → Some s ≡ Some u → u.core ≡ n → s.core ≡ n
number_is s u n e h = ap (λ (x : SeatSeen). x.core) (seat_is e) ∙ h

found_is : (first : List ℕ) (s u : SeatSeen) → Some s ≡ Some u → ((t : ℕ) → get_or first t 0 ≤ get_or u.view.found t 0) → (t : ℕ) → get_or first t 0 ≤ get_or s.view.found t 0
found_is first s u e h t = omega (arith, h t, ap (λ (x : SeatSeen). get_or x.view.found t 0) (seat_is e))

-- A turn of its seat and its work is one of the core.
turned_so : (w : WordsSeen) (n : ℕ) (s u : SeatSeen) (k l : Work) (answer : CoreTurn) → HasTurned w s k answer u l → HasCoreTurned w (core_with n (Some s) k) answer (core_with n (Some u) l)
turned_so w n s u k l answer is = record {
  same = record { seat = s; next = u; had = refl; has = refl; number = refl; later = is.later };
  turn = is.turn;
  work = λ first at. record {
    seat = u;
    has = refl;
    number = is.later.core ∙ number_is s at.seat n at.has at.number;
    found = found_since first s u (found_is first s at.seat at.has at.found) is.later;
    at_work = is.work;
  };
  left = λ e first at. left_so w n first s u l (gone w s s u k l (later_same s) (subst (λ (a : CoreTurn). HasTurned w s k a u l) e is))
      (number_is s at.seat n at.has at.number) (found_is first s at.seat at.has at.found);
  falls = is.falls;
}

-- So it is if the core before is told by equations.
pub turned_now : (w : WordsSeen) (old : CoreSeen) (n : ℕ) (had : Option SeatSeen) (s u : SeatSeen) (k l : Work) (answer : CoreTurn) → core_with n had k ≡ old → had ≡ Some s → HasTurned w s k answer u l → HasCoreTurned w old answer (core_with n (Some u) l)
turned_now w old n had s u k l answer same is turned =
    subst (λ (c : CoreSeen). HasCoreTurned w c answer (core_with n (Some u) l)) (ap (λ (x : Option SeatSeen). core_with n x k) (sym is) ∙ same) (turned_so w n s u k l answer turned)

-- What has gone, of a core that was ready, has left.
pub left_now : (w : WordsSeen) (old : CoreSeen) (n : ℕ) (had : Option SeatSeen) (s u : SeatSeen) (k l : Work) → core_with n had k ≡ old → had ≡ Some s → HasGone w s u l → (first : List ℕ) → IsReady w first old → HasLeft w first (core_with n (Some u) l)
left_now w old n had s u k l same is gone first ready =
    let e : Some s ≡ Some ready.seat = sym is ∙ (ap (λ (c : CoreSeen). c.seat) same ∙ ready.has) in
    left_so w n first s u l gone (number_is s ready.seat n e (ready.number ∙ sym (ap (λ (c : CoreSeen). c.number) same))) (found_is first s ready.seat e ready.found)

-- It is the same core, later.
pub later_now : (old : CoreSeen) (n : ℕ) (had : Option SeatSeen) (w : WordsSeen) (s u : SeatSeen) (k l : Work) → core_with n had k ≡ old → had ≡ Some s → HasGone w s u l → IsCoreLater old (core_with n (Some u) l)
later_now old n had w s u k l same is gone = record {
  seat = s;
  next = u;
  had = sym (ap (λ (c : CoreSeen). c.seat) same) ∙ is;
  has = refl;
  number = ap (λ (c : CoreSeen). c.number) same;
  later = gone.later;
}
