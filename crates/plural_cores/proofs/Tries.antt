-- Tries of the tasks in turn.
use Rattle.std.proofs.lemmas.Bool.{ltb-true, ltb-false}
use Rattle.std.proofs.Common.{Bool, true, false, ◌&&◌, ◌≡◌, ◌≢◌, ℕ, ◌+◌, ◌<◌, ◌≤◌, [], length, get_or, sym, refl, ap, ◌∙◌, subst, inl, inr, arith, get_or-set_other, get_or-set_same}
use mathlib.Core.Logic.{dite}
use native.Mathlib.Decide.{ℕ_discrete}
use Rattle.plural_serial.specs.Program.{ProgramValue, task_at}
use Rattle.plural_rule.specs.Opening.{Opening, task_count, quota_of}
use Rattle.plural_rule.specs.Rule.{IsViewOf}
use Rattle.plural_rule.specs.declared.view.View.{View}
use Rattle.plural_rule.specs.declared.view.Stage.TheVariants.{Free}
use Rattle.plural_rule.proofs.Claims.{found_rose}
use Rattle.plural_words.specs.Seen.{SeatSeen, seat_with}
use Rattle.plural_alloc.specs.Claims.{claimed, found_by, losses_after, stage_after, IsClaim}
use Rattle.plural_alloc.specs.declared.answer.Claim.{Claim}
use Rattle.plural_alloc.specs.declared.answer.Claim.TheVariants as answer
use Rattle.plural_cores.specs.Later.{IsLater, to_find}
use Rattle.plural_cores.specs.Sweeps.{IsTried, IsUntried, HasTried, HasClaimed, tells_whole, IsLeftOver, IsWhole}
use Rattle.plural_cores.proofs.Sums.{sum_least, sum_less}

-- ---- later seats

-- A seat is later than itself.
pub later_same : (s : SeatSeen) → IsLater s s
later_same s = record { table = refl; core = refl; found = λ t. omega arith; told = λ x h. h }

-- A seat that is later than a later one is later.
pub later_both : (r s t : SeatSeen) → IsLater r s → IsLater s t → IsLater r t
later_both r s t a b = record {
  table = b.table ∙ a.table;
  core = b.core ∙ a.core;
  found = λ u. omega (arith, a.found u, b.found u);
  told = λ x h. b.told x (a.told x h);
}

-- ---- what is left to find

-- It doesn't grow as more is found.
pub to_find_least : (p : ProgramValue) (v w : View) → ((t : ℕ) → get_or v.found t 0 ≤ get_or w.found t 0) → to_find p w ≤ to_find p v
unfolding to_find
to_find_least p v w h = sum_least _ _ (task_count p) (λ t small. omega (arith, h t))

-- It falls if more is found of one task, within its limit.
pub to_find_less : (p : ProgramValue) (v w : View) (t : ℕ) → ((t : ℕ) → get_or v.found t 0 ≤ get_or w.found t 0) → t < task_count p → get_or v.found t 0 < get_or w.found t 0 → get_or w.found t 0 ≤ 1 + quota_of p t → to_find p w < to_find p v
unfolding to_find
to_find_less p v w t h small more few = sum_less _ _ (task_count p) t (λ u low. omega (arith, h u)) small (omega (arith, more, few))

-- ---- one try

-- A task that wasn't tried is tried if it is tried after that, and so if it is tried and then left.
tried_after : (q t : ℕ) (u v w : View) → IsUntried t u v → IsTried q t v w → IsTried q t u w
tried_after q t u v w a b = record {
  looked = omega (arith, a.looks, b.looked);
  few = b.few;
  cause = elim b.cause [
    | inl x ↦ inl x
    | inr y ↦ inr (elim y [ inl z ↦ inl z | inr l ↦ inr (record { lost = omega (arith, a.losses, l.lost); more = omega (arith, a.found, l.more) }) ])
  ];
}

tried_before : (q t : ℕ) (u v w : View) → IsTried q t u v → IsUntried t v w → IsTried q t u w
tried_before q t u v w a b = record {
  looked = omega (arith, a.looked, b.looks);
  few = omega (arith, a.few, b.found);
  cause = elim a.cause [
    | inl x ↦ inl (b.found ∙ x)
    | inr y ↦ inr (elim y [ inl z ↦ inl (b.found ∙ z) | inr l ↦ inr (record { lost = omega (arith, b.losses, l.lost); more = omega (arith, b.found, l.more) }) ])
  ];
}

untried_both : (t : ℕ) (u v w : View) → IsUntried t u v → IsUntried t v w → IsUntried t u w
untried_both t u v w a b = record { looks = b.looks ∙ a.looks; losses = b.losses ∙ a.losses; found = b.found ∙ a.found }

module _ (q t : ℕ) (v : View) (found : t < length v.found) (looks : t < length v.looks) (losses : t < length v.losses) where
  -- A claim of an instance of task t leaves the other tasks untried.
  losses_other : (a : Claim) (u : ℕ) → u ≢ t → get_or (losses_after t a v.losses) u 0 ≡ get_or v.losses u 0
  losses_other (answer.Got k) u ne = refl
  losses_other answer.Unarmed u ne = refl
  losses_other answer.Handed u ne = refl
  losses_other (answer.Lost saw) u ne = get_or-set_other v.losses t u (get_or v.losses t 0 + 1) 0 ne

  others : (a : Claim) (u : ℕ) → u ≢ t → IsUntried u v (claimed q t a v)
  others a u ne = record {
    looks = get_or-set_other v.looks t u (get_or v.looks t 0 + 1) 0 ne;
    losses = losses_other a u ne;
    found = get_or-set_other v.found t u (found_by q a) 0 ne;
  }

  -- It is tried itself.
  found_here : (a : Claim) → get_or (claimed q t a v).found t 0 ≡ found_by q a
  found_here a = get_or-set_same v.found t (found_by q a) 0 found

  looks_here : (a : Claim) → get_or (claimed q t a v).looks t 0 ≡ get_or v.looks t 0 + 1
  looks_here a = get_or-set_same v.looks t (get_or v.looks t 0 + 1) 0 looks

  here : (a : Claim) → ((k : ℕ) → a ≡ answer.Got k → ⊥) → IsClaim q (get_or v.found t 0) a → IsTried q t v (claimed q t a v)
  here (answer.Got k) none is = absurd (none k refl)
  here answer.Unarmed none is = record { looked = looks_here answer.Unarmed; few = omega (arith, found_here answer.Unarmed); cause = inl (found_here answer.Unarmed) }
  here answer.Handed none is = record { looked = looks_here answer.Handed; few = omega (arith, found_here answer.Handed); cause = inr (inl (found_here answer.Handed)) }
  here (answer.Lost saw) none is =
      let at = found_here (answer.Lost saw) in
      record {
        looked = looks_here (answer.Lost saw);
        few = omega (arith, at, is);
        cause = inr (inr (record { lost = get_or-set_same v.losses t (get_or v.losses t 0 + 1) 0 losses; more = omega (arith, at, is) }));
      }

-- ---- the tries in turn

-- Before the first.
pub tried_none : (o : Opening) (s : SeatSeen) → s.view.stage ≡ Free → s.view.owes ≡ [] → HasTried o 0 s s
tried_none o s free nothing = record {
  later = later_same s;
  free = free;
  nothing = nothing;
  told = refl;
  tried = λ t h. absurd (omega arith);
  untried = λ t h. record { looks = refl; losses = refl; found = refl };
}

module _ (o : Opening) (t : ℕ) (old mid : SeatSeen) (a : Claim) (so_far : HasTried o t old mid) (view : IsViewOf o mid.view) (small : t < task_count o.program) (rose : get_or mid.view.found t 0 ≤ found_by (quota_of o.program t) a) (is : IsClaim (quota_of o.program t) (get_or mid.view.found t 0) a) where
  found_long : t < length mid.view.found
  found_long = omega (arith, view.found)

  looks_long : t < length mid.view.looks
  looks_long = omega (arith, view.looks)

  losses_long : t < length mid.view.losses
  losses_long = omega (arith, view.losses)

  next : SeatSeen
  next = seat_with mid (claimed (quota_of o.program t) t a mid.view)

  next_later : IsLater mid (seat_with mid (claimed (quota_of o.program t) t a mid.view))
  next_later = record {
    table = refl;
    core = refl;
    found = found_rose mid.view.found t (found_by (quota_of o.program t) a) found_long rose;
    told = λ x h. h;
  }

  before : (u : ℕ) → u < t → IsTried (quota_of o.program u) u old.view (claimed (quota_of o.program t) t a mid.view)
  before u low = tried_before (quota_of o.program u) u old.view mid.view _ (so_far.tried u low) (others (quota_of o.program t) t mid.view found_long looks_long losses_long a u (omega arith))

  after : (u : ℕ) → t < u → IsUntried u old.view (claimed (quota_of o.program t) t a mid.view)
  after u high = untried_both u old.view mid.view _ (so_far.untried u (omega arith)) (others (quota_of o.program t) t mid.view found_long looks_long losses_long a u (omega arith))

-- The seat stays free.
stage_free : (t : ℕ) (a : Claim) → ((k : ℕ) → a ≡ answer.Got k → ⊥) → stage_after t a ≡ Free
stage_free t (answer.Got k) none = absurd (none k refl)
stage_free t answer.Unarmed none = refl
stage_free t answer.Handed none = refl
stage_free t (answer.Lost saw) none = refl

-- One more task was tried.
tried_one_more : (o : Opening) (t : ℕ) (old mid : SeatSeen) (a : Claim) → HasTried o t old mid → IsViewOf o mid.view → t < task_count o.program → get_or mid.view.found t 0 ≤ found_by (quota_of o.program t) a → IsClaim (quota_of o.program t) (get_or mid.view.found t 0) a → ((k : ℕ) → a ≡ answer.Got k → ⊥) → HasTried o (t + 1) old (seat_with mid (claimed (quota_of o.program t) t a mid.view))
tried_one_more o t old mid a so_far view small rose is none = record {
  later = later_both old mid _ so_far.later (next_later o t old mid a so_far view small rose is);
  free = stage_free t a none;
  nothing = so_far.nothing;
  told = so_far.told;
  tried = λ u low. dite (ℕ_discrete u t)
      (λ e. subst (λ (x : ℕ). IsTried (quota_of o.program x) x old.view (claimed (quota_of o.program t) t a mid.view)) (sym e)
      (tried_after (quota_of o.program t) t old.view mid.view _ (so_far.untried t (omega arith)) (here (quota_of o.program t) t mid.view (omega (arith, view.found)) (omega (arith, view.looks)) (omega (arith, view.losses)) a none is)))
      (λ ne. before o t old mid a so_far view small rose is u (omega arith));
  untried = λ u high. after o t old mid a so_far view small rose is u (omega arith);
}

-- An instance of the next one was claimed.
tried_and_claimed : (o : Opening) (t k : ℕ) (old mid : SeatSeen) → HasTried o t old mid → IsViewOf o mid.view → t < task_count o.program → get_or mid.view.found t 0 ≤ k + 2 → IsClaim (quota_of o.program t) (get_or mid.view.found t 0) (answer.Got k) → (task_at o.program t).budget ≤ 100000000 → HasClaimed o (record { t = t; k = k }) old (seat_with mid (claimed (quota_of o.program t) t (answer.Got k) mid.view))
tried_and_claimed o t k old mid so_far view small rose is short =
    let next = next_later o t old mid (answer.Got k) so_far view small rose is in
    let first = to_find_least o.program old.view mid.view so_far.later.found in
    let here = found_here (quota_of o.program t) t mid.view (omega (arith, view.found)) (omega (arith, view.looks)) (omega (arith, view.losses)) (answer.Got k) in
    let fell = to_find_less o.program mid.view (claimed (quota_of o.program t) t (answer.Got k) mid.view) t next.found small (omega (arith, here, is)) (omega (arith, here, is)) in
    record {
      later = later_both old mid _ so_far.later next;
      is = (small, is.0);
      got = refl;
      nothing = so_far.nothing;
      told = so_far.told;
      tried = before o t old mid (answer.Got k) so_far view small rose is;
      looked = omega (arith, looks_here (quota_of o.program t) t mid.view (omega (arith, view.found)) (omega (arith, view.looks)) (omega (arith, view.losses)) (answer.Got k), (so_far.untried t (omega arith)).looks);
      untried = after o t old mid (answer.Got k) so_far view small rose is;
      short = short;
      less = omega (arith, first, fell);
    }

-- So it is if the seat and the program are told by equations.
pub one_more_is : (o : Opening) (p : ProgramValue) (t : ℕ) (old mid new : SeatSeen) (a : Claim) → p ≡ o.program → HasTried o t old mid → IsViewOf o mid.view → t < task_count o.program → new ≡ seat_with mid (claimed (quota_of p t) t a mid.view) → get_or mid.view.found t 0 ≤ found_by (quota_of p t) a → IsClaim (quota_of p t) (get_or mid.view.found t 0) a → ((k : ℕ) → a ≡ answer.Got k → ⊥) → HasTried o (t + 1) old new
one_more_is o p t old mid new a same so_far view small at rose is none =
    let r = subst (λ (q : ProgramValue). get_or mid.view.found t 0 ≤ found_by (quota_of q t) a) same rose in
    let i = subst (λ (q : ProgramValue). IsClaim (quota_of q t) (get_or mid.view.found t 0) a) same is in
    let e = at ∙ ap (λ (q : ProgramValue). seat_with mid (claimed (quota_of q t) t a mid.view)) same in
    subst (λ (s : SeatSeen). HasTried o (t + 1) old s) (sym e) (tried_one_more o t old mid a so_far view small r i none)

-- So it is of an instance that was claimed.
pub claimed_is : (o : Opening) (p : ProgramValue) (t k : ℕ) (old mid new : SeatSeen) → p ≡ o.program → HasTried o t old mid → IsViewOf o mid.view → t < task_count o.program → new ≡ seat_with mid (claimed (quota_of p t) t (answer.Got k) mid.view) → get_or mid.view.found t 0 ≤ k + 2 → IsClaim (quota_of p t) (get_or mid.view.found t 0) (answer.Got k) → (task_at p t).budget ≤ 100000000 → HasClaimed o (record { t = t; k = k }) old new
claimed_is o p t k old mid new same so_far view small at rose is short =
    let i = subst (λ (q : ProgramValue). IsClaim (quota_of q t) (get_or mid.view.found t 0) (answer.Got k)) same is in
    let e = at ∙ ap (λ (q : ProgramValue). seat_with mid (claimed (quota_of q t) t (answer.Got k) mid.view)) same in
    subst (λ (s : SeatSeen). HasClaimed o (record { t = t; k = k }) old s) (sym e) (tried_and_claimed o t k old mid so_far view small rose i (subst (λ (q : ProgramValue). (task_at q t).budget ≤ 100000000) same short))

-- ---- whether all that is known as armed is wholly handed out

-- Of no task it is so.
pub whole_none : (o : Opening) (v w : View) → IsWhole o 0 true v w
whole_none o v w = record { so = λ e t h. absurd (omega arith); not_so = λ e. absurd (cc) }

-- What was left over of a task still is if the task isn't tried.
left_over_kept : (q t : ℕ) (u v w : View) → IsLeftOver q t u v → IsUntried t v w → IsLeftOver q t u w
left_over_kept q t u v w a b = record {
  lost = record { lost = b.losses ∙ a.lost.lost; more = omega (arith, b.found, a.lost.more) };
  armed = omega (arith, b.found, a.armed);
  some_left = λ e. a.some_left (sym b.found ∙ e);
}

-- What a claim tells of its task.
module _ (q t : ℕ) (v : View) (found : t < length v.found) (looks : t < length v.looks) (losses : t < length v.losses) where
  told_whole : (a : Claim) → IsClaim q (get_or v.found t 0) a → tells_whole q a ≡ true → 1 ≤ get_or (claimed q t a v).found t 0 → get_or (claimed q t a v).found t 0 ≡ 1 + q
  told_whole (answer.Got k) is e some = absurd (cc)
  told_whole answer.Unarmed is e some = absurd (omega (arith, found_here q t v found looks losses answer.Unarmed))
  told_whole answer.Handed is e some = found_here q t v found looks losses answer.Handed
  told_whole (answer.Lost saw) is e some = omega (arith, found_here q t v found looks losses (answer.Lost saw), ltb-true q saw e, is)

  told_left : (u : View) → IsUntried t u v → (a : Claim) → ((k : ℕ) → a ≡ answer.Got k → ⊥) → IsClaim q (get_or v.found t 0) a → tells_whole q a ≡ false → IsLeftOver q t u (claimed q t a v)
  told_left u un (answer.Got k) none is e = absurd (none k refl)
  told_left u un answer.Unarmed none is e = absurd (cc)
  told_left u un answer.Handed none is e = absurd (cc)
  told_left u un (answer.Lost saw) none is e =
      let at = found_here q t v found looks losses (answer.Lost saw) in
      record {
        lost = record { lost = omega (arith, get_or-set_same v.losses t (get_or v.losses t 0 + 1) 0 losses, un.losses); more = omega (arith, at, is, un.found) };
        armed = omega (arith, at, is);
        some_left = λ s. omega (arith, at, s, ltb-false q saw e);
      }

-- Both parts of a test.
and_first : (a b : Bool) → (a && b) ≡ true → a ≡ true
and_first true b e = refl
and_first false b e = absurd (cc)

and_second : (a b : Bool) → (a && b) ≡ true → b ≡ true
and_second true b e = e
and_second false b e = absurd (cc)

whole_lost : {P : Type 0} (a b : Bool) → (a && b) ≡ false → (a ≡ false → P) → (b ≡ false → P) → P
whole_lost true b e first second = second e
whole_lost false b e first second = first refl

-- What is so of the first tasks is so of one more, by what its claim tells.
whole_more : (o : Opening) (t : ℕ) (whole : Bool) (old mid : SeatSeen) (a : Claim) → IsWhole o t whole old.view mid.view → HasTried o t old mid → IsViewOf o mid.view → t < task_count o.program → IsClaim (quota_of o.program t) (get_or mid.view.found t 0) a → ((k : ℕ) → a ≡ answer.Got k → ⊥) → IsWhole o (t + 1) (whole && tells_whole (quota_of o.program t) a) old.view (claimed (quota_of o.program t) t a mid.view)
whole_more o t whole old mid a is so_far view small claim none =
    let found : t < length mid.view.found = omega (arith, view.found) in
    let looks : t < length mid.view.looks = omega (arith, view.looks) in
    let losses : t < length mid.view.losses = omega (arith, view.losses) in
    record {
      so = λ e u low some. dite (ℕ_discrete u t)
          (λ same. subst (λ (x : ℕ). get_or (claimed (quota_of o.program t) t a mid.view).found x 0 ≡ 1 + quota_of o.program x) (sym same)
          (told_whole (quota_of o.program t) t mid.view found looks losses a claim (and_second whole _ e)
          (subst (λ (x : ℕ). 1 ≤ get_or (claimed (quota_of o.program t) t a mid.view).found x 0) same some)))
          (λ ne. let kept = (others (quota_of o.program t) t mid.view found looks losses a u ne).found in
          kept ∙ is.so (and_first whole _ e) u (omega arith) (omega (arith, kept, some)));
      not_so = λ e. whole_lost whole (tells_whole (quota_of o.program t) a) e
          (λ was. let w = is.not_so was in
          (w.0, omega (arith, w.1), left_over_kept (quota_of o.program w.0) w.0 old.view mid.view _ w.2 (others (quota_of o.program t) t mid.view found looks losses a w.0 (omega (arith, w.1)))))
          (λ now. (t, omega arith, told_left (quota_of o.program t) t mid.view found looks losses old.view (so_far.untried t (omega arith)) a none claim now));
    }

-- And so it is of what is known as wholly handed out.
pub whole_is : (o : Opening) (p : ProgramValue) (t quota : ℕ) (whole now : Bool) (old mid new : SeatSeen) (a : Claim) → p ≡ o.program → IsWhole o t whole old.view mid.view → HasTried o t old mid → IsViewOf o mid.view → t < task_count o.program → new ≡ seat_with mid (claimed (quota_of p t) t a mid.view) → IsClaim (quota_of p t) (get_or mid.view.found t 0) a → ((k : ℕ) → a ≡ answer.Got k → ⊥) → quota ≡ quota_of p t → now ≡ (whole && tells_whole quota a) → IsWhole o (t + 1) now old.view new.view
whole_is o p t quota whole now old mid new a same was so_far view small at is none of now_is =
    let i = subst (λ (q : ProgramValue). IsClaim (quota_of q t) (get_or mid.view.found t 0) a) same is in
    let e = at ∙ ap (λ (q : ProgramValue). seat_with mid (claimed (quota_of q t) t a mid.view)) same in
    let b : now ≡ (whole && tells_whole (quota_of o.program t) a) = now_is ∙ ap (λ (n : ℕ). whole && tells_whole n a) (of ∙ ap (λ (q : ProgramValue). quota_of q t) same) in
    let more = whole_more o t whole old mid a was so_far view small i none in
    subst (λ (s : SeatSeen). IsWhole o (t + 1) now old.view s.view) (sym e) (subst (λ (x : Bool). IsWhole o (t + 1) x old.view (claimed (quota_of o.program t) t a mid.view)) (sym b) more)
