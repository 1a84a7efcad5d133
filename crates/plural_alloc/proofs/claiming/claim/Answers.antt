use Rattle.std.proofs.Common.{◌≡◌, ◌∙◌, ℕ, ◌+◌, ◌-◌, ◌≤◌, List, ap, arith, set}
use Rattle.std.proofs.lemmas.List.{set-set}
use Rattle.plural_rule.specs.Opening.{quota_of}
use Rattle.plural_rule.specs.Steps.{looked, lost, took, risen}
use Rattle.plural_rule.specs.declared.view.View.{View}
use Rattle.plural_rule.specs.declared.view.Stage.{Stage}
use Rattle.plural_rule.specs.declared.view.Stage.TheVariants.{Free, Got}
use Rattle.plural_words.specs.Seen.{SeatSeen, seat_with}
use Rattle.plural_alloc.specs.Claims.{claimed}
use Rattle.plural_alloc.specs.declared.answer.Claim.TheVariants as answer
use Rattle.plural_alloc.proofs.claiming.claim.Goals as goal

-- What the load found is written over.
got_view : (v : View) (quota t n : ℕ) → 1 ≤ n → took (looked v t n) t n ≡ claimed quota t (answer.Got (n - 1)) v
got_view v quota t n some =
    let e : n + 1 ≡ n - 1 + 2 = omega (arith, some) in
    ap (λ (l : List ℕ). record v { found = l; looks = risen v.looks t; stage = Got t (n - 1) }) (set-set v.found t n (n + 1) ∙ ap (λ (x : ℕ). set v.found t x) e)

lost_view : (v : View) (quota t n saw : ℕ) → v.stage ≡ Free → lost (looked v t n) t saw ≡ claimed quota t (answer.Lost saw) v
lost_view v quota t n saw free =
    ap (λ (l : List ℕ). record v { found = l; looks = risen v.looks t; losses = risen v.losses t }) (set-set v.found t n saw)
    ∙ ap (λ (s : Stage). record v { found = set v.found t saw; looks = risen v.looks t; losses = risen v.losses t; stage = s }) free

-- An exchange that was made leaves the seat as a claim that got its instance does.
pub returns-in-Ok-clause-seat : goal.returns-in-Ok-clause-seat
returns-in-Ok-clause-seat c =
    let n = c.load_alloc-loaded.result in
    c.in-Ok.ensures.got
    ∙ (ap (λ (s : SeatSeen). seat_with s (took s.view c.args.t n)) c.load_alloc-loaded.ensures.seat
    ∙ ap (λ (v : View). seat_with c.args.seat.now v) (got_view c.args.seat.now.view (quota_of c.args.program.now c.args.t) c.args.t n (omega (arith, c.if-loaded-eq0.false))))

-- An exchange that was lost leaves it as a lost claim does.
pub returns-in-Err-clause-seat : goal.returns-in-Err-clause-seat
returns-in-Err-clause-seat c =
    let n = c.load_alloc-loaded.result in
    c.in-Err.ensures.lost
    ∙ (ap (λ (s : SeatSeen). seat_with s (lost s.view c.args.t c.in-Err.saw)) c.load_alloc-loaded.ensures.seat
    ∙ ap (λ (v : View). seat_with c.args.seat.now v) (lost_view c.args.seat.now.view (quota_of c.args.program.now c.args.t) c.args.t n c.in-Err.saw c.requires.free))
