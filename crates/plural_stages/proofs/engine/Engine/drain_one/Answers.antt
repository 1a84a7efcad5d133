use Rattle.std.proofs.Common.{rules, ◌≡◌, refl, sym, ap, ◌∙◌, subst, drop, ℕ, List}
use Rattle.plural_cache.specs.Buffer.{told_through, IsBufferOver}
use Rattle.plural_words.specs.Lent.{told_in}
use Rattle.plural_words.specs.Seen.{SeatSeen}
use Rattle.plural_stages.specs.Engines.{EngineSeen, IsRunning, all_turns_of}
use Rattle.plural_stages.proofs.Endings.{running_lent, few_made, drain_is, one_less}
use Rattle.plural_stages.proofs.engine.Engine.drain_one.Goals as goal

-- The seat is lent to the bus.
pub drain-requires-clause-sound : goal.drain-requires-clause-sound
drain-requires-clause-sound c =
    running_lent c.args.words.now c.args.t c.args.k (all_turns_of c.args.words.now.opening c.args.t c.args.k) c.args.self.now c.args.seat.now c.requires.of c.requires.running

-- The bus has room for a store more.
pub drain-requires-clause-room : goal.drain-requires-clause-room
drain-requires-clause-room c = few_made c.args.words.now.opening c.args.t c.args.k c.args.self.now c.args.seat.now c.requires.running

-- The engine is as far with its instance, with a store less that waits.
pub returns-clause-running : goal.returns-clause-running
returns-clause-running c =
    let w = c.args.words.now in
    let o = w.opening in
    let t = c.args.t in
    let k = c.args.k in
    let old = c.args.seat.now in
    let new = c.drain.new.bus.seat.now in
    let turns = all_turns_of o t k in
    let pairs = c.self.inside.buffer in
    let run = subst (λ (e : EngineSeen). IsRunning o t k turns e old) (sym c.self.view_is) c.requires.running in
    let d = drain_is _ _ _ _ pairs _ c.drain.new.bus (refl, refl, refl) (running_lent w t k turns _ old c.requires.of run) c.drain.ensures.bus in
    let words = ap (λ x. x.opening) d.kept.1 in
    let oldest = c.drain.ensures.oldest in
    let told : told_through (drop 1 pairs) (told_in o new.view.stage) ≡ told_through pairs (told_in o old.view.stage) =
    ap (λ (x : List (ℕ × ℕ)). told_through x (told_in o new.view.stage)) (sym oldest) ∙ ap (λ x. told_through c.drain.new.self (told_in x new.view.stage)) (sym words) ∙ c.drain.ensures.told in
    let waits : IsBufferOver (drop 1 pairs) (told_in o new.view.stage) =
    subst (λ x. IsBufferOver (drop 1 pairs) (told_in x new.view.stage)) words (subst (λ (x : List (ℕ × ℕ)). IsBufferOver x (told_in c.drain.new.bus.words.now.opening new.view.stage)) oldest c.drain.ensures.over) in
    let less = one_less o t k turns _ (drop 1 pairs) old new run d.kept.2 d.read d.written told waits in
    let here = subst (λ (x : List (ℕ × ℕ)). IsRunning o t k turns (record { cache = c.self.inside.cache; pairs = x; core = c.self.inside.hart; start = c.self.inside.start }) new) (sym oldest) less in
    subst (λ (s : SeatSeen). IsRunning o t k turns (record { cache = c.self.inside.cache; pairs = c.drain.new.self; core = c.self.inside.hart; start = c.self.inside.start }) s) (search rules) here
