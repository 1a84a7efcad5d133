-- The records of a serial run follow one another along the map's order.
use Rattle.std.proofs.Common.{◌≡◌, ℕ, List, [], ◌∷◌, map, subst, arith}
use Rattle.std.specs.List.{All}
use Rattle.std.proofs.lemmas.List.Elements.{All-head, All-tail, All-cons}
use Rattle.plural_map.specs.Value.{TaskValue}
use Rattle.plural_map.specs.Limits.{IsMap}
use Rattle.plural_map.specs.Order.{order_of}
use Rattle.plural_reach.specs.Chains.{Before}
use Rattle.plural_reach.specs.Laws.{Reaches}
use Rattle.plural_reach.proofs.Ranks.{never_itself}
use Rattle.plural_reach.proofs.TableEntries.{reaches_all}
use Rattle.plural_serial.specs.declared.record_.Record.{Record}
use Rattle.plural_serial.specs.Program.{ProgramValue}
use Rattle.plural_serial.specs.Serial.{Started, serial_of}
use Rattle.plural_serial.specs.Answer.{record_of}
use Rattle.plural_serial.proofs.Turns.{Follows, InTurn, serial_run}
use Rattle.plural_order.proofs.SerialOrders.{follows_other, follows_free}
use Rattle.plural_trace.specs.Verdicts.{records_of}

-- Of two records of a serial run the later is of another instance, and its task isn't before that of the first.
pub record IsLater (tasks : List TaskValue) (r s : Record) : Type 0 where
  pub other : r.t ≡ s.t → r.k ≡ s.k → ⊥
  pub free : Before tasks s.t r.t → ⊥

later_from : (p : ProgramValue) (s u : Started) → Follows (order_of p.map.tasks) s u → IsLater p.map.tasks (record_of p s) (record_of p u)
later_from p s u h = record {
  other = follows_other p.map.tasks s u h;
  free = follows_free p.map.tasks s u h;
}

-- A record's task isn't before itself.
abbrev pub IsFree : List TaskValue → Record → Type 0
IsFree tasks r = Before tasks r.t r.t → ⊥

-- Each is later than all before it, and its task isn't before itself.
abbrev pub InOrder : List TaskValue → List Record → Type 0
InOrder tasks [] = Unit {0}
InOrder tasks (r ∷ rs) = IsFree tasks r × All (IsLater tasks r) rs × InOrder tasks rs

later_all : (p : ProgramValue) (s : Started) (ss : List Started) → All (Follows (order_of p.map.tasks) s) ss → All (IsLater p.map.tasks (record_of p s)) (map (record_of p) ss)
later_all p s [] h = λ k d lt. absurd (omega arith)
later_all p s (u ∷ us) h =
    All-cons (IsLater p.map.tasks (record_of p s)) (record_of p u) (map (record_of p) us) (later_from p s u (All-head (Follows (order_of p.map.tasks) s) u us h)) (later_all p s us (All-tail (Follows (order_of p.map.tasks) s) u us h))

in_order : (p : ProgramValue) (ss : List Started) → Reaches p.map.tasks → InTurn (order_of p.map.tasks) ss → InOrder p.map.tasks (map (record_of p) ss)
in_order p [] reaches h = tt
in_order p (s ∷ ss) reaches h = (never_itself p.map.tasks reaches s.t, later_all p s ss h.0, in_order p ss reaches h.1)

-- The records of a serial run are in order.
pub records_in_order : (p : ProgramValue) (m : List ℕ) → IsMap p.map → InOrder p.map.tasks (records_of p m)
records_in_order p m limits =
    in_order p (serial_of p m).ran (reaches_all p.map limits) (subst (λ (o : List ℕ). InTurn o (serial_of p m).ran) limits.ordered (serial_run p m).turn)
