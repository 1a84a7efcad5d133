-- The instances of a serial run, one after another from one memory to another.
use Rattle.std.proofs.Common.{◌≡◌, ℕ, List, [], ◌∷◌, ◌++◌, sym, ap, subst, ◌∙◌}
use Rattle.std.proofs.lemmas.List.{map-append}
use Rattle.plural_map.specs.Limits.{IsMap}
use Rattle.plural_serial.specs.Program.{ProgramValue, life_of}
use Rattle.plural_serial.specs.Serial.{Started, serial_of}
use Rattle.plural_serial.specs.Instances.{instance_of, insts as instances_of}
use Rattle.plural_serial.specs.Stretches.{Chain}
use Rattle.plural_serial.proofs.WholeLives.{lives_set}
use Rattle.plural_serial.proofs.Stretches.{serial_chain}
use Rattle.plural_order.specs.World.{run, start_at}
use Rattle.plural_order.specs.ProgramWorld.{world_of}
use Rattle.plural_order.proofs.Runs.{start_here}
use Rattle.plural_order.proofs.SerialOrders.{ran_ordered}

chain_run : (p : ProgramValue) (image m n : List ℕ) (ss : List Started) → Chain p m ss n → run (world_of p image) m (instances_of ss) ≡ n
chain_run p image m n [] c = c
chain_run p image m n (s ∷ ss) c =
    ap (λ (l : List ℕ). run (world_of p image) l (instances_of ss)) (sym (lives_set p s.t s.k m))
    ∙ chain_run p image (life_of p s.t s.k m).memory n ss c.1

chain_start : (p : ProgramValue) (image m n : List ℕ) (past : List Started) (s : Started) (rest : List Started) → Chain p m (past ++ s ∷ rest) n → s.start ≡ run (world_of p image) m (instances_of past)
chain_start p image m n [] s rest c = c.0
chain_start p image m n (x ∷ past) s rest c =
    chain_start p image (life_of p x.t x.k m).memory n past s rest c.1
    ∙ ap (λ (l : List ℕ). run (world_of p image) l (instances_of past)) (lives_set p x.t x.k m)

-- The memory that the serial run leaves is that of the world's run.
pub final_is : (p : ProgramValue) (m : List ℕ) → run (world_of p m) m (world_of p m).ran ≡ (serial_of p m).memory
final_is p m = chain_run p m m (serial_of p m).memory (serial_of p m).ran (serial_chain p m)

-- The memory at an instance's start in the serial run is the world's.
pub start_is : (p : ProgramValue) (m : List ℕ) → IsMap p.map → (past : List Started) (s : Started) (rest : List Started) → (serial_of p m).ran ≡ past ++ s ∷ rest
    → s.start ≡ start_at (world_of p m) (instance_of s)
start_is p m limits past s rest e =
    chain_start p m m (serial_of p m).memory past s rest (subst (λ (l : List Started). Chain p m l (serial_of p m).memory) e (serial_chain p m))
    ∙ sym (start_here (world_of p m) (instances_of past) (instance_of s) (instances_of rest) (ran_ordered p m limits) (ap instances_of e ∙ map-append instance_of past (s ∷ rest)))
