-- The laws of a program's serial run, from the lemmas.
use Rattle.std.proofs.Common.{◌≡◌, ℕ, ◌<◌, List, [], ◌∷◌, ◌++◌, length, map, refl, sym, ap, ◌∙◌, arith, append_assoc}
use Rattle.std.specs.Int.{bit_at}
use Rattle.std.proofs.lemmas.Bool.{false_from_ne_true}
use Rattle.plural_cache.specs.Miss.{misses_of}
use Rattle.plural_core.specs.declared.end.End.{End}
use Rattle.plural_map.specs.Limits.{IsMap}
use Rattle.plural_reach.specs.Chains.{comes_before}
use Rattle.plural_reach.proofs.Ranks.{before_test}
use Rattle.plural_reach.proofs.TableEntries.{reaches_all}
use Rattle.plural_serial.specs.declared.record_.Record.{Record}
use Rattle.plural_serial.specs.Program.{ProgramValue}
use Rattle.plural_serial.specs.Serial.{Started, serial_of}
use Rattle.plural_serial.specs.Answer.{record_of}
use Rattle.plural_serial.specs.Instances.{Inst as Instance, instance_of}
use Rattle.plural_serial.proofs.WholeLives.{lives_set}
use Rattle.plural_order.specs.World.{Life, Ordered, IsOrder}
use Rattle.plural_order.specs.ProgramWorld.{world_of}
use Rattle.plural_order.specs.ProgramLaws.{MemoriesOfProgram, record_in, RecordsOfProgram, IsOrderOfRun, AnyOrderOfProgram}
use Rattle.plural_order.specs.Sums.{sign, masked, times}
use Rattle.plural_order.specs.TaskGraph.{any_edge, decide_by, RootsRun}
use Rattle.plural_order.specs.ProgramGraph.{OutcomesOfProgram}
use Rattle.plural_order.proofs.Chains.{final_is, start_is}
use Rattle.plural_order.proofs.Instances.{append_one}
use Rattle.plural_order.proofs.WorldLaws.{any_order}
use Rattle.plural_order.proofs.ProgramWorlds.{world_of_program}
use Rattle.plural_order.proofs.Sums.{below_none, below_zero}
use Rattle.plural_order.proofs.Dependencies.{outcome_there, decision_is}

-- The memories of the serial run are those of its world.
pub memories_of_program : MemoriesOfProgram
memories_of_program p m limits = record { final = sym (final_is p m); starts = start_is p m limits; lives = lives_set p }

-- an order in the words of the map is one of the world
world_order : (p : ProgramValue) (m : List ℕ) (order : List Instance) → IsMap p.map → IsOrderOfRun p m order → IsOrder (world_of p m) order
world_order p m order limits good = record { all = good.all; ordered = by [] order refl }
  where
    by : (past rest : List Instance) → order ≡ past ++ rest → Ordered (world_of p m) rest
    by past [] e = tt
    by past (i ∷ rest) e = (
      good.once past i rest e,
      (λ j h. false_from_ne_true (comes_before p.map.tasks j.0 i.0) (λ b. good.kept past i rest j e h ((before_test p.map.tasks (reaches_all p.map limits) j.0 i.0).0 b))),
      by (past ++ i ∷ []) rest (e ∙ sym (append_one past i rest)),
    )

-- Any order that the dependencies allow leaves the memory and the records of the serial run.
pub any_order_of_program : AnyOrderOfProgram
any_order_of_program p m ok order good =
    let alike = any_order (world_of p m) (world_of_program p m ok) order (world_order p m order ok.limits good) in
    record {
      memory = alike.memory ∙ final_is p m;
      records = λ xs s ys past rest e o.
          ap (record_with s) (alike.lives past (instance_of s) rest o)
          ∙ ap (λ (n : List ℕ). record_of p (record { t = s.t; k = s.k; start = n })) (sym (start_is p m ok.limits xs s ys e));
    }
  where
    record_with : Started → Life End → Record
    record_with s l = record {
      t = s.t;
      k = s.k;
      «end» = l.over;
      instructions = l.instructions;
      loads = length l.loads;
      misses = misses_of p.map.sets p.map.ways l.loads;
      stores = length l.stores;
    }

-- The records of the serial run are those of the instances that run.
pub records_of_program : RecordsOfProgram
records_of_program p m limits = by [] (serial_of p m).ran refl
  where
    by : (xs ys : List Started) → (serial_of p m).ran ≡ xs ++ ys → map (record_of p) ys ≡ map (record_in p m) (map instance_of ys)
    by xs [] e = refl
    by xs (s ∷ ys) e =
        let here : record_of p s ≡ record_in p m (instance_of s) = ap (λ (n : List ℕ). record_of p (record { t = s.t; k = s.k; start = n })) (start_is p m limits xs s ys e) in
        let rest = by (xs ++ s ∷ []) ys (e ∙ sym (append_assoc xs (s ∷ []) ys)) in
        ap (λ (r : Record). r ∷ map (record_of p) ys) here ∙ ap (λ (l : List Record). record_in p m (instance_of s) ∷ l) rest

-- A task without dependencies runs, and no task comes before it.
pub roots_run : RootsRun
roots_run g ok u l none =
    let nothing : (t : ℕ) → t < g.tasks → times u (g.successors t) ≡ 0 = λ t h. below_zero (λ t. times u (g.successors t)) g.tasks t (sym (ok.deps_counted u l) ∙ none) h in
    let edge : any_edge g u 0 ≡ 0 = ap sign (below_none (λ t. masked (times u (g.successors t)) (bit_at (g.edges t u) 0)) g.tasks (λ t h. ap (λ (n : ℕ). masked n (bit_at (g.edges t u) 0)) (nothing t h))) in
    record {
      runs = λ k h. ok.runs u k l
          (ap (λ (n : ℕ). decide_by (g.some u) (g.deps u) n (any_edge g u 1) (any_edge g u 2)) edge
          ∙ ap (λ (n : ℕ). decide_by (g.some u) n 0 (any_edge g u 1) (any_edge g u 2)) none) h;
      first = λ t. false_from_ne_true (g.before t u) (λ b. let x = ok.before_by t u b in let none_there = nothing x.0 x.1 in let one_there = x.2 in omega arith);
    }

-- The outcomes and the decisions of the serial run are those of its task graph.
pub outcomes_of_program : OutcomesOfProgram
outcomes_of_program p m limits = record {
  outcomes = outcome_there p m limits;
  decisions = λ t l. decision_is p m t limits l;
}
