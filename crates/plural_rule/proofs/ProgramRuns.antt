-- The serial run of a program whose map has no clash is what the rule asks of an opening.
use Rattle.std.proofs.Common.{◌≡◌, ℕ, zero, suc, ◌+◌, List, [], ◌∷◌, length, get_or, sym, refl, ap, arith}
use Rattle.std.specs.List.{sum_by}
use Rattle.std.proofs.lemmas.List.Sums.{sum-map, sum_by-cons}
use Rattle.plural_map.specs.Value.{TaskValue, no_task}
use Rattle.plural_map.specs.Limits.{IsMap}
use Rattle.plural_serial.proofs.Stretches.{ran_instances}
use Rattle.plural_order.specs.Sums.{sum_below}
use Rattle.plural_order.specs.TaskGraph.{IsTaskGraph}
use Rattle.plural_order.specs.ProgramWorld.{IsOpening}
use Rattle.plural_order.proofs.ProgramLaws.{memories_of_program, records_of_program, outcomes_of_program}
use Rattle.plural_order.proofs.ProgramWorlds.{world_of_program}
use Rattle.plural_order.proofs.ProgramGraphs.{graph_of_program}
use Rattle.plural_rule.specs.Opening.{Opening, HasSerialRun, world_in, graph_in, record_of, ends_of, edges_of, outcome_of}
use Rattle.plural_rule.specs.Named.{SerialRunNamed}

-- A sum below a number, its first part apart.
first_apart : (f : ℕ → ℕ) (n : ℕ) → sum_below f (suc n) ≡ f 0 + sum_below (λ i. f (suc i)) n
first_apart f zero = omega arith
first_apart f (suc n) = omega (arith, first_apart f n)

-- The quotas of all tasks.
sum_quotas : (tasks : List TaskValue) → sum_below (λ t. (get_or tasks t no_task).quota) (length tasks) ≡ sum_by (λ t. t.quota) tasks
sum_quotas [] = refl
sum_quotas (x ∷ xs) =
    let apart : sum_below (λ t. (get_or (x ∷ xs) t no_task).quota) (suc (length xs)) ≡ x.quota + sum_below (λ t. (get_or xs t no_task).quota) (length xs) = first_apart (λ t. (get_or (x ∷ xs) t no_task).quota) (length xs) in
    let long : length (x ∷ xs) ≡ suc (length xs) = omega arith in
    omega (arith, ap (sum_below (λ t. (get_or (x ∷ xs) t no_task).quota)) long, apart, sum_quotas xs, sum_by-cons (λ (t : TaskValue). t.quota) x xs)

-- It has a serial run.
pub runs_serially : (o : Opening) → IsOpening o.program o.image → HasSerialRun o
unfolding world_in
runs_serially o ok = record {
  few_words = ok.limits.words_high;
  few_tasks = ok.limits.few_tasks;
  few_instances = omega (arith, sum_quotas o.program.map.tasks, sum-map (λ (t : TaskValue). t.quota) o.program.map.tasks, ok.limits.few_instances);
  world = world_of_program o.program o.image ok;
  image = refl;
  words = refl;
  instances = ran_instances o.program o.image ok.limits;
  inside = λ t k a ran reads. let i = ran_instances o.program o.image ok.limits t k ran in (ok.limits.each t no_task i.0).inside k a i.1 reads;
}

-- Its tasks are a graph.
pub graph_of_run : (o : Opening) → IsMap o.program.map → IsTaskGraph (graph_in o)
unfolding world_in ends_of edges_of outcome_of
graph_of_run o limits = graph_of_program o.program o.image limits

-- What the closed names say.
pub serial_run_named : SerialRunNamed
unfolding world_in record_of ends_of edges_of outcome_of
serial_run_named o limits =
    let memories = memories_of_program o.program o.image limits in
    let settled = outcomes_of_program o.program o.image limits in
    record {
      ran = refl;
      memory = sym memories.final;
      outcomes = settled.outcomes;
      decisions = settled.decisions;
      records = records_of_program o.program o.image limits;
      reads = λ t k a. refl;
      writes = λ t k a. refl;
      stores = λ t k. refl;
      ends = λ t k. refl;
      edges = λ t u. refl;
    }
