use Rattle.std.proofs.Common.{◌∙◌, refl, sym, subst, ap, length, ◌<◌, slice_index}
use Rattle.plural_map.specs.Limits.{IsMap}
use Rattle.plural_map.specs.Value.{TaskValue}
use Rattle.plural_core.specs.Turn.{start_of}
use Rattle.plural_serial.specs.Program.{ProgramValue, task_at}
use Rattle.plural_stages.specs.Engines.{EngineSeen}
use Rattle.plural_stages.proofs.Starts.{begun, runs_is, under_way}
use Rattle.plural_stages.proofs.engine.Engine.begin.Goals as goal

-- The call of `task` has what it requires.
pub task-task-requires : goal.task-task-requires
task-task-requires c =
    let o = c.args.words.now.opening in
    let limits = subst IsMap (c.map.ensures ∙ ap (λ (p : ProgramValue). p.map) c.requires.program) c.words-words.ensures.limits in
    let under = under_way o c.args.t c.args.k c.begin-start.result _ _ c.requires.got c.begin-start.ensures.under_way in
    subst (λ (p : ProgramValue). c.args.t < length p.map.tasks) (sym c.requires.program) (runs_is o c.args.t c.args.k limits under.runs).0

-- The instance goes on.
pub returns-clause-going : goal.returns-clause-going
returns-clause-going c =
    let o = c.args.words.now.opening in
    let t = c.args.t in
    let k = c.args.k in
    let limits = subst IsMap (c.map.ensures ∙ ap (λ (p : ProgramValue). p.map) c.requires.program) c.words-words.ensures.limits in
    let under = under_way o t k c.begin-start.result _ _ c.requires.got c.begin-start.ensures.under_way in
    let f : EngineSeen = record { cache = c.empty.new.cache; pairs = c.empty.new.buffer; core = c.start-self-inside.result; start = c.begin-start.result } in
    let shape = c.requires.shape in
    let seen = c.self.view_is in
    let task = c.task-task.ensures.value ∙ ap (λ (p : ProgramValue). task_at p t) c.requires.program in
    begun o t k c.begin-start.result _ _ f c.begin-start.new.seat limits under c.empty.ensures.cache
    (ap (λ (e : EngineSeen). e.cache.sets) seen ∙ shape.sets ∙ ap (λ (p : ProgramValue). p.map.sets) c.requires.program)
    (ap (λ (e : EngineSeen). e.cache.ways) seen ∙ shape.ways ∙ ap (λ (p : ProgramValue). p.map.ways) c.requires.program)
    c.empty.ensures.buffer
    (c.start-self-inside.ensures
    ∙ ap (λ i. start_of i k c.quota.result c.budget.result) (c.entry.ensures.value ∙ ap (λ (p : ProgramValue). slice_index p.entries t) c.requires.program)
    ∙ ap (λ q. start_of (slice_index o.program.entries t) k q c.budget.result) (c.quota.ensures ∙ ap (λ (x : TaskValue). x.quota) task)
    ∙ ap (λ b. start_of (slice_index o.program.entries t) k (task_at o.program t).quota b) (c.budget.ensures ∙ ap (λ (x : TaskValue). x.budget) task))
    refl
