-- What each step does to the view that takes it. (This project's own.)
use Rattle.std.specs.Prelude.{ℕ, ◌+◌, ◌-◌, ◌==◌, not, max, length, replicate, map, cond, List, [], ◌∷◌, ◌++◌, filter}
use Rattle.std.specs.Prelude.{slice_index, slice_set}
use Rattle.plural_counters.specs.Steps.{owed_in, told_in}
use Rattle.plural_counters.specs.declared.duty.Duty.{Duty}
use Rattle.plural_counters.specs.declared.duty.Duty.TheVariants.{Flag}
use Rattle.plural_rule.specs.Opening.{Opening, task_count}
use Rattle.plural_rule.specs.declared.view.View.{View}
use Rattle.plural_rule.specs.declared.view.Stage.{Stage}
use Rattle.plural_rule.specs.declared.view.Stage.TheVariants.{Free, Got, Begun, Ended}
use Rattle.plural_rule.specs.declared.view.Role.{Role}
use Rattle.plural_rule.specs.declared.view.Role.TheVariants.{Seat, Root, Spent}

-- The list with its number at t risen by one.
abbrev pub risen : List ℕ → (t : ℕ) → List ℕ
risen l t = slice_set l t (slice_index l t + 1)

-- ---- claiming

-- A load of the alloc word of task t has found n.
abbrev pub looked : View → (t n : ℕ) → View
looked v t n = record v { found = slice_set v.found t n; looks = risen v.looks t }

-- An exchange of the alloc word of task t has found n, and not what it wanted.
abbrev pub lost : View → (t n : ℕ) → View
lost v t n = record v { found = slice_set v.found t n; losses = risen v.losses t }

-- An exchange of the alloc word of task t, from n to n + 1, has handed out its instance n - 1.
abbrev pub took : View → (t n : ℕ) → View
took v t n = record v { found = slice_set v.found t (n + 1); stage = Got t (n - 1) }

-- ---- an instance

-- The instance begins at this ticket.
abbrev pub begun_at : Stage → (start : ℕ) → Stage
begun_at Free start = Free
begun_at (Got t k) start = Begun t k start 0 0
begun_at (Begun t k s made reads) start = Begun t k s made reads
begun_at (Ended t k s end reads noted) start = Ended t k s end reads noted

abbrev pub began : View → (start : ℕ) → View
began v start = record v { stage = begun_at v.stage start }

-- It has read one word more of the memory.
abbrev pub one_read : Stage → Stage
one_read Free = Free
one_read (Got t k) = Got t k
one_read (Begun t k start made reads) = Begun t k start made (reads + 1)
one_read (Ended t k start end reads noted) = Ended t k start end reads noted

abbrev pub did_read : View → View
did_read v = record v { stage = one_read v.stage }

-- It has made one store more.
abbrev pub one_store : Stage → Stage
one_store Free = Free
one_store (Got t k) = Got t k
one_store (Begun t k start made reads) = Begun t k start (made + 1) reads
one_store (Ended t k start end reads noted) = Ended t k start end reads noted

abbrev pub stored : View → View
stored v = record v { stage = one_store v.stage }

-- It ends at this ticket, with nothing noted.
abbrev pub ended_at : Stage → (end : ℕ) → Stage
ended_at Free end = Free
ended_at (Got t k) end = Got t k
ended_at (Begun t k start made reads) end = Ended t k start end reads []
ended_at (Ended t k start e reads noted) end = Ended t k start e reads noted

abbrev pub ended : View → (end : ℕ) → View
ended v end = record v { stage = ended_at v.stage end }

-- The value x is noted for field f of its record.
abbrev pub one_note : Stage → (f x : ℕ) → Stage
one_note Free f x = Free
one_note (Got t k) f x = Got t k
one_note (Begun t k start made reads) f x = Begun t k start made reads
one_note (Ended t k start end reads noted) f x = Ended t k start end reads ((f, x) ∷ noted)

abbrev pub did_note : View → (f x : ℕ) → View
did_note v f x = record v { stage = one_note v.stage f x }

-- It is done: the view is free again, and owes that its end be flagged.
abbrev pub to_flag : Stage → List Duty
to_flag Free = []
to_flag (Got t k) = []
to_flag (Begun t k start made reads) = []
to_flag (Ended t k start end reads noted) = Flag t k ∷ []

abbrev pub finished : View → View
finished v = record v { stage = Free; owes = to_flag v.stage ++ v.owes }

-- ---- settling

-- One of its duties gives way to others: what of them is owed comes before the rest, and what of them was told it has
-- told.
abbrev pub gives_way : View → (new rest : List Duty) → View
gives_way v new rest = record v { owes = owed_in new ++ rest; told = told_in new ++ v.told }

-- It has armed task t, and owes the rest.
abbrev pub armed : View → (t : ℕ) → (rest : List Duty) → View
armed v t rest = record v { found = slice_set v.found t 1; owes = rest }

-- ---- seats

-- No looks and no losses, one number a task.
abbrev pub none_each : Opening → List ℕ
none_each o = replicate (task_count o.program) 0

-- The root has one seat more out.
abbrev pub sent_out : (core : ℕ) → Role → Role
sent_out core (Seat c) = Seat c
sent_out core (Root outs) = Root (core ∷ outs)
sent_out core Spent = Spent

abbrev pub root_after : View → (core : ℕ) → View
root_after v core = record v { role = sent_out core v.role }

-- The new seat has found what the root has found, owes nothing and has told nothing.
abbrev pub new_seat : View → (core : ℕ) → View
new_seat v core = record {
  opening = v.opening;
  found = v.found;
  looks = none_each v.opening;
  losses = none_each v.opening;
  role = Seat core;
  stage = Free;
  owes = [];
  told = [];
}

-- The seat comes back.
abbrev pub back_in : (seat root : Role) → Role
back_in (Seat c) (Root outs) = Root (filter (λ d. not (d == c)) outs)
back_in seat root = root

-- The larger of each two numbers.
abbrev pub larger_each : List ℕ → List ℕ → List ℕ
larger_each [] ys = ys
larger_each (x ∷ xs) [] = x ∷ xs
larger_each (x ∷ xs) (y ∷ ys) = max x y ∷ larger_each xs ys

-- The root takes what the seat found and told.
abbrev pub joined : (root seat : View) → View
joined v w = record v {
  found = larger_each v.found w.found;
  role = back_in w.role v.role;
  owes = v.owes ++ w.owes;
  told = v.told ++ w.told;
}

-- What is left of a view that was joined. It is the same of each.
abbrev pub spent : Opening → View
spent o = record {
  opening = o;
  found = [];
  looks = [];
  losses = [];
  role = Spent;
  stage = Free;
  owes = [];
  told = [];
}

-- ---- the first view

-- The root's view before any step: each task without dependencies is armed.
abbrev pub first_view : Opening → View
first_view o = record {
  opening = o;
  found = map (λ task. cond (length task.deps == 0) 1 0) o.program.map.tasks;
  looks = none_each o;
  losses = none_each o;
  role = Root [];
  stage = Free;
  owes = [];
  told = [];
}
