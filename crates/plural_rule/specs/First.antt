-- The words before any step. (This project's own.)
use Rattle.std.specs.Prelude.{ℕ, ◌*◌, ◌==◌, cond, List, [], ◌∷◌, ◌++◌, length, replicate}
use Rattle.std.specs.List.{flat_map}
use Rattle.plural_map.specs.Value.{TaskValue}
use Rattle.plural_serial.specs.Program.{ProgramValue}
use Rattle.plural_rule.specs.Opening.{task_count}
use Rattle.plural_rule.specs.Layout.{instances_before}

-- The five words of a task: it is armed if it has no dependency; no instance has ended, and all are left to count; no
-- dependency is met, and all are open.
abbrev pub first_five : TaskValue → List ℕ
first_five task = cond (length task.deps == 0) 1 0 ∷ 0 ∷ task.quota ∷ 0 ∷ length task.deps ∷ []

-- The image; no record; the five words of each task; and the clock at 0.
abbrev pub first_words : ProgramValue → (image : List ℕ) → List ℕ
first_words p image =
    ((image ++ replicate (8 * instances_before p (task_count p)) 0) ++ flat_map first_five p.map.tasks) ++ 0 ∷ []
