-- The tasks that lines spell are those of their task lines.
use Rattle.std.proofs.Common.{◌≡◌, ℕ, ◌+◌, ◌<◌, List, [], ◌∷◌, ◌++◌, Option, Some, None, length, take, get_or, map, refl, ap, sym, ◌∙◌, append_assoc, append-nil}
use Rattle.std.specs.Prelude.{fold, option_map}
use Rattle.std.specs.Option.{option_map_or, option_to_list}
use Rattle.std.proofs.lemmas.List.{length-map, map-append, map_more}
use Rattle.std.proofs.lemmas.Grind.{flat_map-append}
use Rattle.plural_bytes.specs.declared.lines.Line.{Line}
use Rattle.plural_bytes.specs.Spelled.{text_line, text_lines}
use Rattle.plural_bytes.specs.Lines.{TextLine}
use Rattle.plural_map_text.specs.declared.line.MapLine.{MapLine}
use Rattle.plural_map_text.specs.declared.line.MapLine.TheVariants as line
use Rattle.plural_map.specs.Value.{TaskValue, with_some}
use Rattle.plural_map_text.specs.Shape.{shape_of}
use Rattle.plural_map_text.specs.Parts.{Parts, tasks_of, name_told, task_names, with_line, with_read, nothing, parts_of}

-- The names of tasks.
abbrev pub names_in : List TaskValue → List (List ℕ)
names_in tasks = map (λ t. t.name) tasks

-- A current task that keeps its name keeps the names of all tasks.
kept_name : (more : TaskValue → TaskValue) → ((t : TaskValue) → (more t).name ≡ t.name) → (earlier : List TaskValue) (o : Option TaskValue) → names_in (earlier ++ option_to_list (option_map more o)) ≡ names_in (earlier ++ option_to_list o) ++ []
kept_name more name earlier None = sym (append-nil (names_in (earlier ++ [])))
kept_name more name earlier (Some t) =
    map-append (λ (t : TaskValue). t.name) earlier (more t ∷ []) ∙ ap (λ n. names_in earlier ++ n ∷ []) (name t) ∙ sym (map-append (λ (t : TaskValue). t.name) earlier (t ∷ [])) ∙ sym (append-nil (names_in (earlier ++ t ∷ [])))

-- One more line adds its name, if it is a task line.
one_more : (names : List (List ℕ)) (p : Parts) (s : MapLine) → names_in (tasks_of (with_line names p s)) ≡ names_in (tasks_of p) ++ name_told (Some s)
one_more names p (line.Memory words) = sym (append-nil (names_in (tasks_of p)))
one_more names p (line.Cache sets ways) = sym (append-nil (names_in (tasks_of p)))
one_more names p (line.Task name kind entry budget) = map-append (λ (t : TaskValue). t.name) (tasks_of p) _
one_more names p (line.After name when) = kept_name _ (λ t. refl) p.earlier p.current
one_more names p line.Join = kept_name with_some (λ t. refl) p.earlier p.current
one_more names p (line.Region mode base stride count) = kept_name _ (λ t. refl) p.earlier p.current

read_more : (names : List (List ℕ)) (p : Parts) (o : Option MapLine) → names_in (tasks_of (with_read names p o)) ≡ names_in (tasks_of p) ++ name_told o
read_more names p None = sym (append-nil (names_in (tasks_of p)))
read_more names p (Some s) = one_more names p s

all_more : (names : List (List ℕ)) (p : Parts) (lines : List TextLine) → names_in (tasks_of (fold (λ v l. option_map_or (with_line names v) (shape_of l.1) v) p lines)) ≡ names_in (tasks_of p) ++ task_names lines
all_more names p [] = sym (append-nil (names_in (tasks_of p)))
all_more names p (l ∷ ls) =
    all_more names (with_read names p (shape_of l.1)) ls
    ∙ ap (λ ns. ns ++ task_names ls) (read_more names p (shape_of l.1))
    ∙ append_assoc (names_in (tasks_of p)) (name_told (shape_of l.1)) (task_names ls)

-- The names of the task lines among the first lines, and of the next.
pub names_more : (xs : List Line) (i : ℕ) (d : Line) (old names told : List (List ℕ)) → i < length xs → old ≡ task_names (text_lines (take i xs)) → told ≡ name_told (shape_of (get_or xs i d).text.now) → names ≡ old ++ told
    → names ≡ task_names (text_lines (take (i + 1) xs))
names_more xs i d old names told l o t n = rw (map_more text_line xs i d l, flat_map-append) (n ∙ (λ j. o j ++ t j) ∙ ap (λ ns. task_names (text_lines (take i xs)) ++ ns) (sym (append-nil (name_told (shape_of (get_or xs i d).text.now)))))

-- The tasks have the names of the task lines, in their order.
pub tasks_named : (names : List (List ℕ)) (lines : List TextLine) → names_in (tasks_of (parts_of names lines)) ≡ task_names lines
tasks_named names lines = all_more names nothing lines

-- There are as many of them.
pub tasks_counted : (names : List (List ℕ)) (lines : List TextLine) → length (task_names lines) ≡ length (tasks_of (parts_of names lines))
tasks_counted names lines = ap length (sym (tasks_named names lines)) ∙ length-map (tasks_of (parts_of names lines)) (λ t. t.name)
