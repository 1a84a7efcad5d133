-- The names of a line that has a shape are names.
use Rattle.std.proofs.Common.{◌≡◌, ℕ, Bool, true, false, Some, None, Option, List, [], ◌∷◌, refl}
use Rattle.std.specs.Prelude.{◌&&◌, ⊤, MatchOption, codes, bytes_eq, option_map, option_and_then, if◌then◌else◌}
use Rattle.plural_bytes.specs.Lines.{tokens}
use Rattle.plural_base.specs.Names.{is_name, name_of}
use Rattle.plural_regions.specs.declared.region.Mode.{Mode}
use Rattle.plural_regions.specs.declared.region.Mode.TheVariants.{Read, Write}
use Rattle.plural_map_text.specs.declared.line.MapLine.{MapLine}
use Rattle.plural_map_text.specs.declared.line.MapLine.TheVariants as line
use Rattle.plural_map_text.specs.declared.line.TaskKind.{TaskKind}
use Rattle.plural_map_text.specs.declared.line.TaskKind.TheVariants as kind
use Rattle.plural_sections.specs.Numbers.{capped_numeral}
use Rattle.plural_map_text.specs.Shape.{when_of, memory_line, cache_line, task_end, dup_task, task_line, after_line, join_line, region_line, shape, shape_of}

-- The task's name and its entry are names.
abbrev pub HasNames : MapLine → Type 0
HasNames (line.Memory words) = ⊤
HasNames (line.Cache sets ways) = ⊤
HasNames (line.Task name kind entry budget) = (is_name name ≡ true) × (is_name entry ≡ true)
HasNames (line.After name when) = ⊤
HasNames line.Join = ⊤
HasNames (line.Region mode base stride count) = ⊤

-- They are, if there is a line.
abbrev Holds : Option MapLine → Type 0
Holds o = MatchOption o ⊤ HasNames

either : (b : Bool) (x y : Option MapLine) → Holds x → Holds y → Holds (if b then x else y)
either true x y h k = h
either false x y h k = k

mapped : {X : Type 0} (f : X → MapLine) (o : Option X) → ((x : X) → HasNames (f x)) → Holds (option_map f o)
mapped f None h = tt
mapped f (Some x) h = h x

chained : {X : Type 0} (f : X → Option MapLine) (o : Option X) → ((x : X) → Holds (f x)) → Holds (option_and_then f o)
chained f None h = tt
chained f (Some x) h = h x

of_name : (f : List ℕ → Option MapLine) (text : List ℕ) → (is_name text ≡ true → Holds (f text)) → Holds (option_and_then f (name_of text))
of_name f text h = by (is_name text) h
  where
    by : (b : Bool) → (b ≡ true → Holds (f text)) → Holds (option_and_then f (if b then Some text else None))
    by true h = h refl
    by false h = tt

memory_named : (ts : List (List ℕ)) → Holds (memory_line ts)
memory_named [] = tt
memory_named (w ∷ []) = mapped (λ words. line.Memory words) (capped_numeral w) (λ words. tt)
memory_named (w ∷ x ∷ ts) = tt

cache_named : (ts : List (List ℕ)) → Holds (cache_line ts)
cache_named [] = tt
cache_named (s ∷ []) = tt
cache_named (s ∷ w ∷ []) = chained (λ sets. option_map (λ ways. line.Cache sets ways) (capped_numeral w)) (capped_numeral s) (λ sets. mapped (λ ways. line.Cache sets ways) (capped_numeral w) (λ ways. tt))
cache_named (s ∷ w ∷ x ∷ ts) = tt

end_named : (n : List ℕ) (k : TaskKind) (ts : List (List ℕ)) → Holds (task_end n k ts)
end_named n k [] = tt
end_named n k (e ∷ []) = tt
end_named n k (e ∷ l ∷ []) = tt
end_named n k (e ∷ l ∷ b ∷ []) = tt
end_named n k (e ∷ l ∷ b ∷ v ∷ []) =
    either (bytes_eq e (codes "entry") && bytes_eq b (codes "budget")) (option_and_then (λ name. option_and_then (λ entry. option_map (λ budget. line.Task name k entry budget) (capped_numeral v)) (name_of l)) (name_of n)) None
    (of_name (λ name. option_and_then (λ entry. option_map (λ budget. line.Task name k entry budget) (capped_numeral v)) (name_of l)) n
    (λ h. of_name (λ entry. option_map (λ budget. line.Task n k entry budget) (capped_numeral v)) l (λ g. mapped (λ budget. line.Task n k l budget) (capped_numeral v) (λ budget. (h, g)))))
    tt
end_named n k (e ∷ l ∷ b ∷ v ∷ x ∷ ts) = tt

dup_named : (n : List ℕ) (ts : List (List ℕ)) → Holds (dup_task n ts)
dup_named n [] = tt
dup_named n (q ∷ ts) = chained (λ quota. task_end n (kind.Dup quota) ts) (capped_numeral q) (λ quota. end_named n (kind.Dup quota) ts)

task_named : (ts : List (List ℕ)) → Holds (task_line ts)
task_named [] = tt
task_named (n ∷ []) = tt
task_named (n ∷ w ∷ ts) =
    either (bytes_eq w (codes "regular")) (task_end n kind.Regular ts) (if bytes_eq w (codes "dup") then dup_task n ts else None) (end_named n kind.Regular ts)
    (either (bytes_eq w (codes "dup")) (dup_task n ts) None (dup_named n ts) tt)

after_named : (ts : List (List ℕ)) → Holds (after_line ts)
after_named [] = tt
after_named (n ∷ []) = tt
after_named (n ∷ w ∷ []) = chained (λ name. option_map (λ when. line.After name when) (when_of w)) (name_of n) (λ name. mapped (λ when. line.After name when) (when_of w) (λ when. tt))
after_named (n ∷ w ∷ x ∷ ts) = tt

join_named : (ts : List (List ℕ)) → Holds (join_line ts)
join_named [] = tt
join_named (w ∷ []) = either (bytes_eq w (codes "some")) (Some line.Join) None tt tt
join_named (w ∷ x ∷ ts) = tt

region_named : (mode : Mode) (ts : List (List ℕ)) → Holds (region_line mode ts)
region_named mode [] = tt
region_named mode (b ∷ []) = tt
region_named mode (b ∷ s ∷ []) = tt
region_named mode (b ∷ s ∷ c ∷ []) =
    chained (λ base. option_and_then (λ stride. option_map (λ count. line.Region mode base stride count) (capped_numeral c)) (capped_numeral s)) (capped_numeral b)
    (λ base. chained (λ stride. option_map (λ count. line.Region mode base stride count) (capped_numeral c)) (capped_numeral s) (λ stride. mapped (λ count. line.Region mode base stride count) (capped_numeral c) (λ count. tt)))
region_named mode (b ∷ s ∷ c ∷ x ∷ ts) = tt

shape_named : (ts : List (List ℕ)) → Holds (shape ts)
shape_named [] = tt
shape_named (k ∷ ts) =
    either (bytes_eq k (codes "memory")) (memory_line ts) _ (memory_named ts)
    (either (bytes_eq k (codes "cache")) (cache_line ts) _ (cache_named ts)
    (either (bytes_eq k (codes "task")) (task_line ts) _ (task_named ts)
    (either (bytes_eq k (codes "after")) (after_line ts) _ (after_named ts)
    (either (bytes_eq k (codes "join")) (join_line ts) _ (join_named ts)
    (either (bytes_eq k (codes "read")) (region_line Read ts) _ (region_named Read ts) (either (bytes_eq k (codes "write")) (region_line Write ts) None (region_named Write ts) tt))))))

-- The names of a line's shape are names.
pub line_named : (text : List ℕ) (s : MapLine) → shape_of text ≡ Some s → HasNames s
line_named text s e = rw e at (shape_named (tokens text))
