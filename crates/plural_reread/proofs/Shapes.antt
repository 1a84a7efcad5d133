-- The tokens of printed lines, and what they spell.
use Rattle.std.proofs.Common.{◌≡◌, ℕ, ◌<◌, ◌≤◌, Bool, true, false, ltb, Some, List, [], ◌∷◌, ◌++◌, refl, ap, sym, ◌∙◌, arith, append_assoc}
use Rattle.std.specs.Prelude.{codes, decimal}
use Rattle.std.specs.List.{list_all}
use Rattle.std.proofs.lemmas.Bool.{ne_eqb, ltb-false, ltb-true}
use Rattle.plural_base.specs.Names.{is_name}
use Rattle.plural_sections.proofs.Caps.{capped_back}
use Rattle.plural_bytes.proofs.Tokens.{is_token, joined, all_tokens, decimal_token, name_token, name_back}
use Rattle.plural_regions.specs.declared.region.Mode.{Mode}
use Rattle.plural_regions.specs.declared.region.Mode.TheVariants as mode
use Rattle.plural_map_text.specs.declared.line.MapLine.TheVariants as line
use Rattle.plural_map_text.specs.declared.line.TaskKind.{TaskKind}
use Rattle.plural_map_text.specs.declared.line.TaskKind.TheVariants as kind
use Rattle.plural_map.specs.declared.outcome.When.{When}
use Rattle.plural_map.specs.declared.outcome.When.TheVariants as when
use Rattle.plural_map.specs.Value.{TaskValue}
use Rattle.plural_base.specs.CacheShape.{is_set_count}
use Rattle.plural_map_text.specs.Shape.{shape, when_of}
use Rattle.plural_map_text.specs.Parts.{quota_of, is_dup}
use Rattle.plural_map_text.specs.Print.{line_text, kind_text, task_line, when_text, mode_text}

-- A line of tokens is they with single spaces, and a line end.
pub line_joined : (t : List ℕ) (ts : List (List ℕ)) → line_text (t ∷ ts) ≡ joined (t ∷ ts) ++ 10 ∷ []
line_joined t [] = refl
line_joined t (u ∷ ts) = ap (λ x. t ++ 32 ∷ x) (line_joined u ts) ∙ sym (append_assoc t (32 ∷ joined (u ∷ ts)) (10 ∷ []))

-- ---- memory and cache

-- The tokens of a memory line are tokens.
pub memory_all : (words : ℕ) → words < 4294967296 → list_all is_token (codes "memory" ∷ decimal words ∷ []) ≡ true
memory_all words h = all_tokens (codes "memory" ∷ decimal words ∷ []) (refl, (decimal_token words h, tt))

-- They spell it.
pub memory_shape : (words : ℕ) → words < 4294967296 → shape (codes "memory" ∷ decimal words ∷ []) ≡ Some (line.Memory words)
memory_shape words h = rw (capped_back words h) refl

-- The tokens of a cache line are tokens.
pub cache_all : (sets ways : ℕ) → sets < 4294967296 → ways < 4294967296 → list_all is_token (codes "cache" ∷ decimal sets ∷ decimal ways ∷ []) ≡ true
cache_all sets ways h k = all_tokens (codes "cache" ∷ decimal sets ∷ decimal ways ∷ []) (refl, (decimal_token sets h, (decimal_token ways k, tt)))

-- They spell it.
pub cache_shape : (sets ways : ℕ) → sets < 4294967296 → ways < 4294967296 → shape (codes "cache" ∷ decimal sets ∷ decimal ways ∷ []) ≡ Some (line.Cache sets ways)
cache_shape sets ways h k = rw (capped_back sets h, capped_back ways k) refl

-- A number of sets is small.
pub sets_small : (sets : ℕ) → is_set_count sets ≡ true → sets < 4294967296
sets_small sets h = by (ltb sets 4294967296) refl
  where
    by : (b : Bool) → ltb sets 4294967296 ≡ b → sets < 4294967296
    by true e = ltb-true sets 4294967296 e
    by false e =
        let high : 4294967296 ≤ sets = ltb-false sets 4294967296 e in
        let f : false ≡ true =
        rw (ne_eqb 1 sets (λ x. omega arith), ne_eqb 2 sets (λ x. omega arith), ne_eqb 4 sets (λ x. omega arith), ne_eqb 8 sets (λ x. omega arith), ne_eqb 16 sets (λ x. omega arith), ne_eqb 32 sets (λ x. omega arith), ne_eqb 64 sets (λ x. omega arith)) at h in
        absurd cc

-- ---- a task's own line

-- The kind of a task.
pub kind_of : Bool → ℕ → TaskKind
kind_of false quota = kind.Regular
kind_of true quota = kind.Dup quota

-- A task's kind says whether the task is duplicable.
pub dup_back : (dup : Bool) (quota : ℕ) → is_dup (kind_of dup quota) ≡ dup
unfolding kind_of
dup_back false quota = refl
dup_back true quota = refl

-- A kind gives the task's number of instances, which is one for a regular task.
pub quota_back : (dup : Bool) (quota : ℕ) → (dup ≡ false → quota ≡ 1) → quota_of (kind_of dup quota) ≡ quota
unfolding kind_of
quota_back false quota h = sym (h refl)
quota_back true quota h = refl

-- The tokens after `task`.
pub task_tokens : Bool → ℕ → (name entry : List ℕ) → ℕ → List (List ℕ)
task_tokens false quota name entry budget = name ∷ codes "regular" ∷ codes "entry" ∷ entry ∷ codes "budget" ∷ decimal budget ∷ []
task_tokens true quota name entry budget = name ∷ codes "dup" ∷ decimal quota ∷ codes "entry" ∷ entry ∷ codes "budget" ∷ decimal budget ∷ []

-- A task's own line is its tokens with single spaces, and a line end.
pub task_joined : (t : TaskValue) → task_line t ≡ joined (codes "task" ∷ task_tokens t.dup t.quota t.name t.entry t.budget) ++ 10 ∷ []
unfolding task_tokens
task_joined t = by t.dup
  where
    by : (dup : Bool) → codes "task " ++ (t.name ++ (kind_text dup t.quota ++ (codes "entry " ++ (t.entry ++ (codes " budget " ++ (decimal t.budget ++ codes "\n"))))))
        ≡ joined (codes "task" ∷ task_tokens dup t.quota t.name t.entry t.budget) ++ 10 ∷ []
    by false = simp append_assoc refl
    by true = simp append_assoc refl

-- The tokens of a task line are tokens.
pub task_all : (dup : Bool) (quota : ℕ) (name entry : List ℕ) (budget : ℕ) → quota < 4294967296 → is_name name ≡ true → is_name entry ≡ true → budget < 4294967296
    → list_all is_token (codes "task" ∷ task_tokens dup quota name entry budget) ≡ true
unfolding task_tokens
task_all false quota name entry budget q n e b =
    all_tokens (codes "task" ∷ name ∷ codes "regular" ∷ codes "entry" ∷ entry ∷ codes "budget" ∷ decimal budget ∷ [])
    (refl, (name_token name n, (refl, (refl, (name_token entry e, (refl, (decimal_token budget b, tt)))))))
task_all true quota name entry budget q n e b =
    all_tokens (codes "task" ∷ name ∷ codes "dup" ∷ decimal quota ∷ codes "entry" ∷ entry ∷ codes "budget" ∷ decimal budget ∷ [])
    (refl, (name_token name n, (refl, (decimal_token quota q, (refl, (name_token entry e, (refl, (decimal_token budget b, tt))))))))

-- They spell it.
pub task_shape : (dup : Bool) (quota : ℕ) (name entry : List ℕ) (budget : ℕ) → quota < 4294967296 → is_name name ≡ true → is_name entry ≡ true → budget < 4294967296
    → shape (codes "task" ∷ task_tokens dup quota name entry budget) ≡ Some (line.Task name (kind_of dup quota) entry budget)
unfolding task_tokens kind_of
task_shape false quota name entry budget q n e b = rw (name_back name n, name_back entry e, capped_back budget b) refl
task_shape true quota name entry budget q n e b = rw (capped_back quota q, name_back name n, name_back entry e, capped_back budget b) refl

-- ---- dependencies

when_token : (w : When) → is_token (when_text w) ≡ true
when_token when.Any = refl
when_token when.Code0 = refl
when_token when.Code1 = refl

when_back : (w : When) → when_of (when_text w) ≡ Some w
when_back when.Any = refl
when_back when.Code0 = refl
when_back when.Code1 = refl

-- The tokens of a dependency's line are tokens.
pub after_all : (name : List ℕ) (w : When) → is_name name ≡ true → list_all is_token (codes "after" ∷ name ∷ when_text w ∷ []) ≡ true
after_all name w h = all_tokens (codes "after" ∷ name ∷ when_text w ∷ []) (refl, (name_token name h, (when_token w, tt)))

-- They spell it.
pub after_shape : (name : List ℕ) (w : When) → is_name name ≡ true → shape (codes "after" ∷ name ∷ when_text w ∷ []) ≡ Some (line.After name w)
after_shape name w h = rw (name_back name h, when_back w) refl

-- ---- `join some`

-- Its tokens are tokens.
pub join_all : list_all is_token (codes "join" ∷ codes "some" ∷ []) ≡ true
join_all = refl

-- They spell it.
pub join_shape : shape (codes "join" ∷ codes "some" ∷ []) ≡ Some line.Join
join_shape = refl

-- ---- regions

mode_token : (x : Mode) → is_token (mode_text x) ≡ true
mode_token mode.Read = refl
mode_token mode.Write = refl

-- The tokens of a region's line are tokens.
pub region_all : (x : Mode) (base stride count : ℕ) → base < 4294967296 → stride < 4294967296 → count < 4294967296
    → list_all is_token (mode_text x ∷ decimal base ∷ decimal stride ∷ decimal count ∷ []) ≡ true
region_all x base stride count b s c = all_tokens (mode_text x ∷ decimal base ∷ decimal stride ∷ decimal count ∷ []) (mode_token x, (decimal_token base b, (decimal_token stride s, (decimal_token count c, tt))))

-- They spell it.
pub region_shape : (x : Mode) (base stride count : ℕ) → base < 4294967296 → stride < 4294967296 → count < 4294967296
    → shape (mode_text x ∷ decimal base ∷ decimal stride ∷ decimal count ∷ []) ≡ Some (line.Region x base stride count)
region_shape mode.Read base stride count b s c = rw (capped_back base b, capped_back stride s, capped_back count c) refl
region_shape mode.Write base stride count b s c = rw (capped_back base b, capped_back stride s, capped_back count c) refl
