-- The limits of a task of the map so far, and of all its tasks and one more.
use Rattle.std.proofs.Common.{◌≡◌, ℕ, ◌+◌, ◌<◌, ◌≤◌, Bool, true, false, Some, None, Option, List, [], ◌∷◌, ◌++◌, length, map, sum, get_or, refl, ap, sym, subst, ◌∙◌, ⊎_elim, arith}
use Rattle.std.specs.Prelude.{◌≢◌, ◌||◌, ◌==◌, if◌then◌else◌, ⊤, MatchOption, bytes_eq, nat_le}
use Rattle.std.specs.List.{All, AllPairs, list_any}
use Rattle.std.specs.Option.{option_map_or, option_to_list}
use Rattle.std.proofs.Math.Bool.{or-false}
use Rattle.std.proofs.lemmas.Bool.{cases_lt, eqb-false, leb-false, both_ways}
use Rattle.std.proofs.lemmas.Bool.Decides.{not_from_Decides}
use Rattle.std.proofs.lemmas.Slice.Eq.{bytes_eq-Decides}
use Rattle.std.proofs.lemmas.List.{length_push, get_or_at, get_or_append_left, append-nil, length-append}
use Rattle.std.proofs.lemmas.List.Elements.{All-push, All-weaker}
use Rattle.std.proofs.lemmas.List.Quantifiers.{all_pairs_push}
use Rattle.std.proofs.lemmas.List.Folds.{list_any_at, list_any-append}
use Rattle.std.proofs.lemmas.List.Sums.{sum-map, sum_by-append}
use Rattle.plural_regions.specs.declared.region.Region.{Region}
use Rattle.plural_regions.specs.Rights.{IsIn, is_in, may_read}
use Rattle.plural_regions.specs.Bounds.{AllInside}
use Rattle.plural_regions.proofs.Regions.{in_from_test}
use Rattle.plural_map.specs.declared.outcome.Dep.{Dep}
use Rattle.plural_map.specs.declared.outcome.When.{When}
use Rattle.plural_map.specs.Value.{TaskValue, with_dep, with_region, with_some}
use Rattle.plural_map.specs.Limits.{IsTask}
use Rattle.plural_map.specs.Lookup.{has_task}
use Rattle.plural_map_text.specs.Rules.{has_dep}

-- ---- tests

-- If a test passes at no element, it fails at each.
none_from_any : {X : Type 0} (p : X → Bool) (xs : List X) → list_any p xs ≡ false → All (λ x. p x ≡ false) xs
none_from_any {X = X} p xs e = λ k d h. by_test k d h (p (get_or xs k d)) refl
  where
    by_test : (k : ℕ) (d : X) → k < length xs → (b : Bool) → p (get_or xs k d) ≡ b → p (get_or xs k d) ≡ false
    by_test k d h true f = absurd (both_ways _ e (list_any_at p xs k d h f))
    by_test k d h false f = f

-- Two texts that the test tells apart differ.
texts_differ : (a b : List ℕ) → bytes_eq a b ≡ false → a ≢ b
texts_differ a b e = not_from_Decides (bytes_eq a b) (bytes_eq-Decides a b) e

-- ---- one task

-- The numbers of a task's line are in their ranges.
pub record HasNumbers (dup : Bool) (quota budget : ℕ) : Type 0 where
  pub quota_low : 1 ≤ quota
  pub quota_high : quota ≤ 16384
  pub regular : dup ≡ false → quota ≡ 1
  pub budget_low : 1 ≤ budget
  pub budget_high : budget ≤ 100000000

-- The numbers of the tasks that the i-th of a section with so many task lines may depend on lie below this one.
abbrev pub bound : (version total i : ℕ) → ℕ
bound version total i = if version == 2 then total else i

-- The i-th task of a map is within all limits of a task and depends on tasks alone that it may depend on.
pub record IsDeclared (version total words i : ℕ) (t : TaskValue) : Type 0 where
  pub numbers : HasNumbers t.dup t.quota t.budget
  pub few_deps : length t.deps ≤ 16
  pub before : All (λ d. d.task < bound version total i) t.deps
  pub deps_differ : AllPairs (λ d e. d.task ≢ e.task) t.deps
  pub few_regions : length t.regions ≤ 8
  pub inside : (k a : ℕ) → k < t.quota → may_read t.regions k a ≡ true → a < words

-- It is a task of the map.
pub task_from_declared : (version total words i : ℕ) (tasks : List TaskValue) (t : TaskValue) → bound version total i ≤ length tasks → IsDeclared version total words i t → IsTask words tasks t
task_from_declared version total words i tasks t h d = record {
  quota_low = d.numbers.quota_low;
  quota_high = d.numbers.quota_high;
  regular = d.numbers.regular;
  budget_low = d.numbers.budget_low;
  budget_high = d.numbers.budget_high;
  few_deps = d.few_deps;
  deps_within = All-weaker (λ (p : Dep). p.task < bound version total i) (λ (p : Dep). p.task < length tasks) (λ p l. omega arith) t.deps d.before;
  deps_differ = d.deps_differ;
  few_regions = d.few_regions;
  inside = d.inside;
}

-- One more dependency, on a task that it may depend on and doesn't yet, keeps it so.
pub dep_added : (version total words i : ℕ) (t : TaskValue) (number : ℕ) (when : When) → IsDeclared version total words i t → number < bound version total i → has_dep number t ≡ false → nat_le 16 (length t.deps) ≡ false
    → IsDeclared version total words i (with_dep (record { task = number; when = when }) t)
dep_added version total words i t number when d l new room = record {
  numbers = d.numbers;
  few_deps = omega (arith, length_push t.deps dep, leb-false 16 (length t.deps) room);
  before = All-push (λ (p : Dep). p.task < bound version total i) t.deps dep d.before l;
  deps_differ = all_pairs_push (λ (d e : Dep). d.task ≢ e.task) t.deps dep d.deps_differ (λ k x h. eqb-false (get_or t.deps k x).task number (none_from_any (λ (p : Dep). p.task == number) t.deps new k x h));
  few_regions = d.few_regions;
  inside = d.inside;
}
  where
    dep : Dep
    dep = record { task = number; when = when }

-- What an instance may read with one region more, it may read without, or is a word of the region.
read_more : (rs : List Region) (r : Region) (k a words : ℕ) → (may_read rs k a ≡ true → a < words) → (IsIn r k a → a < words) → may_read (rs ++ r ∷ []) k a ≡ true → a < words
read_more rs r k a words old new m = by_old (may_read rs k a) refl (sym (list_any-append (λ s. is_in s k a) rs (r ∷ [])) ∙ m)
  where
    by_old : (b : Bool) → may_read rs k a ≡ b → (may_read rs k a || (is_in r k a || false)) ≡ true → a < words
    by_old true e f = old e
    by_old false e f = new (in_from_test r k a (sym (or-false (is_in r k a)) ∙ (rw e at f)))

-- One more region inside the memory keeps it so.
pub region_added : (version total words i : ℕ) (t : TaskValue) (r : Region) → IsDeclared version total words i t → AllInside r t.quota words → nat_le 8 (length t.regions) ≡ false → IsDeclared version total words i (with_region r t)
region_added version total words i t r d inside room = record {
  numbers = d.numbers;
  few_deps = d.few_deps;
  before = d.before;
  deps_differ = d.deps_differ;
  few_regions = omega (arith, length_push t.regions r, leb-false 8 (length t.regions) room);
  inside = λ k a h m. read_more t.regions r k a words (d.inside k a h) (inside k h a) m;
}

-- `join some` keeps it so.
pub some_added : (version total words i : ℕ) (t : TaskValue) → IsDeclared version total words i t → IsDeclared version total words i (with_some t)
some_added version total words i t d = record { numbers = d.numbers; few_deps = d.few_deps; before = d.before; deps_differ = d.deps_differ; few_regions = d.few_regions; inside = d.inside }

-- ---- tasks, and one more

-- All tasks are those before the current one, and the current one.
pub length_all : (ts : List TaskValue) (o : Option TaskValue) → length (ts ++ option_to_list o) ≡ length ts + option_map_or (λ t. 1) o 0
length_all ts None = length-append ts []
length_all ts (Some t) = length-append ts (t ∷ [])

-- Their instances are those of the tasks before the current one, and of the current one.
pub quotas_all : (ts : List TaskValue) (o : Option TaskValue) → sum (map (λ t. t.quota) (ts ++ option_to_list o)) ≡ sum (map (λ t. t.quota) ts) + option_map_or (λ t. t.quota) o 0
quotas_all ts None = ap (λ xs. sum (map (λ (t : TaskValue). t.quota) xs)) (append-nil ts) ∙ omega arith
quotas_all ts (Some t) =
    let q = λ (t : TaskValue). t.quota in
    let e = sum_by-append q ts (t ∷ []) in
    let f = sum-map q (ts ++ t ∷ []) in
    let g = sum-map q ts in
    omega (arith, e, f, g)

-- Their names differ, if the current one has a new name.
pub names_all : (ts : List TaskValue) (o : Option TaskValue) → AllPairs (λ t u. t.name ≢ u.name) ts → MatchOption o ⊤ (λ t. All (λ e. e.name ≢ t.name) ts) → AllPairs (λ t u. t.name ≢ u.name) (ts ++ option_to_list o)
names_all ts None n new = rw (append-nil ts) n
names_all ts (Some t) n new = all_pairs_push (λ (t u : TaskValue). t.name ≢ u.name) ts t n new

-- Each is within the limits of its place, if the current one is.
pub declared_all : (version total words : ℕ) (ts : List TaskValue) (o : Option TaskValue) → ((i : ℕ) (d : TaskValue) → i < length ts → IsDeclared version total words i (get_or ts i d)) → MatchOption o ⊤ (IsDeclared version total words (length ts))
    → (i : ℕ) (d : TaskValue) → i < length (ts ++ option_to_list o) → IsDeclared version total words i (get_or (ts ++ option_to_list o) i d)
declared_all version total words ts None each new i d h = let l : i < length ts = omega (arith, length_all ts None) in rw (append-nil ts) (each i d l)
declared_all version total words ts (Some t) each new i d h = ⊎_elim earlier last (cases_lt i (length ts))
  where
    earlier : i < length ts → IsDeclared version total words i (get_or (ts ++ t ∷ []) i d)
    earlier l = rw (get_or_append_left ts (t ∷ []) d i l) (each i d l)

    last : length ts ≤ i → IsDeclared version total words i (get_or (ts ++ t ∷ []) i d)
    last l =
        let e : length ts ≡ i = omega (arith, length_push ts t) in
        rw (get_or_at ts t [] d i e) (subst (λ (n : ℕ). IsDeclared version total words n t) e new)

-- A name that neither a task before the current one nor the current one has is new among all.
pub new_name_all : (name : List ℕ) (ts : List TaskValue) (o : Option TaskValue) → has_task ts name ≡ false → option_map_or (λ t. bytes_eq t.name name) o false ≡ false → All (λ e. e.name ≢ name) (ts ++ option_to_list o)
new_name_all name ts o h f = by_current o f
  where
    old : All (λ (e : TaskValue). e.name ≢ name) ts
    old = All-weaker (λ (e : TaskValue). bytes_eq e.name name ≡ false) (λ (e : TaskValue). e.name ≢ name) (λ e n. texts_differ e.name name n) ts (none_from_any (λ (e : TaskValue). bytes_eq e.name name) ts h)

    by_current : (o : Option TaskValue) → option_map_or (λ (t : TaskValue). bytes_eq t.name name) o false ≡ false → All (λ (e : TaskValue). e.name ≢ name) (ts ++ option_to_list o)
    by_current None f = rw (append-nil ts) old
    by_current (Some t) f = All-push (λ (e : TaskValue). e.name ≢ name) ts t old (texts_differ t.name name f)
