-- The map lines of a made bundle.
use Rattle.std.proofs.Common.{◌≡◌, ℕ, zero, suc, ◌<◌, Bool, true, false, List, [], ◌∷◌, refl, ap, sym, subst, ◌∙◌, arith}
use Rattle.std.specs.Prelude.{not, ◌&&◌, nat_le, nat_lt, IsTrue, slice_index_or}
use Rattle.std.specs.List.{All, list_all}
use Rattle.std.specs.Fmt.{digits}
use Rattle.std.proofs.lemmas.Bool.{and_parts, leb-true, ltb-true}
use Rattle.std.proofs.lemmas.List.Elements.{All-nil, All-cons}
use Rattle.plural_bytes.specs.Lines.{TextLine, content_lines}
use Rattle.plural_base.specs.Names.{is_name}
use Rattle.plural_regions.specs.declared.region.Region.{Region}
use Rattle.plural_map.specs.declared.outcome.Dep.{Dep}
use Rattle.plural_map.specs.Value.{TaskValue, MapValue}
use Rattle.plural_map_text.specs.Rules.{Breaks, IsMapText, has}
use Rattle.plural_sections.specs.Faults.{closed}
use Rattle.plural_map_text.specs.Parts.{map_of}
use Rattle.plural_map_text.specs.Print.{map_text}
use Rattle.plural_reread.specs.Laws.{IsSpelledRegion, IsSpelledTask, IsVersion1}
use Rattle.plural_reread.proofs.RoundTrip.{map_round_trip}
use Rattle.plural_generator.specs.Tasks.{fir_task, top_task, best_task, loud_task, quiet_task, done_task, made_tasks, made_map}
use Rattle.plural_generator.proofs.MapLimits.{made_within}
use Rattle.plural_sections.specs.Sections.{closes}
use Rattle.plural_bundle.specs.Laws.{Stay}
use Rattle.plural_made.proofs.TextLines.{EndsLine}
use Rattle.plural_made.proofs.SectionLines.{stay_by}
use Rattle.plural_made.proofs.KernelLines.{kernel_labels}
use Rattle.plural_made.proofs.LineNumbers as renumbered
use Rattle.plural_made.proofs.LineNumbers.{lines_from, faultless_again, faultless_apart, lines_again, map_reads, closed_again}

-- The map lines.
abbrev pub maps : List TextLine
maps = lines_from 3 (map_text made_map)

-- The map lines end with a line end.
pub map_ends : EndsLine (map_text made_map)
unfolding made_map digits
map_ends rest = refl

none_closes : list_all (λ l. not (closes l.1)) maps ≡ true
unfolding made_map digits
none_closes = refl

-- No map line closes the section.
pub map_stays : Stay maps
map_stays = stay_by maps none_closes

-- ---- lines may spell the map

all_by : {A : Type 0} (P : A → Type 0) (p : A → Bool) → ((x : A) → p x ≡ true → P x) → (xs : List A) → list_all p xs ≡ true → All P xs
all_by P p f [] h = All-nil P
all_by P p f (x ∷ xs) h = let q = and_parts (p x) (list_all p xs) h in All-cons P x xs (f x q.0) (all_by P p f xs q.1)

-- A region whose numbers lines may spell.
abbrev is_small : Region → Bool
is_small r = nat_le r.base 65535 && (nat_le r.stride 65535 && nat_le r.count 65536)

small : (r : Region) → is_small r ≡ true → IsSpelledRegion r
small r h =
    let p = and_parts (nat_le r.base 65535) (nat_le r.stride 65535 && nat_le r.count 65536) h in
    let q = and_parts (nat_le r.stride 65535) (nat_le r.count 65536) p.1 in
    record { base = leb-true r.base 65535 p.0; stride = leb-true r.stride 65535 q.0; count = leb-true r.count 65536 q.1 }

-- A task that lines may spell.
spelled : (number : ℕ) (t : TaskValue) → is_name t.name ≡ true → is_name t.entry ≡ true → t.some ≡ false → list_all (λ d. nat_lt d.task number) t.deps ≡ true → list_all is_small t.regions ≡ true → IsSpelledTask number t
spelled number t name entry every deps regions = record {
  name = name;
  entry = entry;
  every = every;
  earlier = all_by (λ (d : Dep). d.task < number) (λ (d : Dep). nat_lt d.task number) (λ d h. ltb-true d.task number h) t.deps deps;
  regions = all_by IsSpelledRegion is_small small t.regions regions;
}

each_spelled : (number : ℕ) (d : TaskValue) → number < 6 → IsSpelledTask number (slice_index_or made_tasks number d)
each_spelled zero d h = spelled 0 fir_task refl refl refl refl refl
each_spelled (suc zero) d h = spelled 1 top_task refl refl refl refl refl
each_spelled (suc (suc zero)) d h = spelled 2 best_task refl refl refl refl refl
each_spelled (suc (suc (suc zero))) d h = spelled 3 loud_task refl refl refl refl refl
each_spelled (suc (suc (suc (suc zero)))) d h = spelled 4 quiet_task refl refl refl refl refl
each_spelled (suc (suc (suc (suc (suc zero))))) d h = spelled 5 done_task refl refl refl refl refl
each_spelled (suc (suc (suc (suc (suc (suc n)))))) d h = absurd (omega arith)

made_version1 : IsVersion1 made_map
unfolding made_map
made_version1 = record { words = omega arith; few_tasks = omega arith; each = each_spelled }

-- ---- the entries

abbrev HasEntry : List (List ℕ) → TaskValue → Type 0
HasEntry labels t = IsTrue (has labels t.entry)

entries : All (HasEntry kernel_labels) made_map.tasks
unfolding made_map
entries = all_by (HasEntry kernel_labels) (λ t. has kernel_labels t.entry) (λ t h. h) made_tasks refl

-- ---- the lines

-- The map lines have no fault, if the labels are these.
pub map_good : (labels : List (List ℕ)) (end : ℕ) → labels ≡ kernel_labels → IsMapText 1 labels maps end
map_good labels end e =
    let ls = content_lines (map_text made_map) in
    faultless_apart labels ls maps (closed maps end) (lines_again 1 3 (map_text made_map))
    (faultless_again (Breaks 1 labels ls) (closed ls end) (closed maps end) (map_reads labels ls) (closed_again ls maps end end (lines_again 1 3 (map_text made_map)))
    (map_round_trip made_map labels end made_within made_version1 (subst (λ names. All (HasEntry names) made_map.tasks) (sym e) entries)).0)

-- They spell the map.
pub map_is : map_of maps ≡ made_map
map_is =
    renumbered.map_again maps (content_lines (map_text made_map)) (lines_again 3 1 (map_text made_map))
    ∙ (map_round_trip made_map kernel_labels 0 made_within made_version1 entries).1

words_are : made_map.words ≡ 32816
unfolding made_map
words_are = refl

-- The map that the map lines spell has 32,816 words.
pub map_words : (map_of maps).words ≡ 32816
map_words = ap (λ (m : MapValue). m.words) map_is ∙ words_are
