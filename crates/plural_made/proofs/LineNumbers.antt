-- Lines of the same texts have the same faults and spell the same, whatever their numbers are.
use Rattle.std.proofs.Common.{◌≡◌, ℕ, ◌+◌, Bool, true, false, List, [], ◌∷◌, ◌++◌, length, map, refl, ap, sym, subst, ◌∙◌}
use Rattle.std.specs.Prelude.{fold, replicate, IsSomeAnd, MatchOption, flat_map}
use Rattle.std.specs.Option.{option_map_or}
use Rattle.std.proofs.lemmas.List.{length-map, map-append}
use Rattle.plural_bytes.specs.Lines.{TextLine, has_text, pieces, content, content_from}
use Rattle.plural_sections.specs.Faults.{IsFaultless, closed}
use Rattle.plural_map_text.specs.Rules as map_rules
use Rattle.plural_map_text.specs.Rules.{HasKind}
use Rattle.plural_map_text.specs.Shape.{shape_of}
use Rattle.plural_map_text.specs.Parts.{task_names, name_told, parts_of, whole, map_of, with_line, nothing}
use Rattle.plural_map_text.specs.declared.fault.MapKind.TheVariants as map_kind
use Rattle.plural_image.specs.Shape.{image_line}
use Rattle.plural_sections.specs.LineKinds.{KindsOf}
use Rattle.plural_image.specs.Image as image
use Rattle.plural_image.specs.Image.{end_of, end_before, IsMisplaced, overwritten, image_of}
use Rattle.plural_image.specs.declared.fault.ImageKind.TheVariants as image_kind

-- The texts of lines.
abbrev pub texts : List TextLine → List (List ℕ)
texts lines = map (λ l. l.1) lines

-- ---- faults

-- A line of this text, after lines of the texts of those before it elsewhere.
record Found (lines before : List TextLine) (text : List ℕ) : Type 0 where
  front : List TextLine
  number : ℕ
  back : List TextLine
  whole : lines ≡ front ++ (number, text) ∷ back
  same : texts front ≡ texts before

found_more : (x b : TextLine) (xs bs : List TextLine) (text : List ℕ) → x.1 ≡ b.1 → Found xs bs text → Found (x ∷ xs) (b ∷ bs) text
found_more x b xs bs text t f = record { front = x ∷ f.front; number = f.number; back = f.back; whole = ap (λ ys. x ∷ ys) f.whole; same = λ i. t i ∷ f.same i }

found : (lines before after : List TextLine) (l : TextLine) → texts lines ≡ texts (before ++ l ∷ after) → Found lines before l.1
found [] [] after l e = absurd cc
found [] (b ∷ bs) after l e = absurd cc
found (x ∷ xs) [] after l e = let t : x.1 ≡ l.1 = cc in record { front = []; number = x.0; back = xs; whole = λ i. (x.0, t i) ∷ xs; same = refl }
found (x ∷ xs) (b ∷ bs) after l e = let t : texts xs ≡ texts (bs ++ l ∷ after) = cc in found_more x b xs bs l.1 (cc) (found xs bs after l t)

-- The rule reads the texts of the lines before a line alone.
abbrev pub ReadsTexts : {K : Type 0} → (List TextLine → List ℕ → K → Type 0) → Type 0
ReadsTexts {K} Breaks = (before other : List TextLine) (text : List ℕ) (kind : K) → texts before ≡ texts other → Breaks before text kind → Breaks other text kind

-- Under a rule that reads texts alone, lines of the same texts as lines without a fault have none.
pub faultless_again : {K : Type 0} (Breaks : List TextLine → List ℕ → K → Type 0) (lines others : List TextLine) → ReadsTexts Breaks → texts lines ≡ texts others → IsFaultless Breaks lines → IsFaultless Breaks others
faultless_again Breaks lines others reads e f = record {
  none = λ n kind h.
      let at = found lines h.before h.after (n, h.text) (e ∙ ap texts h.whole) in
      f.none at.number kind (record { before = at.front; text = h.text; after = at.back; whole = at.whole; breaks = reads h.before at.front h.text kind (sym at.same) h.breaks });
}

-- ---- what lines spell

fold_texts : {A : Type 0} (f : A → List ℕ → A) (a : A) (lines : List TextLine) → fold (λ a l. f a l.1) a lines ≡ fold f a (texts lines)
fold_texts f a [] = refl
fold_texts f a (l ∷ ls) = fold_texts f (f a l.1) ls

-- A fold over the texts is the same over lines of the same texts.
pub fold_again : {A : Type 0} (f : A → List ℕ → A) (a : A) (lines others : List TextLine) → texts lines ≡ texts others → fold (λ a l. f a l.1) a lines ≡ fold (λ a l. f a l.1) a others
fold_again f a lines others e = fold_texts f a lines ∙ ap (fold f a) e ∙ sym (fold_texts f a others)

-- The same texts are as many lines.
pub length_again : (lines others : List TextLine) → texts lines ≡ texts others → length lines ≡ length others
length_again lines others e = sym (length-map lines (λ l. l.1)) ∙ ap length e ∙ length-map others (λ l. l.1)

-- ---- map lines

-- Lines of the same texts spell the same parts of a map.
parts_again : (names : List (List ℕ)) (lines others : List TextLine) → texts lines ≡ texts others → parts_of names lines ≡ parts_of names others
parts_again names lines others e = fold_again (λ p text. option_map_or (with_line names p) (shape_of text) p) nothing lines others e

names_of_texts : (lines : List TextLine) → task_names lines ≡ flat_map (λ t. name_told (shape_of t)) (texts lines)
names_of_texts [] = refl
names_of_texts (l ∷ ls) = ap (λ ns. name_told (shape_of l.1) ++ ns) (names_of_texts ls)

-- The names of their task lines are the same.
names_again : (lines others : List TextLine) → texts lines ≡ texts others → task_names lines ≡ task_names others
names_again lines others e = names_of_texts lines ∙ ap (flat_map (λ t. name_told (shape_of t))) e ∙ sym (names_of_texts others)

-- Lines of the same texts spell the same map.
pub map_again : (lines others : List TextLine) → texts lines ≡ texts others → map_of lines ≡ map_of others
map_again lines others e = ap (λ ns. whole (parts_of ns lines)) (names_again lines others e) ∙ ap whole (parts_again (task_names others) lines others e)

-- The rule of map lines reads texts alone.
pub map_reads : (labels : List (List ℕ)) (all : List TextLine) → ReadsTexts (map_rules.Breaks 1 labels all)
map_reads labels all before other [] kind e b =
    let many = length_again before other e in
    let parts = parts_again (task_names all) before other e in
    subst (λ X. X) (λ i. map_rules.EndKind 1 (length all) (many i) (parts i) kind) b
map_reads labels all before other (c ∷ cs) kind e b =
    let many = length_again before other e in
    let parts = parts_again (task_names all) before other e in
    subst (λ X. X) (λ i. MatchOption (shape_of (c ∷ cs)) (kind ≡ map_kind.Form) (λ s. HasKind 1 labels (task_names all) (many i) (parts i) s kind)) b

-- Of all lines of the section it reads the texts alone, too.
pub faultless_apart : (labels : List (List ℕ)) (all every lines : List TextLine) → texts all ≡ texts every → IsFaultless (map_rules.Breaks 1 labels all) lines → IsFaultless (map_rules.Breaks 1 labels every) lines
faultless_apart labels all every lines e f =
    let names = names_again all every e in
    let many = length_again all every e in
    subst (λ X. X) (λ i. IsFaultless (map_rules.BreaksIn 1 labels (names i) (many i)) lines) f

-- Lines of the same texts have the same texts with the line that closes them.
pub closed_again : (lines others : List TextLine) (end last : ℕ) → texts lines ≡ texts others → texts (closed lines end) ≡ texts (closed others last)
closed_again lines others end last e = map-append (λ (l : TextLine). l.1) lines ((end, []) ∷ []) ∙ ap (λ ts. ts ++ [] ∷ []) e ∙ sym (map-append (λ (l : TextLine). l.1) others ((last, []) ∷ []))

-- ---- image lines

-- The rule of image lines reads texts alone.
pub image_reads : (words : ℕ) → ReadsTexts (image.Breaks words)
image_reads words before other text kind e b =
    let ends : end_before before ≡ end_before other = fold_again (λ _ t. end_of t) 0 before other e in
    subst (λ n. KindsOf image_kind.Form (image.HasKind words n) (image_line text) kind) ends b

-- Lines of the same texts spell the same image.
pub image_again : (words : ℕ) (lines others : List TextLine) → texts lines ≡ texts others → image_of words lines ≡ image_of words others
image_again words lines others e = fold_again (λ ws text. option_map_or (λ p. overwritten ws p.0 p.1) (image_line text) ws) (replicate words 0) lines others e

-- ---- content lines

-- The content lines of a text whose first line has this number.
abbrev pub lines_from : ℕ → List ℕ → List TextLine
lines_from n text = content_from n (pieces text)

one_again : (n m : ℕ) (piece : List ℕ) (ps : List (List ℕ)) (b : Bool) → has_text (content piece) ≡ b → texts (content_from (n + 1) ps) ≡ texts (content_from (m + 1) ps) → texts (content_from n (piece ∷ ps)) ≡ texts (content_from m (piece ∷ ps))
one_again n m piece ps true t e = rw t (ap (λ ts. content piece ∷ ts) e)
one_again n m piece ps false t e = rw t e

pieces_again : (n m : ℕ) (ps : List (List ℕ)) → texts (content_from n ps) ≡ texts (content_from m ps)
pieces_again n m [] = refl
pieces_again n m (p ∷ ps) = one_again n m p ps (has_text (content p)) refl (pieces_again (n + 1) (m + 1) ps)

-- They have the same texts, whatever that number is.
pub lines_again : (n m : ℕ) (text : List ℕ) → texts (lines_from n text) ≡ texts (lines_from m text)
lines_again n m text = pieces_again n m (pieces text)
