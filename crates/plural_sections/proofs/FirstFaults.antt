-- Reading lines one after the other: no fault so far, or the first.
use Rattle.std.proofs.Common.{◌≡◌, ℕ, ◌+◌, ◌<◌, ◌≤◌, List, [], ◌∷◌, ◌++◌, map, length, take, drop, get_or, refl, ap, sym, subst, subst₂, ◌∙◌, ◌⊎◌, inl, inr, append_assoc}
use Rattle.std.proofs.lemmas.List.{take-append-drop, drop_more, map-append, map_more, take_at, length-map, length-take-le}
use Rattle.plural_bytes.specs.Lines.{TextLine}
use Rattle.plural_bytes.specs.declared.lines.Line.{Line}
use Rattle.plural_bytes.specs.Spelled.{text_line, text_lines}
use Rattle.plural_sections.specs.Faults.{IsFaultless, IsFirstFault}

not_nil : {A : Type 0} (ys : List A) (y : A) (zs : List A) → [] ≡ ys ++ y ∷ zs → ⊥
not_nil [] y zs e = absurd cc
not_nil (b ∷ bs) y zs e = absurd cc

-- An element of a list with one more at its end is that one, or stands in the list.
pub split_last : {A : Type 0} (xs ys : List A) (x y : A) (zs : List A) → xs ++ x ∷ [] ≡ ys ++ y ∷ zs → ((xs ≡ ys) × (x ≡ y)) ⊎ ((ws : List A) × (xs ≡ ys ++ y ∷ ws))
split_last [] [] x y zs e = inl (refl, cc)
split_last [] (b ∷ bs) x y zs e = let f : [] ≡ bs ++ y ∷ zs = cc in absurd (not_nil bs y zs f)
split_last (a ∷ cs) [] x y zs e = let f : a ≡ y = cc in inr (cs, rw f refl)
split_last (a ∷ cs) (b ∷ bs) x y zs e =
    let f : a ≡ b = cc in
    let g : cs ++ x ∷ [] ≡ bs ++ y ∷ zs = cc in
    elim (split_last cs bs x y zs g) [
      | inl p ↦ inl (rw (f, p.0) refl, p.1)
      | inr p ↦ inr (p.0, rw (f, p.1) refl)
    ]

-- No lines have no fault.
pub faultless_nil : {K : Type 0} (B : List TextLine → List ℕ → K → Type 0) → IsFaultless B []
faultless_nil B = record { none = λ n k h. not_nil h.before (n, h.text) h.after h.whole }

-- One more line without a fault.
pub faultless_push : {K : Type 0} (B : List TextLine → List ℕ → K → Type 0) (before : List TextLine) (line : TextLine) → IsFaultless B before → ((k : K) → B before line.1 k → ⊥) → IsFaultless B (before ++ line ∷ [])
faultless_push B before line f here = record {
  none = λ n k h. elim (split_last before h.before line (n, h.text) h.after h.whole) [
    | inl p ↦ here k (rw (p.0, p.1) h.breaks)
    | inr p ↦ f.none n k (record { before = h.before; text = h.text; after = p.0; whole = p.1; breaks = h.breaks })
  ];
}

-- ---- more lines

-- A first fault of some lines is that of the same lines and more.
pub first_before : {K : Type 0} (rank : K → ℕ) (B : List TextLine → List ℕ → K → Type 0) (lines more : List TextLine) (number : ℕ) (kind : K) → IsFirstFault rank B lines number kind → IsFirstFault rank B (lines ++ more) number kind
first_before rank B lines more number kind f = record {
  before = f.before;
  text = f.text;
  after = f.after ++ more;
  whole = ap (λ xs. xs ++ more) f.whole ∙ append_assoc f.before ((number, f.text) ∷ f.after) more;
  earlier = f.earlier;
  breaks = f.breaks;
  least = f.least;
}

-- Lines and one more have no fault if neither has.
pub last_none : {K : Type 0} (B : List TextLine → List ℕ → K → Type 0) (lines : List TextLine) (last : TextLine) → IsFaultless B (lines ++ last ∷ []) → IsFaultless B lines × ((k : K) → B lines last.1 k → ⊥)
last_none B lines last f = (
  record {
    none = λ number k h. f.none number k (record { before = h.before; text = h.text; after = h.after ++ last ∷ []; whole = ap (λ x. x ++ last ∷ []) h.whole ∙ append_assoc h.before ((number, h.text) ∷ h.after) (last ∷ []); breaks = h.breaks });
  },
  λ k b. f.none last.0 k (record { before = lines; text = last.1; after = []; whole = refl; breaks = b }),
)

-- Their first fault is one of the lines, or that of the last.
pub last_first : {K : Type 0} (rank : K → ℕ) (B : List TextLine → List ℕ → K → Type 0) (lines : List TextLine) (last : TextLine) (number : ℕ) (k : K) → IsFirstFault rank B (lines ++ last ∷ []) number k
    → IsFirstFault rank B lines number k ⊎ (IsFaultless B lines × (number ≡ last.0) × B lines last.1 k)
last_first rank B lines last number k f = elim (split_last lines f.before last (number, f.text) f.after f.whole) [
  | inl p ↦ inr (subst (IsFaultless B) (sym p.0) f.earlier, sym (ap (λ (l : TextLine). l.0) p.1), subst₂ (λ b t. B b t k) (sym p.0) (sym (ap (λ (l : TextLine). l.1) p.1)) f.breaks)
  | inr p ↦ inl (record { before = f.before; text = f.text; after = p.0; whole = p.1; earlier = f.earlier; breaks = f.breaks; least = f.least })
]

-- If it is that of the last, that is the least kind there.
pub last_least : {K : Type 0} (rank : K → ℕ) (B : List TextLine → List ℕ → K → Type 0) (lines : List TextLine) (last : TextLine) (number : ℕ) (k : K) → IsFirstFault rank B (lines ++ last ∷ []) number k
    → IsFirstFault rank B lines number k ⊎ ((other : K) → B lines last.1 other → rank k ≤ rank other)
last_least rank B lines last number k f = elim (split_last lines f.before last (number, f.text) f.after f.whole) [
  | inl p ↦ inr (λ other b. f.least other (subst₂ (λ x t. B x t other) p.0 (ap (λ (l : TextLine). l.1) p.1) b))
  | inr p ↦ inl (record { before = f.before; text = f.text; after = p.0; whole = p.1; earlier = f.earlier; breaks = f.breaks; least = f.least })
]

-- ---- the lines of the code

-- How many lines stand before the i-th.
pub length_before : (xs : List Line) (i : ℕ) → i ≤ length xs → length (text_lines (take i xs)) ≡ i
length_before xs i l = length-map (take i xs) text_line ∙ length-take-le i xs l

-- the lines round the i-th
pub round : {X : Type 0} (v : X → TextLine) (xs : List X) (i : ℕ) (d : X) → i < length xs → map v xs ≡ map v (take i xs) ++ v (get_or xs i d) ∷ map v (drop (i + 1) xs)
round v xs i d l =
    let s = drop_more xs i d l in
    ap (map v) (sym (take-append-drop i xs)) ∙ map-append v (take i xs) (drop i xs) ∙ ap (λ ys. map v (take i xs) ++ map v ys) s

-- A line with a fault after lines without one is the first with a fault.
pub first_fault : {K X : Type 0} (rank : K → ℕ) (B : List TextLine → List ℕ → K → Type 0) (v : X → TextLine) (xs : List X) (i : ℕ) (d : X) (kind : K) → i < length xs
    → IsFaultless B (map v (take i xs)) → B (map v (take i xs)) (v (get_or xs i d)).1 kind → ((k : K) → B (map v (take i xs)) (v (get_or xs i d)).1 k → rank kind ≤ rank k)
    → IsFirstFault rank B (map v xs) (v (get_or xs i d)).0 kind
first_fault rank B v xs i d kind l f b least = record { before = map v (take i xs); text = (v (get_or xs i d)).1; after = map v (drop (i + 1) xs); whole = round v xs i d l; earlier = f; breaks = b; least = least }

-- The i-th line has no fault, and those before it have none.
pub faultless_more : {K X : Type 0} (B : List TextLine → List ℕ → K → Type 0) (v : X → TextLine) (xs : List X) (i : ℕ) (d : X) → i < length xs
    → IsFaultless B (map v (take i xs)) → ((k : K) → B (map v (take i xs)) (v (get_or xs i d)).1 k → ⊥) → IsFaultless B (map v (take (i + 1) xs))
faultless_more B v xs i d l f here = rw (map_more v xs i d l) (faultless_push B (map v (take i xs)) (v (get_or xs i d)) f here)

-- a `Vec` whose slice was written whole
pub written : {X : Type 0} (n : ℕ) (ws xs : List X) → length ws ≡ length xs → n ≡ length xs → take n (ws ++ drop (length ws) xs) ≡ ws
written n ws xs e f = take_at ws (drop (length ws) xs) n (e ∙ sym f)
