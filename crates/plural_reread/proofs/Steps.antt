-- Texts whose lines are read one after the other without a fault.
use Rattle.std.proofs.Common.{◌≡◌, ℕ, ◌+◌, ◌≤◌, true, Some, List, [], ◌∷◌, ◌++◌, length, refl, ap, sym, subst, ◌∙◌, arith, append_assoc}
use Rattle.std.specs.List.{list_all}
use Rattle.std.proofs.lemmas.List.{append-nil, length-append}
use Rattle.plural_bytes.specs.Lines.{TextLine, pieces, content_from}
use Rattle.plural_bytes.proofs.Tokens.{is_token, joined, tokens_joined, line_next}
use Rattle.plural_map_text.specs.declared.line.MapLine.{MapLine}
use Rattle.plural_map_text.specs.Shape.{shape, shape_of}
use Rattle.plural_map_text.specs.Parts.{Parts, with_line}
use Rattle.plural_map_text.proofs.ReadLines.{Reads, Passes, reads_push}

-- ---- texts after the first two lines

-- After these lines, the text gives more lines, and all together spell the parts.
pub record Passed (version : ℕ) (labels names : List (List ℕ)) (total : ℕ) (before : List TextLine) (number : ℕ) (text rest : List ℕ) (q : Parts) : Type 0 where
  pub lines : List TextLine
  pub next : ℕ
  pub cut : content_from number (pieces (text ++ rest)) ≡ lines ++ content_from next (pieces rest)
  pub reads : Reads version labels names total (before ++ lines) q

-- The text leads from parts to parts, after any two lines or more and whatever follows.
abbrev pub Leads : (version : ℕ) → (labels names : List (List ℕ)) → Parts → List ℕ → Parts → Type 0
Leads version labels names p text q =
    (number total : ℕ) (before : List TextLine) (rest : List ℕ) → 2 ≤ length before → Reads version labels names total before p → Passed version labels names total before number text rest q

-- No text leads from parts to themselves.
pub no_step : (version : ℕ) (labels names : List (List ℕ)) (p : Parts) → Leads version labels names p [] p
no_step version labels names p number total before rest low r = record { lines = []; next = number; cut = refl; reads = rw (append-nil before) r }

-- Texts in a row lead from parts to parts.
pub two_steps : (version : ℕ) (labels names : List (List ℕ)) (p q r : Parts) (s t : List ℕ) → Leads version labels names p s q → Leads version labels names q t r → Leads version labels names p (s ++ t) r
two_steps version labels names p q r s t f g number total before rest low h =
    let a = f number total before (t ++ rest) low h in
    let b = g a.next total (before ++ a.lines) rest (omega (arith, low, length-append before a.lines)) a.reads in
    record {
      lines = a.lines ++ b.lines;
      next = b.next;
      cut = ap (λ x. content_from number (pieces x)) (append_assoc s t rest) ∙ a.cut ∙ ap (λ x. a.lines ++ x) b.cut ∙ sym (append_assoc a.lines b.lines (content_from b.next (pieces rest)));
      reads = subst (λ (ls : List TextLine). Reads version labels names total ls r) (append_assoc before a.lines b.lines) b.reads;
    }

-- One line of tokens.
pub line_step : (version : ℕ) (labels names : List (List ℕ)) (p : Parts) (s : MapLine) (text t : List ℕ) (ts : List (List ℕ)) → text ≡ joined (t ∷ ts) ++ 10 ∷ [] → list_all is_token (t ∷ ts) ≡ true → shape (t ∷ ts) ≡ Some s
    → ((n : ℕ) → 2 ≤ n → Passes version labels names n p s) → Leads version labels names p text (with_line names p s)
line_step version labels names p s text t ts e tokens spells fine number total before rest low r =
    let whole : text ++ rest ≡ joined (t ∷ ts) ++ 10 ∷ rest = ap (λ x. x ++ rest) e ∙ append_assoc (joined (t ∷ ts)) (10 ∷ []) rest in
    let shaped : shape_of (joined (t ∷ ts)) ≡ Some s = ap shape (tokens_joined t ts tokens) ∙ spells in
    record {
      lines = (number, joined (t ∷ ts)) ∷ [];
      next = number + 1;
      cut = ap (λ x. content_from number (pieces x)) whole ∙ line_next number t ts rest tokens;
      reads = reads_push version labels names total before (number, joined (t ∷ ts)) p s r shaped (fine (length before) low);
    }
