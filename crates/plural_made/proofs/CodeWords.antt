-- Kernel lines of the same texts make the same words and labels.
use Rattle.std.proofs.Common.{◌≡◌, ℕ, ◌+◌, List, [], ◌∷◌, ◌++◌, refl, ap, sym, ◌∙◌}
use Rattle.std.specs.Prelude.{fold}
use Rattle.plural_bytes.specs.Lines.{TextLine}
use Rattle.plural_statement.specs.Statement.{label_of, line_of}
use Rattle.plural_asm.specs.Labels.{size_of, place_of}
use Rattle.plural_asm.specs.Words.{words_at, gathered, code_of, label_at, labels_of}
use Rattle.plural_made.proofs.LineNumbers.{texts}
use Rattle.plural_made.proofs.KernelFaults.{start, after, taken, places_are}

taken_again : (lines others : List TextLine) → texts lines ≡ texts others → taken lines ≡ taken others
taken_again [] [] e = refl
taken_again [] (m ∷ ms) e = absurd cc
taken_again (l ∷ ls) [] e = absurd cc
taken_again (l ∷ ls) (m ∷ ms) e =
    let t : l.1 ≡ m.1 = cc in
    let r : texts ls ≡ texts ms = cc in
    let more = taken_again ls ms r in
    λ i. line_of (t i) ∷ more i

place_again : (lines others : List TextLine) (q : List ℕ) → texts lines ≡ texts others → place_of lines q ≡ place_of others q
place_again lines others q e = places_are lines q ∙ ap (λ ks. (fold after start ks).places q) (taken_again lines others e) ∙ sym (places_are others q)

gathered_again : {A : Type 0} (make : ℕ → List ℕ → List A) (here : ℕ) (lines others : List TextLine) → texts lines ≡ texts others → gathered make here lines ≡ gathered make here others
gathered_again make here [] [] e = refl
gathered_again make here [] (m ∷ ms) e = absurd cc
gathered_again make here (l ∷ ls) [] e = absurd cc
gathered_again make here (l ∷ ls) (m ∷ ms) e =
    let t : l.1 ≡ m.1 = cc in
    let r : texts ls ≡ texts ms = cc in
    (λ i. make here (t i) ++ gathered make (here + size_of (t i)) ls) ∙ ap (λ xs. make here m.1 ++ xs) (gathered_again make (here + size_of m.1) ls ms r)

-- Lines of the same texts spell the same code.
pub code_again : (lines others : List TextLine) → texts lines ≡ texts others → code_of lines lines ≡ code_of others others
code_again lines others e =
    (λ i. gathered (λ here text. words_at (λ q. place_again lines others q e i) here (line_of text).statement) 0 lines)
    ∙ gathered_again (λ here text. words_at (λ q. place_of others q) here (line_of text).statement) 0 lines others e

-- Lines of the same texts have the same labels.
pub labels_again : (lines others : List TextLine) → texts lines ≡ texts others → labels_of lines ≡ labels_of others
labels_again lines others e = gathered_again (λ here text. label_at here (label_of text)) 0 lines others e
