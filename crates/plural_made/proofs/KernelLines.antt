-- The kernel lines of a made bundle: they compute.
use Rattle.std.proofs.Common.{◌≡◌, ℕ, true, false, List, [], ◌∷◌, refl}
use Rattle.std.specs.Prelude.{not, codes}
use Rattle.std.specs.List.{list_all}
use Rattle.plural_bytes.specs.Lines.{TextLine}
use Rattle.plural_sections.specs.Faults.{IsFaultless}
use Rattle.plural_asm.specs.Labels.{names_of}
use Rattle.plural_asm.specs.Rules.{Breaks}
use Rattle.plural_generator.specs.Kernels.{fir_text, top_text, best_text, loud_text, quiet_text, done_text, kernel_text}
use Rattle.plural_sections.specs.Sections.{closes}
use Rattle.plural_bundle.specs.Laws.{Stay}
use Rattle.plural_made.proofs.LineNumbers.{lines_from}
use Rattle.plural_made.proofs.TextLines.{EndsLine}
use Rattle.plural_made.proofs.SectionLines.{stay_by}
use Rattle.plural_made.proofs.KernelFaults.{is_faulty, taken, not_faulty}

-- The kernel lines, of which the first has this number.
abbrev pub kernels : ℕ → List TextLine
kernels n = lines_from n kernel_text

-- The kernel lines end with a line end.
pub kernels_end : EndsLine kernel_text
unfolding fir_text top_text best_text loud_text quiet_text done_text
kernels_end rest = refl

none_closes : (n : ℕ) → list_all (λ l. not (closes l.1)) (kernels n) ≡ true
unfolding fir_text top_text best_text loud_text quiet_text done_text
none_closes n = refl

-- No kernel line closes the section.
pub kernels_stay : (n : ℕ) → Stay (kernels n)
kernels_stay n = stay_by (kernels n) (none_closes n)

kernels_fine : (n : ℕ) → is_faulty (taken (kernels n)) ≡ false
unfolding fir_text top_text best_text loud_text quiet_text done_text
kernels_fine n = refl

-- The kernel lines have no fault.
pub kernels_good : (n : ℕ) → IsFaultless (Breaks (kernels n)) (kernels n)
kernels_good n = not_faulty (kernels n) (kernels_fine n)

-- The names at their label positions.
abbrev pub kernel_labels : List (List ℕ)
kernel_labels =
    codes "fir" ∷ codes "fo" ∷ codes "fi" ∷ codes "top" ∷ codes "tl" ∷ codes "ts" ∷ codes "best" ∷ codes "bl" ∷ codes "bs" ∷ codes "loud" ∷ codes "quiet" ∷ codes "done" ∷ []

-- The labels of the kernel lines are these.
pub labels_are : (n : ℕ) → names_of (kernels n) ≡ kernel_labels
unfolding fir_text top_text best_text loud_text quiet_text done_text
labels_are n = refl
