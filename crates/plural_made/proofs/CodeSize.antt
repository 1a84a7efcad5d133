-- How many words the kernel lines of a made bundle make, and where its tasks begin: they compute.
use Rattle.std.proofs.Common.{◌≡◌, [], ◌∷◌, map, refl, ◌∙◌}
use Rattle.plural_asm.specs.Labels.{place_after}
use Rattle.plural_asm.specs.Words.{labels_of}
use Rattle.plural_asm.proofs.LineSums.{code_length}
use Rattle.plural_generator.specs.Tasks.{made_map}
use Rattle.plural_generator.specs.Kernels.{fir_text, top_text, best_text, loud_text, quiet_text, done_text}
use Rattle.plural_bundle.specs.Value.{pc_of}
use Rattle.plural_made.specs.Laws.{made_kernels, MadeCode}

size_is : place_after made_kernels ≡ 78
unfolding fir_text top_text best_text loud_text quiet_text done_text
size_is = refl

entries_are : map (λ t. pc_of (labels_of made_kernels) t.entry) made_map.tasks ≡ 0 ∷ 100 ∷ 180 ∷ 240 ∷ 260 ∷ 280 ∷ []
unfolding made_map fir_text top_text best_text loud_text quiet_text done_text
entries_are = refl

-- The code has 78 words, and the tasks begin at these bytes.
pub made_code : MadeCode
made_code = (code_length made_kernels made_kernels ∙ size_is, entries_are)
