use Rattle.std.proofs.Common.{◌≡◌, ◌++◌, ◌∷◌, take}
use Rattle.std.specs.Prelude.{flat_map}
use Rattle.plural_image.specs.Print.{hex_text}
use Rattle.plural_image.proofs.print.put_words.Given as goal

abbrev pub invariant-loop-w : goal.invariant-loop-w
invariant-loop-w l = l.out.items ≡ l.fn.out.items ++ flat_map (λ w. 32 ∷ hex_text 8 w) (take l.w-index l.words)
