-- The text of the large filter bundle.
use Rattle.std.specs.Prelude.{ℕ, List, ◌++◌, codes}
use Rattle.plural_map_text.specs.Print.{map_text}
use Rattle.plural_image.specs.Print.{image_text}
use Rattle.plural_generator.specs.Tasks.{made_map}
use Rattle.plural_generator.specs.Kernels.{kernel_text}
use Rattle.plural_generator.specs.Draws.{made_image}

-- The bundle of a seed: its headers, the map lines, the kernel lines, and the image lines.
abbrev pub made_text : ℕ → List ℕ
made_text seed =
    codes "plural 1\n[map]\n" ++ (map_text made_map
    ++ (codes "[kernels]\n" ++ (kernel_text
    ++ (codes "[image]\n" ++ (image_text (made_image seed)
    ++ codes "[end]\n")))))
