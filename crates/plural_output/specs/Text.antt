-- The text of a run's output.
use Rattle.std.specs.Prelude.{ℕ, List, ◌++◌, codes}
use Rattle.plural_map.specs.Value.{MapValue}
use Rattle.plural_image.specs.Print.{image_text}
use Rattle.plural_trace.specs.Logs.{LogValue}
use Rattle.plural_log.specs.Print.{log_text}

-- The lines of the log, `[image]`, the lines of the image, `[end]`.
abbrev pub output_text : MapValue → LogValue → List ℕ → List ℕ
output_text m log image = log_text m log ++ (codes "[image]\n" ++ (image_text image ++ codes "[end]\n"))
