use Rattle.std.proofs.Common.{ℕ, List, ap, ◌∙◌, length}
use Rattle.std.specs.Prelude.{bytes_eq, unwrap_or}
use Rattle.plural_base.proofs.ListTests.{unwrap_found}
use Rattle.plural_map_text.proofs.index.first_place.Goals as goal

-- The answer is the first place, or the length.
pub returns : goal.returns
returns c = c.unwrap_or.ensures ∙ ap (λ o. unwrap_or o (length c.args.names.now)) c.find_name.ensures ∙ unwrap_found (λ (n : List ℕ). bytes_eq n c.args.name.now) c.args.names.now
