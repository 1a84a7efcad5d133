-- The words before any step meet the rule, and tell their opening.
use Rattle.std.proofs.Common.{◌≡◌, ℕ, ◌*◌, ◌^◌, ◌<◌, List, [], ◌∷◌, ◌++◌, length, get_or, take, replicate, sym, ap, ◌∙◌, subst, arith}
use Rattle.std.specs.List.{flat_map}
use Rattle.std.proofs.lemmas.List.{take-append-le, length-append}
use Rattle.std.proofs.Math.Seq.{take-append_seam}
use Rattle.atomic_table.specs.Table.{opening}
use Rattle.plural_map.specs.Value.{MapValue}
use Rattle.plural_map.specs.Limits.{IsMap}
use Rattle.plural_crew.specs.Clashes.{IsAccepted}
use Rattle.plural_serial.specs.Program.{ProgramValue}
use Rattle.plural_order.specs.ProgramWorld.{IsOpening}
use Rattle.plural_rule.specs.Opening.{Opening, task_count}
use Rattle.plural_rule.specs.Layout.{instances_before, word_count}
use Rattle.plural_rule.specs.First.{first_five, first_words}
use Rattle.plural_rule.specs.Kept.{Kept}
use Rattle.plural_rule.specs.Steps.{first_view}
use Rattle.plural_rule.proofs.ProgramRuns.{runs_serially}
use Rattle.plural_rule.proofs.FirstWords.{opens_words}
use Rattle.plural_words.specs.Places.{IsSmall}
use Rattle.plural_words.specs.Tells.{Holds}

-- The image comes first.
image_first : (p : ProgramValue) (image : List ℕ) → take (length image) (first_words p image) ≡ image
image_first p image =
    let none = replicate (8 * instances_before p (task_count p)) 0 in
    let fives = flat_map first_five p.map.tasks in
    let one = length-append image none in
    let two = length-append (image ++ none) fives in
    take-append-le (length image) ((image ++ none) ++ fives) (0 ∷ []) (omega (arith, one, two))
    ∙ (take-append-le (length image) (image ++ none) fives (omega (arith, one)) ∙ take-append_seam image none)

-- The key of the first words is their opening.
pub key_is : (p : ProgramValue) (image words : List ℕ) (cores : ℕ) (k : Opening) → length image ≡ p.map.words → words ≡ first_words p image → k.program ≡ p → k.image ≡ take p.map.words words → k.cores ≡ cores
    → k ≡ record { program = p; image = image; cores = cores }
key_is p image words cores k long first is_program is_image is_cores =
    let here : k.image ≡ image = is_image ∙ (ap (λ n. take n words) (sym long) ∙ (ap (take (length image)) first ∙ image_first p image)) in
    ap (λ (x : ProgramValue). let o : Opening = record { program = x; image = k.image; cores = k.cores } in o) is_program
    ∙ (ap (λ (x : List ℕ). let o : Opening = record { program = p; image = x; cores = k.cores } in o) here
    ∙ ap (λ (x : ℕ). let o : Opening = record { program = p; image = image; cores = x } in o) is_cores)

-- A program whose map is within its limits and has no clash may be opened over an image of its length.
pub opening_of : (p : ProgramValue) (image : List ℕ) (m a : MapValue) → m ≡ p.map → IsMap m → a ≡ p.map → IsAccepted a.tasks → length image ≡ p.map.words → IsOpening p image
opening_of p image m a is limits same accepted long = record {
  limits = subst (λ (x : MapValue). IsMap x) is limits;
  accepted = subst (λ (x : MapValue). IsAccepted x.tasks) same accepted;
  image = long;
}

-- It is small.
pub small_of : (o : Opening) → IsOpening o.program o.image → IsSmall o.program
small_of o ok = let run = runs_serially o ok in record { words = run.few_words; tasks = run.few_tasks; instances = run.few_instances }

-- The words of a program whose map has no clash, over an image of its length.
pub record Opens (o : Opening) (words : List ℕ) : Type 0 where
  pub holds : Holds o (opening words [] (first_view o))
  pub long : length words ≡ word_count o.program

-- They meet the rule, and are as many as the program wants.
pub opens : (o : Opening) (words : List ℕ) → IsOpening o.program o.image → ((a : ℕ) → a < o.program.map.words → get_or o.image a 0 < 2 ^ 32) → words ≡ first_words o.program o.image → Opens o words
opens o words ok narrow first =
    let kept = opens_words o ok narrow in
    record {
      holds = subst (λ (ws : List ℕ). Kept o ws (first_view o ∷ [])) (sym first) kept;
      long = ap length first ∙ kept.long;
    }
