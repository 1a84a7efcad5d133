use Rattle.std.proofs.Common.{◌≡◌, ◌∷◌, [], ap, ◌∙◌, sym, subst, refl, arith}
use Rattle.plural_map.specs.Value.{MapValue}
use Rattle.plural_rule.specs.Opening.{Opening}
use Rattle.plural_rule.specs.Layout.{word_count}
use Rattle.plural_rule.specs.Kept.{Kept}
use Rattle.plural_rule.specs.Steps.{first_view}
use Rattle.plural_words.specs.Places.{HasPlaces}
use Rattle.plural_words.proofs.Opens.{opens, small_of, key_is, opening_of}
use Rattle.plural_words.proofs.words.Words.open.Goals as goal
use Rattle.plural_words.proofs.words.Words.open.Goals.{After-key}

-- The records have fewer than 2^32 words.
pub opening_words-requires-clause-few : goal.opening_words-requires-clause-few
opening_words-requires-clause-few c =
    let ok = opening_of c.args.program.now c.args.image.now _ _ c.map.ensures c.words-memory.ensures.limits c.requires.map c.map-map.ensures.accepted c.requires.image in
    let small = small_of (record { program = c.args.program.now; image = c.args.image.now; cores = c.args.cores }) ok in
    omega (arith, small.instances, c.in_ok-places.ensures.next, c.words-memory.ensures.value, ap (λ (m : MapValue). m.words) c.map.ensures)

key : (c : After-key) → c.of-key.result ≡ record { program = c.args.program.now; image = c.args.image.now; cores = c.args.cores }
key c = key_is c.args.program.now c.args.image.now c.in_ok-words.words.items c.args.cores c.of-key.result c.requires.image c.in_ok-words.ensures c.of-key.ensures.program c.of-key.ensures.image c.of-key.ensures.cores

-- The first words meet the rule with the root alone.
pub of_words-requires : goal.of_words-requires
of_words-requires c =
    let d = (goal.at.of_words-requires c).After-key in
    let ok = opening_of c.args.program.now c.args.image.now _ _ c.map.ensures c.words-memory.ensures.limits c.requires.map c.map-map.ensures.accepted c.requires.image in
    let o : Opening = record { program = c.args.program.now; image = c.args.image.now; cores = c.args.cores } in
    let low = c.type_inv.image in
    let start = opens o c.as_slice.result.now ok (λ a h. omega (arith, low a)) (c.as_slice.ensures.value ∙ c.in_ok-words.ensures) in
    subst (λ (k : Opening). Kept k c.as_slice.result.now (first_view k ∷ [])) (sym (key d)) start.holds

-- The words are laid out for the opening.
pub invariant_of-result : goal.invariant_of-result
invariant_of-result c =
    let d = (goal.at.invariant_of-result c).After-key in
    let ok = opening_of c.args.program.now c.args.image.now _ _ c.map.ensures c.words-memory.ensures.limits c.requires.map c.map-map.ensures.accepted c.requires.image in
    let o : Opening = record { program = c.args.program.now; image = c.args.image.now; cores = c.args.cores } in
    let low = c.type_inv.image in
    let start = opens o c.as_slice.result.now ok (λ a h. omega (arith, low a)) (c.as_slice.ensures.value ∙ c.in_ok-words.ensures) in
    let made = c.in_ok-table.ensures in
    let memory : c.words-memory.result ≡ c.args.program.now.map.words = c.words-memory.ensures.value ∙ ap (λ (m : MapValue). m.words) c.map.ensures in
    let P : Opening → Type 0 = λ k. HasPlaces k.program c.in_ok-places.places.items c.in_ok-places.counters × (c.in_ok-table.table.shared.table_id.words ≡ word_count k.program) × (c.words-memory.result ≡ k.program.map.words) × (c.args.cores ≡ k.cores) × (c.in_ok-table.table.shared.table_id.slots ≡ 0) in
    let own : P o = (record { small = small_of o ok; places = c.in_ok-places.ensures }, made.0 ∙ start.long, memory, refl, made.1) in
    subst P (sym (made.5 ∙ key d)) own
