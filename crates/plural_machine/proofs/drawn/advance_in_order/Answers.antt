use Rattle.std.proofs.Common.{◌≡◌, List, ℕ, suc, length, sym, ap, ◌∙◌, subst}
use Rattle.std.proofs.lemmas.Bool.{eqb-true, eqb-false}
use Rattle.rand_pcg.specs.Lcg.{Lcg}
use Rattle.plural_machine.specs.Drawn.{AreRising, AreStaying, AreTurns, drawn, drawn_first, generator_of}
use Rattle.plural_machine.proofs.Staying.{none_left, all_rising, all_staying, all_back, turn_staying, turn_rising, turn_falls, drawn_within}
use Rattle.plural_machine.proofs.drawn.advance_in_order.Goals as goal

-- All cores stay.
pub loop-rng-init : goal.loop-rng-init
loop-rng-init g c =
    let e = sym c.all_numbers-staying.ensures in
    record {
      rising = subst (λ (l : List ℕ). AreRising (length c.args.cores.now) l) e (all_rising (length c.args.cores.now));
      staying = λ first sent. subst (λ (l : List ℕ). AreStaying c.args.words.now first l c.args.cores.now) e (all_staying c.args.words.now first c.args.cores.now sent);
      turns = (
        0,
        ap (λ (g : Lcg). drawn g c.all_numbers-staying.result.items c.args.cores.now) c.seed_from_u64-rng.ensures
            ∙ ap (λ (l : List ℕ). drawn (generator_of c.args.seed) l c.args.cores.now) c.all_numbers-staying.ensures,
      );
    }

-- Each number is that of a core.
pub next_turn-requires-clause-rising : goal.next_turn-requires-clause-rising
next_turn-requires-clause-rising g c = c.loop-rng.invariant.rising

-- Each core was sent, and is between two turns.
pub next_turn-requires-clause-between : goal.next_turn-requires-clause-between
next_turn-requires-clause-between g c = (c.requires.sent.0, c.loop-rng.invariant.staying c.requires.sent.0 c.requires.sent.1)

-- A turn leaves fewer.
pub loop-rng-smaller : goal.loop-rng-smaller
loop-rng-smaller g c =
    let within = drawn_within c.loop-rng.rng (length c.loop-rng.staying.items) (eqb-false (length c.loop-rng.staying.items) 0 (sym c.is_empty.ensures ∙ c.loop-rng-test.true)) in
    turn_falls c.args.words.now _ c.loop-rng.staying.items c.next_turn.new.staying.items c.loop-rng.cores c.next_turn.new.cores within c.loop-rng.invariant.rising c.next_turn.ensures.turn

-- What holds between two turns holds after one more.
pub loop-rng-preserved : goal.loop-rng-preserved
loop-rng-preserved g c =
    let within = drawn_within c.loop-rng.rng (length c.loop-rng.staying.items) (eqb-false (length c.loop-rng.staying.items) 0 (sym c.is_empty.ensures ∙ c.loop-rng-test.true)) in
    record {
      rising = turn_rising c.args.words.now _ c.loop-rng.staying.items c.next_turn.new.staying.items c.loop-rng.cores c.next_turn.new.cores within c.loop-rng.invariant.rising c.next_turn.ensures.turn;
      staying = λ first sent. turn_staying c.args.words.now first _ c.loop-rng.staying.items c.next_turn.new.staying.items c.loop-rng.cores c.next_turn.new.cores within c.loop-rng.invariant.rising c.next_turn.ensures.turn (c.loop-rng.invariant.staying first sent);
      turns =
          let turns = c.loop-rng.invariant.turns in
          (suc turns.0, (drawn c.loop-rng.rng c.loop-rng.staying.items c.loop-rng.cores, turns.1, record { turn = c.next_turn.ensures.turn; rest = c.next_turn.ensures.rest }));
    }

-- The turns until none stays are those that the seed draws.
pub returns-clause-turns : goal.returns-clause-turns
returns-clause-turns g c =
    let none : length c.loop-rng.staying.items ≡ 0 = eqb-true (length c.loop-rng.staying.items) 0 (sym c.is_empty.ensures ∙ c.loop-rng-test.false) in
    let turns = c.loop-rng.invariant.turns in
    record {
      count = turns.0;
      rest = c.loop-rng.rng;
      turns = subst (λ (l : List ℕ). AreTurns c.args.words.now turns.0 (drawn_first c.args.seed c.args.cores.now) (drawn c.loop-rng.rng l c.loop-rng.cores)) (none_left c.loop-rng.staying.items none) turns.1;
    }

-- None stays: each core has left.
pub returns-clause-back : goal.returns-clause-back
returns-clause-back g c first sent =
    all_back c.args.words.now first c.loop-rng.staying.items c.loop-rng.cores (eqb-true (length c.loop-rng.staying.items) 0 (sym c.is_empty.ensures ∙ c.loop-rng-test.false)) (c.loop-rng.invariant.staying first sent)
