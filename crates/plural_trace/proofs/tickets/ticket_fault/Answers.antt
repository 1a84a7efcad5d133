use Rattle.std.proofs.Common.{◌≡◌, ◌∙◌, ◌*◌, ◌||◌, ap, sym, not, ltb, get_or, false, length, List, Bool}
use Rattle.std.proofs.lemmas.List.{length-set}
use Rattle.plural_trace.specs.Rules.{breaks_tickets, entry_at}
use Rattle.plural_trace.proofs.LeastPlaces.{least_next, least_found}
use Rattle.plural_trace.proofs.TicketLemmas.{tickets_test, marks_next}
use Rattle.plural_trace.proofs.tickets.ticket_fault.Goals as goal

-- The answer at `then-is_fault` meets the clause `least`.
pub returns-then-is_fault-clause-least : goal.returns-then-is_fault-clause-least
returns-then-is_fault-clause-least c =
    let es = c.args.entries.now in
    let i = c.loop-i.i in
    let e = entry_at es i in
    let test : List Bool → Bool = λ m. not (ltb e.start e.end_at) || not (ltb e.end_at (2 * length es)) || get_or m e.start false || get_or m e.end_at false in
    least_found (breaks_tickets es) i (length es) c.loop-i-test.true c.loop-i.invariant.none
    (sym (tickets_test es c.loop-i.drawn.items i c.loop-i.invariant.marks) ∙ ap test (sym c.deref.ensures.value) ∙ sym c.is_fault.ensures ∙ c.if-is_fault.true)

-- A turn of `loop-i` keeps its invariant.
pub loop-i-preserved : goal.loop-i-preserved
loop-i-preserved c =
    let es = c.args.entries.now in
    let i = c.loop-i.i in
    let e = entry_at es i in
    let test : List Bool → Bool = λ m. not (ltb e.start e.end_at) || not (ltb e.end_at (2 * length es)) || get_or m e.start false || get_or m e.end_at false in
    let fine : breaks_tickets es i ≡ false = sym (tickets_test es c.loop-i.drawn.items i c.loop-i.invariant.marks) ∙ ap test (sym c.deref.ensures.value) ∙ sym c.is_fault.ensures ∙ c.if-is_fault.false in
    record {
      room = simp length-set c.loop-i.invariant.room;
      none = least_next (breaks_tickets es) i c.loop-i.invariant.none fine;
      marks = λ x below. marks_next es c.loop-i.drawn.items i x c.loop-i.invariant.room c.loop-i-test.true fine below (c.loop-i.invariant.marks x below);
    }
