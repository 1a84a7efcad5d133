use Rattle.std.proofs.Common.{ℕ, ◌≡◌, ◌<◌, ◌*◌, length, get_or, false, None, take}
use Rattle.plural_trace.specs.Least.{least}
use Rattle.plural_trace.specs.Rules.{breaks_tickets, is_drawn}
use Rattle.plural_trace.proofs.tickets.ticket_fault.Given as goal

abbrev pub invariant-loop-i : goal.invariant-loop-i
invariant-loop-i l =
    record {
      room : length l.drawn.items ≡ 2 * length l.entries;
      none : least (breaks_tickets l.entries) l.i ≡ None;
      marks : (x : ℕ) → x < 2 * length l.entries → get_or l.drawn.items x false ≡ is_drawn x (take l.i l.entries);
    }
