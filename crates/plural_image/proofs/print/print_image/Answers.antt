use Rattle.std.proofs.Common.{◌≡◌, ◌+◌, ◌-◌, ◌*◌, take, drop, arith}
use Rattle.plural_image.specs.Print.{row_lines}
use Rattle.plural_image.proofs.PrintedRows.{rows_more}
use Rattle.plural_image.proofs.print.print_image.Goals as goal

-- One more row is printed.
pub loop-r-preserved : goal.loop-r-preserved
loop-r-preserved c =
    let r = c.loop-r.r in
    let e : 8 * r + 8 - 8 * r ≡ 8 = omega arith in
    rows_more (λ k. row_lines (8 * k) (take 8 (drop (8 * k) c.args.image.now))) c.loop-r.out.items c.put_row.new.out.items r c.loop-r.invariant (rw e at c.in_ok-put_row.ensures)
