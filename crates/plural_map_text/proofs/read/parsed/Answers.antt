use Rattle.std.proofs.Common.{refl}
use Rattle.plural_map_text.specs.Drafts.{draft_parts}
use Rattle.plural_map_text.proofs.ReadLines.{reads_nothing, line_first, fine_range, fine_room, reads_more, reads_all, short_first, read_near, read_answer, first_told}
use Rattle.plural_map_text.proofs.read.parsed.Goals as goal

-- Before any line nothing is read.
pub loop-n-init : goal.loop-n-init
loop-n-init c = rw c.new.ensures.items (reads_nothing _ _ _ _)

-- The numbers of what is added are in their ranges.
pub add-requires-clause-range : goal.add-requires-clause-range
add-requires-clause-range c =
    fine_range c.args.version c.args.labels.now c.args.names.now c.loop-n.n (draft_parts c.loop-n.draft) _ c.in-Ok.read c.in-Ok.ensures.fine

-- There is room for it.
pub add-requires-clause-room : goal.add-requires-clause-room
add-requires-clause-room c =
    fine_room c.args.version c.args.labels.now c.args.names.now c.loop-n.n (draft_parts c.loop-n.draft) _ c.in-Ok.read c.in-Ok.ensures.fine

-- One more line without a fault is read.
pub loop-n-preserved : goal.loop-n-preserved
loop-n-preserved c =
    reads_more _ _ _ _ c.args.lines.now c.loop-n.n _ (draft_parts c.loop-n.draft) _ c.in-Ok.read refl c.loop-n-test.true c.loop-n.invariant c.in-Ok.ensures.fine c.in_ok-add-in-Ok.ensures

-- The first line with a fault has the first of the section.
pub returns-in-Err : goal.returns-in-Err
returns-in-Err c =
    first_told _ _ c.args.names.now c.args.lines.now c.args.end _ _ c.requires.names (line_first _ _ _ _ c.args.lines.now c.args.end c.loop-n.n _ _ _ c.loop-n-test.true c.loop-n.invariant c.in-Err.ensures.fault)

-- A section of fewer than two lines is closed early.
pub returns-then-lines-lt2 : goal.returns-then-lines-lt2
returns-then-lines-lt2 c =
    first_told _ _ c.args.names.now c.args.lines.now c.args.end _ _ c.requires.names
    (short_first _ _ _ _ c.args.lines.now c.args.end (draft_parts c.loop-n.draft) (reads_all _ _ _ _ c.args.lines.now c.loop-n.n (draft_parts c.loop-n.draft) c.loop-n-test.false c.loop-n.invariant) c.if-lines-lt2.true)

-- The map is within all limits.
pub finish-requires : goal.finish-requires
finish-requires c = record {
  limits =
      read_near _ _ _ _ c.args.lines.now (draft_parts c.loop-n.draft) c.requires.names
      (reads_all _ _ _ _ c.args.lines.now c.loop-n.n (draft_parts c.loop-n.draft) c.loop-n-test.false c.loop-n.invariant) c.if-lines-lt2.false;
}

-- The map that was read is the one that the lines spell.
pub returns : goal.returns
returns c =
    read_answer _ _ c.args.names.now c.args.lines.now c.args.end (draft_parts c.loop-n.draft) c.finish.result c.requires.names
    (reads_all _ _ _ _ c.args.lines.now c.loop-n.n (draft_parts c.loop-n.draft) c.loop-n-test.false c.loop-n.invariant) c.if-lines-lt2.false c.finish.ensures
