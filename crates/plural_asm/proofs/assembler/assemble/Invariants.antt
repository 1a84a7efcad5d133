use Rattle.std.proofs.Common.{◌≤◌, take}
use Rattle.std.specs.BTreeMap.{get_by}
use Rattle.std.specs.Cmp.Lexicographic.{slice_cmp}
use Rattle.std.specs.Ordering.{nat_cmp}
use Rattle.plural_bytes.specs.Spelled.{text_lines}
use Rattle.plural_asm.proofs.AssemblyLoop.{Reads}
use Rattle.plural_asm.proofs.assembler.assemble.Given as goal

abbrev pub invariant-loop-line : goal.invariant-loop-line
invariant-loop-line l = record {
  reads : Reads (text_lines l.lines) (text_lines (take l.line-index l.lines)) (λ q. get_by (λ k. slice_cmp nat_cmp q k) l.earlier) l.here l.words.items l.labels.items;
  small : l.here ≤ 16384;
}
