-- The lines that are left, behind what was read so far, come to what all lines come to.
use Rattle.std.proofs.Common.{◌≡◌, ◌+◌, length}
use Rattle.std.specs.Slice.Iter.{split_inclusive_rest}
use Rattle.text.specs.Pieces.{line_end, pieces}
use Rattle.lines.specs.Reads.{lines_from, lines_read}
use Rattle.lines.proofs.reads.read_lines.Given as goal

abbrev pub invariant-loop-line : goal.invariant-loop-line
invariant-loop-line l = record {
  can : (goal.iterator-loop-line).can_next l.line-iterator;
  finite : (goal.iterator-loop-line).is_finite l.line-iterator;
  place : l.at + length (split_inclusive_rest l.line-iterator) ≡ length l.lines;
  comes : lines_read l.most l.lines ≡ lines_from l.most l.at l.r (pieces line_end (split_inclusive_rest l.line-iterator));
}
