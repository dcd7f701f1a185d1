-- `note` goes up from bit to bit as long as a larger index stands: it falls, so from there on none does.
use Rattle.std.proofs.Common.{◌≡◌}
use Rattle.mask.proofs.NoteLaws.{Noting}
use Rattle.mask.proofs.notes.EntryNotes.note.Given as goal

abbrev pub invariant-loop-q : goal.invariant-loop-q
invariant-loop-q l = record {
  noting : Noting l.low l.i l.fn.self.first l.q l.self.first;
  count : l.self.count ≡ l.fn.self.count;
}
