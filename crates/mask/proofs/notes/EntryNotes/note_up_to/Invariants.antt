-- `note_up_to` notes one entry after the other: one of other classes is passed over.
use Rattle.std.proofs.Common.{◌≡◌}
use Rattle.mask.specs.Notes.{NotesBefore}
use Rattle.mask.proofs.notes.EntryNotes.note_up_to.Given as goal

abbrev pub invariant-loop-i : goal.invariant-loop-i
invariant-loop-i l = record {
  noted : NotesBefore l.bits l.class l.entries l.self.first l.i;
  count : l.self.count ≡ l.fn.self.count;
}
