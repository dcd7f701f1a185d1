-- An entry of the class is noted from the lowest set of its test on, and one of other classes asks no bit.
use Rattle.std.proofs.Common.{◌≡◌, ◌+◌, sym, subst, ◌∙◌, get_or}
use Rattle.mask.specs.declared.notes.EntryNotes.{EntryNotes}
use Rattle.mask.specs.Notes.{NotesBefore}
use Rattle.mask.proofs.EntryLaws.{not_asked, asked}
use Rattle.mask.proofs.NoteLaws.{before_over, before_noted}
use Rattle.mask.proofs.notes.EntryNotes.note_up_to.Goals as goal
use Rattle.mask.proofs.notes.EntryNotes.note_up_to.Goals.{then-is_asked, else-is_asked}

pub loop-i-preserved : goal.loop-i-preserved
loop-i-preserved c =
    let l = c.loop-i in
    let a = c.args in
    let es = a.entries.now in
    let kept : EntryNotes → Type 0 = λ n. NotesBefore a.bits a.class es n.first (l.i + 1) × (n.count ≡ a.self.now.count) in
    let is = sym c.is_asked.ensures in
    let now : kept c.if-is_asked.self = elim c.if-is_asked.branch [
      | then-is_asked w ↦ subst kept (sym w.self-is)
          (before_noted a.bits a.class es l.self.first _ l.i l.invariant.noted (asked a.class (get_or es l.i 0) (is ∙ w.if-is_asked.true)) (rw (w.lowest_set.ensures, w.test_in.ensures.value) at w.note.ensures.first), w.note.ensures.count ∙ l.invariant.count)
      | else-is_asked w ↦ subst kept (sym w.self-is) (before_over a.bits a.class es l.self.first l.i l.invariant.noted (not_asked a.class (get_or es l.i 0) (is ∙ w.if-is_asked.false)), l.invariant.count)
    ] in
    record { noted = now.0; count = now.1 }
