-- At a turn the next statement's field is still to come, and fits.
use Rattle.std.proofs.Common.{ℕ, ◌+◌, ◌<◌, List, ◌++◌, length, get_or, take, length-append, length-take, length-drop, arith}
use Rattle.question.specs.declared.questions.Question.{Question}
use Rattle.question.specs.Questions.{idle}
use Rattle.outcome.proofs.OverLaws.{Run, run_room, run_on, run_end}
use Rattle.question_file.specs.Bytes.{statement_bytes}
use Rattle.question_file.proofs.StatementBytesLaws.{bytes_from, bytes_turn, bytes_end}
use Rattle.question_file.proofs.writes.put_statements.Goals as goal

turned : {all old buf : List ℕ} {at : ℕ} (q : Question) (i : ℕ) → i < length (take q.count q.table) → Run all old (bytes_from q i) buf at →
    Run all old (statement_bytes (get_or (take q.count q.table) i idle).statement ++ bytes_from q (i + 1)) buf at
turned q i below run = rw (bytes_turn q i idle below) at run

pub put_statement-at-requires : goal.put_statement-at-requires
put_statement-at-requires c =
    let q = c.args.q in
    let i = c.loop-entry.entry-index in
    let s = (get_or (take q.count q.table) i idle).statement in
    let room = run_room (turned q i c.loop-entry-test.true c.loop-entry.invariant) c.requires.1 in
    simp (length-take, length-drop) (omega (arith, room.0, room.1, length-append (statement_bytes s) (bytes_from q (i + 1)), c.requires.1))

pub loop-entry-preserved : goal.loop-entry-preserved
loop-entry-preserved c =
    let q = c.args.q in
    let i = c.loop-entry.entry-index in
    let s = (get_or (take q.count q.table) i idle).statement in
    let p = c.put_statement-at in
    rw p.ensures.0 (run_on (statement_bytes s) (bytes_from q (i + 1)) p.new.buf (turned q i c.loop-entry-test.true c.loop-entry.invariant) p.ensures.1)

pub returns : goal.returns
returns c = run_end (rw (bytes_end c.args.q c.loop-entry.entry-index c.loop-entry-test.false) at c.loop-entry.invariant)
