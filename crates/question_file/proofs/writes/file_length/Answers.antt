-- The fields are as long as the table of tags says: 01 and 7F have eight bytes, and a statement's field six at the most.
use Rattle.std.proofs.Common.{◌≡◌, ◌+◌, ◌≤◌, length, get_or, take, ap, ◌∙◌, length-append, arith}
use Rattle.field.specs.declared.tags.File.TheVariants.{Question as QuestionFile}
use Rattle.field.specs.Writes.{field_length}
use Rattle.field.proofs.WriteLaws.{length_bounded}
use Rattle.question.specs.Questions.{idle}
use Rattle.question_file.specs.Bytes.{statement_bytes}
use Rattle.question_file.proofs.BodyLaws.{field}
use Rattle.question_file.proofs.StatementBytesLaws.{bytes_from, bytes_turn, bytes_end, question_length, names_length, end_length, statement_length}
use Rattle.question_file.proofs.writes.file_length.Goals as goal
use Rattle.question_file.proofs.writes.file_length.Goals.{After-field_length-total}

pub overflow_add-total : goal.overflow_add-total
overflow_add-total c =
    let first : c.field_length.result ≤ 65538 = rw c.field_length.ensures (length_bounded _ _ _) in
    let last : c.field_length-2.result ≤ 65538 = rw c.field_length-2.ensures (length_bounded _ _ _) in
    omega (arith, first, last)

pub loop-entry-init : goal.loop-entry-init
loop-entry-init c =
    let ends : c.field_length.result + c.field_length-2.result ≡ 8 = omega (arith, names_length, end_length, c.field_length.ensures, c.field_length-2.ensures) in
    (omega arith, omega (arith, question_length c.args.q))

-- the statement's field by the table
sized : (c : After-field_length-total) → c.field_length-total.result ≡ length (statement_bytes (get_or (take c.args.q.count c.args.q.table) c.loop-entry.entry-index idle).statement)
sized c = c.field_length-total.ensures ∙ ap (λ t. field_length QuestionFile t 0) c.tag.ensures ∙ statement_length _

few : (c : After-field_length-total) → c.field_length-total.result ≤ 6
few c = omega (arith, sized c, (field (get_or (take c.args.q.count c.args.q.table) c.loop-entry.entry-index idle).statement).few)

pub overflow_add-total-in-loop-entry : goal.overflow_add-total-in-loop-entry
overflow_add-total-in-loop-entry c = omega (arith, few c)

pub loop-entry-preserved : goal.loop-entry-preserved
loop-entry-preserved c =
    let q = c.args.q in
    let i = c.loop-entry.entry-index in
    let s = (get_or (take q.count q.table) i idle).statement in
    let turn = ap length (bytes_turn q i idle c.loop-entry-test.true) ∙ length-append (statement_bytes s) (bytes_from q (i + 1)) in
    (omega (arith, few c), c.loop-entry.invariant.1 ∙ omega (arith, turn, sized c))

pub returns : goal.returns
returns c = omega (arith, c.loop-entry.invariant.1, ap length (bytes_end c.args.q c.loop-entry.entry-index c.loop-entry-test.false))
