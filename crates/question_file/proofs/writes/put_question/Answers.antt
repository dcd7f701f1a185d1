-- Field 01, the statements' fields behind it, and 7F behind them: a run of writes.
use Rattle.std.proofs.Common.{◌≡◌, ℕ, ◌+◌, ◌-◌, ◌≤◌, List, [], ◌∷◌, ◌++◌, ◌∙◌, length, take, drop, length-append, length-take, length-drop, arith}
use borrow.Rule.Slice.PartMut.{put_mid}
use Rattle.question.specs.declared.questions.Question.{Question}
use Rattle.question.specs.Questions.{statements}
use Rattle.outcome.specs.Writes.{over}
use Rattle.outcome.proofs.OverLaws.{Run, run_first, run_room, run_on, run_end}
use Rattle.field.specs.Heads.{end_bytes}
use Rattle.field.specs.Writes.{field_count, field_over}
use Rattle.field.proofs.WriteLaws.{written}
use Rattle.question_file.specs.Bytes.{names_bytes, statements_bytes, file_bytes, question_bytes}
use Rattle.question_file.proofs.writes.put_question.Goals as goal

-- field 01 is written
begun : (q : Question) (old buf : List ℕ) (n : ℕ) → length (question_bytes q) ≤ length old →
    (n ≡ field_count (q.elements ∷ q.sets ∷ []) (length old)) × (buf ≡ field_over 0x01 (q.elements ∷ q.sets ∷ []) old) →
    Run (question_bytes q) old (statements_bytes (statements q) ++ end_bytes) buf n
unfolding file_bytes
begun q old buf n fits put =
    let whole = written 0x01 (q.elements ∷ q.sets ∷ []) old (omega arith) (omega (arith, fits)) in
    run_first (names_bytes q.elements q.sets) (statements_bytes (statements q) ++ end_bytes) (put.0 ∙ whole.0) (put.1 ∙ whole.1)

-- the statements' fields and 7F fit behind it
first_fits : (q : Question) (old buf : List ℕ) (n : ℕ) → length (question_bytes q) ≤ length old → Run (question_bytes q) old (statements_bytes (statements q) ++ end_bytes) buf n →
    n + (length (statements_bytes (statements q)) + 3) ≤ length buf
first_fits q old buf n fits run =
    let room = run_room run fits in
    omega (arith, room.0, room.1, fits, length-append (statements_bytes (statements q)) end_bytes)

-- the statements' fields are written, and 7F fits behind them
most : (q : Question) (old buf : List ℕ) (n : ℕ) → Run (question_bytes q) old (statements_bytes (statements q) ++ end_bytes) buf n → (m : ℕ) (part : List ℕ) →
    (m ≡ length (statements_bytes (statements q))) × (part ≡ over (statements_bytes (statements q)) (take (length buf - n) (drop n buf))) →
    Run (question_bytes q) old end_bytes (put_mid n (length buf - n) buf part) (n + m)
most q old buf n run m part put = rw put.0 (run_on (statements_bytes (statements q)) end_bytes part run put.1)

last_fits : {all old buf : List ℕ} {at : ℕ} → length all ≤ length old → Run all old end_bytes buf at → at + 3 ≤ length buf
last_fits fits run = let room = run_room run fits in omega (arith, room.0, room.1, fits)

pub slice_bounds-put_statements-count : goal.slice_bounds-put_statements-count
slice_bounds-put_statements-count c =
    let a = c.args in
    let f = c.put_field-first in
    let run = begun a.q a.buf.now f.new.buf f.result c.requires.1 f.ensures in
    omega (arith, first_fits a.q a.buf.now f.new.buf f.result c.requires.1 run)

pub slice_bounds-put_statements-start : goal.slice_bounds-put_statements-start
slice_bounds-put_statements-start c =
    let a = c.args in
    let f = c.put_field-first in
    let run = begun a.q a.buf.now f.new.buf f.result c.requires.1 f.ensures in
    omega (arith, first_fits a.q a.buf.now f.new.buf f.result c.requires.1 run)

pub put_statements-middle-requires : goal.put_statements-middle-requires
put_statements-middle-requires c =
    let a = c.args in
    let f = c.put_field-first in
    let run = begun a.q a.buf.now f.new.buf f.result c.requires.1 f.ensures in
    (c.requires.0, simp (length-take, length-drop) (omega (arith, first_fits a.q a.buf.now f.new.buf f.result c.requires.1 run)))

pub slice_bounds-put_field-count : goal.slice_bounds-put_field-count
slice_bounds-put_field-count c =
    let a = c.args in
    let f = c.put_field-first in
    let run = begun a.q a.buf.now f.new.buf f.result c.requires.1 f.ensures in
    let p = c.put_statements-middle in
    let on = most a.q a.buf.now f.new.buf f.result run p.result p.new.buf p.ensures in
    omega (arith, last_fits c.requires.1 on)

pub slice_bounds-put_field-start : goal.slice_bounds-put_field-start
slice_bounds-put_field-start c =
    let a = c.args in
    let f = c.put_field-first in
    let run = begun a.q a.buf.now f.new.buf f.result c.requires.1 f.ensures in
    let p = c.put_statements-middle in
    let on = most a.q a.buf.now f.new.buf f.result run p.result p.new.buf p.ensures in
    omega (arith, last_fits c.requires.1 on)

pub returns : goal.returns
returns c =
    let a = c.args in
    let f = c.put_field-first in
    let run = begun a.q a.buf.now f.new.buf f.result c.requires.1 f.ensures in
    let p = c.put_statements-middle in
    let on = most a.q a.buf.now f.new.buf f.result run p.result p.new.buf p.ensures in
    let at = f.result + p.result in
    let buf = put_mid f.result (length f.new.buf - f.result) f.new.buf p.new.buf in
    let part = take (length buf - at) (drop at buf) in
    let room : 3 ≤ length part = simp (length-take, length-drop) (omega (arith, last_fits c.requires.1 on)) in
    (run_end (run_on end_bytes [] c.put_field.new.buf on (c.put_field.ensures.1 ∙ (written 0x7f [] part (omega arith) (omega arith)).1))).1
