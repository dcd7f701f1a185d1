-- `put_three` compares the lengths of two, and the writer of the part its own: refused, nothing is written; else all three.
use Rattle.std.proofs.Common.{◌++◌, drop, length, sym, ap, ◌∙◌, rules, Ok}
use Rattle.std.proofs.lemmas.Result.{err_from_is_err_and}
use Rattle.question_file.specs.Bytes.{question_bytes}
use Rattle.question_file.proofs.WriterLaws.{written_writable, written_over_lem, refused_over}
use Rattle.clash.specs.Files.{three}
use Rattle.clash.proofs.ThreeLaws.{three_same, refused_short, three_short, three_fit, short_part, none_short}
use Rattle.clash.proofs.files.put_three.Goals as goal

pub returns-in_err-n-clause-value : goal.returns-in_err-n-clause-value
returns-in_err-n-clause-value c =
    let a = c.args in
    let new = three (question_bytes a.found) a.old.now a.said.now in
    let old = three a.part.now a.indexes.now a.answer.now in
    let p = err_from_is_err_and c.from_residual.result c.from_residual.ensures.1 in
    let short = refused_short a.found (length a.part.now) _ c.requires (sym c.write_question.ensures.0 ∙ c.in_err-n.was) in
    rw (p.1, p.2, short.1) (sym (three_short new old (short_part new old short.0)).0)

pub returns-in_err-n-clause-buffers : goal.returns-in_err-n-clause-buffers
returns-in_err-n-clause-buffers c =
    let a = c.args in
    let new = three (question_bytes a.found) a.old.now a.said.now in
    let old = three a.part.now a.indexes.now a.answer.now in
    let told = sym c.write_question.ensures.0 ∙ c.in_err-n.was in
    let short = refused_short a.found (length a.part.now) _ c.requires told in
    ap (λ p. three p a.indexes.now a.answer.now) (c.write_question.ensures.1 ∙ refused_over a.found a.part.now _ told) ∙ sym (three_short new old (short_part new old short.0)).1

pub returns-clause-value : goal.returns-clause-value
returns-clause-value c =
    let a = c.args in
    let new = three (question_bytes a.found) a.old.now a.said.now in
    let old = three a.part.now a.indexes.now a.answer.now in
    let told = written_writable a.found (length a.part.now) _ (sym c.write_question.ensures.0 ∙ c.in_ok-n.was) in
    let done = three_fit new old (none_short new old (search rules) told.0.1) in
    ap (λ n. Ok (record { part = n; indexes = length a.old.now; answer = length a.said.now })) told.1 ∙ sym done.0

pub returns-clause-buffers : goal.returns-clause-buffers
returns-clause-buffers c =
    let a = c.args in
    let new = three (question_bytes a.found) a.old.now a.said.now in
    let old = three a.part.now a.indexes.now a.answer.now in
    let told = written_writable a.found (length a.part.now) _ (sym c.write_question.ensures.0 ∙ c.in_ok-n.was) in
    let done = three_fit new old (none_short new old (search rules) told.0.1) in
    three_same (c.write_question.ensures.1 ∙ written_over_lem a.found a.part.now told.0) (ap (λ l. l ++ drop (length a.old.now) a.indexes.now) c.copy_from_slice.ensures.after) (ap (λ l. l ++ drop (length a.said.now) a.answer.now) c.copy_from_slice-2.ensures.after) ∙ sym done.1
