-- `clash_file` goes by whether the file is accepted; the question of an accepted file is never refused.
use Rattle.std.proofs.Common.{sym, ◌∙◌}
use Rattle.std.proofs.lemmas.Result.{err_from_is_err_and}
use Rattle.outcome.proofs.CheckLaws.{refused_ok}
use Rattle.question_file.proofs.RoundTrips.{question_checked}
use Rattle.clash.specs.Files.{three}
use Rattle.clash.proofs.DecidedLaws.{clashed_accepted}
use Rattle.clash.proofs.ReadLaws.{refused_read, accepted_read}
use Rattle.clash.proofs.files.clash_file.Goals as goal

pub write_clash-requires : goal.write_clash-requires
write_clash-requires c = (question_checked c.args.bytes.now _ (sym c.read_question.ensures ∙ c.in_ok-q.was), sym c.clash.ensures ∙ c.in_ok-clash.was)

pub returns-in_err-q-clause-value : goal.returns-in_err-q-clause-value
returns-in_err-q-clause-value c =
    let a = c.args in
    let p = err_from_is_err_and c.from_residual.result c.from_residual.ensures.1 in
    rw (p.1, p.2) (sym (refused_read a.bytes.now (three a.part.now a.indexes.now a.answer.now) (sym c.read_question.ensures ∙ c.in_err-q.was)).0)

pub returns-in_err-q-clause-buffers : goal.returns-in_err-q-clause-buffers
returns-in_err-q-clause-buffers c =
    let a = c.args in
    sym (refused_read a.bytes.now (three a.part.now a.indexes.now a.answer.now) (sym c.read_question.ensures ∙ c.in_err-q.was)).1

pub returns-in_err-clash-clause-value : goal.returns-in_err-clash-clause-value
returns-in_err-clash-clause-value c =
    refused_ok (sym c.in_err-clash.was ∙ c.clash.ensures ∙ clashed_accepted _ (question_checked c.args.bytes.now _ (sym c.read_question.ensures ∙ c.in_ok-q.was)))

pub returns-in_err-clash-clause-buffers : goal.returns-in_err-clash-clause-buffers
returns-in_err-clash-clause-buffers c =
    refused_ok (sym c.in_err-clash.was ∙ c.clash.ensures ∙ clashed_accepted _ (question_checked c.args.bytes.now _ (sym c.read_question.ensures ∙ c.in_ok-q.was)))

pub returns-clause-value : goal.returns-clause-value
returns-clause-value c =
    let a = c.args in
    c.write_clash.ensures.value ∙ sym (accepted_read a.bytes.now (three a.part.now a.indexes.now a.answer.now) (sym c.read_question.ensures ∙ c.in_ok-q.was)).0

pub returns-clause-buffers : goal.returns-clause-buffers
returns-clause-buffers c =
    let a = c.args in
    c.write_clash.ensures.buffers ∙ sym (accepted_read a.bytes.now (three a.part.now a.indexes.now a.answer.now) (sym c.read_question.ensures ∙ c.in_ok-q.was)).1
