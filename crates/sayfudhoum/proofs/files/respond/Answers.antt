-- `respond` goes by what was read: a refusal is reported, and an accepted question is answered.
use Rattle.std.proofs.Common.{◌≡◌, length, sym, ap, ◌∙◌}
use Rattle.outcome.specs.Writes.{fitted_over, fitted}
use Rattle.question_file.proofs.RoundTrips.{question_checked}
use Rattle.decision.proofs.AnsweredLaws.{answered_accepted}
use Rattle.sayfudhoum.specs.Files.{responded, responded_over}
use Rattle.sayfudhoum.proofs.FileLaws.{refused_response, accepted_response}
use Rattle.sayfudhoum.proofs.files.respond.Goals as goal

pub returns-in-Err : goal.returns-in-Err
unfolding responded responded_over
returns-in-Err c =
    let a = c.args in
    let is = sym (refused_response a.bytes.now (sym c.read_question.ensures ∙ c.in-Err.is)) in
    let w = c.report.ensures in
    (w.0 ∙ ap (λ l. fitted l (length a.buf.now)) is, w.1 ∙ ap (λ l. fitted_over l a.buf.now) is)

pub returns-in-Ok : goal.returns-in-Ok
unfolding responded responded_over
returns-in-Ok c =
    let a = c.args in
    let told = sym c.read_question.ensures ∙ c.in-Ok.is in
    let is = sym (accepted_response a.bytes.now told) in
    let w = c.answer_question.ensures in
    let o = answered_accepted _ a.buf.now (question_checked a.bytes.now _ told) in
    (w.0 ∙ o.0 ∙ ap (λ l. fitted l (length a.buf.now)) is, w.1 ∙ o.1 ∙ ap (λ l. fitted_over l a.buf.now) is)
