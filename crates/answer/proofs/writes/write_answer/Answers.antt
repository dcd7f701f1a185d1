-- `write_answer` passes the refusals of the table on, and writes the answer beside an accepted question.
use Rattle.std.proofs.Common.{sym, ◌∙◌, rules}
use Rattle.question.proofs.AcceptedLaws.{accepted}
use Rattle.answer.specs.Writes.{written, written_over}
use Rattle.answer.proofs.writes.write_answer.Goals as goal

pub by-requires : goal.by-requires
by-requires c = (accepted _).0 (sym c.check.ensures ∙ c.in_ok-check.was)

pub returns-in_err-check : goal.returns-in_err-check
unfolding written written_over
returns-in_err-check c = search rules

pub returns : goal.returns
unfolding written written_over
returns c = search rules
