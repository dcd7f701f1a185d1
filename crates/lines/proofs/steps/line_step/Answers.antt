-- Comments are passed over.
use Rattle.std.proofs.Common.{sym, ◌∙◌}
use Rattle.lines.proofs.StepLaws.{comment_step, said_line_step}
use Rattle.lines.proofs.steps.line_step.Goals as goal

pub returns-then-is_comment : goal.returns-then-is_comment
returns-then-is_comment c = let a = c.args in sym (comment_step a.most a.r.now a.line.now (sym c.is_comment.ensures ∙ c.if-is_comment.true))

pub returns : goal.returns
returns c = let a = c.args in c.said_step.ensures ∙ sym (said_line_step a.most a.r.now a.line.now (sym c.is_comment.ensures ∙ c.if-is_comment.false))
