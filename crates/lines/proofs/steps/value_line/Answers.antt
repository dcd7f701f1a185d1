-- By the first two bytes: `v` and a space, or others.
use Rattle.std.proofs.Common.{sym, ◌∙◌, arith}
use borrow.Author.Tests.{ltb-true}
use Rattle.lines.proofs.StepLaws.{line_of_words, line_of_others}
use Rattle.lines.proofs.steps.value_line.Goals as goal
use Rattle.lines.proofs.steps.value_line.Goals.{in_default-via-then-line-lt2, in_default-via-else-line-lt2+in-118+in_default-1, in_default-via-else-line-lt2+in_default-1}

pub returns-in-118 : goal.returns-in-118
returns-in-118 c =
    let a = c.args in
    c.word_steps.ensures ∙ sym (line_of_words a.most a.r.now a.line.now (omega arith) (omega arith) (omega arith))

pub returns-in_default : goal.returns-in_default
returns-in_default c =
    let a = c.args in
    sym (elim c.in_default.branch [
      | in_default-via-then-line-lt2 w ↦ line_of_others a.most a.r.now a.line.now (λ h v s. omega (arith, ltb-true))
      | in_default-via-else-line-lt2+in-118+in_default-1 w ↦ line_of_others a.most a.r.now a.line.now (λ h v s. omega arith)
      | in_default-via-else-line-lt2+in_default-1 w ↦ line_of_others a.most a.r.now a.line.now (λ h v s. omega arith)
    ])
