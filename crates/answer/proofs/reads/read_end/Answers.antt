-- `read_end` wants 7F and no byte behind it: each return opens the definition.
use Rattle.std.proofs.Common.{sym, ◌∙◌, arith, rules}
use Rattle.field.specs.declared.tags.File.TheVariants.{Answer as AnswerFile}
use Rattle.field.specs.declared.frames.Due.TheVariants.{Only}
use Rattle.field.proofs.FrameLaws.{within}
use Rattle.answer.specs.Reads.{end_read}
use Rattle.answer.proofs.reads.read_end.Goals as goal

pub returns-in_err-frame : goal.returns-in_err-frame
unfolding end_read
returns-in_err-frame c = search rules

pub overflow_add-end : goal.overflow_add-end
overflow_add-end c = omega (arith, within AnswerFile (Only 0x7f) 0 c.args.at c.args.bytes.now _ _ (sym c.frame_at.ensures ∙ c.in_ok-frame.was))

pub overflow_add-end-2 : goal.overflow_add-end-2
overflow_add-end-2 c = omega (arith, within AnswerFile (Only 0x7f) 0 c.args.at c.args.bytes.now _ _ (sym c.frame_at.ensures ∙ c.in_ok-frame.was))

pub returns-then-end-bytes : goal.returns-then-end-bytes
unfolding end_read
returns-then-end-bytes c = search rules

pub returns : goal.returns
unfolding end_read
returns c = search rules
