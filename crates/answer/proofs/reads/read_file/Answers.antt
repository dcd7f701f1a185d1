-- `read_file` wants field 40 at the front, and goes on by its byte.
use Rattle.std.proofs.Common.{sym, ◌∙◌, arith, rules}
use Rattle.field.specs.declared.tags.File.TheVariants.{Answer as AnswerFile}
use Rattle.field.specs.declared.frames.Due.TheVariants.{Only}
use Rattle.field.proofs.FrameLaws.{within}
use Rattle.answer.specs.Reads.{file_read}
use Rattle.answer.proofs.reads.read_file.Goals as goal

pub returns-in_err-frame : goal.returns-in_err-frame
unfolding file_read
returns-in_err-frame c = search rules

pub overflow_add-frame : goal.overflow_add-frame
overflow_add-frame c = omega (arith, within AnswerFile (Only 0x40) 0 0 c.args.bytes.now _ _ (sym c.frame_at.ensures ∙ c.in_ok-frame.was))

pub returns : goal.returns
unfolding file_read
returns c = search rules
