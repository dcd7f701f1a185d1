-- An accepted question has few statements, and where its file fits it is written.
use Rattle.std.proofs.Common.{arith}
use Rattle.question.proofs.AcceptedLaws.{accepted}
use Rattle.question_file.proofs.writes.write_accepted.Goals as goal

pub file_length-length-requires : goal.file_length-length-requires
file_length-length-requires c = ((accepted c.args.q).0 c.requires).few_statements

pub put_question-requires : goal.put_question-requires
put_question-requires c = (((accepted c.args.q).0 c.requires).few_statements, omega arith)
