-- `read_verdict` goes by the verdict byte: each return opens the definition.
use Rattle.std.proofs.Common.{rules}
use Rattle.answer.specs.Reads.{verdict_read}
use Rattle.answer.proofs.reads.read_verdict.Goals as goal

pub returns-in-0 : goal.returns-in-0
unfolding verdict_read
returns-in-0 c = search rules

pub returns-in-1 : goal.returns-in-1
unfolding verdict_read
returns-in-1 c = search rules

pub returns-in_default : goal.returns-in_default
unfolding verdict_read
returns-in_default c = search rules
