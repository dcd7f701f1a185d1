-- `check_head` refuses in document 01's order: each return opens the definition.
use Rattle.std.proofs.Common.{rules, arith}
use Rattle.std.proofs.lemmas.Grind.{common_steps}
use Rattle.field.specs.Frames.{framed}
use Rattle.field.proofs.frames.check_head.Goals as goal

pub returns-in_default : goal.returns-in_default
unfolding framed
returns-in_default c = search rules

pub returns-then-not-allows : goal.returns-then-not-allows
unfolding framed
returns-then-not-allows c = search rules

pub returns-then-not-is_allowed : goal.returns-then-not-is_allowed
unfolding framed
returns-then-not-is_allowed c = grind (arith, common_steps)

pub returns-then-left-length : goal.returns-then-left-length
unfolding framed
returns-then-left-length c = search rules

pub returns : goal.returns
unfolding framed
returns c = grind (arith, common_steps)
