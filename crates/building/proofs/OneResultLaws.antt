-- Each public contract of this crate leaves one outcome: one result, and of `add` one question.
use Rattle.outcome.specs.OneResult.{OneResult}
use Rattle.outcome.specs.OneOutcome.{OneOutcome}
use Rattle.outcome.proofs.OneLaw.{both}
use Rattle.building.proofs.builds.declare.Reads as declare
use Rattle.building.proofs.builds.add.Reads as add
use Rattle.building.proofs.builds.drop_statements.Reads as drop_statements

declare_one : OneResult declare.Learnt
declare_one κs given x y s t = both

add_one : OneOutcome add.Learnt (λ κs s. s.0.now)
add_one κs given x y s t p q = (both p.0 q.0, both p.1 q.1)

drop_statements_one : OneResult drop_statements.Learnt
drop_statements_one κs given x y s t = both
