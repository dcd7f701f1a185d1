-- Each public contract of this crate leaves one result.
use Rattle.outcome.specs.OneResult.{OneResult}
use Rattle.outcome.proofs.OneLaw.{both}
use Rattle.statement.proofs.statements.Statement.tag.Reads as tag
use Rattle.statement.proofs.statements.witness_of.Reads as witness_of
use Rattle.statement.proofs.name_tests.name_test.Reads as name_test

tag_one : OneResult tag.Learnt
tag_one κs given x y s t = both

witness_of_one : OneResult witness_of.Learnt
witness_of_one κs given x y s t = both

name_test_one : OneResult name_test.Learnt
name_test_one κs given x y s t = both
