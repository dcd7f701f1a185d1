-- Each public contract of this crate leaves one result.
use Rattle.outcome.specs.OneResult.{OneResult}
use Rattle.outcome.proofs.OneLaw.{both}
use Rattle.question.proofs.questions.Question.empty.Reads as empty
use Rattle.question.proofs.admissions.admit.Reads as admit
use Rattle.question.proofs.checks.check.Reads as check
use Rattle.question.proofs.checks.statement_count.Reads as statement_count
use Rattle.question.proofs.checks.terms.Reads as terms
use Rattle.question.proofs.admissions.NotAdmitted.at.Reads as at
use Rattle.question.proofs.admissions.may_add.Reads as may_add
use Rattle.question.proofs.checks.check_names.Reads as check_names

empty_one : OneResult empty.Learnt
empty_one κs given x y s t = both

admit_one : OneResult admit.Learnt
admit_one κs given x y s t = both

check_one : OneResult check.Learnt
check_one κs given x y s t = both

statement_count_one : OneResult statement_count.Learnt
statement_count_one κs given x y s t p q = both p.0 q.0

terms_one : OneResult terms.Learnt
terms_one κs given x y s t = both

at_one : OneResult at.Learnt
at_one κs given x y s t = both

may_add_one : OneResult may_add.Learnt
may_add_one κs given x y s t = both

check_names_one : OneResult check_names.Learnt
check_names_one κs given x y s t = both
