-- `places_good` tests the places of the parts' test, and no kind above 9 is good.
use Rattle.std.proofs.Common.{◌≡◌, rules}
use Rattle.row.specs.Checks.{places_good}
use Rattle.row.specs.Tests.{said}
use Rattle.row.proofs.GoodRows.{good_by_test, places_tested, places_past}
use Rattle.row.proofs.checks.places_good.Goals as goal
use Rattle.row.proofs.checks.places_good.Goals.{After-test}

tested : (c : After-test) → let a = c.args in good_by_test a.terms a.sets a.p (said c.test.result) ≡ places_good a.terms a.sets a.p
tested c = let a = c.args in places_tested a.terms a.sets a.p (said c.test.result) c.if-p-ge-KINDS.false c.test.ensures

pub returns-then-p-ge-KINDS : goal.returns-then-p-ge-KINDS
returns-then-p-ge-KINDS c = places_past c.args.terms c.args.sets c.args.p c.if-p-ge-KINDS.true

pub returns-in-IsSame : goal.returns-in-IsSame
returns-in-IsSame c = rw (← (tested (goal.at.returns-in-IsSame c).After-test)) (search rules)

pub returns-in-IsIn : goal.returns-in-IsIn
returns-in-IsIn c = rw (← (tested (goal.at.returns-in-IsIn c).After-test)) (search rules)

pub returns-in-ExactlyIfIn : goal.returns-in-ExactlyIfIn
returns-in-ExactlyIfIn c = rw (← (tested (goal.at.returns-in-ExactlyIfIn c).After-test)) (search rules)

pub returns-in-ExactlyIfSame : goal.returns-in-ExactlyIfSame
returns-in-ExactlyIfSame c = rw (← (tested (goal.at.returns-in-ExactlyIfSame c).After-test)) (search rules)

pub returns-in-ExactlyIfOr : goal.returns-in-ExactlyIfOr
returns-in-ExactlyIfOr c = rw (← (tested (goal.at.returns-in-ExactlyIfOr c).After-test)) (search rules)
