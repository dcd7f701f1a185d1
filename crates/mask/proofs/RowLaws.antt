-- Rows by their numbers: the test of a kind that document 01 does not list.
use Prim.Native.Nat.{ℕ, ◌≤◌}
use mathlib.Core.Path.{◌≡◌}
use lib.ListN.{get_or-eq_default}
use Rattle.theory.specs.Sets.{IsSame, tests_of, test_of}

-- a kind above 9 says that the terms are the same
pub past_kinds : (k x y z : ℕ) → 10 ≤ k → test_of k x y z ≡ IsSame x
past_kinds k x y z h = get_or-eq_default (tests_of x y z) (IsSame x) {n = k} h
