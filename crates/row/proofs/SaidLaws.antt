-- A value of the code's type says one test: two that say the same are the same. That of a row's parts says the row's test.
use Rattle.std.proofs.Common.{ℕ, ◌≡◌, refl, sym, ap, ◌∙◌}
use Rattle.theory.specs.Sets as sets
use Rattle.row.specs.declared.tests.Test.{Test}
use Rattle.row.specs.declared.tests.Test.TheVariants.{IsSame, IsNotSame, IsIn, IsNotIn, ExactlyIfIn, ExactlyIfNotIn, ExactlyIfSame, ExactlyIfOr, ExactlyIfAnd, ExactlyIfAndNot}
use Rattle.row.specs.declared.parts.RowParts.{RowParts}
use Rattle.row.specs.Parts.{parts_of}
use Rattle.row.specs.Rows.{row_of_parts, row_of}
use Rattle.row.specs.Tests.{said}

-- the value that says a test
abbrev say : sets.Test → Test
say (sets.IsSame d) = IsSame d
say (sets.IsNotSame d) = IsNotSame d
say (sets.IsIn x) = IsIn x
say (sets.IsNotIn x) = IsNotIn x
say (sets.ExactlyIfIn x y) = ExactlyIfIn x y
say (sets.ExactlyIfNotIn x y) = ExactlyIfNotIn x y
say (sets.ExactlyIfSame x a) = ExactlyIfSame x a
say (sets.ExactlyIfOr x y z) = ExactlyIfOr x y z
say (sets.ExactlyIfAnd x y z) = ExactlyIfAnd x y z
say (sets.ExactlyIfAndNot x y z) = ExactlyIfAndNot x y z

said_again : (t : Test) → say (said t) ≡ t
said_again (IsSame d) = refl
said_again (IsNotSame d) = refl
said_again (IsIn x) = refl
said_again (IsNotIn x) = refl
said_again (ExactlyIfIn x y) = refl
said_again (ExactlyIfNotIn x y) = refl
said_again (ExactlyIfSame x a) = refl
said_again (ExactlyIfOr x y z) = refl
said_again (ExactlyIfAnd x y z) = refl
said_again (ExactlyIfAndNot x y z) = refl

pub said_once : (s t : Test) → said s ≡ said t → s ≡ t
said_once s t e = sym (said_again s) ∙ ap say e ∙ said_again t

-- the test of a number's parts is the test of its row
pub said_row : (t : Test) (p : RowParts) (n : ℕ) → said t ≡ (row_of_parts p).test → p ≡ parts_of n → said t ≡ (row_of n).test
unfolding row_of
said_row t p n e i = e ∙ ap (λ q. (row_of_parts q).test) i
