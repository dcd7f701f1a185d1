-- Literals as text: the variable's number, with a minus in front where it is denied.
use Rattle.std.specs.Prelude.{ℕ, ◌≤◌, ◌≡◌, true, false, cond, List, [], ◌∷◌, ◌++◌, Option, None, Some, eqb}
use Rattle.text.specs.declared.literals.Literal.{Literal}
use Rattle.text.specs.Decimals.{decimal, number_up_to}

-- the variable v, and its denial
abbrev pub is : ℕ → Literal
is v = record { denied = false; variable = v }

abbrev pub is_not : ℕ → Literal
is_not v = record { denied = true; variable = v }

-- the byte of a minus
abbrev pub minus : ℕ
minus = 0x2d

-- the text of a literal
abbrev pub literal_text : Literal → List ℕ
literal_text l = cond l.denied (minus ∷ []) [] ++ decimal l.variable

-- the literal with a number, if it is one; there is no -0
abbrev pub plain : Option ℕ → Option Literal
plain None = None
plain (Some n) = Some (is n)

abbrev pub denial : Option ℕ → Option Literal
denial None = None
denial (Some n) = cond (eqb n 0) None (Some (is_not n))

-- what a word says, where variables go up to `most`; 0 without a minus is read as the variable 0
unfoldable pub word_read : ℕ → List ℕ → Option Literal
word_read most [] = None
word_read most (b ∷ bytes) = cond (eqb b minus) (denial (number_up_to most bytes)) (plain (number_up_to most (b ∷ bytes)))

-- a literal that a word can say: its variable goes up to `most`, and it is no -0
pub record Sayable (most : ℕ) (l : Literal) : Type 0 where
  pub within : l.variable ≤ most
  pub no_minus_zero : l.variable ≡ 0 → l.denied ≡ false
