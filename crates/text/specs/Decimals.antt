-- Numbers in decimal: their digits as bytes, and the number that some bytes say.
use Rattle.std.specs.Prelude.{ℕ, zero, suc, ◌+◌, ◌-◌, ◌*◌, ◌/◌, ◌%◌, Bool, ◌&&◌, cond, List, [], ◌∷◌, ◌++◌, Option, None, Some, eqb, leb, ltb}

-- the byte of a digit, and the bytes that are digits
abbrev pub digit : ℕ → ℕ
digit n = 0x30 + n

abbrev pub is_digit : ℕ → Bool
is_digit b = leb (digit 0) b && leb b (digit 9)

-- the last w digits of a number, or fewer where no 0 may stand in front
unfoldable pub digits_in : ℕ → ℕ → List ℕ
digits_in zero n = []
digits_in (suc w) n = cond (ltb n 10) (digit n ∷ []) (digits_in w (n / 10) ++ (digit (n % 10) ∷ []))

-- the digits of a number, of which there are never more than one more than the number
abbrev pub decimal : ℕ → List ℕ
decimal n = digits_in (suc n) n

-- the number that some digits say behind others that said n; none where a byte is no digit
unfoldable pub digits_from : ℕ → List ℕ → Option ℕ
digits_from n [] = Some n
digits_from n (b ∷ bytes) = cond (is_digit b) (digits_from (n * 10 + (b - digit 0)) bytes) None

-- the number that some bytes say: one digit, or more of which the first is not 0
unfoldable pub number_said : List ℕ → Option ℕ
number_said [] = None
number_said (b ∷ []) = digits_from 0 (b ∷ [])
number_said (b ∷ c ∷ bytes) = cond (eqb b (digit 0)) None (digits_from 0 (b ∷ c ∷ bytes))

-- the number, if it is at most `most`
abbrev pub up_to : ℕ → Option ℕ → Option ℕ
up_to most None = None
up_to most (Some n) = cond (leb n most) (Some n) None

unfoldable pub number_up_to : ℕ → List ℕ → Option ℕ
number_up_to most bytes = up_to most (number_said bytes)
