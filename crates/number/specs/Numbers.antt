-- Numbers in some bytes, high byte first.
use Rattle.std.specs.Prelude.{ℕ, zero, suc, ◌+◌, ◌*◌, ◌/◌, ◌%◌, ◌<◌, List, [], ◌∷◌, ◌++◌, length, get_or}

-- each is a byte
abbrev pub AreBytes : List ℕ → Type 0
AreBytes bytes = (i : ℕ) → i < length bytes → get_or bytes i 0 < 256

-- a number of the machine has eight bytes
abbrev pub most_bytes : ℕ
most_bytes = 8

-- a number in w bytes, which say all of it if it is below 256 to the w
unfoldable pub bytes_of : ℕ → ℕ → List ℕ
bytes_of zero n = []
bytes_of (suc w) n = bytes_of w (n / 256) ++ (n % 256 ∷ [])

-- the number in some bytes, behind others that said n
unfoldable pub number_from : ℕ → List ℕ → ℕ
number_from n [] = n
number_from n (b ∷ bytes) = number_from (n * 256 + b) bytes

-- the number in some bytes
abbrev pub number_in : List ℕ → ℕ
number_in bytes = number_from 0 bytes
