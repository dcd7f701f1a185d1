-- Packing and unpacking are each other's inverse: on parts within their widths, and on numbers of so many bits as a row has.
use Prim.Native.Nat.{ℕ, ◌+◌, ◌*◌, ◌/◌, ◌%◌, ◌^◌, ◌<◌}
use mathlib.Core.Path.{◌≡◌}
use native.Mathlib.Omega.{arith}
use lib.Pow.{shr-shr, split, shr_mod}
use Rattle.row.specs.declared.parts.RowParts.{RowParts}
use Rattle.row.specs.Parts.{place_bits, term_bits, term_at, kind_at, row_bits, packed, parts_of}

-- each part is within its width
pub record WithinWidths (p : RowParts) : Type 0 where
  pub kind : p.kind < 2 ^ term_bits
  pub term : p.term < 2 ^ term_bits
  pub first : p.first < 2 ^ place_bits
  pub second : p.second < 2 ^ place_bits
  pub third : p.third < 2 ^ place_bits

pub unpacked : (p : RowParts) → WithinWidths p → parts_of (packed p) ≡ p
unfolding packed parts_of
unpacked p w = rw (kind, term, first, second, third)
  where
    n : ℕ
    n = packed p

    kind : n / 2 ^ kind_at % 2 ^ term_bits ≡ p.kind
    kind = omega arith

    term : n / 2 ^ term_at % 2 ^ term_bits ≡ p.term
    term = omega arith

    first : n / 2 ^ (2 * place_bits) % 2 ^ place_bits ≡ p.first
    first = omega arith

    second : n / 2 ^ place_bits % 2 ^ place_bits ≡ p.second
    second = omega arith

    third : n % 2 ^ place_bits ≡ p.third
    third = omega arith

-- what stands left of a place, and the place, make what stands left of the next
step : (n k : ℕ) → n / 2 ^ (k + place_bits) * 2 ^ place_bits + n / 2 ^ k % 2 ^ place_bits ≡ n / 2 ^ k
step n k = rw (← shr-shr n k place_bits) (split (n / 2 ^ k) place_bits)

again : (n a b c d t x y z : ℕ) → d < 16 → a * 16 + z ≡ n → b * 16 + y ≡ a → c * 16 + x ≡ b → d * 16 + t ≡ c → t < 16 → x < 16 → y < 16 → z < 16 →
    d % 16 * 2 ^ 16 + t % 16 * 2 ^ 12 + x % 16 * 2 ^ 8 + y % 16 * 2 ^ 4 + z % 16 ≡ n
again n a b c d t x y z hd p q r s ht hx hy hz = omega arith

pub packed_again : (n : ℕ) → n < 2 ^ row_bits → packed (parts_of n) ≡ n
unfolding packed parts_of
packed_again n h =
    rw (shr_mod term_bits kind_at h)
    (again n (n / 2 ^ 4) (n / 2 ^ 8) (n / 2 ^ 12) (n / 2 ^ 16) (n / 2 ^ 12 % 16) (n / 2 ^ 8 % 16) (n / 2 ^ 4 % 16) (n % 16) (omega arith) (split n 4) (step n 4) (step n 8) (step n 12) (omega arith) (omega arith) (omega arith) (omega arith))
