-- A power of two as a shift of 1, and the lowest bits of a number as a mask.
use Prim.Native.Nat.{ℕ, ◌-◌, ◌*◌, ◌%◌, ◌^◌, ◌<◌}
use mathlib.Core.Path.{◌≡◌, ap, ◌∙◌}
use native.Mathlib.Omega.{arith}
use lib.Bits.{bit_and, and_mask}
use lib.Pow.{shl_exact}

-- 1 << bits, in 32 bits
pub shifted_one : (bits : ℕ) → bits < 32 → 1 * 2 ^ bits % 2 ^ 32 ≡ 2 ^ bits
shifted_one bits h = shl_exact {a = 1} 1 bits 32 (omega arith) (omega arith) ∙ omega arith

pub lowest_bits : (n bits : ℕ) → bits < 32 → bit_and n (1 * 2 ^ bits % 2 ^ 32 - 1) ≡ n % 2 ^ bits
lowest_bits n bits h = ap (λ k. bit_and n (k - 1)) (shifted_one bits h) ∙ and_mask n bits
