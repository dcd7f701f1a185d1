-- The bound on a mask past its width, and as a shift.
use Prim.Native.Nat.{ℕ, ◌*◌, ◌/◌, ◌^◌, ◌≤◌, ◌<◌}
use mathlib.Core.Path.{◌≡◌}
use native.Mathlib.Omega.{arith}
use native.Mathlib.Nat.{div-eq_of_lt, div-lt_iff_lt-mul, lt_of_lt_of_le}
use native.Mathlib.Decide.{dec_lt}
use borrow.Author.Tests.{lt-ltb, le-ltb, ne_eqb}
use lib.Dec.{eqb, ltb}
use lib.Pow.{pow_pos, pow_mono}

-- a mask of 32 bits is below any higher power
pub mask_below : (m x : ℕ) → m < 2 ^ 32 → 32 ≤ x → m < 2 ^ x
mask_below m x small h = lt_of_lt_of_le small (pow_mono h)

pub below_shifts : (m s : ℕ) → eqb (m / 2 ^ s) 0 ≡ ltb m (2 ^ s)
below_shifts m s = go (dec_lt m (2 ^ s))
  where
    go : Dec (m < 2 ^ s) → eqb (m / 2 ^ s) 0 ≡ ltb m (2 ^ s)
    go (yes l) = rw (div-eq_of_lt l, lt-ltb m (2 ^ s) l)
    go (no l) =
        let large : 2 ^ s ≤ m = omega arith in
        let some : m / 2 ^ s ≡ 0 → ⊥ = λ e. let few : m < 1 * 2 ^ s = (div-lt_iff_lt-mul (pow_pos s)).0 (omega arith) in omega arith in
        rw (ne_eqb (m / 2 ^ s) 0 some, le-ltb m (2 ^ s) large)
