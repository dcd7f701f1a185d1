-- Single bits of a number: past its highest, of a power of two, of two numbers joined, and of what two numbers share.
use Prim.Native.Nat.{ℕ, suc, ◌+◌, ◌-◌, ◌*◌, ◌/◌, ◌%◌, ◌^◌, ◌≤◌, ◌<◌, max, min}
use mathlib.Core.Path.{◌≡◌, sym, ap, ◌∙◌}
use mathlib.Core.Bool.{true, false, ◌&&◌}
use mathlib.Core.Logic.{◌≢◌}
use native.Mathlib.Omega.{arith}
use native.Mathlib.Decide.{dec_lt}
use native.Mathlib.Nat.{pow-zero, pow-suc, div_self, div-eq_of_lt, add-mul-div_right, add-mul-mod_self_right}
use borrow.Author.Tests.{eqb-true, eqb-false, eq-eqb}
use lib.Bits.{bit_or, or_shr, or_step, bit_and, and_shr, and_step}
use lib.Dec.{eqb}
use lib.Pow.{pow-add, pow_pos, pow_mono}
use Rattle.question.specs.Masks.{bit}
use Rattle.statement.proofs.TestLaws.{same_test, both_true}

-- no bit from the n-th on, where the number is below 2 to the n
pub bit_past : (x n c : ℕ) → x < 2 ^ n → n ≤ c → bit x c ≡ false
bit_past x n c h le = let z : x / 2 ^ c ≡ 0 = div-eq_of_lt (omega (arith, pow_mono le)) in rw z

-- a power of two more changes no bit below
pub bit_below : (x n c : ℕ) → c < n → bit (x + 2 ^ n) c ≡ bit x c
bit_below x n c h =
    let j : ℕ = n - suc c in
    let e : n ≡ suc j + c = omega arith in
    let p : 2 ^ n ≡ 2 ^ j * 2 * 2 ^ c = ap (λ i. 2 ^ i) e ∙ pow-add 2 (suc j) c ∙ ap (λ y. y * 2 ^ c) (pow-suc 2 j) in
    let q : (x + 2 ^ j * 2 * 2 ^ c) / 2 ^ c ≡ x / 2 ^ c + 2 ^ j * 2 = add-mul-div_right x (2 ^ j * 2) (pow_pos c) in
    let r : (x / 2 ^ c + 2 ^ j * 2) % 2 ≡ x / 2 ^ c % 2 = add-mul-mod_self_right (x / 2 ^ c) (2 ^ j) 2 in
    ap (λ y. eqb ((x + y) / 2 ^ c % 2) 1) p ∙ ap (λ y. eqb (y % 2) 1) q ∙ ap (λ y. eqb y 1) r

-- a power of two has no other bit
pub bit_alone : (t d : ℕ) → d ≢ t → bit (2 ^ t) d ≡ false
bit_alone t d ne = go (dec_lt d t)
  where
    go : Dec (d < t) → bit (2 ^ t) d ≡ false
    go (yes lt) = let e : 2 ^ t ≡ 0 + 2 ^ t = omega arith in ap (λ n. bit n d) e ∙ bit_below 0 t d lt ∙ bit_past 0 0 d (omega (arith, pow-zero 2)) (omega arith)
    go (no ge) = bit_past (2 ^ t) (suc t) d (omega (arith, pow-suc 2 t, pow_pos t)) (omega arith)

-- 0 has no bit
pub bit_of_zero : (x : ℕ) → bit 0 x ≡ false
bit_of_zero x = bit_past 0 0 x (omega (arith, pow-zero 2)) (omega arith)

-- the bit that a power of two has
pub only_bit : (x : ℕ) → bit (2 ^ x) x ≡ true
only_bit x = eq-eqb (2 ^ x / 2 ^ x % 2) 1 (rw (div_self (pow_pos x)))

-- what either of two numbers has, both together have
joined : (a b : ℕ) → bit_or a b % 2 ≡ max (a % 2) (b % 2)
joined a b = omega (arith, or_step a b)

pub or_left : (a b x : ℕ) → bit a x ≡ true → bit (bit_or a b) x ≡ true
or_left a b x h = eq-eqb (bit_or a b / 2 ^ x % 2) 1 (rw (or_shr a b x) (omega (arith, joined (a / 2 ^ x) (b / 2 ^ x), eqb-true (a / 2 ^ x % 2) 1 h)))

pub or_right : (a b x : ℕ) → bit b x ≡ true → bit (bit_or a b) x ≡ true
or_right a b x h = eq-eqb (bit_or a b / 2 ^ x % 2) 1 (rw (or_shr a b x) (omega (arith, joined (a / 2 ^ x) (b / 2 ^ x), eqb-true (b / 2 ^ x % 2) 1 h)))

pub or_other : (a b x : ℕ) → bit b x ≡ false → bit (bit_or a b) x ≡ true → bit a x ≡ true
or_other a b x lacks h =
    let joint : bit_or (a / 2 ^ x) (b / 2 ^ x) % 2 ≡ 1 = ap (λ n. n % 2) (sym (or_shr a b x)) ∙ eqb-true (bit_or a b / 2 ^ x % 2) 1 h in
    let ne : b / 2 ^ x % 2 ≢ 1 = eqb-false (b / 2 ^ x % 2) 1 lacks in
    eq-eqb (a / 2 ^ x % 2) 1 (omega (arith, joined (a / 2 ^ x) (b / 2 ^ x)))

-- what both of two numbers have, and nothing else, they share
shared : (a b : ℕ) → bit_and a b % 2 ≡ min (a % 2) (b % 2)
shared a b = omega (arith, and_step a b)

pub bit_and_lem : (a b x : ℕ) → bit (bit_and a b) x ≡ (bit a x && bit b x)
bit_and_lem a b x = same_test (bit (bit_and a b) x) (bit a x && bit b x) (λ h. both (at h)) (λ h. back (both_true (bit a x) (bit b x) h))
  where
    u : ℕ
    u = a / 2 ^ x

    v : ℕ
    v = b / 2 ^ x

    at : bit (bit_and a b) x ≡ true → min (u % 2) (v % 2) ≡ 1
    at h = sym (shared u v) ∙ ap (λ n. n % 2) (sym (and_shr a b x)) ∙ eqb-true (bit_and a b / 2 ^ x % 2) 1 h

    both : min (u % 2) (v % 2) ≡ 1 → (bit a x && bit b x) ≡ true
    both e = rw (eq-eqb (u % 2) 1 (omega arith), eq-eqb (v % 2) 1 (omega arith))

    back : (bit a x ≡ true) × (bit b x ≡ true) → bit (bit_and a b) x ≡ true
    back h = eq-eqb (bit_and a b / 2 ^ x % 2) 1 (ap (λ n. n % 2) (and_shr a b x) ∙ shared u v ∙ omega (arith, eqb-true (u % 2) 1 h.0, eqb-true (v % 2) 1 h.1))

pub bit_both : (a b x : ℕ) → bit (bit_and a b) x ≡ true → (bit a x ≡ true) × (bit b x ≡ true)
bit_both a b x h = both_true (bit a x) (bit b x) (sym (bit_and_lem a b x) ∙ h)
