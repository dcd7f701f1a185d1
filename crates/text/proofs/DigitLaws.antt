-- The digits of a number: how many may be asked for doesn't matter if they are enough, those of a number are those of its tenth and the last one, and how many there are.
use Prim.Native.Nat.{ℕ, zero, suc, ◌+◌, ◌/◌, ◌%◌, ◌^◌, ◌≤◌, ◌<◌}
use mathlib.Core.Path.{◌≡◌, refl, sym, ap, ◌∙◌}
use mathlib.Core.Bool.{Bool, true, false, cond}
use mathlib.Core.List.{[], ◌∷◌, ◌++◌}
use native.Mathlib.Omega.{arith}
use borrow.Author.Tests.{lt-ltb, le-ltb, ltb-true, ltb-false}
use lib.Dec.{ltb}
use lib.ListN.{length, length-append}
use Rattle.text.specs.Decimals.{digit, digits_in, decimal}

-- a number below 10 is one digit, another one digit more than its tenth
pub digits_one : (w n : ℕ) → n < 10 → digits_in (suc w) n ≡ digit n ∷ []
unfolding digits_in
digits_one w n h = rw (lt-ltb n 10 h)

pub digits_more : (w n : ℕ) → 10 ≤ n → digits_in (suc w) n ≡ digits_in w (n / 10) ++ (digit (n % 10) ∷ [])
unfolding digits_in
digits_more w n h = rw (le-ltb n 10 h)

-- enough digits are all digits
pub digits_enough : (v w n : ℕ) → n < v → n < w → digits_in v n ≡ digits_in w n
digits_enough zero w n h k = absurd (omega arith)
digits_enough (suc v) zero n h k = absurd (omega arith)
digits_enough (suc v) (suc w) n h k = go (ltb n 10) refl (λ big. digits_enough v w (n / 10) (omega arith) (omega arith))
  where
    go : (t : Bool) → ltb n 10 ≡ t → (10 ≤ n → digits_in v (n / 10) ≡ digits_in w (n / 10)) → digits_in (suc v) n ≡ digits_in (suc w) n
    go true e later = let small : n < 10 = ltb-true n 10 e in digits_one v n small ∙ sym (digits_one w n small)
    go false e later =
        let big : 10 ≤ n = ltb-false n 10 e in
        digits_more v n big ∙ ap (λ l. l ++ (digit (n % 10) ∷ [])) (later big) ∙ sym (digits_more w n big)

pub decimal_more : (n : ℕ) → 10 ≤ n → decimal n ≡ decimal (n / 10) ++ (digit (n % 10) ∷ [])
decimal_more n h = digits_more n n h ∙ ap (λ l. l ++ (digit (n % 10) ∷ [])) (digits_enough n (suc (n / 10)) (n / 10) (omega arith) (omega arith))

-- no more than were asked for
digits_few : (w n : ℕ) → length (digits_in w n) ≤ w
unfolding digits_in
digits_few zero n = omega arith
digits_few (suc w) n = go (ltb n 10) (digits_few w (n / 10))
  where
    go : (b : Bool) → length (digits_in w (n / 10)) ≤ w → length (cond b (digit n ∷ []) (digits_in w (n / 10) ++ (digit (n % 10) ∷ []))) ≤ suc w
    go true few = omega arith
    go false few = omega (arith, length-append (digits_in w (n / 10)) (digit (n % 10) ∷ []))

pub decimal_few : (n : ℕ) → length (decimal n) ≤ suc n
decimal_few n = digits_few (suc n) n

-- so few that one more is counted in a number of the machine
pub decimal_short : (n : ℕ) → length (decimal n) ≤ n / 10 + 2
decimal_short n = go (ltb n 10) refl
  where
    go : (b : Bool) → ltb n 10 ≡ b → length (decimal n) ≤ n / 10 + 2
    go true p = rw (digits_one n n (ltb-true n 10 p)) (omega arith)
    go false p = omega (arith, ap length (decimal_more n (ltb-false n 10 p)), length-append (decimal (n / 10)) (digit (n % 10) ∷ []), decimal_few (n / 10))

-- a number below 10 to the k has at most k digits
pub digits_below : (k w n : ℕ) → 1 ≤ k → n < 10 ^ k → length (digits_in w n) ≤ k
unfolding digits_in
digits_below zero w n one lt = absurd (omega arith)
digits_below (suc k) zero n one lt = omega arith
digits_below (suc k) (suc w) n one lt = go (ltb n 10) refl (digits_below k w (n / 10))
  where
    go : (b : Bool) → ltb n 10 ≡ b → (1 ≤ k → n / 10 < 10 ^ k → length (digits_in w (n / 10)) ≤ k) → length (cond b (digit n ∷ []) (digits_in w (n / 10) ++ (digit (n % 10) ∷ []))) ≤ suc k
    go true e ih = omega arith
    go false e ih = more k lt ih
      where
        more : (k : ℕ) → n < 10 ^ suc k → (1 ≤ k → n / 10 < 10 ^ k → length (digits_in w (n / 10)) ≤ k) → length (digits_in w (n / 10) ++ (digit (n % 10) ∷ [])) ≤ suc k
        more zero lt ih = absurd (omega (arith, ltb-false n 10 e))
        more (suc j) lt ih = omega (arith, length-append (digits_in w (n / 10)) (digit (n % 10) ∷ []), ih (omega arith) (omega arith))
