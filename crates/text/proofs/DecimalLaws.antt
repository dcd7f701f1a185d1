-- Decimals both ways: the digits of a number say it, and bytes that say a number are its digits.
use Prim.Native.Nat.{ℕ, zero, suc, ◌+◌, ◌-◌, ◌*◌, ◌/◌, ◌%◌, ◌≤◌, ◌<◌}
use mathlib.Core.Path.{◌≡◌, refl, sym, ap, ap₂, ◌∙◌}
use mathlib.Core.Bool.{Bool, true, false, ◌&&◌, cond}
use mathlib.Core.List.{List, [], ◌∷◌, ◌++◌, append-nil}
use native.Mathlib.Omega.{arith}
use borrow.Author.Tests.{ltb-true, ltb-false, leb-true, ne_eqb, eqb-false}
use lib.Dec.{eqb, leb, ltb}
use lib.ListN.{length, get_or, length-append, get_or-append}
use lib.Seq.{append_snoc}
use Rattle.std.specs.Prelude.{Some, None}
use Rattle.outcome.proofs.Never.{never}
use Rattle.text.specs.Decimals.{digit, is_digit, digits_in, decimal, digits_from, number_said}
use Rattle.text.proofs.NumberLaws.{among_digits}
use Rattle.text.proofs.DigitLaws.{digits_one, digits_more, decimal_more}

-- one digit more behind a number that is not 0
decimal_then : (n d : ℕ) → 1 ≤ n → d < 10 → decimal (n * 10 + d) ≡ decimal n ++ (digit d ∷ [])
decimal_then n d h k =
    let tenth : (n * 10 + d) / 10 ≡ n = omega arith in
    let last : (n * 10 + d) % 10 ≡ d = omega arith in
    decimal_more (n * 10 + d) (omega arith) ∙ ap₂ (λ m c. decimal m ++ (digit c ∷ [])) tenth last

-- the first byte of a number: there is one, it is a digit, and 0 only of 0
pub record Begins (n : ℕ) (bytes : List ℕ) : Type 0 where
  pub some_byte : 0 < length bytes
  pub a_digit : digit 0 ≤ get_or bytes 0 0
  pub not_zero : 1 ≤ n → digit 1 ≤ get_or bytes 0 0

pub begins : (w n : ℕ) → n < w → Begins n (digits_in w n)
begins zero n h = absurd (omega arith)
begins (suc w) n h = go (ltb n 10) refl (λ big. begins w (n / 10) (omega arith))
  where
    go : (t : Bool) → ltb n 10 ≡ t → (10 ≤ n → Begins (n / 10) (digits_in w (n / 10))) → Begins n (digits_in (suc w) n)
    go true e later =
        rw (digits_one w n (ltb-true n 10 e))
        (record { some_byte = omega arith; a_digit = omega arith; not_zero = λ h. omega arith })
    go false e later =
        let big : 10 ≤ n = ltb-false n 10 e in
        let before = later big in
        let front : get_or (digits_in w (n / 10) ++ (digit (n % 10) ∷ [])) 0 0 ≡ get_or (digits_in w (n / 10)) 0 0 = get_or-append (digits_in w (n / 10)) (digit (n % 10) ∷ []) 0 0 before.some_byte in
        rw (digits_more w n big)
        (record {
          some_byte = omega (arith, length-append (digits_in w (n / 10)) (digit (n % 10) ∷ []));
          a_digit = omega (arith, front, before.a_digit);
          not_zero = λ h. omega (arith, front, before.not_zero (omega arith));
        })

-- one digit more is read behind the others
digits_snoc : (m k b : ℕ) (bytes : List ℕ) → is_digit b ≡ true → digits_from m bytes ≡ Some k → digits_from m (bytes ++ (b ∷ [])) ≡ Some (k * 10 + (b - digit 0))
unfolding digits_from
digits_snoc m k b [] d e = let same : m ≡ k = cc in rw (d, same)
digits_snoc m k b (a ∷ bytes) d e = go (is_digit a) e (digits_snoc (m * 10 + (a - digit 0)) k b bytes d)
  where
    go : (t : Bool) → cond t (digits_from (m * 10 + (a - digit 0)) bytes) None ≡ Some k →
        (digits_from (m * 10 + (a - digit 0)) bytes ≡ Some k → digits_from (m * 10 + (a - digit 0)) (bytes ++ (b ∷ [])) ≡ Some (k * 10 + (b - digit 0))) →
        cond t (digits_from (m * 10 + (a - digit 0)) (bytes ++ (b ∷ []))) None ≡ Some (k * 10 + (b - digit 0))
    go true e later = later e
    go false e later = never cc

digit_is : (d : ℕ) → d < 10 → is_digit (digit d) ≡ true
digit_is d h = among_digits (digit d) (omega arith) (omega arith)

digits_single : (d : ℕ) → d < 10 → digits_from 0 (digit d ∷ []) ≡ Some d
unfolding digits_from
digits_single d h = rw (digit_is d h) (ap Some (let back : 0 * 10 + (digit d - digit 0) ≡ d = omega arith in back))

digits_say : (w n : ℕ) → n < w → digits_from 0 (digits_in w n) ≡ Some n
digits_say zero n h = absurd (omega arith)
digits_say (suc w) n h = go (ltb n 10) refl (λ big. digits_say w (n / 10) (omega arith))
  where
    go : (t : Bool) → ltb n 10 ≡ t → (10 ≤ n → digits_from 0 (digits_in w (n / 10)) ≡ Some (n / 10)) → digits_from 0 (digits_in (suc w) n) ≡ Some n
    go true e later =
        let small : n < 10 = ltb-true n 10 e in
        ap (digits_from 0) (digits_one w n small) ∙ digits_single n small
    go false e later =
        let big : 10 ≤ n = ltb-false n 10 e in
        ap (digits_from 0) (digits_more w n big)
        ∙ digits_snoc 0 (n / 10) (digit (n % 10)) (digits_in w (n / 10)) (digit_is (n % 10) (omega arith)) (later big)
        ∙ ap Some (let back : n / 10 * 10 + (digit (n % 10) - digit 0) ≡ n = omega arith in back)

-- where no 0 leads, the bytes say what their digits say
unled : (bytes : List ℕ) → digit 1 ≤ get_or bytes 0 0 → number_said bytes ≡ digits_from 0 bytes
unfolding number_said
unled [] h = absurd (omega arith)
unled (b ∷ []) h = refl
unled (b ∷ c ∷ bytes) h = rw (ne_eqb b (digit 0) (λ e. omega arith))

-- a number that is written is read back
pub decimal_said : (n : ℕ) → number_said (decimal n) ≡ Some n
unfolding number_said
decimal_said zero = ap number_said (digits_one 0 0 (omega arith)) ∙ digits_single 0 (omega arith)
decimal_said (suc n) = unled (decimal (suc n)) ((begins (suc (suc n)) (suc n) (omega arith)).not_zero (omega arith)) ∙ digits_say (suc (suc n)) (suc n) (omega arith)

-- which bytes are digits
digit_within : (b : ℕ) → is_digit b ≡ true → (digit 0 ≤ b) × (b ≤ digit 9)
digit_within b e = go (leb (digit 0) b) (leb b (digit 9)) refl refl e
  where
    go : (s t : Bool) → leb (digit 0) b ≡ s → leb b (digit 9) ≡ t → s && t ≡ true → (digit 0 ≤ b) × (b ≤ digit 9)
    go true true p q e = (leb-true (digit 0) b p, leb-true b (digit 9) q)
    go true false p q e = never cc
    go false t p q e = never cc

-- what is read behind a number that is not 0 stands behind its digits
digits_behind : (m n : ℕ) (bytes : List ℕ) → 1 ≤ m → digits_from m bytes ≡ Some n → decimal m ++ bytes ≡ decimal n
unfolding digits_from
digits_behind m n [] h e = let same : m ≡ n = cc in append-nil (decimal m) ∙ ap decimal same
digits_behind m n (b ∷ bytes) h e = go (is_digit b) refl e (λ k. digits_behind (m * 10 + (b - digit 0)) n bytes k)
  where
    go : (t : Bool) → is_digit b ≡ t → cond t (digits_from (m * 10 + (b - digit 0)) bytes) None ≡ Some n →
        (1 ≤ m * 10 + (b - digit 0) → digits_from (m * 10 + (b - digit 0)) bytes ≡ Some n → decimal (m * 10 + (b - digit 0)) ++ bytes ≡ decimal n) →
        decimal m ++ (b ∷ bytes) ≡ decimal n
    go true p e later =
        let in_range = digit_within b p in
        let byte : digit (b - digit 0) ≡ b = omega (arith, in_range.0) in
        let more : decimal (m * 10 + (b - digit 0)) ≡ decimal m ++ (b ∷ []) = decimal_then m (b - digit 0) h (omega (arith, in_range.1)) ∙ ap (λ c. decimal m ++ (c ∷ [])) byte in
        sym (append_snoc (decimal m) b bytes) ∙ ap (λ l. l ++ bytes) (sym more) ∙ later (omega arith) e
    go false p e later = never cc

-- bytes that say a number are its digits
pub said_decimal : (bytes : List ℕ) (n : ℕ) → number_said bytes ≡ Some n → bytes ≡ decimal n
unfolding number_said digits_from
said_decimal [] n e = never cc
said_decimal (b ∷ []) n e = go (is_digit b) refl e
  where
    go : (t : Bool) → is_digit b ≡ t → cond t (Some (0 * 10 + (b - digit 0))) None ≡ Some n → b ∷ [] ≡ decimal n
    go true p e =
        let in_range = digit_within b p in
        let same : 0 * 10 + (b - digit 0) ≡ n = cc in
        ap (λ c. c ∷ []) (let byte : b ≡ digit n = omega (arith, in_range.0) in byte) ∙ sym (digits_one n n (omega (arith, in_range.1)))
    go false p e = never cc
said_decimal (b ∷ c ∷ bytes) n e = go (eqb b (digit 0)) (is_digit b) refl refl e
  where
    go : (s t : Bool) → eqb b (digit 0) ≡ s → is_digit b ≡ t → cond s None (cond t (digits_from (0 * 10 + (b - digit 0)) (c ∷ bytes)) None) ≡ Some n → b ∷ c ∷ bytes ≡ decimal n
    go true t p q e = never cc
    go false false p q e = never cc
    go false true p q e =
        let in_range = digit_within b q in
        let first : 1 ≤ 0 * 10 + (b - digit 0) = omega (arith, in_range.0, ne_zero) in
        let byte : decimal (0 * 10 + (b - digit 0)) ≡ b ∷ [] = digits_one _ _ (omega (arith, in_range.1)) ∙ ap (λ x. x ∷ []) (let back : digit (0 * 10 + (b - digit 0)) ≡ b = omega (arith, in_range.0) in back) in
        ap (λ l. l ++ (c ∷ bytes)) (sym byte) ∙ digits_behind (0 * 10 + (b - digit 0)) n (c ∷ bytes) first e
      where
        ne_zero : b ≡ digit 0 → ⊥
        ne_zero = eqb-false b (digit 0) p
