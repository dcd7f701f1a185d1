-- Numbers by their digits to a base: where two numbers first differ, and the digits of a number raised at a place.
use Prim.Native.Nat.{ℕ, zero, suc, ◌+◌, ◌-◌, ◌*◌, ◌/◌, ◌%◌, ◌^◌, ◌≤◌, ◌<◌}
use mathlib.Core.Path.{◌≡◌, sym, ap, subst, ◌∙◌}
use native.Mathlib.Omega.{arith}
use native.Mathlib.Decide.{dec_lt}
use native.Mathlib.Nat.{pow-zero, pow-suc, pow-succ', one-le-pow, pow-le-pow_right, div-one, div-div-eq-div-mul, div-eq_of_lt, zero-div, zero-mod, mod-lt, div-lt_self, div-add-mod', mul-div_cancel, mul-mod_left, div-lt_iff_lt-mul, le-div_iff_mul-le, div-mul-le_self}
use lib.Pow.{pow-add}
use lib.Arith.{digits_lt, digits_div, digits_mod}
use Rattle.theory.proofs.DigitLaws.{digit}
use Rattle.mask.specs.Reasons.{raised}

pub digit_lt : (b m x : ℕ) → 0 < b → digit b m x < b
digit_lt b m x h = mod-lt (m / b ^ x) h

digit_zero : (b m : ℕ) → digit b m 0 ≡ m % b
digit_zero b m = rw (pow-zero, div-one)

pub digit_suc : (b m x : ℕ) → digit b m (suc x) ≡ digit b (m / b) x
digit_suc b m x = rw (pow-succ', ← (div-div-eq-div-mul m b (b ^ x)))

pub digit_of_zero : (b x : ℕ) → digit b 0 x ≡ 0
digit_of_zero b x = rw (zero-div, zero-mod)

-- a number has no digits past its end
pub digit_past : (b m s x : ℕ) → 0 < b → m < b ^ s → s ≤ x → digit b m x ≡ 0
digit_past b m s x hb h l = let p : b ^ s ≤ b ^ x = pow-le-pow_right hb l in let q : m < b ^ x = omega arith in rw (div-eq_of_lt q, zero-mod)

-- the digits of m from q on are those of m / b ^ q
digit_from : (b m q y : ℕ) → digit b m (q + y) ≡ digit b (m / b ^ q) y
digit_from b m zero y = let e : zero + y ≡ y = omega arith in rw (e, pow-zero, div-one)
digit_from b m (suc q) y = let e : suc q + y ≡ suc (q + y) = omega arith in rw (e, digit_suc, pow-succ', ← (div-div-eq-div-mul m b (b ^ q))) (digit_from b (m / b) q y)

-- u moved up by q places has no digit below q, and its own from there on
shifted_below : (b u q x : ℕ) → 0 < b → x < q → digit b (u * b ^ q) x ≡ 0
shifted_below b u zero x hb h = absurd (omega arith)
shifted_below b u (suc q) zero hb h = let e : u * (b ^ q * b) ≡ u * b ^ q * b = omega arith in rw (digit_zero, pow-suc, e) (mul-mod_left (u * b ^ q) b)
shifted_below b u (suc q) (suc x) hb h = rw (digit_suc, up) (shifted_below b u q x hb (omega arith))
  where
    up : u * b ^ suc q / b ≡ u * b ^ q
    up = let e : u * (b ^ q * b) ≡ u * b ^ q * b = omega arith in rw (pow-suc, e) (mul-div_cancel (u * b ^ q) hb)

shifted_from : (b u q y : ℕ) → 0 < b → digit b (u * b ^ q) (q + y) ≡ digit b u y
shifted_from b u q y hb = rw (digit_from b (u * b ^ q) q y, mul-div_cancel u (one-le-pow q b hb))

-- the highest place where w and m differ: there w has the smaller digit
pub record FirstDiffer (b w m : ℕ) : Type 0 where
  pub at : ℕ
  pub less : digit b w at < digit b m at
  pub above : (x : ℕ) → suc at ≤ x → digit b m x ≡ digit b w x

differ_by : (b : ℕ) → 1 < b → (n w m : ℕ) → m ≤ n → w < m → FirstDiffer b w m
differ_by b hb zero w m hn h = absurd (omega arith)
differ_by b hb (suc n) w m hn h = go (dec_lt (w / b) (m / b)) (differ_by b hb n (w / b) (m / b) small)
  where
    small : m / b ≤ n
    small = let q : m / b < m = div-lt_self (omega arith) hb in omega arith

    higher : (r : FirstDiffer b (w / b) (m / b)) (x : ℕ) → suc (suc r.at) ≤ x → digit b m x ≡ digit b w x
    higher r zero l = absurd (omega arith)
    higher r (suc x) l = digit_suc b m x ∙ r.above x (omega arith) ∙ sym (digit_suc b w x)

    same : m / b ≤ w / b → w / b ≡ m / b
    same l = let k : w / b ≤ m / b = (le-div_iff_mul-le {k = b} {x = w / b} {y = m} (omega arith)).1 (omega (arith, div-mul-le_self w b)) in omega arith

    lowest : w / b ≡ m / b → w % b < m % b
    lowest e = omega (arith, div-add-mod' w b, div-add-mod' m b, ap (λ t. t * b) e)

    equal : w / b ≡ m / b → (x : ℕ) → 1 ≤ x → digit b m x ≡ digit b w x
    equal e zero l = absurd (omega arith)
    equal e (suc x) l = digit_suc b m x ∙ ap (λ t. digit b t x) (sym e) ∙ sym (digit_suc b w x)

    go : Dec (w / b < m / b) → (w / b < m / b → FirstDiffer b (w / b) (m / b)) → FirstDiffer b w m
    go (yes q) ih = record { at = suc (ih q).at; less = rw (digit_suc b w (ih q).at, digit_suc b m (ih q).at) (ih q).less; above = higher (ih q) }
    go (no q) ih = let e : w / b ≡ m / b = same (omega arith) in record { at = 0; less = rw (digit_zero b w, digit_zero b m) (lowest e); above = equal e }

pub first_differ : (b w m : ℕ) → 1 < b → w < m → FirstDiffer b w m
first_differ b w m hb h = differ_by b hb m w m (omega arith) h

-- m raised at q, where its digit at q is not the largest: above q as m, at q one more, below nothing
module _ (b q m : ℕ) (hb : 1 < b) (room : digit b m q + 1 < b) where
  quotient : (t : ℕ) → t % b + 1 < b → (t + 1) / b ≡ t / b
  quotient t r = let e : t + 1 ≡ t / b * b + (t % b + 1) = omega (arith, div-add-mod' t b) in rw e (digits_div (t / b) r)

  rest : (t : ℕ) → t % b + 1 < b → (t + 1) % b ≡ t % b + 1
  rest t r = let e : t + 1 ≡ t / b * b + (t % b + 1) = omega (arith, div-add-mod' t b) in rw e (digits_mod (t / b) r)

  pub raised_below : (x : ℕ) → x < q → digit b (raised b q m) x ≡ 0
  raised_below x h = shifted_below b (m / b ^ q + 1) q x (omega arith) h

  pub raised_here : digit b (raised b q m) q ≡ digit b m q + 1
  raised_here = let e : q ≡ q + 0 = omega arith in
      ap (digit b (raised b q m)) e ∙ shifted_from b (m / b ^ q + 1) q 0 (omega arith) ∙ digit_zero b (m / b ^ q + 1) ∙ rest (m / b ^ q) room

  pub raised_above : (x : ℕ) → q < x → digit b (raised b q m) x ≡ digit b m x
  raised_above x h = let y = x - suc q in let e : x ≡ q + suc y = omega arith in
      ap (digit b (raised b q m)) e ∙ shifted_from b (m / b ^ q + 1) q (suc y) (omega arith) ∙ digit_suc b (m / b ^ q + 1) y
      ∙ ap (λ t. digit b t y) (quotient (m / b ^ q) room) ∙ sym (digit_suc b (m / b ^ q) y) ∙ sym (digit_from b m q (suc y)) ∙ ap (digit b m) (sym e)

  pub raised_more : m < raised b q m
  raised_more = let p : 0 < b ^ q = one-le-pow q b (omega arith) in let l : m % b ^ q < b ^ q = mod-lt m p in omega (arith, div-add-mod' m (b ^ q))

  -- a number of s digits raised at one of them is a number of s digits
  pub raised_fits : (s : ℕ) → q < s → m < b ^ s → raised b q m < b ^ s
  raised_fits s h l = rw split (subst (λ n. n < b ^ suc up * b ^ q) nothing_more (digits_lt top pos))
    where
      up : ℕ
      up = s - suc q

      pos : 0 < b ^ q
      pos = one-le-pow q b (omega arith)

      split : b ^ s ≡ b ^ suc up * b ^ q
      split = let e : s ≡ suc up + q = omega arith in ap (λ n. b ^ n) e ∙ pow-add b (suc up) q

      nothing_more : raised b q m + 0 ≡ raised b q m
      nothing_more = omega arith

      part : m / b ^ q < b ^ up * b
      part = (div-lt_iff_lt-mul {k = b ^ q} {x = m} {y = b ^ up * b} pos).1 (subst (λ n. m < n) (split ∙ ap (λ n. n * b ^ q) (pow-suc b up)) l)

      upper : m / b ^ q / b < b ^ up
      upper = (div-lt_iff_lt-mul {k = b} {x = m / b ^ q} {y = b ^ up} (omega arith)).1 part

      top : m / b ^ q + 1 < b ^ suc up
      top = let e : m / b ^ q + 1 ≡ m / b ^ q / b * b + (m / b ^ q % b + 1) = omega (arith, div-add-mod' (m / b ^ q) b) in rw (pow-suc, e) (digits_lt upper room)
