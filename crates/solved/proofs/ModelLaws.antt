-- The model that values say: one set more of a mask, and the lowest earlier term that passes a test.
use Prim.Native.Nat.{ℕ, zero, suc, ◌+◌, ◌*◌, ◌%◌, ◌^◌, ◌≤◌, ◌<◌}
use mathlib.Core.Path.{◌≡◌, refl, sym, ap, ◌∙◌}
use mathlib.Core.Bool.{Bool, true, false, cond}
use mathlib.Core.Option.{Option, none, some}
use mathlib.Core.List.{List}
use lib.ListN.{length, get_or-eq_default}
use Rattle.std.specs.Prelude as Found
use Rattle.std.specs.List.{find, range_with_len}
use native.Mathlib.Omega.{arith}
use native.Mathlib.Numerals.{add-one}
use Rattle.std.proofs.Math.Pow.{pow-lt}
use Rattle.std.specs.Int.Bits.{bit_or, or_shifted_r}
use Rattle.outcome.proofs.Never.{never}
use Rattle.lines.specs.Values.{unsaid, is_true, truth_of}
use Rattle.question.specs.Limits.{max_sets}
use Rattle.theory.specs.Searches.{first_from, first_passing}
use Rattle.clauses.specs.Variables.{in_variable}
use Rattle.clauses.specs.Meaning.{Truth}
use Rattle.clauses.specs.Models.{mask_up_to}
use Rattle.clauses.proofs.PlacedLaws.{mask_below}

-- past the table nothing is said to be true
pub true_past : (t : List (Found.Option Bool)) (v : ℕ) → length t ≤ v → truth_of t v ≡ false
true_past t v h = ap is_true (get_or-eq_default t unsaid h)

module _ (terms sets : ℕ) (truth : Truth) (c : ℕ) where
  pub mask_none : mask_up_to terms sets truth 0 c ≡ 0
  unfolding mask_up_to
  mask_none = refl

  -- one set more
  mask_next : (x : ℕ) → mask_up_to terms sets truth (x + 1) c ≡ mask_up_to terms sets truth x c + cond (truth (in_variable terms sets c x)) (2 ^ x) 0
  unfolding mask_up_to
  mask_next x = rw (add-one x)

  pub mask_hit : (x m : ℕ) → x < max_sets → m ≡ mask_up_to terms sets truth x c → truth (in_variable terms sets c x) ≡ true → bit_or m (1 * 2 ^ x % 2 ^ 32) ≡ mask_up_to terms sets truth (x + 1) c
  mask_hit x m h e t =
      let small : 2 ^ x < 2 ^ 32 = pow-lt {i = x} {j = 32} (omega arith) in
      let one : 1 * 2 ^ x % 2 ^ 32 ≡ 1 * 2 ^ x = omega arith in
      let next = mask_next x ∙ ap (λ b. mask_up_to terms sets truth x c + cond b (2 ^ x) 0) t in
      ap (bit_or m) one ∙ or_shifted_r 1 x m (omega (arith, mask_below terms sets truth x c)) ∙ omega arith

  pub mask_miss : (x m : ℕ) → m ≡ mask_up_to terms sets truth x c → truth (in_variable terms sets c x) ≡ false → m ≡ mask_up_to terms sets truth (x + 1) c
  mask_miss x m e t = let next = mask_next x ∙ ap (λ b. mask_up_to terms sets truth x c + cond b (2 ^ x) 0) t in omega arith

-- what a search finds, as the definitions have it
abbrev pub as_found : Found.Option ℕ → Option ℕ
as_found Found.None = none
as_found (Found.Some c) = some c

search_found : (p : ℕ → Bool) (n m : ℕ) → as_found (find p (range_with_len m n)) ≡ first_from n m (λ c. cond (p c) (some c) none)
unfolding first_from
search_found p zero m = refl
search_found p (suc n) m = go (p m) (search_found p n (m + 1))
  where
    go : (b : Bool) → as_found (find p (range_with_len (m + 1) n)) ≡ first_from n (m + 1) (λ c. cond (p c) (some c) none) →
        as_found (cond b (Found.Some m) (find p (range_with_len (m + 1) n))) ≡ elim (cond b (some m) none) [ none ↦ first_from n (suc m) (λ c. cond (p c) (some c) none) | some a ↦ some a ]
    go true e = refl
    go false e = e ∙ ap (λ k. first_from n k (λ c. cond (p c) (some c) none)) (add-one m)

found_below : (p : ℕ → Bool) (n m c : ℕ) → find p (range_with_len m n) ≡ Found.Some c → c < m + n
found_below p zero m c e = never cc
found_below p (suc n) m c e = go (p m) e (found_below p n (m + 1) c)
  where
    go : (b : Bool) → cond b (Found.Some m) (find p (range_with_len (m + 1) n)) ≡ Found.Some c → (find p (range_with_len (m + 1) n) ≡ Found.Some c → c < m + 1 + n) → c < m + suc n
    go true e later = let same : m ≡ c = cc in omega arith
    go false e later = omega (arith, later e)

-- the lowest term that passes, as the code finds it
module _ (p : ℕ → Bool) (d : ℕ) (o : Found.Option ℕ) (is : Found.option_map (λ c. c) o ≡ find p (range_with_len 0 d)) where
  same_found : o ≡ find p (range_with_len 0 d)
  same_found = go o is
    where
      go : (o : Found.Option ℕ) → Found.option_map (λ c. c) o ≡ find p (range_with_len 0 d) → o ≡ find p (range_with_len 0 d)
      go Found.None e = e
      go (Found.Some c) e = e

  pub lowest : as_found o ≡ first_passing d p
  unfolding first_passing
  lowest = ap as_found same_found ∙ search_found p d 0

  pub lowest_below : (c : ℕ) → o ≡ Found.Some c → c < d
  lowest_below c e = omega (arith, found_below p d 0 c (sym same_found ∙ e))
