-- Sets of terms: which bits they have, and what one term more does to the set of a class's terms.
use Prim.Native.Nat.{ℕ, ◌+◌, ◌*◌, ◌^◌, ◌≤◌, ◌<◌}
use mathlib.Core.Path.{◌≡◌, refl, sym, ap, subst, ◌∙◌}
use mathlib.Core.Bool.{false, cond}
use mathlib.Core.Logic.{◌≢◌}
use mathlib.Core.List.{List, [], ◌∷◌, ◌++◌}
use native.Mathlib.Omega.{arith}
use native.Mathlib.Decide.{dec_lt}
use native.Mathlib.Nat.{pow-suc}
use lib.Bits.{bit_or, or_shifted_r}
use lib.Dec.{T, eqb}
use lib.ListN.{length, get_or-append}
use borrow.Author.Tests.{eq-eqb, ne_eqb}
use Rattle.question.specs.Masks.{bit}
use Rattle.statement.proofs.TestLaws.{same_test}
use Rattle.theory.specs.Arrangements.{in_class}
use Rattle.theory.proofs.BitLaws.{flag, of_bits, of_bits_below, of_bits_bit}
use Rattle.question.proofs.BitLaws.{bit_past, bit_alone, or_left, or_other}
use Rattle.cut.specs.Members.{members}

-- a set with one term more has that bit more alone
pub bit_joined : (set t d : ℕ) → d ≢ t → bit (bit_or set (2 ^ t)) d ≡ bit set d
bit_joined set t d ne = same_test (bit (bit_or set (2 ^ t)) d) (bit set d) (or_other set (2 ^ t) d (bit_alone t d ne)) (or_left set (2 ^ t) d)

module _ (k : ℕ) where
  members_bits : (p : List ℕ) → members p k ≡ of_bits (length p) (in_class p k)
  unfolding of_bits flag
  members_bits [] = refl
  members_bits (c ∷ p) = ap (λ n. n * 2 + cond (eqb k c) 1 0) (members_bits p)

  pub members_below : (p : List ℕ) → members p k < 2 ^ length p
  members_below p = rw (members_bits p) (of_bits_below (length p) (in_class p k))

  -- bit c is set exactly if the term c is in the class
  pub bit_members : (p : List ℕ) (c : ℕ) → c < length p → bit (members p k) c ≡ in_class p k c
  bit_members p c h = ap (λ n. bit n c) (members_bits p) ∙ of_bits_bit (length p) (in_class p k) c h

  pub bit_outside : (p : List ℕ) (c : ℕ) → length p ≤ c → bit (members p k) c ≡ false
  bit_outside p c h = bit_past (members p k) (length p) c (members_below p) h

  -- one term more, in the class
  members_sum : (p : List ℕ) → members (p ++ (k ∷ [])) k ≡ members p k + 2 ^ length p
  members_sum [] = rw (eq-eqb k k refl)
  members_sum (c ∷ p) = rw (members_sum p, pow-suc) (omega arith)

  pub members_last : (p : List ℕ) → members (p ++ (k ∷ [])) k ≡ bit_or (members p k) (2 ^ length p)
  members_last p = let one : 2 ^ length p ≡ 1 * 2 ^ length p = omega arith in members_sum p ∙ omega arith ∙ sym (ap (bit_or (members p k)) one ∙ or_shifted_r 1 (length p) (members p k) (members_below p))

  -- one term more, in another class
  pub members_other : (p : List ℕ) (c : ℕ) → k ≢ c → members (p ++ (c ∷ [])) k ≡ members p k
  members_other [] c ne = rw (ne_eqb k c ne)
  members_other (d ∷ p) c ne = ap (λ n. n * 2 + cond (eqb k d) 1 0) (members_other p c ne)

-- a beginning p of the arrangement p ++ l: which of its terms are in the class k
module _ (p l : List ℕ) (k : ℕ) where
  pub members_agree : (c : ℕ) → c < length p → bit (members p k) c ≡ in_class (p ++ l) k c
  members_agree c h = bit_members k p c h ∙ sym (ap (eqb k) (get_or-append p l 0 c h))

  pub members_inside : (c : ℕ) → T (bit (members p k) c) → T (in_class (p ++ l) k c)
  members_inside c t = go (dec_lt c (length p))
    where
      go : Dec (c < length p) → T (in_class (p ++ l) k c)
      go (yes h) = subst T (members_agree c h) t
      go (no h) = absurd (subst T (bit_outside k p c (omega arith)) t)
