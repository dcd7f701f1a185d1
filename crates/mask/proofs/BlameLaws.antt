-- Every mask that has the bits that are to blame fails the test too.
use Prim.Native.Nat.{ℕ, ◌^◌}
use mathlib.Core.Path.{◌≡◌, refl, ap}
use mathlib.Core.Bool.{Bool, true, false, not, ◌&&◌, ◌||◌, beq, true≢false}
use native.Mathlib.Omega.{arith}
use borrow.Author.Tests.{not-true, not-false}
use lib.Bits.{bit_or}
use lib.Dec.{eqb}
use Rattle.question.specs.Masks.{bit}
use Rattle.theory.specs.Sets.{Test, IsSame, IsNotSame, IsIn, IsNotIn, ExactlyIfIn, ExactlyIfNotIn, ExactlyIfSame, ExactlyIfOr, ExactlyIfAnd, ExactlyIfAndNot, fits}
use Rattle.mask.specs.Reasons.{Agrees, Decided}
use Rattle.mask.specs.Blames.{two_or_three, blamed}
use Rattle.question.proofs.BitLaws.{only_bit, or_left, or_right}

-- a mask w that agrees with m on the bits c
module _ (m w : ℕ) where
  at : (c x : ℕ) → Agrees 2 0 (bit c) m w → bit c x ≡ true → bit m x ≡ bit w x
  at c x a h = ap (λ d. eqb d 1) (a x (omega arith) h)

  -- a test of one set, or of two, where all its bits are blamed
  one_set : (x : ℕ) (f : Bool → Bool) → Agrees 2 0 (bit (2 ^ x)) m w → f (bit m x) ≡ false → f (bit w x) ≡ false
  one_set x f a h = rw (← (at (2 ^ x) x a (only_bit x))) h

  two_sets : (x y : ℕ) (f : Bool → Bool → Bool) → Agrees 2 0 (bit (bit_or (2 ^ x) (2 ^ y))) m w → f (bit m x) (bit m y) ≡ false → f (bit w x) (bit w y) ≡ false
  two_sets x y f a h =
      let c = bit_or (2 ^ x) (2 ^ y) in
      rw (← (at c x a (or_left (2 ^ x) (2 ^ y) x (only_bit x))), ← (at c y a (or_right (2 ^ x) (2 ^ y) y (only_bit y)))) h

  three_sets : (x y z : ℕ) (f : Bool → Bool → Bool → Bool) → Agrees 2 0 (bit (bit_or (bit_or (2 ^ x) (2 ^ y)) (2 ^ z))) m w → f (bit m x) (bit m y) (bit m z) ≡ false → f (bit w x) (bit w y) (bit w z) ≡ false
  three_sets x y z f a h =
      let b = bit_or (2 ^ x) (2 ^ y) in
      let c = bit_or b (2 ^ z) in
      rw (← (at c x a (or_left b (2 ^ z) x (or_left (2 ^ x) (2 ^ y) x (only_bit x)))), ← (at c y a (or_left b (2 ^ z) y (or_right (2 ^ x) (2 ^ y) y (only_bit y)))), ← (at c z a (or_right b (2 ^ z) z (only_bit z)))) h

  -- a test f of three sets of which two may decide: where x's bit is X, it fails with Y for y whatever z is, and else z decides whatever y is
  module _ (x y z : ℕ) (f : Bool → Bool → Bool → Bool) (X Y : Bool) (by_y : (r : Bool) → f X Y r ≡ false) (by_z : (q r : Bool) → f X (not Y) r ≡ false → f X q r ≡ false) where
    two_or_three_lem : (all second : Bool) → (all ≡ false → bit m x ≡ X) → (second ≡ true → bit m y ≡ Y) → (second ≡ false → bit m y ≡ not Y) →
        Agrees 2 0 (bit (two_or_three all second (2 ^ x) (2 ^ y) (2 ^ z))) m w → f (bit m x) (bit m y) (bit m z) ≡ false → f (bit w x) (bit w y) (bit w z) ≡ false
    two_or_three_lem true second is_X is_Y not_Y a h = three_sets x y z f a h
    two_or_three_lem false true is_X is_Y not_Y a h = two_sets x y (λ p q. f p q (bit w z)) a (rw (is_X refl, is_Y refl) (by_y (bit w z)))
    two_or_three_lem false false is_X is_Y not_Y a h = two_sets x z (λ p r. f p (bit w y) r) a (rw (is_X refl) (by_z (bit w y) (bit m z) (rw (is_X refl, not_Y refl) at h)))

-- the tests of x = y ∪ z and x = y ∩ z where z decides
or_by_z : (q r : Bool) → beq false (false || r) ≡ false → beq false (q || r) ≡ false
or_by_z true true h = refl
or_by_z false true h = refl
or_by_z q false h = absurd (true≢false h)

and_by_z : (q r : Bool) → beq true (true && r) ≡ false → beq true (q && r) ≡ false
and_by_z true false h = refl
and_by_z false false h = refl
and_by_z q true h = absurd (true≢false h)

pub blamed_decides : (m : ℕ) (t : Test) (same : ℕ → Bool) → fits m same t ≡ false → Decided 2 (λ w. fits w same t ≡ false) 0 (bit (blamed m t)) m
unfolding blamed
blamed_decides m (IsSame d) same h w a = h
blamed_decides m (IsNotSame d) same h w a = h
blamed_decides m (IsIn x) same h w a = one_set m w x (λ p. p) a h
blamed_decides m (IsNotIn x) same h w a = one_set m w x not a h
blamed_decides m (ExactlyIfIn x y) same h w a = two_sets m w x y beq a h
blamed_decides m (ExactlyIfNotIn x y) same h w a = two_sets m w x y (λ p q. beq p (not q)) a h
blamed_decides m (ExactlyIfSame x d) same h w a = one_set m w x (λ p. beq p (same d)) a h
blamed_decides m (ExactlyIfOr x y z) same h w a =
    two_or_three_lem m w x y z (λ p q r. beq p (q || r)) false true (λ r. refl) or_by_z (bit m x) (bit m y) (λ e. e) (λ e. e) (λ e. e) a h
blamed_decides m (ExactlyIfAnd x y z) same h w a =
    two_or_three_lem m w x y z (λ p q r. beq p (q && r)) true false (λ r. refl) and_by_z (not (bit m x)) (not (bit m y)) (not-false (bit m x)) (not-true (bit m y)) (not-false (bit m y)) a h
blamed_decides m (ExactlyIfAndNot x y z) same h w a =
    two_or_three_lem m w x y z (λ p q r. beq p (q && not r)) true false (λ r. refl) (λ q r. and_by_z q (not r)) (not (bit m x)) (not (bit m y)) (not-false (bit m x)) (not-true (bit m y)) (not-false (bit m y)) a h
