-- Tests as facts: what `lib.Dec` and the author's tests leave open about T, && and equal tests.
use Prim.Native.Nat.{ℕ}
use mathlib.Core.Path.{◌≡◌, refl, sym}
use mathlib.Core.Bool.{Bool, true, false, not, ◌&&◌}
use borrow.Author.Tests.{eqb-true, eq-eqb}
use lib.Dec.{T, eqb}
use Rattle.outcome.proofs.Never.{never}

pub T_true : {b : Bool} → b ≡ true → T b
T_true e = rw e tt

pub true_T : (b : Bool) → T b → b ≡ true
true_T true h = refl
true_T false h = absurd h

pub T_false : {b : Bool} → b ≡ false → T (not b)
T_false e = rw e tt

pub false_T : (b : Bool) → T (not b) → b ≡ false
false_T true h = absurd h
false_T false h = refl

pub and_left : (a b : Bool) → T (a && b) → T a
and_left true b h = tt
and_left false b h = h

pub and_right : (a b : Bool) → T (a && b) → T b
and_right true b h = h
and_right false b h = absurd h

pub and_both : (a b : Bool) → T a → T b → T (a && b)
and_both true b p q = q
and_both false b p q = p

pub both_true : (a b : Bool) → (a && b) ≡ true → (a ≡ true) × (b ≡ true)
both_true true b e = (refl, e)
both_true false b e = never cc

-- two tests that follow from each other are equal
pub same_test : (a b : Bool) → (a ≡ true → b ≡ true) → (b ≡ true → a ≡ true) → a ≡ b
same_test true b f g = sym (f refl)
same_test false true f g = g refl
same_test false false f g = refl

pub same_eqb : (a b c d : ℕ) → (a ≡ b → c ≡ d) → (c ≡ d → a ≡ b) → eqb a b ≡ eqb c d
same_eqb a b c d f g = same_test (eqb a b) (eqb c d) (λ e. eq-eqb c d (f (eqb-true a b e))) (λ e. eq-eqb a b (g (eqb-true c d e)))
