-- `everywhere`, the walk over a domain: what it says of each element, the element that fails where it does not hold, and the walk turn by turn.
use Prim.Native.Nat.{ℕ, zero, suc, ◌+◌, ◌≤◌, ◌<◌}
use mathlib.Core.Path.{◌≡◌, refl}
use mathlib.Core.Bool.{Bool, true, false, not, ◌&&◌}
use native.Mathlib.Omega.{arith}
use native.Mathlib.Numerals.{add-one}
use native.Mathlib.Decide.{dec_lt}
use lib.Dec.{T, T_not, not_T}
use Rattle.statement.specs.Meaning.{everywhere}
use Rattle.statement.proofs.TestLaws.{T_false, false_T, and_left, and_right, and_both}

pub everywhere_at : (n : ℕ) (f : ℕ → Bool) → T (everywhere n f) → (d : ℕ) → d < n → T (f d)
unfolding everywhere
everywhere_at zero f h d lt = absurd (omega arith)
everywhere_at (suc n) f h d lt = go (dec_lt d n) (everywhere_at n f (and_left (everywhere n f) (f n) h) d)
  where
    go : Dec (d < n) → (d < n → T (f d)) → T (f d)
    go (yes q) ih = ih q
    go (no q) ih = let e : d ≡ n = omega arith in rw e (and_right (everywhere n f) (f n) h)

pub everywhere_of : (n : ℕ) (f : ℕ → Bool) → ((d : ℕ) → d < n → T (f d)) → T (everywhere n f)
unfolding everywhere
everywhere_of zero f h = tt
everywhere_of (suc n) f h = and_both (everywhere n f) (f n) (everywhere_of n f (λ d lt. h d (omega arith))) (h n (omega arith))

-- where it does not hold, an element that fails is found: no excluded middle is needed
pub fails_at : (n : ℕ) (f : ℕ → Bool) → T (not (everywhere n f)) → (d : ℕ) × (d < n) × T (not (f d))
unfolding everywhere
fails_at zero f h = absurd h
fails_at (suc n) f h = go (everywhere n f) (f n) refl refl h (fails_at n f)
  where
    go : (a b : Bool) → everywhere n f ≡ a → f n ≡ b → T (not (a && b)) → (T (not (everywhere n f)) → (d : ℕ) × (d < n) × T (not (f d))) → (d : ℕ) × (d < suc n) × T (not (f d))
    go true true p q t ih = absurd t
    go true false p q t ih = (n, omega arith, rw q tt)
    go false b p q t ih = let r = ih (rw p tt) in (r.0, omega arith, r.2)

pub fails_of : (n : ℕ) (f : ℕ → Bool) (d : ℕ) → d < n → T (not (f d)) → T (not (everywhere n f))
fails_of n f d lt h = not_T (everywhere n f) (λ all. T_not (f d) h (everywhere_at n f all d lt))

-- a loop over the domain: where it begins, one element more, the end of the domain, and an element that fails
module _ (f : ℕ → Bool) where
  pub walk_none : everywhere 0 f ≡ true
  unfolding everywhere
  walk_none = refl

  pub walk_more : (n : ℕ) → everywhere n f ≡ true → f n ≡ true → everywhere (n + 1) f ≡ true
  unfolding everywhere
  walk_more n before here = rw (add-one, before, here)

  pub walk_ends : (n k : ℕ) → k ≤ n → n ≤ k → everywhere k f ≡ true → everywhere n f ≡ true
  walk_ends n k a b e = let same : n ≡ k = omega arith in rw same e

  pub walk_fails : (n d : ℕ) → d < n → f d ≡ false → everywhere n f ≡ false
  walk_fails n d lt e = false_T (everywhere n f) (fails_of n f d lt (T_false e))
