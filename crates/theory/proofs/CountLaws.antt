-- Different numbers below n are at most n.
use Prim.Native.Nat.{ℕ, zero, suc, ◌≤◌, ◌<◌}
use mathlib.Core.Path.{◌≡◌, sym, ◌∙◌}
use mathlib.Core.Logic.{◌≢◌}
use native.Mathlib.Omega.{arith}
use native.Mathlib.Decide.{ℕ_discrete}

pub count_below : (n m : ℕ) (f : ℕ → ℕ) → ((i : ℕ) → i < m → f i < n) → ((i j : ℕ) → i < m → j < m → f i ≡ f j → i ≡ j) → m ≤ n
count_below zero zero f below apart = omega arith
count_below zero (suc m) f below apart = absurd (omega (arith, below 0 (omega arith)))
count_below (suc n) zero f below apart = omega arith
count_below (suc n) (suc m) f below apart = omega (arith, count_below n m (λ i. moved (f i) (ℕ_discrete (f i) n)) moved_below (λ i j hi hj e. moved_apart i j hi hj (ℕ_discrete (f i) n) (ℕ_discrete (f j) n) e))
  where
    -- the value n gives way to the last value, f m
    moved : (v : ℕ) → Dec (v ≡ n) → ℕ
    moved v (yes e) = f m
    moved v (no e) = v

    moved_below : (i : ℕ) → i < m → moved (f i) (ℕ_discrete (f i) n) < n
    moved_below i hi = go (ℕ_discrete (f i) n)
      where
        last : f i ≡ n → f m ≡ n → ⊥
        last p q = let r : i ≡ m = apart i m (omega arith) (omega arith) (p ∙ sym q) in omega arith

        go : (d : Dec (f i ≡ n)) → moved (f i) d < n
        go (yes p) = let r : f m ≢ n = λ q. last p q in omega (arith, below m (omega arith))
        go (no p) = omega (arith, below i (omega arith))

    moved_apart : (i j : ℕ) → i < m → j < m → (d : Dec (f i ≡ n)) (e : Dec (f j ≡ n)) → moved (f i) d ≡ moved (f j) e → i ≡ j
    moved_apart i j hi hj (yes p) (yes q) e = apart i j (omega arith) (omega arith) (p ∙ sym q)
    moved_apart i j hi hj (yes p) (no q) e = let r : m ≡ j = apart m j (omega arith) (omega arith) e in absurd (omega arith)
    moved_apart i j hi hj (no p) (yes q) e = let r : i ≡ m = apart i m (omega arith) (omega arith) e in absurd (omega arith)
    moved_apart i j hi hj (no p) (no q) e = apart i j (omega arith) (omega arith) e
