-- Arrangements: how many classes there are, that each class has a term, and that the order is total.
use Prim.Native.Nat.{ℕ, zero, suc, ◌+◌, ◌≤◌, ◌<◌, max}
use mathlib.Core.Path.{◌≡◌, refl}
use mathlib.Core.List.{List, [], ◌∷◌, ◌++◌}
use mathlib.Core.Logic.{◌⊎◌, inl, inr}
use native.Mathlib.Omega.{arith}
use native.Mathlib.Decide.{dec_le, dec_lt}
use lib.ListN.{length}
use Rattle.theory.specs.Arrangements.{MayFollow, classes_after, class_of, Before}

pub classes_grow : (used : ℕ) (l : List ℕ) → used ≤ classes_after used l
classes_grow used [] = omega arith
classes_grow used (c ∷ l) = omega (arith, classes_grow (max used (suc c)) l)

pub classes_append : (used : ℕ) (l m : List ℕ) → classes_after used (l ++ m) ≡ classes_after (classes_after used l) m
classes_append used [] m = refl
classes_append used (c ∷ l) m = classes_append (max used (suc c)) l m

-- no more classes than terms
pub classes_few : (used : ℕ) (l : List ℕ) → MayFollow used l → classes_after used l ≤ used + length l
classes_few used [] f = omega arith
classes_few used (c ∷ l) f = omega (arith, classes_few (max used (suc c)) l f.1, f.0)

-- the class of each term is below the number of classes
pub class_below : (used : ℕ) (l : List ℕ) (c : ℕ) → c < length l → class_of l c < classes_after used l
class_below used [] c h = absurd (omega arith)
class_below used (d ∷ l) zero h = omega (arith, classes_grow (max used (suc d)) l)
class_below used (d ∷ l) (suc c) h = class_below (max used (suc d)) l c (omega arith)

-- class numbers have no gaps: each class is the class of some term
pub class_has_term : (used : ℕ) (l : List ℕ) → MayFollow used l → (k : ℕ) → used ≤ k → k < classes_after used l → (c : ℕ) × (c < length l) × (class_of l c ≡ k)
class_has_term used [] f k low high = absurd (omega arith)
class_has_term used (d ∷ l) f k low high = go (dec_le (max used (suc d)) k) (class_has_term (max used (suc d)) l f.1 k)
  where
    TermOf : List ℕ → Type 0
    TermOf m = (c : ℕ) × (c < length m) × (class_of m c ≡ k)

    go : Dec (max used (suc d) ≤ k) → (max used (suc d) ≤ k → k < classes_after (max used (suc d)) l → TermOf l) → TermOf (d ∷ l)
    go (yes q) ih = let r = ih q high in (suc r.0, omega arith, r.2)
    go (no q) ih = (0, omega arith, omega (arith, f.0))

-- of two arrangements of as many terms one comes before the other, or they are equal
abbrev pub Compared : List ℕ → List ℕ → Type 0
Compared l m = Before l m ⊎ ((l ≡ m) ⊎ Before m l)

pub compared : (l m : List ℕ) → length l ≡ length m → Compared l m
compared [] [] e = inr (inl refl)
compared [] (d ∷ m) e = absurd (omega arith)
compared (c ∷ l) [] e = absurd (omega arith)
compared (c ∷ l) (d ∷ m) e = go (dec_lt c d) (dec_lt d c) (compared l m (omega arith))
  where
    go : Dec (c < d) → Dec (d < c) → Compared l m → Compared (c ∷ l) (d ∷ m)
    go (yes p) q r = inl (inl p)
    go (no p) (yes q) r = inr (inr (inl q))
    go (no p) (no q) (inl r) = inl (inr (omega arith, r))
    go (no p) (no q) (inr (inl r)) = let s : c ≡ d = omega arith in inr (inl cc)
    go (no p) (no q) (inr (inr r)) = inr (inr (inr (omega arith, r)))
