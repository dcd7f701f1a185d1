-- The numbers from 1 on, as an inclusive range gives them; a test of all of them is `everywhere`.
use Rattle.std.proofs.Common.{◌≡◌, ℕ, zero, suc, ◌+◌, ◌-◌, Bool, true, false, ◌&&◌, List, ◌∷◌, length, Option, Some, refl, sym, ap, subst, ◌∙◌, arith}
use mathlib.Core.Bool.{and_assoc, and-true}
use mathlib.Core.Path.{ap₂}
use Rattle.std.specs.List.{list_all, range_with_len}
use Rattle.std.specs.Range.{range_inclusive_start, range_inclusive_end, range_inclusive_exhausted, range_inclusive_left, range_inclusive_len, range_inclusive_steps}
use Rattle.std.specs.declared.ops.RangeInclusive.{RangeInclusive}
use Rattle.std.proofs.lemmas.Iterator.{YieldsList}
use Rattle.std.proofs.lemmas.Iterator.Consumers.{YieldsList-from_shown}
use Rattle.statement.specs.Meaning.{everywhere}

abbrev left : RangeInclusive ℕ → ℕ
left = range_inclusive_left (λ x y. y - x)

abbrev steps : RangeInclusive ℕ → Option ℕ → RangeInclusive ℕ → Type 0
steps = range_inclusive_steps (λ x y. y - x) (λ x y. y ≡ x + 1)

-- what is left of a range
abbrev shown : RangeInclusive ℕ → List ℕ
shown s = range_with_len (range_inclusive_start s) (left s)

next_shown : (s : RangeInclusive ℕ) (x : ℕ) (t : RangeInclusive ℕ) → steps s (Some x) t → shown s ≡ x ∷ shown t
next_shown s x t h = ap (range_with_len (range_inclusive_start s)) (let more : left s ≡ suc (left t) = omega arith in more) ∙ ap₂ (λ y ys. y ∷ ys) (sym h.1.0) (rest (range_inclusive_exhausted t) refl)
  where
    rest : (b : Bool) → range_inclusive_exhausted t ≡ b → range_with_len (range_inclusive_start s + 1) (left t) ≡ shown t
    rest true e = let none : left t ≡ 0 = ap (range_inclusive_len (λ x y. y - x) (range_inclusive_start t) (range_inclusive_end t)) e in rw none
    rest false e = ap (λ k. range_with_len k (left t)) (sym (h.1.2 e))

pub numbers_up : {s : RangeInclusive ℕ} (n : ℕ) → range_inclusive_start s ≡ 1 → range_inclusive_end s ≡ n → range_inclusive_exhausted s ≡ false → YieldsList steps (λ x. x) s (range_with_len 1 n)
numbers_up {s = s} n p q r =
    subst (YieldsList steps (λ x. x) s) (ap₂ range_with_len p all) (YieldsList-from_shown steps (λ x. x) shown (λ s t h. ap (λ n. length (range_with_len (range_inclusive_start s) n)) h.1.0) next_shown s)
  where
    all : left s ≡ n
    all = ap (range_inclusive_len (λ x y. y - x) (range_inclusive_start s) (range_inclusive_end s)) r ∙ omega arith

-- the first number apart
all_front : (n : ℕ) (f : ℕ → Bool) → everywhere (suc n) f ≡ (f 0 && everywhere n (λ i. f (suc i)))
unfolding everywhere
all_front zero f = sym (and-true (f 0))
all_front (suc n) f = ap (λ b. b && f (suc n)) (all_front n f) ∙ and_assoc (f 0) (everywhere n (λ i. f (suc i))) (f (suc n))

all_from : (p : ℕ → Bool) (n a : ℕ) (f : ℕ → Bool) → ((i : ℕ) → f i ≡ p (a + i)) → list_all p (range_with_len a n) ≡ everywhere n f
unfolding everywhere
all_from p zero a f h = refl
all_from p (suc n) a f h =
    ap₂ (λ b c. b && c) (ap p (let z : a ≡ a + 0 = omega arith in z) ∙ sym (h 0)) (all_from p n (a + 1) (λ i. f (suc i)) (λ i. h (suc i) ∙ ap p (let z : a + suc i ≡ a + 1 + i = omega arith in z)))
    ∙ sym (all_front n f)

pub all_numbers : (p : ℕ → Bool) (n : ℕ) → list_all p (range_with_len 1 n) ≡ everywhere n (λ i. p (suc i))
all_numbers p n = all_from p n 1 (λ i. p (suc i)) (λ i. ap p (let z : suc i ≡ 1 + i = omega arith in z))
