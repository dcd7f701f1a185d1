-- The numbers of variables as sums, and how large they are at the most where the terms and sets fit in a byte.
use Prim.Native.Nat.{ℕ, zero, suc, ◌+◌, ◌-◌, ◌*◌, ◌≤◌, ◌<◌}
use mathlib.Core.Path.{◌≡◌, refl, sym, ap, ap₂, subst, ◌∙◌}
use mathlib.Core.List.{[], ◌∷◌, ◌++◌}
use native.Mathlib.Omega.{arith}
use native.Mathlib.Nat.{mul-le-mul_left}
use native.Mathlib.Numerals.{add-one}
use Rattle.std.specs.Prelude.{Option}
use Rattle.std.specs.List.{fold, sum, sum_by, range_with_len}
use Rattle.std.specs.Iterator.Runs.{EachRunFrom, WholeRun}
use Rattle.std.proofs.Common.{zero-add}
use Rattle.std.proofs.lemmas.List.{map-id}
use Rattle.std.proofs.lemmas.List.FromFn.{map-range_with_len_more}
use Rattle.std.proofs.lemmas.List.Sums.{sum_by-cons, sum_by_push}
use Rattle.clauses.specs.Variables.{pair_count, pair_index}

pub pair_count_most : (n : ℕ) → n ≤ 255 → pair_count n ≤ n * 255
unfolding pair_count
pair_count_most zero h = omega arith
pair_count_most (suc n) h = omega (arith, pair_count_most n (omega arith))

pub pair_index_most : (terms c d : ℕ) → terms ≤ 255 → d ≤ 255 → pair_index terms c d ≤ c * 255 + 255
unfolding pair_index
pair_index_most terms zero d h k = omega arith
pair_index_most terms (suc c) d h k = omega (arith, pair_index_most (terms - 1) c (d - 1) (omega arith) (omega arith))

-- a product of two bytes
pub product_most : (m n : ℕ) → m ≤ 255 → n ≤ 255 → m * n ≤ 65025
product_most m n h k = omega (arith, mul-le-mul_left m k)

-- a sum is below what the sum of each run is below
pub sum_below : {S : Type 0} {steps : S → Option ℕ → S → Type 0} {s : S} (r n : ℕ) → WholeRun steps s (λ p. r ≡ fold (λ a x. a + x) 0 p.items) → EachRunFrom steps s (λ p. fold (λ a x. a + x) 0 p.items < n) → r < n
sum_below r n run each = subst (λ k. k < n) (sym run.3) (each run.0 run.0.seen run.1)

-- so many pairs as the numbers below sum up to
pub pair_count_sum : (n : ℕ) → pair_count n ≡ sum (range_with_len 0 n)
unfolding pair_count
pair_count_sum zero = refl
pair_count_sum (suc n) =
    let numbers = range_with_len 0 in
    let more = sym (map-id (numbers (n + 1))) ∙ map-range_with_len_more (λ x. x) 0 n n (zero-add n) ∙ ap (λ l. l ++ (n ∷ [])) (map-id (numbers n)) in
    omega (arith, pair_count_sum n, ap (λ m. sum (numbers m)) (sym (add-one n)), ap sum more, sum_by_push (λ x. x) (numbers n) n)

-- the pairs of each lower term from a on, then those of the pair's own term
pair_index_from : (terms d : ℕ) (a c : ℕ) → pair_index (terms - a) c (d - a) ≡ sum_by (λ i. terms - (i + 1)) (range_with_len a c) + (d - a - c - 1)
unfolding pair_index
pair_index_from terms d a zero = omega arith
pair_index_from terms d a (suc c) =
    let t : terms - a - 1 ≡ terms - (a + 1) = omega arith in
    let e : d - a - 1 ≡ d - (a + 1) = omega arith in
    rw (t, e, sum_by-cons (λ i. terms - (i + 1)) a (range_with_len (a + 1) c)) (omega (arith, pair_index_from terms d (a + 1) c))

pub pair_index_sum : (terms c d : ℕ) → pair_index terms c d ≡ sum_by (λ i. terms - (i + 1)) (range_with_len 0 c) + (d - c - 1)
pair_index_sum terms c d =
    let t : terms ≡ terms - 0 = omega arith in
    let e : d ≡ d - 0 = omega arith in
    ap₂ (λ m n. pair_index m c n) t e ∙ pair_index_from terms d 0 c ∙ omega arith
