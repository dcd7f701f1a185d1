-- The first value that a test gives: over numbers, and over arrangements in their order.
use Rattle.std.specs.Prelude.{ℕ, zero, suc, max, Bool, cond, List, [], ◌∷◌}
use Rattle.std.proofs.Math.Option.{Option, none, some, map}

module _ {A : Type 0} where
  -- the first value among test c, test (c + 1), .. of n numbers
  unfoldable pub first_from : ℕ → ℕ → (ℕ → Option A) → Option A
  first_from zero c test = none
  first_from (suc n) c test = elim (test c) [ none ↦ first_from n (suc c) test | some a ↦ some a ]

  -- the first value over the ways to place so many terms more where `used` classes stand: the next term takes each class number allowed
  unfoldable pub first_placing : ℕ → ℕ → (List ℕ → Option A) → Option A
  first_placing zero used test = test []
  first_placing (suc left) used test = first_from (suc used) 0 (λ c. first_placing left (max used (suc c)) (λ l. test (c ∷ l)))

  -- the first value over the arrangements of so many terms
  abbrev pub first_arrangement : ℕ → (List ℕ → Option A) → Option A
  first_arrangement terms test = first_placing terms 0 test

  -- the values of test c, test (c + 1), .. of n numbers, where each has one
  unfoldable pub each_from : ℕ → ℕ → (ℕ → Option A) → Option (List A)
  each_from zero c test = some []
  each_from (suc n) c test = elim (test c) [ none ↦ none | some a ↦ map (λ l. a ∷ l) (each_from n (suc c) test) ]

-- the smallest number below the bound that passes a test
unfoldable pub first_passing : ℕ → (ℕ → Bool) → Option ℕ
first_passing bound passes = first_from bound 0 (λ m. cond (passes m) (some m) none)
