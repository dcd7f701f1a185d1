-- The searches as loops and as a recursion, for code that makes them: what one turn does, and how the loop ends.
use Prim.Native.Nat.{ℕ, suc, ◌+◌, ◌-◌, ◌≤◌, ◌<◌, max}
use mathlib.Core.Path.{◌≡◌, refl, sym, ap, ◌∙◌}
use mathlib.Core.List.{List, [], ◌∷◌, ◌++◌}
use mathlib.Core.Option.{Option, none, some}
use native.Mathlib.Omega.{arith}
use native.Mathlib.Numerals.{add-one}
use lib.Seq.{append_snoc}
use Rattle.theory.specs.Searches.{first_from, first_placing}

module _ {A : Type 0} where
  pub first_from_end : (c : ℕ) (test : ℕ → Option A) → first_from 0 c test ≡ none
  unfolding first_from
  first_from_end c test = refl

  pub first_from_miss : (n c : ℕ) (test : ℕ → Option A) → test c ≡ none → first_from (suc n) c test ≡ first_from n (suc c) test
  unfolding first_from
  first_from_miss n c test e = rw (e, first_from)

  pub first_from_hit : (n c : ℕ) (test : ℕ → Option A) (a : A) → test c ≡ some a → first_from (suc n) c test ≡ some a
  unfolding first_from
  first_from_hit n c test a e = rw (e, first_from)

  -- a loop for c from 0 to n, whose invariant is that the whole is what is found from c on
  module _ (n : ℕ) (test : ℕ → Option A) (whole : Option A) where
    abbrev pub FromHere : ℕ → Type 0
    FromHere c = whole ≡ first_from (n - c) c test

    pub loop_start : whole ≡ first_from n 0 test → FromHere 0
    loop_start p = let e : n ≡ n - 0 = omega arith in p ∙ ap (λ k. first_from k 0 test) e

    pub loop_miss : (c : ℕ) → c < n → test c ≡ none → FromHere c → FromHere (c + 1)
    loop_miss c h e p = let k : n - c ≡ suc (n - (c + 1)) = omega arith in
        p ∙ ap (λ k. first_from k c test) k ∙ first_from_miss (n - (c + 1)) c test e ∙ ap (λ d. first_from (n - (c + 1)) d test) (sym (add-one c))

    pub loop_hit : (c : ℕ) (a : A) → c < n → test c ≡ some a → FromHere c → whole ≡ some a
    loop_hit c a h e p = let k : n - c ≡ suc (n - suc c) = omega arith in p ∙ ap (λ k. first_from k c test) k ∙ first_from_hit (n - suc c) c test a e

    pub loop_end : (c : ℕ) → n ≤ c → FromHere c → whole ≡ none
    loop_end c h p = let k : n - c ≡ 0 = omega arith in p ∙ ap (λ k. first_from k c test) k ∙ first_from_end c test

  -- a recursion over the terms still to be placed, behind the class numbers p of those placed
  pub placing_end : (used : ℕ) (test : List ℕ → Option A) → first_placing 0 used test ≡ test []
  unfolding first_placing
  placing_end used test = refl

  pub placing_step : (left used : ℕ) (p : List ℕ) (test : List ℕ → Option A) →
      first_placing (suc left) used (λ l. test (p ++ l)) ≡ first_from (suc used) 0 (λ c. first_placing left (max used (suc c)) (λ l. test (p ++ (c ∷ []) ++ l)))
  unfolding first_placing
  placing_step left used p test = simp append_snoc
