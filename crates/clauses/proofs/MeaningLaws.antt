-- What the clauses of one row mean: they are true together exactly if the term passes the test, where the variables say which sets it is in and which terms are the same.
use Prim.Native.Nat.{ℕ, ◌<◌}
use mathlib.Core.Path.{◌≡◌, refl, ◌∙◌}
use mathlib.Core.Bool.{Bool, true, false, not, ◌&&◌, ◌||◌, beq, cond}
use mathlib.Core.List.{[], ◌∷◌}
use lib.Dec.{T, eqb}
use Rattle.text.specs.Literals.{is, is_not}
use Rattle.theory.specs.Lists.{all_of}
use Rattle.theory.specs.Sets.{Test, IsSame, IsNotSame, IsIn, IsNotIn, ExactlyIfIn, ExactlyIfNotIn, ExactlyIfSame, ExactlyIfOr, ExactlyIfAnd, ExactlyIfAndNot, passes, places_of, places_declared}
use Rattle.theory.proofs.PlaceLaws.{passes_local}
use Rattle.clauses.specs.Variables.{same_variable, in_variable, spare_variable}
use Rattle.clauses.specs.Clauses.{one, exactly_if, test_clauses}
use Rattle.clauses.specs.Meaning.{Truth, clause_true}

-- the clauses as tests of their variables' values p, q and r
means_one : (p : Bool) → p ≡ ((p || false) && true)
means_one true = refl
means_one false = refl

-- the spare variable, then its denial
means_never : (p : Bool) → false ≡ ((p || false) && ((not p || false) && true))
means_never true = refl
means_never false = refl

means_if : (p q : Bool) → beq p q ≡ ((not p || (q || false)) && ((p || (not q || false)) && true))
means_if true true = refl
means_if true false = refl
means_if false true = refl
means_if false false = refl

means_if_not : (p q : Bool) → beq p (not q) ≡ ((p || (q || false)) && ((not p || (not q || false)) && true))
means_if_not true true = refl
means_if_not true false = refl
means_if_not false true = refl
means_if_not false false = refl

means_or : (p q r : Bool) → beq p (q || r) ≡ ((not p || (q || (r || false))) && ((p || (not q || false)) && ((p || (not r || false)) && true)))
means_or true true true = refl
means_or true true false = refl
means_or true false true = refl
means_or true false false = refl
means_or false true true = refl
means_or false true false = refl
means_or false false true = refl
means_or false false false = refl

means_and : (p q r : Bool) → beq p (q && r) ≡ ((not p || (q || false)) && ((not p || (r || false)) && ((p || (not q || (not r || false))) && true)))
means_and true true true = refl
means_and true true false = refl
means_and true false true = refl
means_and true false false = refl
means_and false true true = refl
means_and false true false = refl
means_and false false true = refl
means_and false false false = refl

means_and_not : (p q r : Bool) → beq p (q && not r) ≡ ((not p || (q || false)) && ((not p || (not r || false)) && ((p || (not q || (r || false))) && true)))
means_and_not true true true = refl
means_and_not true true false = refl
means_and_not true false true = refl
means_and_not true false false = refl
means_and_not false true true = refl
means_and_not false true false = refl
means_and_not false false true = refl
means_and_not false false false = refl

module _ (terms sets : ℕ) (truth : Truth) (c : ℕ) where
  -- the variables say that c is in x, that c is the same as d
  abbrev pub in_said : ℕ → Bool
  in_said x = truth (in_variable terms sets c x)

  abbrev pub same_said : ℕ → Bool
  same_said d = eqb c d || truth (same_variable terms sets c d)

  pub said_means : (t : Test) → passes in_said same_said t ≡ all_of (clause_true truth) (test_clauses terms sets c t)
  said_means (IsSame d) = go (eqb c d)
    where
      go : (b : Bool) → (b || truth (same_variable terms sets c d)) ≡ all_of (clause_true truth) (cond b [] (one (is (same_variable terms sets c d)) ∷ []))
      go true = refl
      go false = means_one (truth (same_variable terms sets c d))
  said_means (IsNotSame d) = go (eqb c d)
    where
      go : (b : Bool) → not (b || truth (same_variable terms sets c d)) ≡ all_of (clause_true truth) (cond b (one (is (spare_variable terms sets)) ∷ one (is_not (spare_variable terms sets)) ∷ []) (one (is_not (same_variable terms sets c d)) ∷ []))
      go true = means_never (truth (spare_variable terms sets))
      go false = means_one (not (truth (same_variable terms sets c d)))
  said_means (IsIn x) = means_one (in_said x)
  said_means (IsNotIn x) = means_one (not (in_said x))
  said_means (ExactlyIfIn x y) = means_if (in_said x) (in_said y)
  said_means (ExactlyIfNotIn x y) = means_if_not (in_said x) (in_said y)
  said_means (ExactlyIfSame x a) = go (eqb c a)
    where
      always : (p : Bool) → beq p true ≡ ((p || false) && true)
      always true = refl
      always false = refl

      go : (b : Bool) → beq (in_said x) (b || truth (same_variable terms sets c a)) ≡ all_of (clause_true truth) (cond b (one (is (in_variable terms sets c x)) ∷ []) (exactly_if (in_variable terms sets c x) (same_variable terms sets c a)))
      go true = always (in_said x)
      go false = means_if (in_said x) (truth (same_variable terms sets c a))
  said_means (ExactlyIfOr x y z) = means_or (in_said x) (in_said y) (in_said z)
  said_means (ExactlyIfAnd x y z) = means_and (in_said x) (in_said y) (in_said z)
  said_means (ExactlyIfAndNot x y z) = means_and_not (in_said x) (in_said y) (in_said z)

  -- whatever else says the same of the sets and terms that there are
  pub row_means : (has same : ℕ → Bool) → ((x : ℕ) → x < sets → has x ≡ in_said x) → ((d : ℕ) → d < terms → same d ≡ same_said d) →
      (t : Test) → T (places_declared terms sets (places_of t)) → passes has same t ≡ all_of (clause_true truth) (test_clauses terms sets c t)
  row_means has same in_is same_is t declared = passes_local has in_said same same_said terms sets in_is same_is t declared ∙ said_means t
