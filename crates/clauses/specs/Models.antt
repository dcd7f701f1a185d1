-- The model that truth values say: which terms they put into one class, and which sets a class is in; and the truth values that a solution says.
use Rattle.std.specs.Prelude.{ℕ, zero, suc, ◌+◌, ◌-◌, ◌*◌, ◌/◌, ◌%◌, ◌^◌, Bool, false, cond, [], ◌∷◌, ◌++◌, eqb, ltb, length}
use Rattle.std.proofs.Math.Option.{Option, none, some}
use Rattle.question.specs.Masks.{bit}
use Rattle.theory.specs.Arrangements.{classes, class_of}
use Rattle.theory.specs.Searches.{first_passing}
use Rattle.theory.specs.Solutions.{Solution, with_masks, mask_of}
use Rattle.clauses.specs.Variables.{pair_count, pair_variable, in_variable}
use Rattle.clauses.specs.Meaning.{Truth}

module _ (terms sets : ℕ) (truth : Truth) where
  -- the mask of the term c: the bits of so many sets, from set 0 on
  unfoldable pub mask_up_to : ℕ → ℕ → ℕ
  mask_up_to zero c = 0
  mask_up_to (suc x) c = mask_up_to x c + cond (truth (in_variable terms sets c x)) (2 ^ x) 0

  abbrev pub mask_said : ℕ → ℕ
  mask_said c = mask_up_to sets c

  -- the lowest earlier term whose pair variable with d is true
  abbrev pub joined_to : ℕ → Option ℕ
  joined_to d = first_passing d (λ c. truth (pair_variable terms sets c d))

  -- the next term, behind others: it joins the class of the lowest earlier term whose pair variable is true, else it starts a class, whose mask is its own
  abbrev pub placed_by : Solution → Option ℕ → Solution
  placed_by sol (some c) = with_masks (sol.arrangement ++ (class_of sol.arrangement c ∷ [])) sol.masks
  placed_by sol none = with_masks (sol.arrangement ++ (classes sol.arrangement ∷ [])) (sol.masks ++ (mask_said (length sol.arrangement) ∷ []))

  abbrev pub next_placed : Solution → Solution
  next_placed sol = placed_by sol (joined_to (length sol.arrangement))

  -- so many terms, from term 0 on
  unfoldable pub placed_up_to : ℕ → Solution
  placed_up_to zero = with_masks [] []
  placed_up_to (suc d) = next_placed (placed_up_to d)

  -- the model of all terms
  abbrev pub model_said : Solution
  model_said = placed_up_to terms

-- the pair at an index, of so many terms: the terms c and d
pub record Pair : Type 0 where
  pub low : ℕ
  pub high : ℕ

unfoldable pub pair_at : ℕ → ℕ → Pair
pair_at zero i = record { low = 0; high = 0 }
pair_at (suc n) i = cond (ltb i n) (record { low = 0; high = suc i }) (let p = pair_at n (i - n) in record { low = suc p.low; high = suc p.high })

-- the truth values that a solution says: which terms are the same, and which sets a term's class is in; the spare is false
module _ (terms sets : ℕ) (sol : Solution) where
  abbrev same_said : Pair → Bool
  same_said p = eqb (class_of sol.arrangement p.low) (class_of sol.arrangement p.high)

  abbrev in_said : ℕ → ℕ → Bool
  in_said c x = bit (mask_of sol.masks (class_of sol.arrangement c)) x

  unfoldable pub truth_said : Truth
  truth_said zero = false
  truth_said (suc v) =
      cond (ltb v (pair_count terms)) (same_said (pair_at terms v))
      (cond (ltb v (pair_count terms + terms * sets)) (in_said ((v - pair_count terms) / sets) ((v - pair_count terms) % sets)) false)
