-- Solutions of rows: an arrangement and a mask for each class that together meet every row. A mask is any number below a bound.
use Rattle.std.specs.Prelude.{ℕ, ◌<◌, ◌≡◌, Bool, List, T, length, get_or}
use Rattle.theory.specs.Lists.{all_of}
use Rattle.theory.specs.Arrangements.{IsArrangement, classes, class_of, in_class}
use Rattle.theory.specs.Rules.{Row}

-- an arrangement, and a mask for each class with class 0's in front
pub record Solution : Type 0 where
  pub arrangement : List ℕ
  pub masks : List ℕ

-- the arrangement l with the masks ms
abbrev pub with_masks : List ℕ → List ℕ → Solution
with_masks l ms = record { arrangement = l; masks = ms }

-- the mask of the class k
abbrev pub mask_of : List ℕ → ℕ → ℕ
mask_of ms k = get_or ms k 0

-- does every row pass
abbrev pub all_rows : {Test : Type 0} → (Row Test → Bool) → List (Row Test) → Bool
all_rows f rows = all_of f rows

-- no test of single rows tells the two lists apart: every row of one is in the other
abbrev pub SameRows : {Test : Type 0} → List (Row Test) → List (Row Test) → Type 0
SameRows {Test} rows others = (f : Row Test → Bool) → all_rows f rows ≡ all_rows f others

-- `fits m same t`: does a term pass the test t, where m is its class's mask and `same` says which terms are the same as it
module _ {Test : Type 0} (fits : ℕ → (ℕ → Bool) → Test → Bool) where
  -- is the row met where its term's class is k and has the mask m
  abbrev pub met_by : List ℕ → ℕ → ℕ → Row Test → Bool
  met_by l k m r = fits m (in_class l k) r.test

  -- is the row met: by the class of its term, with the mask of that class
  abbrev pub met : List ℕ → List ℕ → Row Test → Bool
  met l ms r = met_by l (class_of l r.term) (mask_of ms (class_of l r.term)) r

  -- a solution of the rows: so many terms, masks below the bound
  pub record IsSolution (terms bound : ℕ) (rows : List (Row Test)) (sol : Solution) : Type 0 where
    pub arranged : IsArrangement sol.arrangement
    pub each_term : length sol.arrangement ≡ terms
    pub each_class : length sol.masks ≡ classes sol.arrangement
    pub masks_below : (k : ℕ) → k < classes sol.arrangement → mask_of sol.masks k < bound
    pub rows_met : T (all_rows (met sol.arrangement sol.masks) rows)
