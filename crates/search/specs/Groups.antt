-- Groups of terms, and those that stand for classes.
use Rattle.std.specs.Prelude.{ℕ, ◌^◌, ◌<◌, ◌≡◌, List, length, get_or, take, set}
use Rattle.std.specs.Int.Bits.{bit_or}
use Rattle.question.specs.Limits.{max_terms}
use Rattle.cut.specs.Members.{members}

-- how many groups of terms there are: each is a number below this one
abbrev pub group_count : ℕ
group_count = 2 ^ max_terms

-- there is room for twelve, and each of them is a group of terms
pub record AreGroups (groups : List ℕ) : Type 0 where
  pub long : length groups ≡ max_terms
  pub small : (k : ℕ) → get_or groups k 0 < group_count

-- the term t goes into the group k
abbrev pub with_term : List ℕ → ℕ → ℕ → List ℕ
with_term groups k t = set groups k (bit_or (get_or groups k 0) (2 ^ t))

-- the array has the terms of each class, as a group
pub record GroupsOf (arrangement : List ℕ) (placed : ℕ) (groups : List ℕ) : Type 0 where
  pub long : length groups ≡ max_terms
  pub are : (k : ℕ) → k < max_terms → get_or groups k 0 ≡ members (take placed arrangement) k
