-- The tests of an answer: class numbers by the rule, and masks below a bound.
use Rattle.std.specs.Prelude.{ℕ, suc, max, Bool, true, ◌&&◌, cond, List, [], ◌∷◌, leb, ltb, Option as Maybe, Some, None}
use Rattle.std.specs.List.{list_all}
use Rattle.std.proofs.Math.Option.{Option, none, some}
use Rattle.theory.specs.Arrangements.{classes}
use Rattle.theory.specs.Solutions.{Solution}

-- may these class numbers follow where `used` classes stand: each is at most one more than the largest before it
unfoldable pub may_follow : ℕ → List ℕ → Bool
may_follow used [] = true
may_follow used (c ∷ l) = leb c used && may_follow (max used (suc c)) l

-- are these the class numbers of an arrangement
abbrev pub is_arrangement : List ℕ → Bool
is_arrangement l = may_follow 0 l

-- how many classes they make, if they are
abbrev pub class_count : List ℕ → Maybe ℕ
class_count l = cond (is_arrangement l) (Some (classes l)) None

-- is each mask below the bound
abbrev pub all_below : ℕ → List ℕ → Bool
all_below bound ms = list_all (λ m. ltb m bound) ms

-- 11 or not: of an impossible answer nothing is looked at
abbrev pub is_good : ℕ → Option Solution → Bool
is_good bound none = true
is_good bound (some sol) = is_arrangement sol.arrangement && all_below bound sol.masks

-- how many classes an answer has
abbrev pub classes_in : Option Solution → ℕ
classes_in none = 0
classes_in (some sol) = classes sol.arrangement

-- how many classes an answer has, if it is good
abbrev pub answer_check : ℕ → Option Solution → Maybe ℕ
answer_check bound s = cond (is_good bound s) (Some (classes_in s)) None
