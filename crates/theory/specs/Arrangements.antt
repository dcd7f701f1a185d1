-- Arrangements: a class number for each term, as a list with the first term's class in front.
use Rattle.std.specs.Prelude.{ℕ, suc, ◌≤◌, ◌<◌, max, Bool, List, [], ◌∷◌, ◌⊎◌, ◌≡◌, eqb, get_or}

-- class numbers that may follow where `used` classes stand: each is at most `used`, which is one more than the largest before it
abbrev pub MayFollow : ℕ → List ℕ → Type 0
MayFollow used [] = Unit {0}
MayFollow used (c ∷ l) = (c ≤ used) × MayFollow (max used (suc c)) l

-- an arrangement: no class stands before the first term, so that has 0
abbrev pub IsArrangement : List ℕ → Type 0
IsArrangement l = MayFollow 0 l

-- how many classes stand after the class numbers l, where `used` stood before
abbrev pub classes_after : ℕ → List ℕ → ℕ
classes_after used [] = used
classes_after used (c ∷ l) = classes_after (max used (suc c)) l

-- the number of classes
abbrev pub classes : List ℕ → ℕ
classes l = classes_after 0 l

-- the class of the term c
abbrev pub class_of : List ℕ → ℕ → ℕ
class_of l c = get_or l c 0

-- is d a term of the class k: terms are the same exactly if their class is
abbrev pub in_class : List ℕ → ℕ → ℕ → Bool
in_class l k d = eqb k (class_of l d)

-- l comes before m, compared term by term with smaller numbers first
abbrev pub Before : List ℕ → List ℕ → Type 0
Before [] m = ⊥
Before (c ∷ l) [] = ⊥
Before (c ∷ l) (d ∷ m) = (c < d) ⊎ ((c ≡ d) × Before l m)
