-- What is known of a mask that is tried, and of the next mask worth a trial. A mask is of use if it passes a test `meets` of masks.
use Rattle.std.specs.Prelude.{ℕ, ◌^◌, ◌<◌, ◌≡◌, Bool, false, List, length, get_or, Option, Some, None}
use Rattle.question.specs.Masks.{bit}
use Rattle.mask.specs.Reasons.{Decided, Reasons, raised}

-- the mask w is of no use
abbrev pub IsOfNoUse : (ℕ → Bool) → ℕ → Type 0
IsOfNoUse meets w = meets w ≡ false

-- reasons as a list of numbers: bit x of the number at q marks the place x
abbrev pub reason_at : List ℕ → ℕ → ℕ → Bool
reason_at why q = bit (get_or why q 0)

-- the mask m has its reasons, one for each of 32 places
abbrev pub HasReasons : (ℕ → Bool) → List ℕ → ℕ → Type 0
HasReasons meets why m = (length why ≡ 32) × Reasons 2 (IsOfNoUse meets) (reason_at why) m

-- the bits of m that `decided` marks decide that it is of no use
abbrev pub IsDecided : (ℕ → Bool) → ℕ → ℕ → Type 0
IsDecided meets decided m = Decided 2 (IsOfNoUse meets) 0 (bit decided) m

-- what a trial of m leads to, whatever the test, if m has its reasons and is decided: a bit that m lacks, and m raised there has its reasons; or the end, for no mask of so many bits is of use
abbrev pub TrialIs : ℕ → ℕ → ℕ → List ℕ → List ℕ → Option ℕ → Type 0
TrialIs sets m decided why new (Some q) = (q < sets) × (bit m q ≡ false) × ((meets : ℕ → Bool) → HasReasons meets why m → IsDecided meets decided m → HasReasons meets new (raised 2 q m))
TrialIs sets m decided why new None = (meets : ℕ → Bool) → HasReasons meets why m → IsDecided meets decided m → (w : ℕ) → w < 2 ^ sets → IsOfNoUse meets w
