-- What it means that a contract leaves one result: of two results that fit it for the same arguments, one is the other.
use Rattle.std.specs.Prelude.{◌≡◌}

-- `fit` is what a caller learns of the result: its arguments are the lifetimes, the arguments, the result and the lent places at exit
abbrev pub OneResult {ℓ} : {Lifetimes : Type ℓ} {Given Result Exit : Lifetimes → Type 0} → ((κs : Lifetimes) → Given κs → Result κs → Exit κs → Type 0) → Type ℓ
OneResult {Lifetimes} {Given} {Result} {Exit} fit = (κs : Lifetimes) (given : Given κs) (x y : Result κs) (s t : Exit κs) → fit κs given x s → fit κs given y t → x ≡ y
