-- What it means that a contract leaves one outcome: of two that fit it for the same arguments, the results are one, and so are the buffers at exit.
use Rattle.std.specs.Prelude.{◌≡◌}

-- `fit` is what a caller learns: its arguments are the lifetimes, the arguments, the result and the lent places at exit, of which `buffer` takes the lent buffer
abbrev pub OneOutcome {ℓ} : {Lifetimes : Type ℓ} {Given Result Exit : Lifetimes → Type 0} {Buffer : Type 0} → ((κs : Lifetimes) → Given κs → Result κs → Exit κs → Type 0) → ((κs : Lifetimes) → Exit κs → Buffer) → Type ℓ
OneOutcome {Lifetimes} {Given} {Result} {Exit} fit buffer =
    (κs : Lifetimes) (given : Given κs) (x y : Result κs) (s t : Exit κs) → fit κs given x s → fit κs given y t → (x ≡ y) × (buffer κs s ≡ buffer κs t)
