-- A call that fits a contract, for theorems about what functions do one after the other.
-- `fit` is what a caller learns: its arguments are the lifetimes, the arguments, the result and the lent places at exit.
pub record Call {ℓ} {Lifetimes : Type ℓ} {Given Result Exit : Lifetimes → Type 0} (fit : (κs : Lifetimes) → Given κs → Result κs → Exit κs → Type 0) : Type ℓ where
  pub lifetimes : Lifetimes
  pub given : Given lifetimes
  pub result : Result lifetimes
  pub exit : Exit lifetimes
  pub fits : fit lifetimes given result exit
