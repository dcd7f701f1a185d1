-- A refusal is no answer: neither an acceptance, nor that something was written. What isn't refused is its answer.
use Rattle.std.proofs.Common.{Result, Ok, Err}
use mathlib.Core.Path.{◌≡◌, refl}
use Rattle.outcome.specs.declared.refusals.Refusal.{Refusal}
use Rattle.outcome.specs.Checks.{accepted_then, outcome_of, answer_or, answer_then}
use Rattle.outcome.proofs.Never.{never}

pub refused_ok : {A B : Type 0} {r : Refusal} {b : B} → Err r ≡ Ok b → A
refused_ok e = never cc

-- what is not refused is its answer
pub answered : {A : Type 0} (other : A) (r : Result A Refusal) → outcome_of r ≡ Ok tt → r ≡ Ok (answer_or other r)
answered other (Ok a) e = refl
answered other (Err r) e = never cc

pub refused_is : {A : Type 0} (a : Result A Refusal) {r : Refusal} → outcome_of a ≡ Err r → a ≡ Err r
refused_is (Ok a) e = never cc
refused_is (Err x) e = cc

-- and has the outcome and the answer that it has
pub outcome_ok : {A : Type 0} {r : Result A Refusal} {a : A} → r ≡ Ok a → outcome_of r ≡ Ok tt
outcome_ok e = rw e

pub outcome_err : {A : Type 0} {a : Result A Refusal} {r : Refusal} → a ≡ Err r → outcome_of a ≡ Err r
outcome_err e = rw e

pub answer_ok : {A : Type 0} (other : A) {r : Result A Refusal} {a : A} → r ≡ Ok a → answer_or other r ≡ a
answer_ok other e = rw e

-- what comes of an answer comes behind its outcome
pub then_by_outcome : {A B : Type 0} (other : A) (a : Result A Refusal) (refused : Refusal → B) (next : A → B) → answer_then a refused next ≡ accepted_then (outcome_of a) refused (next (answer_or other a))
then_by_outcome other (Ok a) refused next = refl
then_by_outcome other (Err r) refused next = refl
