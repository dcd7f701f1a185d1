-- The answer of a check, and what follows it.
use Rattle.std.specs.Prelude.{⊤, Result, Ok, Err}
use Rattle.outcome.specs.declared.refusals.Refusal.{Refusal}

-- what a check answers: nothing more, or a refusal
abbrev pub Check : Type 0
Check = Result ⊤ Refusal

-- what comes where the check accepts, else what its refusal makes
abbrev pub accepted_then : {A : Type 0} → Check → (Refusal → A) → A → A
accepted_then (Ok tt) refused next = next
accepted_then (Err r) refused next = refused r

-- what was asked for left out: is there an answer, or which refusal
abbrev pub outcome_of : {A : Type 0} → Result A Refusal → Check
outcome_of (Ok a) = Ok tt
outcome_of (Err r) = Err r

-- what was asked for, and something else in its place where it is refused
abbrev pub answer_or : {A : Type 0} → A → Result A Refusal → A
answer_or other (Ok a) = a
answer_or other (Err r) = other

-- what comes of what was asked for, behind its refusal
abbrev pub answer_then : {A B : Type 0} → Result A Refusal → (Refusal → B) → (A → B) → B
answer_then (Ok a) refused next = next a
answer_then (Err r) refused next = refused r
