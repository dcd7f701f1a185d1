-- Demand 3, of what `reduce` writes: a question is possible with a pattern of equal names exactly if the rows in the buffer have a solution with that pattern.
-- The written rows say the row list again, of which the theory shows it.
use Rattle.std.proofs.Common.{Ok}
use Prim.Native.Nat.{ℕ, ◌≤◌}
use mathlib.Core.Path.{◌≡◌, sym, ap, subst, ◌∙◌}
use mathlib.Core.Bool.{Bool}
use mathlib.Core.List.{List, map}
use mathlib.Core.Logic.{◌↔◌}
use native.Mathlib.Omega.{arith}
use lib.ListN.{length, take}
use Rattle.question.specs.declared.questions.Question.{Question}
use Rattle.question.specs.Questions.{terms_of}
use Rattle.question.specs.Checks.{checked, IsAccepted}
use Rattle.question.proofs.AcceptedLaws.{accepted}
use Rattle.theory.specs.Arrangements.{class_of}
use Rattle.theory.specs.Patterns.{HasPattern}
use Rattle.theory.specs.Solutions.{Solution, IsSolution}
use Rattle.theory.specs.Sets.{fits}
use Rattle.theory.specs.Answers.{mask_bound}
use Rattle.theory.specs.Possible.{Possible}
use Rattle.theory.proofs.DemandThree.{demand_three}
use Rattle.outcome.specs.Calls.{Call}
use Rattle.row.specs.Rows.{row_of}
use Rattle.reduction.specs.Reducing.{packed_rows, reduced, reduced_over}
use Rattle.reduction.proofs.TableRows.{whole, table_stands, as_table}
use Rattle.outcome.proofs.WriteLaws.{counted}
use Rattle.reduction.proofs.ReducedRows.{rows_say}
use Rattle.reduction.proofs.reducing.reduce.Reads as reduce

-- some packed rows have a solution with the pattern, over the question's terms and with masks below 2 to the S
pub record RowsSolvable (q : Question) (rows : List ℕ) (pattern : ℕ → ℕ → Bool) : Type 0 where
  pub by : Solution
  pub solution : IsSolution fits (terms_of q) (mask_bound q) (map row_of rows) by
  pub patterned : HasPattern q.elements (class_of by.arrangement) pattern

-- the packed rows are solvable with a pattern exactly if some assignment with that pattern meets the statements
pub packed_demand_three : (q : Question) → IsAccepted q → (pattern : ℕ → ℕ → Bool) → Possible q pattern ↔ RowsSolvable q (packed_rows q) pattern
packed_demand_three q is pattern = (
  λ p. let s = (demand_three q is pattern).0 p in
      record { by = s.by; solution = subst (λ l. IsSolution fits (terms_of q) (mask_bound q) l s.by) (sym (rows_say q is)) s.solution; patterned = s.patterned },
  λ s. (demand_three q is pattern).1
      (record { by = s.by; solution = subst (λ l. IsSolution fits (terms_of q) (mask_bound q) l s.by) (rows_say q is) s.solution; patterned = s.patterned }),
)

-- rows are told of an accepted question alone, all of them, and where there is room
pub rows_told : (q : Question) (room n : ℕ) → reduced q room ≡ Ok n → IsAccepted q × (n ≡ length (packed_rows q)) × (n ≤ room)
unfolding reduced
rows_told q room n e = let c = counted (checked q) (packed_rows q) room n e in ((accepted q).0 c.0, c.1, omega (arith, c.1, c.2))

-- they stand at the front of the buffer
pub rows_stand : (q : Question) (old new : List ℕ) (n : ℕ) → new ≡ reduced_over q old → reduced q (length old) ≡ Ok n → (n ≤ length new) × (take n new ≡ packed_rows q)
rows_stand q old new n b e =
    let same = as_table q old ((accepted q).1 (rows_told q (length old) n e).0) in
    table_stands q old new n (b ∙ same.1) (sym same.0 ∙ e)

-- a call of `reduce`
module _ (c : Call reduce.Learnt) where
  -- the question, and the buffer before and after the call
  abbrev question : Question
  question = c.given.0

  abbrev old : List ℕ
  old = c.given.1.0.now

  abbrev new : List ℕ
  new = c.exit.1.0.now

  -- it gives back n rows exactly if the question is accepted, has n rows, and the buffer has room for them: else it is refused
  pub reduces_exactly : (n : ℕ) → (c.result ≡ Ok n) ↔ (IsAccepted question × (n ≡ length (packed_rows question)) × (n ≤ length old))
  reduces_exactly n = (
    λ e. rows_told question (length old) n (sym c.fits.0 ∙ e),
    λ t. c.fits.0 ∙ (as_table question old ((accepted question).1 t.0)).0 ∙ (whole question old t.0.few_terms (omega (arith, t.1, t.2))).0 ∙ ap Ok (sym t.1),
  )

  -- the first n numbers of its buffer, as rows, are solvable with a pattern exactly if some assignment with that pattern meets the statements
  pub reduced_demand_three : (n : ℕ) → c.result ≡ Ok n → (pattern : ℕ → ℕ → Bool) → Possible question pattern ↔ RowsSolvable question (take n new) pattern
  reduced_demand_three n e pattern =
      rw (rows_stand question old new n c.fits.1 (sym c.fits.0 ∙ e)).1 (packed_demand_three question ((reduces_exactly n).0 e).0 pattern)
