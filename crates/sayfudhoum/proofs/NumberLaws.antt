-- The number of an outcome, by its case.
use Rattle.solved.specs.Solved.{Solved}
use Rattle.std.proofs.Common.{Ok, Err, Some, Result}
use Prim.Native.Nat.{ℕ, ◌≤◌, ◌<◌}
use mathlib.Core.Path.{◌≡◌, subst}
use native.Mathlib.Omega.{arith}
use Rattle.outcome.specs.declared.refusals.Refusal.{Refusal}
use Rattle.answer.specs.declared.answers.Answer.{Answer}
use Rattle.outcome.specs.declared.verdicts.Verdict.{Verdict}
use Rattle.outcome.specs.declared.verdicts.Verdict.TheVariants.{Possible, Impossible}
use Rattle.outcome.specs.Verdicts.{verdict_byte}
use Rattle.outcome.specs.Writes.{Written}
use Rattle.outcome.specs.Checks.{Check}
use Rattle.clash.specs.declared.files.ClashCounts.{ClashCounts}
use Rattle.clash.specs.Files.{ClashWritten}
use Rattle.question.specs.Limits.{max_statements}
use Rattle.judge.specs.Judgements.{Judgement}
use Rattle.sayfudhoum.specs.Numbers.{max_place, max_count, IsSmall, IsShort, IsFew, IsBrief, IsIndexed}

module _ (w : Written) where
  pub written_count : (n : ℕ) → w ≡ Ok n → IsShort w → n ≤ max_count
  written_count n e h = subst IsShort e h

  pub written_place : (r : Refusal) → w ≡ Err r → IsShort w → r.place ≤ max_place
  written_place r e h = subst IsShort e h

module _ (d : Result Answer Refusal) where
  pub decision_place : (r : Refusal) → d ≡ Err r → IsSmall d → r.place ≤ max_place
  decision_place r e h = subst IsSmall e h

module _ (w : ClashWritten) where
  pub clash_counts : (n : ClashCounts) → w ≡ Ok n → IsFew w → (n.part ≤ max_place) × (n.indexes ≤ max_statements) × (n.answer ≤ max_place)
  clash_counts n e h = subst IsFew e h

  pub clash_place : (r : Refusal) → w ≡ Err r → IsFew w → r.place ≤ max_place
  clash_place r e h = subst IsFew e h

pub solved_count : (w : Solved) (n : ℕ) → w ≡ Ok (Some n) → IsBrief w → n ≤ max_place
solved_count w n e h = subst IsBrief e h

module _ (j : Judgement) where
  pub judgement_index : (i : ℕ) → j ≡ Ok (Some i) → IsIndexed j → i < max_statements
  judgement_index i e h = subst IsIndexed e h

  pub judgement_place : (r : Refusal) → j ≡ Err r → IsIndexed j → r.place ≤ max_place
  judgement_place r e h = subst IsIndexed e h

-- a verdict is one bit
pub verdict_small : (v : Verdict) → verdict_byte v ≤ 1
verdict_small Possible = omega arith
verdict_small Impossible = omega arith
