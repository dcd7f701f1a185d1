-- Fits or 10, and what the answer of a writer tells: where it counts, all was written and the check had accepted.
use Rattle.std.proofs.Common.{Ok, Err}
use Prim.Native.Nat.{ℕ, ◌≤◌, ◌<◌}
use mathlib.Core.Path.{◌≡◌, refl, ap, ap₂, ◌∙◌}
use mathlib.Core.Bool.{Bool, true, false, cond}
use mathlib.Core.List.{List}
use mathlib.Core.Logic.{◌⊎◌, inl, inr}
use native.Mathlib.Omega.{arith}
use borrow.Author.Tests.{lt-ltb, le-ltb, ltb-true, ltb-false}
use lib.Dec.{ltb}
use lib.ListN.{length, take}
use lib.Seq.{take-append_seam}
use Rattle.outcome.specs.declared.refusals.Refusal.{Refusal}
use Rattle.outcome.specs.Checks.{Check}
use Rattle.outcome.specs.Refusals.{refusal, buffer_too_short}
use Rattle.outcome.specs.Writes.{over, fitted, fitted_over, checked_then, checked_over}
use Rattle.outcome.proofs.Never.{never}
use Rattle.outcome.proofs.OverLaws.{over_length}

module _ (written old : List ℕ) where
  pub fits : length written ≤ length old → (fitted written (length old) ≡ Ok (length written)) × (fitted_over written old ≡ over written old)
  fits h = rw (le-ltb (length old) (length written) h) (refl, refl)

  pub too_short : length old < length written → (fitted written (length old) ≡ Err (refusal buffer_too_short 0)) × (fitted_over written old ≡ old)
  too_short h = rw (lt-ltb (length old) (length written) h) (refl, refl)

module _ (check : Check) (written : List ℕ) (room : ℕ) where
  pub counted : (n : ℕ) → checked_then check (fitted written room) ≡ Ok n → (check ≡ Ok tt) × (n ≡ length written) × (length written ≤ room)
  counted n e = go check (ltb room (length written)) refl refl e
    where
      go : (c : Check) (b : Bool) → check ≡ c → ltb room (length written) ≡ b → checked_then c (cond b (Err (refusal buffer_too_short 0)) (Ok (length written))) ≡ Ok n →
          (check ≡ Ok tt) × (n ≡ length written) × (length written ≤ room)
      go (Ok tt) true p q e = never cc
      go (Ok tt) false p q e = (p, cc, ltb-false room (length written) q)
      go (Err r) b p q e = never cc

  -- a refusal is the check's, or 10
  pub not_written : (r : Refusal) → checked_then check (fitted written room) ≡ Err r → (check ≡ Err r) ⊎ ((check ≡ Ok tt) × (room < length written) × (r ≡ refusal buffer_too_short 0))
  not_written r e = go check (ltb room (length written)) refl refl e
    where
      go : (c : Check) (b : Bool) → check ≡ c → ltb room (length written) ≡ b → checked_then c (cond b (Err (refusal buffer_too_short 0)) (Ok (length written))) ≡ Err r →
          (check ≡ Err r) ⊎ ((check ≡ Ok tt) × (room < length written) × (r ≡ refusal buffer_too_short 0))
      go (Ok tt) true p q e = inr (p, ltb-true room (length written) q, cc)
      go (Ok tt) false p q e = never cc
      go (Err s) b p q e = let same : s ≡ r = cc in inl (rw (← same) p)

-- a refused call leaves the buffer as it was
pub refused_keeps : (check : Check) (written old : List ℕ) (r : Refusal) → checked_then check (fitted written (length old)) ≡ Err r → checked_over check (fitted_over written old) old ≡ old
refused_keeps check written old r e = go check (ltb (length old) (length written)) e
  where
    go : (c : Check) (b : Bool) → checked_then c (cond b (Err (refusal buffer_too_short 0)) (Ok (length written))) ≡ Err r → checked_over c (cond b old (over written old)) old ≡ old
    go (Ok tt) true e = refl
    go (Ok tt) false e = never cc
    go (Err s) b e = refl

-- what was written stands at the front of the buffer
pub at_front : (written old new : List ℕ) (n : ℕ) → fitted written (length old) ≡ Ok n → new ≡ fitted_over written old → (n ≤ length new) × (take n new ≡ written)
at_front written old new n e b =
    let c = counted (Ok tt) written (length old) n e in
    let is : new ≡ over written old = b ∙ (fits written old c.2).1 in
    (omega (arith, c.1, c.2, ap length is, over_length written old c.2), ap₂ take c.1 is ∙ take-append_seam written _)
