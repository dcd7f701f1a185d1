-- One step from a mask to the next worth a trial: the bits that decide are carried upward from place to place, until one of them can be set.
use Prim.Native.Nat.{ℕ, ◌+◌, ◌^◌, ◌≤◌, ◌<◌}
use mathlib.Core.Path.{◌≡◌, ap, ◌∙◌}
use mathlib.Core.Bool.{Bool, true, false}
use mathlib.Core.List.{List}
use native.Mathlib.Omega.{arith}
use native.Mathlib.Numerals.{add-one}
use lib.Bits.{bit_or}
use lib.ListN.{length, get_or, set, length-set}
use lib.Seq.{get_or-set_same, get_or-set_other}
use Rattle.question.specs.Masks.{bit}
use Rattle.theory.proofs.DigitLaws.{digit}
use Rattle.std.specs.Prelude.{Some, None}
use Rattle.mask.specs.Reasons.{Decided, Reasons, raised}
use Rattle.mask.specs.Trials.{IsOfNoUse, reason_at, HasReasons, IsDecided, TrialIs}
use Rattle.mask.proofs.ReasonLaws.{decided_pass, decided_resolve, reasons_next, decided_over}
use Rattle.question.proofs.BitLaws.{or_left, or_right}
use Rattle.mask.proofs.BitLaws.{bit_set, bit_clear}

base : 1 < 2
base = omega arith

module _ (m : ℕ) (why : List ℕ) (decided : ℕ) where
  -- from the bits that decide, and the reasons of the places below q, the bits of c from q on are left, and they decide too
  abbrev pub Carried : ℕ → ℕ → Type 0
  Carried q c = (meets : ℕ → Bool) → HasReasons meets why m → IsDecided meets decided m → Decided 2 (IsOfNoUse meets) q (bit c) m

  pub carried_pass : (q c : ℕ) → bit c q ≡ false → Carried q c → Carried (q + 1) c
  carried_pass q c e h meets r d = rw (add-one q) (decided_pass 2 base (IsOfNoUse meets) q (bit c) m e (h meets r d))

  pub carried_resolve : (q c : ℕ) → bit m q ≡ true → Carried q c → Carried (q + 1) (bit_or c (get_or why q 0))
  carried_resolve q c e h meets r d =
      let new = bit_or c (get_or why q 0) in
      rw (add-one q) (decided_resolve 2 base (IsOfNoUse meets) q (bit c) (bit new) (reason_at why) m (bit_set m q e) (h meets r d) r.1 (or_left c (get_or why q 0)) (or_right c (get_or why q 0)))

  module _ (sets : ℕ) (hm : m < 2 ^ sets) where
    -- the first of them that m lacks is set, and those above it are its reason
    pub trial_next : (q c : ℕ) → sets ≤ 32 → q < sets → bit m q ≡ false → Carried q c → TrialIs sets m decided why (set why q c) (Some q)
    trial_next q c few hq e h = (hq, e, λ meets r d. (simp length-set r.0, reasons meets r d))
      where
        room : digit 2 m q + 1 < 2
        room = bit_clear m q e

        here : length why ≡ 32 → (x : ℕ) → bit c x ≡ true → reason_at (set why q c) q x ≡ true
        here l x y = ap (λ v. bit v x) (get_or-set_same why q c 0 (omega arith)) ∙ y

        none : 0 < digit 2 m q → (x : ℕ) → reason_at why q x ≡ true → reason_at (set why q c) q x ≡ true
        none p x y = absurd (omega (arith, room))

        kept : (p : ℕ) → q < p → (x : ℕ) → reason_at why p x ≡ true → reason_at (set why q c) p x ≡ true
        kept p lt x y = ap (λ v. bit v x) (get_or-set_other why q p c 0 (omega arith)) ∙ y

        reasons : (meets : ℕ → Bool) → HasReasons meets why m → IsDecided meets decided m → Reasons 2 (IsOfNoUse meets) (reason_at (set why q c)) (raised 2 q m)
        reasons meets r d = reasons_next 2 base (IsOfNoUse meets) q (bit c) (reason_at why) (reason_at (set why q c)) m room (h meets r d) r.1 (here r.0) none kept

    -- no place is left
    pub trial_over : (q c : ℕ) → sets ≤ q → Carried q c → TrialIs sets m decided why why None
    trial_over q c hq h meets r d w = decided_over 2 base (IsOfNoUse meets) sets q (bit c) m hq hm (h meets r d) w
