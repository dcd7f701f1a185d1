-- A term put into a part of a class, or into the sets that stand for classes, one after another: what is known when each way was tried.
use Prim.Native.Nat.{ℕ, ◌+◌, ◌^◌, ◌≤◌, ◌<◌}
use mathlib.Core.Path.{◌≡◌, refl, ap, subst, ◌∙◌}
use mathlib.Core.Bool.{Bool, true, false}
use mathlib.Core.List.{List}
use mathlib.Core.Logic.{◌≢◌, ◌⊎◌, ⊎_elim}
use mathlib.Core.Option.{none}
use native.Mathlib.Omega.{arith}
use native.Mathlib.Decide.{dec_lt}
use lib.Bits.{bit_or}
use lib.Dec.{T}
use lib.ListN.{length, get_or, set}
use Rattle.statement.proofs.TestLaws.{T_true}
use Rattle.theory.specs.Arrangements.{class_of, in_class}
use Rattle.theory.specs.Rules.{Row}
use Rattle.theory.specs.FirstModels.{model_of}
use Rattle.cut.specs.Standings.{Stand, NonePart, NoneStands}
use Rattle.cut.proofs.PartLaws.{part_joined, part_without}
use Rattle.cut.proofs.StandingLaws.{one_is, joined_part, stand_joined, alone_part, stand_new}

module _ {Test : Type 0} (fits : ℕ → (ℕ → Bool) → Test → Bool) where
  module _ (bound : ℕ) (rows : List (Row Test)) (known more : ℕ → Bool) (t : ℕ) (only : (d : ℕ) → T (more d) → T (known d) ⊎ (d ≡ t)) where
    -- neither with t nor without
    pub neither : (set terms : ℕ) → NonePart fits bound rows more set terms → NonePart fits bound rows more (bit_or set (2 ^ t)) terms → NonePart fits bound rows known set terms
    neither set terms without with l j long here = go (in_class l j t) refl
      where
        go : (b : Bool) → in_class l j t ≡ b → model_of fits bound rows l ≡ none
        go true e = with l j long (part_joined here t more only (T_true e))
        go false e = without l j long (part_without here t more only e)

  module _ (bound : ℕ) (rows : List (Row Test)) (known : ℕ → Bool) (groups : List ℕ) (used terms t : ℕ) where
    -- no arrangement of so many terms with t in a class for which one of the first n sets stands has a model
    abbrev pub Tried : ℕ → Type 0
    Tried n = (l : List ℕ) (at : ℕ → ℕ) → length l ≡ terms → Stand known groups used l at → (k : ℕ) → k < n → at k ≡ class_of l t → model_of fits bound rows l ≡ none

    pub tried_none : Tried 0
    tried_none l at long here k lt is = absurd (omega arith)

    module _ (more : ℕ → Bool) (only : (d : ℕ) → T (more d) → T (known d) ⊎ (d ≡ t)) where
      module _ (n : ℕ) (lt : n < used) (room : n < length groups) (before : Tried n) where
        one_more : ((l : List ℕ) (at : ℕ → ℕ) → length l ≡ terms → Stand known groups used l at → at n ≡ class_of l t → model_of fits bound rows l ≡ none) → Tried (n + 1)
        one_more this l at long here k h is = go (dec_lt k n)
          where
            go : Dec (k < n) → model_of fits bound rows l ≡ none
            go (yes p) = before l at long here k p is
            go (no p) = let e : n ≡ k = omega arith in this l at long here (ap at e ∙ is)

        -- with t in that set nothing fits
        pub tried_stuck : (next : List ℕ) → next ≡ set groups n (bit_or (get_or groups n 0) (2 ^ t)) → NoneStands fits bound rows more next used terms → Tried (n + 1)
        tried_stuck next e stuck = one_more (λ l at long here is. subst (λ g. NoneStands fits bound rows more g used terms) e stuck l at long (stand_joined here t more only n lt room is))

        -- with t that set is a part of no class
        pub tried_lacks : NonePart fits bound rows more (bit_or (get_or groups n 0) (2 ^ t)) terms → Tried (n + 1)
        tried_lacks lacks = one_more (λ l at long here is. lacks l (at n) long (joined_part here t more only n lt room is))

      module _ (n : ℕ) (all : used ≤ n) (few : t < terms) (before : Tried n) where
        each_tried : ((l : List ℕ) (at : ℕ → ℕ) → length l ≡ terms → Stand known groups used l at → ((k : ℕ) → k < used → at k ≢ class_of l t) → model_of fits bound rows l ≡ none) → NoneStands fits bound rows known groups used terms
        each_tried out l at long here = ⊎_elim (λ w. let lt = w.1 in before l at long here w.0 (omega arith) w.2) (out l at long here) (one_is at (class_of l t) used)

        -- alone it is a part of no class
        pub tried_alone : NonePart fits bound rows more (2 ^ t) terms → NoneStands fits bound rows known groups used terms
        tried_alone lacks = each_tried (λ l at long here out. lacks l (class_of l t) long (alone_part here t more only out (omega arith)))

        -- with a new set for t nothing fits
        pub tried_new : used < length groups → (next : List ℕ) → next ≡ set groups used (2 ^ t) → NoneStands fits bound rows more next (used + 1) terms → NoneStands fits bound rows known groups used terms
        tried_new room next e stuck = each_tried (λ l at long here out. subst (λ g. NoneStands fits bound rows more g (used + 1) terms) e stuck l _ long (stand_new here t more only out (omega arith) room))
