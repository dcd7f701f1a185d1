-- The model that any truth values say: an arrangement of the terms with a mask for each class, below 2 to the number of sets, whose bits are the truth values.
use Prim.Native.Nat.{ℕ, zero, suc, ◌+◌, ◌*◌, ◌/◌, ◌%◌, ◌^◌, ◌≤◌, ◌<◌, max}
use mathlib.Core.Path.{◌≡◌, refl, sym, ap, subst, ◌∙◌}
use mathlib.Core.Bool.{Bool, true, false, cond}
use mathlib.Core.List.{List, [], ◌∷◌, ◌++◌}
use mathlib.Core.Option.{Option, none, some}
use native.Mathlib.Omega.{arith}
use native.Mathlib.Decide.{dec_lt}
use borrow.Author.Tests.{eq-eqb}
use lib.Arith.{digits_div}
use lib.ListN.{length, length-append, get_or-append}
use lib.Seq.{get_or_at}
use Rattle.question.specs.Masks.{bit}
use Rattle.question.proofs.BitLaws.{bit_past, bit_below}
use Rattle.theory.specs.Arrangements.{MayFollow, IsArrangement, classes_after, classes, class_of}
use Rattle.theory.specs.Solutions.{Solution, with_masks, mask_of}
use Rattle.theory.proofs.ArrangementLaws.{classes_append, classes_few, class_below}
use Rattle.theory.proofs.SearchLaws.{SmallestIs, first_passing_is}
use Rattle.clauses.specs.Variables.{pair_variable, in_variable}
use Rattle.clauses.specs.Meaning.{Truth}
use Rattle.clauses.specs.Models.{mask_up_to, mask_said, joined_to, placed_by, placed_up_to, model_said}

-- one term more behind an arrangement
pub follow_more : (used : ℕ) (l : List ℕ) (k : ℕ) → MayFollow used l → k ≤ classes_after used l → MayFollow used (l ++ (k ∷ []))
follow_more used [] k f le = (le, tt)
follow_more used (c ∷ l) k f le = (f.0, follow_more (max used (suc c)) l k f.1 le)

pub classes_more : (l : List ℕ) (k : ℕ) → classes (l ++ (k ∷ [])) ≡ max (classes l) (suc k)
classes_more l k = classes_append 0 l (k ∷ [])

-- an arrangement of d terms, and a mask below the bound for each class
pub record IsPlaced (bound d : ℕ) (sol : Solution) : Type 0 where
  pub arranged : IsArrangement sol.arrangement
  pub long : length sol.arrangement ≡ d
  pub each_class : length sol.masks ≡ classes sol.arrangement
  pub masks_below : (k : ℕ) → k < classes sol.arrangement → mask_of sol.masks k < bound

-- the next term joins the class of an earlier one, or starts a class
module _ (bound d : ℕ) (l ms : List ℕ) (placed : IsPlaced bound d (with_masks l ms)) where
  pub joined_classes : (c : ℕ) → c < d → classes (l ++ (class_of l c ∷ [])) ≡ classes l
  joined_classes c lt = omega (arith, classes_more l (class_of l c), class_below 0 l c (omega (arith, placed.long)))

  pub started_classes : classes (l ++ (classes l ∷ [])) ≡ suc (classes l)
  started_classes = omega (arith, classes_more l (classes l))

  joined_placed : (c : ℕ) → c < d → IsPlaced bound (suc d) (with_masks (l ++ (class_of l c ∷ [])) ms)
  joined_placed c lt = record {
    arranged = follow_more 0 l (class_of l c) placed.arranged (omega (arith, class_below 0 l c (omega (arith, placed.long))));
    long = omega (arith, length-append l (class_of l c ∷ []), placed.long);
    each_class = placed.each_class ∙ sym (joined_classes c lt);
    masks_below = λ k h. placed.masks_below k (omega (arith, joined_classes c lt));
  }

  started_placed : (m : ℕ) → m < bound → IsPlaced bound (suc d) (with_masks (l ++ (classes l ∷ [])) (ms ++ (m ∷ [])))
  started_placed m low = record {
    arranged = follow_more 0 l (classes l) placed.arranged (omega arith);
    long = omega (arith, length-append l (classes l ∷ []), placed.long);
    each_class = omega (arith, length-append ms (m ∷ []), placed.each_class, started_classes);
    masks_below = λ k h. go k (dec_lt k (length ms)) (omega (arith, started_classes, placed.each_class));
  }
    where
      go : (k : ℕ) → Dec (k < length ms) → k ≤ length ms → mask_of (ms ++ (m ∷ [])) k < bound
      go k (yes lt) le = rw (get_or-append ms (m ∷ []) 0 k lt) (placed.masks_below k (omega (arith, placed.each_class)))
      go k (no ge) le = rw (get_or_at ms m [] 0 k (omega arith)) low

module _ (terms sets : ℕ) (truth : Truth) where
  -- masks: the bits are the truth values
  pub mask_below : (n c : ℕ) → mask_up_to terms sets truth n c < 2 ^ n
  unfolding mask_up_to
  mask_below zero c = omega arith
  mask_below (suc n) c = go (truth (in_variable terms sets c n)) (mask_below n c)
    where
      go : (b : Bool) → mask_up_to terms sets truth n c < 2 ^ n → mask_up_to terms sets truth n c + cond b (2 ^ n) 0 < 2 ^ suc n
      go true h = omega arith
      go false h = omega arith

  pub mask_bits : (n c x : ℕ) → x < n → bit (mask_up_to terms sets truth n c) x ≡ truth (in_variable terms sets c x)
  unfolding mask_up_to
  mask_bits zero c x lt = absurd (omega arith)
  mask_bits (suc n) c x lt = go (dec_lt x n) (mask_bits n c x)
    where
      m : ℕ
      m = mask_up_to terms sets truth n c

      zeroth : m + 0 ≡ m
      zeroth = omega arith

      -- the bit n is the last, and those before stay
      before : (b : Bool) → x < n → bit (m + cond b (2 ^ n) 0) x ≡ bit m x
      before true h = bit_below m n x h
      before false h = ap (λ i. bit i x) zeroth

      last : (b : Bool) → bit (m + cond b (2 ^ n) 0) n ≡ b
      last true =
          let e : m + 2 ^ n ≡ 1 * 2 ^ n + m = omega arith in
          eq-eqb ((m + 2 ^ n) / 2 ^ n % 2) 1 (ap (λ i. i / 2 ^ n % 2) e ∙ ap (λ i. i % 2) (digits_div 1 (mask_below n c)))
      last false = ap (λ i. bit i n) zeroth ∙ bit_past m n n (mask_below n c) (omega arith)

      go : Dec (x < n) → (x < n → bit m x ≡ truth (in_variable terms sets c x)) → bit (m + cond (truth (in_variable terms sets c n)) (2 ^ n) 0) x ≡ truth (in_variable terms sets c x)
      go (yes h) ih = before (truth (in_variable terms sets c n)) h ∙ ih h
      go (no h) ih = let e : x ≡ n = omega arith in rw e (last (truth (in_variable terms sets c n)))

  pub mask_said_below : (c : ℕ) → mask_said terms sets truth c < 2 ^ sets
  mask_said_below c = mask_below sets c

  pub mask_said_bits : (c x : ℕ) → x < sets → bit (mask_said terms sets truth c) x ≡ truth (in_variable terms sets c x)
  mask_said_bits c x lt = mask_bits sets c x lt

  -- the earlier term that the next one joins is the lowest whose pair variable is true, or there is none
  abbrev pub Joins : ℕ → Option ℕ → Type 0
  Joins d = SmallestIs d (λ c. truth (pair_variable terms sets c d))

  pub joins : (d : ℕ) → Joins d (joined_to terms sets truth d)
  joins d = first_passing_is d (λ c. truth (pair_variable terms sets c d))

  -- what holds before the first term, and of one term more whatever it joins, holds of the terms placed
  module _ (P : ℕ → Solution → Type 0) (first : P 0 (with_masks [] [])) (more : (d : ℕ) (sol : Solution) → P d sol → (length sol.arrangement ≡ d) × ((o : Option ℕ) → Joins d o → P (suc d) (placed_by terms sets truth sol o))) where
    pub placed_each : (d : ℕ) → P d (placed_up_to terms sets truth d)
    unfolding placed_up_to
    placed_each zero = first
    placed_each (suc d) =
        let sol : Solution = placed_up_to terms sets truth d in
        let m = more d sol (placed_each d) in
        subst (λ n. P (suc d) (placed_by terms sets truth sol (joined_to terms sets truth n))) (sym m.0) (m.1 (joined_to terms sets truth d) (joins d))

  pub placed_more : (d : ℕ) (sol : Solution) → IsPlaced (2 ^ sets) d sol → (o : Option ℕ) → Joins d o → IsPlaced (2 ^ sets) (suc d) (placed_by terms sets truth sol o)
  placed_more d sol placed none h = started_placed (2 ^ sets) d sol.arrangement sol.masks placed (mask_said terms sets truth (length sol.arrangement)) (mask_said_below (length sol.arrangement))
  placed_more d sol placed (some c) h = joined_placed (2 ^ sets) d sol.arrangement sol.masks placed c h.0

  pub placed_first : IsPlaced (2 ^ sets) 0 (with_masks [] [])
  placed_first = record { arranged = tt; long = refl; each_class = refl; masks_below = λ k h. absurd (omega arith) }

  pub placed : (d : ℕ) → IsPlaced (2 ^ sets) d (placed_up_to terms sets truth d)
  placed = placed_each (IsPlaced (2 ^ sets)) placed_first (λ d sol p. (p.long, placed_more d sol p))

  pub placed_arranged : (d : ℕ) → IsArrangement (placed_up_to terms sets truth d).arrangement
  placed_arranged d = (placed d).arranged

  pub placed_long : (d : ℕ) → length (placed_up_to terms sets truth d).arrangement ≡ d
  placed_long d = (placed d).long

  pub placed_each_class : (d : ℕ) → length (placed_up_to terms sets truth d).masks ≡ classes (placed_up_to terms sets truth d).arrangement
  placed_each_class d = (placed d).each_class

  pub placed_few : (d : ℕ) → classes (placed_up_to terms sets truth d).arrangement ≤ d
  placed_few d = omega (arith, classes_few 0 (placed_up_to terms sets truth d).arrangement (placed_arranged d), placed_long d)

  pub placed_below : (d k : ℕ) → k < classes (placed_up_to terms sets truth d).arrangement → mask_of (placed_up_to terms sets truth d).masks k < 2 ^ sets
  placed_below d = (placed d).masks_below

  -- one term more
  pub placed_next : (d : ℕ) → placed_up_to terms sets truth (suc d) ≡ placed_by terms sets truth (placed_up_to terms sets truth d) (joined_to terms sets truth d)
  unfolding placed_up_to
  placed_next d = ap (λ n. placed_by terms sets truth (placed_up_to terms sets truth d) (joined_to terms sets truth n)) (placed_long d)

  -- the model of all terms
  pub model_placed : IsPlaced (2 ^ sets) terms (model_said terms sets truth)
  model_placed = placed terms
