-- Truth values that satisfy the clauses say their own model: its classes are the pair variables, its masks the others.
use Prim.Native.Nat.{ℕ, suc, ◌^◌, ◌≤◌, ◌<◌}
use mathlib.Core.Path.{◌≡◌, refl, sym, ap, ◌∙◌}
use mathlib.Core.Bool.{true}
use mathlib.Core.List.{List, [], ◌∷◌, ◌++◌}
use mathlib.Core.Option.{Option, none, some}
use native.Mathlib.Omega.{arith}
use native.Mathlib.Decide.{dec_lt}
use borrow.Author.Tests.{eq-eqb, ne_eqb}
use lib.Dec.{eqb}
use lib.ListN.{length, get_or-append}
use lib.Seq.{get_or_at}
use Rattle.question.specs.Masks.{bit}
use Rattle.statement.proofs.TestLaws.{same_test}
use Rattle.theory.specs.Arrangements.{classes, class_of}
use Rattle.theory.specs.Solutions.{Solution, with_masks, mask_of}
use Rattle.theory.proofs.ArrangementLaws.{class_below}
use Rattle.clauses.specs.Variables.{pair_variable, in_variable}
use Rattle.clauses.specs.Meaning.{Truth}
use Rattle.clauses.specs.Models.{mask_said, placed_by, placed_up_to, model_said}
use Rattle.clauses.proofs.WalkLaws.{EachTriple, EachPair}
use Rattle.clauses.proofs.PlacedLaws.{IsPlaced, Joins, mask_said_bits, placed_first, placed_more, placed_each}
use Rattle.clauses.proofs.SaidLaws.{Holds, SaysUpTo, Says, eqb_swap, makes}

-- one term more: what is said of it beside each earlier term, and of its sets
module _ (terms sets : ℕ) (truth : Truth) (d : ℕ) (l ms more : List ℕ) (k : ℕ) (long : length l ≡ d) (says : SaysUpTo terms sets truth d (with_masks l ms))
    (pairs : (c : ℕ) → c < d → truth (pair_variable terms sets c d) ≡ eqb (class_of l c) k)
    (stay : (c : ℕ) → c < d → mask_of more (class_of l c) ≡ mask_of ms (class_of l c))
    (own : (x : ℕ) → x < sets → truth (in_variable terms sets d x) ≡ bit (mask_of more k) x) where
  before : (c : ℕ) → c < d → class_of (l ++ (k ∷ [])) c ≡ class_of l c
  before c lt = get_or-append l (k ∷ []) 0 c (omega arith)

  last : class_of (l ++ (k ∷ [])) d ≡ k
  last = get_or_at l k [] 0 d long

  says_more : SaysUpTo terms sets truth (suc d) (with_masks (l ++ (k ∷ [])) more)
  says_more = record { pair_is = λ b c bc h. pair b c bc h (dec_lt c d); in_is = λ c x h xs. member c x h xs (dec_lt c d) }
    where
      pair : (b c : ℕ) → b < c → c < suc d → Dec (c < d) → truth (pair_variable terms sets b c) ≡ eqb (class_of (l ++ (k ∷ [])) b) (class_of (l ++ (k ∷ [])) c)
      pair b c bc h (yes lt) = rw (before b (omega arith), before c lt) (says.pair_is b c bc lt)
      pair b c bc h (no ge) = let e : c ≡ d = omega arith in rw (e, before b (omega arith), last) (pairs b (omega arith))

      member : (c x : ℕ) → c < suc d → x < sets → Dec (c < d) → truth (in_variable terms sets c x) ≡ bit (mask_of more (class_of (l ++ (k ∷ [])) c)) x
      member c x h xs (yes lt) = rw (before c lt, stay c lt) (says.in_is c x lt xs)
      member c x h xs (no ge) = let e : c ≡ d = omega arith in rw (e, last) (own x xs)

module _ (terms sets : ℕ) (truth : Truth) (triples : EachTriple (Holds truth) terms sets) (pairs : EachPair (Holds truth) terms sets) where
  abbrev pv : ℕ → ℕ → ℕ
  pv = pair_variable terms sets

  -- where d is the same as c, it is the same as a lower b exactly if c is
  with_higher : (b c d : ℕ) → b < c → c < d → d < terms → truth (pv c d) ≡ true → truth (pv b d) ≡ truth (pv b c)
  with_higher b c d bc cd dt e =
      let h = triples b c d bc cd dt in
      same_test (truth (pv b d)) (truth (pv b c))
      (λ f. makes (truth (pv b d)) (truth (pv c d)) (truth (pv b c)) h.1.1.0 f e)
      (λ f. makes (truth (pv b c)) (truth (pv c d)) (truth (pv b d)) h.0 f e)

  -- where d is the same as b, it is the same as a higher c exactly if b is
  with_lower : (b c d : ℕ) → b < c → c < d → d < terms → truth (pv b d) ≡ true → truth (pv c d) ≡ truth (pv b c)
  with_lower b c d bc cd dt e =
      let h = triples b c d bc cd dt in
      same_test (truth (pv c d)) (truth (pv b c))
      (λ f. makes (truth (pv b d)) (truth (pv c d)) (truth (pv b c)) h.1.1.0 e f)
      (λ f. makes (truth (pv b c)) (truth (pv b d)) (truth (pv c d)) h.1.0 f e)

  -- terms that are the same are in the same sets
  agree : (c d x : ℕ) → c < d → d < terms → x < sets → truth (pv c d) ≡ true → truth (in_variable terms sets d x) ≡ truth (in_variable terms sets c x)
  agree c d x cd dt xs e =
      let h = pairs c d x cd dt xs in
      let p = truth (in_variable terms sets c x) in
      let q = truth (in_variable terms sets d x) in
      same_test q p (λ f. makes (truth (pv c d)) q p h.1.0 e f) (λ f. makes (truth (pv c d)) p q h.0 e f)

  module _ (d : ℕ) (dt : d < terms) (sol : Solution) (is : IsPlaced (2 ^ sets) d sol) (says : SaysUpTo terms sets truth d sol) where
    abbrev class : ℕ → ℕ
    class c = class_of sol.arrangement c

    -- the new term beside each earlier one, where it joins the class of j
    beside : (j : ℕ) → j < d → truth (pv j d) ≡ true → (c : ℕ) → c < d → truth (pv c d) ≡ eqb (class c) (class j)
    beside j jd e c cd = go (dec_lt c j) (dec_lt j c)
      where
        go : Dec (c < j) → Dec (j < c) → truth (pv c d) ≡ eqb (class c) (class j)
        go (yes lt) h = with_higher c j d lt jd dt e ∙ says.pair_is c j lt jd
        go (no ge) (yes lt) = with_lower j c d lt cd dt e ∙ says.pair_is j c lt cd ∙ eqb_swap (class j) (class c)
        go (no ge) (no le) = let same : c ≡ j = omega arith in ap (λ i. truth (pv i d)) same ∙ e ∙ sym (eq-eqb (class c) (class j) (ap class same))

    said_next : (o : Option ℕ) → Joins terms sets truth d o → SaysUpTo terms sets truth (suc d) (placed_by terms sets truth sol o)
    said_next (some j) h =
        says_more terms sets truth d sol.arrangement sol.masks sol.masks (class j) is.long says (beside j h.0 h.1) (λ c lt. refl)
        (λ x xs. agree j d x h.0 dt xs h.1 ∙ says.in_is j x h.0 xs)
    said_next none h =
        says_more terms sets truth d sol.arrangement sol.masks (sol.masks ++ (new ∷ [])) (classes sol.arrangement) is.long says
        (λ c lt. h c lt ∙ sym (ne_eqb (class c) (classes sol.arrangement) (λ e. omega (arith, below c lt, e))))
        (λ c lt. get_or-append sol.masks (new ∷ []) 0 (class c) (omega (arith, below c lt, is.each_class))) own
      where
        new : ℕ
        new = mask_said terms sets truth (length sol.arrangement)

        below : (c : ℕ) → c < d → class c < classes sol.arrangement
        below c lt = class_below 0 sol.arrangement c (omega (arith, is.long))

        own : (x : ℕ) → x < sets → truth (in_variable terms sets d x) ≡ bit (mask_of (sol.masks ++ (new ∷ [])) (classes sol.arrangement)) x
        own x xs = rw (get_or_at sol.masks new [] 0 (classes sol.arrangement) is.each_class, is.long) (sym (mask_said_bits terms sets truth d x xs))

  -- of the terms placed
  abbrev Said : ℕ → Solution → Type 0
  Said d sol = IsPlaced (2 ^ sets) d sol × (d ≤ terms → SaysUpTo terms sets truth d sol)

  said : (d : ℕ) → Said d (placed_up_to terms sets truth d)
  said = placed_each terms sets truth Said (placed_first terms sets truth, λ h. record { pair_is = λ b c bc h. absurd (omega arith); in_is = λ c x h xs. absurd (omega arith) })
      (λ d sol h. (h.0.long, λ o j. (placed_more terms sets truth d sol h.0 o j, λ le. said_next d le sol h.0 (h.1 (omega arith)) o j)))

  pub model_said_lem : Says terms sets truth (model_said terms sets truth)
  model_said_lem = (said terms).1 (omega arith)
