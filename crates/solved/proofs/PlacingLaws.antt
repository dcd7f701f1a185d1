-- One term more in the arrays of the model that values say: it starts a class exactly if its class number is the number of classes before it.
use Prim.Native.Nat.{ℕ, suc, ◌+◌, ◌^◌, ◌≤◌, ◌<◌}
use mathlib.Core.Path.{◌≡◌, refl, sym, ap, ap₂, ◌∙◌}
use mathlib.Core.List.{List, [], ◌∷◌, ◌++◌}
use mathlib.Core.Option.{Option, none, some}
use native.Mathlib.Omega.{arith}
use lib.ListN.{length, get_or, set, replicate, get_or-append}
use Rattle.outcome.specs.Padded.{padded}
use Rattle.outcome.proofs.PaddedLaws.{padded_none, padded_snoc}
use Rattle.question.specs.Limits.{max_terms}
use Rattle.theory.specs.Arrangements.{classes, class_of}
use Rattle.theory.specs.Solutions.{Solution, with_masks}
use Rattle.theory.proofs.ArrangementLaws.{class_below}
use Rattle.clauses.specs.Meaning.{Truth}
use Rattle.clauses.specs.Models.{mask_said, joined_to, placed_by, placed_up_to}
use Rattle.clauses.proofs.PlacedLaws.{IsPlaced, Joins, joined_classes, started_classes, joins, placed, placed_few, placed_next}
use Rattle.solved.specs.declared.models.SaidModel.{SaidModel}
use Rattle.solved.specs.Said.{class_by, said_as}

-- the arrays as they stand
abbrev pub arrays : ℕ → List ℕ → List ℕ → SaidModel
arrays n numbers masks = record { classes = n; arrangement = numbers; masks = masks }

pub no_terms : (terms sets : ℕ) (truth : Truth) → arrays 0 (replicate max_terms 0) (replicate max_terms 0) ≡ said_as (placed_up_to terms sets truth 0)
unfolding said_as placed_up_to
no_terms terms sets truth = ap (λ l. arrays 0 l l) (padded_none max_terms)

same_arrays : {n k : ℕ} {l l' ms ms' : List ℕ} → n ≡ k → l ≡ l' → ms ≡ ms' → arrays n l ms ≡ arrays k l' ms'
same_arrays {n} {k} {l} {l'} {ms} {ms'} e f g = ap (λ i. arrays i l ms) e ∙ ap (λ i. arrays k i ms) f ∙ ap (λ i. arrays k l' i) g

-- a list of which one entry more is stored in its array
store : (l : List ℕ) (i v : ℕ) → length l ≡ i → i < max_terms → set (padded max_terms l) i v ≡ padded max_terms (l ++ (v ∷ []))
store l i v e h = ap (λ n. set (padded max_terms l) n v) (sym e) ∙ padded_snoc max_terms l v (omega arith)

module _ (bound d : ℕ) (few : d < max_terms) (l ms : List ℕ) (ok : IsPlaced bound d (with_masks l ms)) where
  started : (mask : ℕ) → classes l ≤ d → arrays (classes l + 1) (set (padded max_terms l) d (classes l)) (set (padded max_terms ms) (classes l) mask) ≡ said_as (with_masks (l ++ (classes l ∷ [])) (ms ++ (mask ∷ [])))
  unfolding said_as
  started mask h =
      same_arrays
      (let e : classes l + 1 ≡ classes (l ++ (classes l ∷ [])) = omega (arith, started_classes bound d l ms ok) in e)
      (store l d (classes l) ok.long few)
      (store ms (classes l) mask ok.each_class (omega arith))

  joined : (c : ℕ) → c < d → arrays (classes l) (set (padded max_terms l) d (class_of l c)) (padded max_terms ms) ≡ said_as (with_masks (l ++ (class_of l c ∷ [])) ms)
  unfolding said_as
  joined c lt = same_arrays (sym (joined_classes bound d l ms ok c lt)) (store l d (class_of l c) ok.long few) refl

  -- the class number of an earlier term in the array
  earlier : (c : ℕ) → c < d → get_or (padded max_terms l) c 0 ≡ class_of l c
  earlier c lt = get_or-append l _ 0 c (omega (arith, ok.long))

  earlier_below : (c : ℕ) → c < d → class_of l c < classes l
  earlier_below c lt = class_below 0 l c (omega (arith, ok.long))

-- the term d, by its class number
module _ (terms sets : ℕ) (truth : Truth) (d : ℕ) (few : d < max_terms) (m : SaidModel) (is : m ≡ said_as (placed_up_to terms sets truth d)) where
  abbrev so_far : Solution
  so_far = placed_up_to terms sets truth d

  abbrev class : ℕ
  class = class_by m.arrangement m.classes (joined_to terms 0 truth d)

  classes_are : m.classes ≡ classes so_far.arrangement
  unfolding said_as
  classes_are = ap (λ x. x.classes) is

  numbers_are : m.arrangement ≡ padded max_terms so_far.arrangement
  unfolding said_as
  numbers_are = ap (λ x. x.arrangement) is

  masks_are : m.masks ≡ padded max_terms so_far.masks
  unfolding said_as
  masks_are = ap (λ x. x.masks) is

  ok : IsPlaced (2 ^ sets) d so_far
  ok = placed terms sets truth d

  -- there is room for one class more
  pub few_classes : m.classes ≤ d
  few_classes = omega (arith, classes_are, placed_few terms sets truth d)

  starts : class ≡ m.classes → arrays (m.classes + 1) (set m.arrangement d class) (set m.masks m.classes (mask_said terms sets truth d)) ≡ said_as (placed_up_to terms sets truth (suc d))
  starts e = go (joined_to terms sets truth d) refl (joins terms sets truth d)
    where
      go : (o : Option ℕ) → joined_to terms sets truth d ≡ o → Joins terms sets truth d o →
          arrays (m.classes + 1) (set m.arrangement d class) (set m.masks m.classes (mask_said terms sets truth d)) ≡ said_as (placed_up_to terms sets truth (suc d))
      go none p j =
          rw (e, numbers_are, masks_are, classes_are)
          (started (2 ^ sets) d few so_far.arrangement so_far.masks ok (mask_said terms sets truth d) (placed_few terms sets truth d)
          ∙ ap (λ n. said_as (with_masks (so_far.arrangement ++ (classes so_far.arrangement ∷ [])) (so_far.masks ++ (mask_said terms sets truth n ∷ [])))) (sym ok.long)
          ∙ ap (λ o. said_as (placed_by terms sets truth so_far o)) (sym p)
          ∙ ap said_as (sym (placed_next terms sets truth d)))
      go (some c) p j =
          absurd
          (let same : class ≡ class_of so_far.arrangement c = ap (class_by m.arrangement m.classes) p ∙ ap (λ l. get_or l c 0) numbers_are ∙ earlier (2 ^ sets) d few so_far.arrangement so_far.masks ok c j.0 in
          omega (arith, same, e, classes_are, earlier_below (2 ^ sets) d few so_far.arrangement so_far.masks ok c j.0))

  joins_one : (class ≡ m.classes → ⊥) → arrays m.classes (set m.arrangement d class) m.masks ≡ said_as (placed_up_to terms sets truth (suc d))
  joins_one ne = go (joined_to terms sets truth d) refl (joins terms sets truth d)
    where
      go : (o : Option ℕ) → joined_to terms sets truth d ≡ o → Joins terms sets truth d o → arrays m.classes (set m.arrangement d class) m.masks ≡ said_as (placed_up_to terms sets truth (suc d))
      go none p j = absurd (ne (ap (class_by m.arrangement m.classes) p))
      go (some c) p j =
          let same : class ≡ class_of so_far.arrangement c = ap (class_by m.arrangement m.classes) p ∙ ap (λ l. get_or l c 0) numbers_are ∙ earlier (2 ^ sets) d few so_far.arrangement so_far.masks ok c j.0 in
          rw (same, numbers_are, masks_are, classes_are)
          (joined (2 ^ sets) d few so_far.arrangement so_far.masks ok c j.0
          ∙ ap (λ o. said_as (placed_by terms sets truth so_far o)) (sym p)
          ∙ ap said_as (sym (placed_next terms sets truth d)))

  -- the same, where the class number and the mask are known by equations
  pub place_started : {k v : ℕ} → k ≡ class → v ≡ mask_said terms sets truth d → k ≡ m.classes → arrays (m.classes + 1) (set m.arrangement d k) (set m.masks m.classes v) ≡ said_as (placed_up_to terms sets truth (suc d))
  place_started {k} {v} a b e = ap₂ (λ i j. arrays (m.classes + 1) (set m.arrangement d i) (set m.masks m.classes j)) a b ∙ starts (sym a ∙ e)

  pub place_joined : {k : ℕ} → k ≡ class → (k ≡ m.classes → ⊥) → arrays m.classes (set m.arrangement d k) m.masks ≡ said_as (placed_up_to terms sets truth (suc d))
  place_joined {k} a ne = ap (λ i. arrays m.classes (set m.arrangement d i) m.masks) a ∙ joins_one (λ e. ne (a ∙ e))
