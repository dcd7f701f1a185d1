-- The way there and back: the model read off the truth values of a solution is that solution, and the truth values of a model are those that it was read off.
use Prim.Native.Nat.{ℕ, zero, suc, ◌/◌, ◌%◌, ◌^◌, ◌≤◌, ◌<◌, max}
use mathlib.Core.Path.{◌≡◌, refl, sym, ap, ◌∙◌}
use mathlib.Core.Bool.{Bool, true, false, true≢false}
use mathlib.Core.List.{List, [], ◌∷◌, ◌++◌}
use mathlib.Core.Option.{Option, none, some}
use native.Mathlib.Omega.{arith}
use native.Mathlib.Decide.{dec_lt}
use native.Mathlib.Nat.{pow-zero, pow-succ', div-one, div-div-eq-div-mul}
use borrow.Author.Tests.{eqb-true, eqb-false, eq-eqb}
use lib.Dec.{eqb}
use lib.ListN.{length, take}
use lib.Seq.{length-take-le, take_all, take-suc, get_or-take}
use Rattle.question.specs.declared.questions.Question.{Question}
use Rattle.question.specs.Masks.{bit}
use Rattle.question.specs.Questions.{terms_of}
use Rattle.question.specs.Checks.{IsAccepted}
use Rattle.theory.specs.Arrangements.{MayFollow, IsArrangement, classes_after, classes, class_of}
use Rattle.theory.specs.Solutions.{Solution, with_masks, mask_of}
use Rattle.theory.specs.Answers.{Solves}
use Rattle.theory.proofs.ArrangementLaws.{class_below, class_has_term}
use Rattle.clauses.specs.Variables.{pair_variable, in_variable}
use Rattle.clauses.specs.Clauses.{clauses_of}
use Rattle.clauses.specs.Meaning.{Truth, Satisfies}
use Rattle.clauses.specs.Models.{mask_said, joined_to, placed_by, placed_up_to, model_said}
use Rattle.clauses.proofs.VariableLaws.{truth_pair, truth_in_lem}
use Rattle.clauses.proofs.PlacedLaws.{classes_more, IsPlaced, mask_said_below, mask_said_bits, Joins, joins, placed_next}
use Rattle.clauses.proofs.SaidLaws.{Says, truth_says}
use Rattle.clauses.proofs.Satisfiable.{model_from, truth_from, satisfied_says}

-- numbers of n bits that have the same bits are equal
pub bits_same : (n a b : ℕ) → a < 2 ^ n → b < 2 ^ n → ((x : ℕ) → x < n → bit a x ≡ bit b x) → a ≡ b
bits_same zero a b la lb h = omega arith
bits_same (suc n) a b la lb h = omega (arith, bits_same n (a / 2) (b / 2) (omega arith) (omega arith) (λ x lt. sym (half a x) ∙ h (suc x) (omega arith) ∙ half b x), lowest)
  where
    half : (m x : ℕ) → bit m (suc x) ≡ bit (m / 2) x
    half m x = ap (λ i. eqb (i % 2) 1) (ap (λ i. m / i) (pow-succ' 2 x) ∙ sym (div-div-eq-div-mul m 2 (2 ^ x)))

    first : (m : ℕ) → bit m 0 ≡ eqb (m % 2) 1
    first m = ap (λ i. eqb (m / i % 2) 1) (pow-zero 2) ∙ ap (λ i. eqb (i % 2) 1) (div-one m)

    odd : (t : Bool) → eqb (a % 2) 1 ≡ t → eqb (b % 2) 1 ≡ t → a % 2 ≡ b % 2
    odd true e f = omega (arith, eqb-true (a % 2) 1 e, eqb-true (b % 2) 1 f)
    odd false e f = let na = eqb-false (a % 2) 1 e in let nb = eqb-false (b % 2) 1 f in omega arith

    lowest : a % 2 ≡ b % 2
    lowest = odd (eqb (b % 2) 1) (sym (first a) ∙ h 0 (omega arith) ∙ first b) refl

-- the first terms of an arrangement: the next class number is one of theirs, or the number of their classes
pub follow_take : (used : ℕ) (l : List ℕ) (i : ℕ) → MayFollow used l → MayFollow used (take i l)
follow_take used l zero f = tt
follow_take used [] (suc i) f = tt
follow_take used (c ∷ l) (suc i) f = (f.0, follow_take (max used (suc c)) l i f.1)

pub class_up_to : (used : ℕ) (l : List ℕ) (i : ℕ) → MayFollow used l → i < length l → class_of l i ≤ classes_after used (take i l)
class_up_to used [] i f lt = absurd (omega arith)
class_up_to used (c ∷ l) zero f lt = f.0
class_up_to used (c ∷ l) (suc i) f lt = class_up_to (max used (suc c)) l i f.1 (omega arith)

pub class_new : (l : List ℕ) (i : ℕ) → IsArrangement l → i < length l → ((c : ℕ) → c < i → class_of l c ≡ class_of l i → ⊥) → class_of l i ≡ classes (take i l)
class_new l i f lt new = go (dec_lt (class_of l i) (classes (take i l)))
  where
    go : Dec (class_of l i < classes (take i l)) → class_of l i ≡ classes (take i l)
    go (yes low) =
        let t = class_has_term 0 (take i l) (follow_take 0 l i f) (class_of l i) (omega arith) low in
        let ci : t.0 < i = omega (arith, t.1, length-take-le i l (omega arith)) in
        absurd (new t.0 ci (sym (get_or-take i l t.0 0 ci) ∙ t.2))
    go (no high) = omega (arith, class_up_to 0 l i f lt)

module _ (terms sets : ℕ) (truth : Truth) (sol : Solution) (is : IsPlaced (2 ^ sets) terms sol) (says : Says terms sets truth sol) where
  abbrev l : List ℕ
  l = sol.arrangement

  abbrev ms : List ℕ
  ms = sol.masks

  -- the first d terms, and the masks of their classes
  abbrev part : ℕ → Solution
  part d = with_masks (take d l) (take (classes (take d l)) ms)

  module _ (d : ℕ) (dt : d < terms) where
    abbrev k : ℕ
    k = classes (take d l)

    d_term : d < length l
    d_term = omega (arith, is.long)

    part_long : length (take d l) ≡ d
    part_long = length-take-le d l (omega (arith, d_term))

    -- with the class c for the next term
    next_arrangement : (c : ℕ) → c ≡ class_of l d → take d l ++ (c ∷ []) ≡ take (suc d) l
    next_arrangement c e = ap (λ i. take d l ++ (i ∷ [])) e ∙ sym (take-suc l d 0 d_term)

    next_classes : (c : ℕ) → c ≡ class_of l d → classes (take (suc d) l) ≡ max k (suc c)
    next_classes c e = ap classes (sym (next_arrangement c e)) ∙ classes_more (take d l) c

    next : (o : Option ℕ) → Joins terms sets truth d o → placed_by terms sets truth (part d) o ≡ part (suc d)
    next (some j) h = ap (λ a. with_masks a (take k ms)) (next_arrangement c joined) ∙ ap (λ n. with_masks (take (suc d) l) (take n ms)) stay
      where
        c : ℕ
        c = class_of (take d l) j

        joined : c ≡ class_of l d
        joined = get_or-take d l j 0 h.0 ∙ eqb-true (class_of l j) (class_of l d) (sym (says.pair_is j d h.0 dt) ∙ h.1)

        stay : k ≡ classes (take (suc d) l)
        stay = omega (arith, next_classes c joined, class_below 0 (take d l) j (omega (arith, part_long, h.0)))
    next none h = ap (λ a. with_masks a (take k ms ++ (mask_said terms sets truth (length (take d l)) ∷ []))) (next_arrangement k new) ∙ ap (λ m. with_masks (take (suc d) l) m) masks
      where
        new : k ≡ class_of l d
        new = sym (class_new l d is.arranged d_term (λ c cd e. absurd_of (h c cd) (says.pair_is c d cd dt ∙ eq-eqb (class_of l c) (class_of l d) e)))
          where
            absurd_of : {b : Bool} → b ≡ false → b ≡ true → ⊥
            absurd_of e f = true≢false (sym f ∙ e)

        k_class : k < classes l
        k_class = omega (arith, new, class_below 0 l d d_term)

        own : mask_said terms sets truth d ≡ mask_of ms k
        own = bits_same sets (mask_said terms sets truth d) (mask_of ms k) (mask_said_below terms sets truth d) (is.masks_below k k_class)
            (λ x xs. mask_said_bits terms sets truth d x xs ∙ says.in_is d x dt xs ∙ ap (λ i. bit (mask_of ms i) x) (sym new))

        masks : take k ms ++ (mask_said terms sets truth (length (take d l)) ∷ []) ≡ take (classes (take (suc d) l)) ms
        masks =
            let more : suc k ≡ classes (take (suc d) l) = omega (arith, next_classes k new) in
            ap (λ i. take k ms ++ (mask_said terms sets truth i ∷ [])) part_long ∙ ap (λ m. take k ms ++ (m ∷ [])) own ∙ sym (take-suc ms k 0 (omega (arith, k_class, is.each_class))) ∙ ap (λ n. take n ms) more

  parts : (d : ℕ) → d ≤ terms → placed_up_to terms sets truth d ≡ part d
  unfolding placed_up_to
  parts zero le = refl
  parts (suc d) le = placed_next terms sets truth d ∙ ap (λ s. placed_by terms sets truth s (joined_to terms sets truth d)) (parts d (omega arith)) ∙ next d le (joined_to terms sets truth d) (joins terms sets truth d)

  -- truth values that say a solution say no other model
  pub said_one : model_said terms sets truth ≡ sol
  said_one = parts terms (omega arith) ∙ ap (λ a. with_masks a (take (classes a) ms)) (take_all terms l (omega (arith, is.long))) ∙ ap (λ m. with_masks l m) (take_all (classes l) ms (omega (arith, is.each_class)))

module _ (q : Question) where
  -- from a solution to truth values and back
  pub solution_again : (sol : Solution) → Solves q sol → model_from q (truth_from q sol) ≡ sol
  solution_again sol s = said_one (terms_of q) q.sets (truth_from q sol) sol (record { arranged = s.arranged; long = s.each_term; each_class = s.each_class; masks_below = s.masks_below }) (truth_says (terms_of q) q.sets sol)

  -- from truth values that satisfy the clauses to a model and back: the same values, but for the spare, which no clause that can be true looks at
  module _ (accepted : IsAccepted q) (truth : Truth) (h : Satisfies truth (clauses_of q)) where
    pub pair_again : (c d : ℕ) → c < d → d < terms_of q → truth_from q (model_from q truth) (pair_variable (terms_of q) q.sets c d) ≡ truth (pair_variable (terms_of q) q.sets c d)
    pair_again c d cd dt = truth_pair (terms_of q) q.sets (model_from q truth) c d cd dt ∙ sym ((satisfied_says q accepted truth h).pair_is c d cd dt)

    pub in_again : (c x : ℕ) → c < terms_of q → x < q.sets → truth_from q (model_from q truth) (in_variable (terms_of q) q.sets c x) ≡ truth (in_variable (terms_of q) q.sets c x)
    in_again c x ct xs = truth_in_lem (terms_of q) q.sets (model_from q truth) c x ct xs ∙ sym ((satisfied_says q accepted truth h).in_is c x ct xs)
