-- Which answers are good: what the count of the classes and the test of the masks tell, and that a good answer has no more classes than terms.
use Prim.Native.Nat.{ℕ, suc, ◌≤◌, max}
use mathlib.Core.Path.{◌≡◌, refl, ap, ◌∙◌}
use mathlib.Core.Bool.{Bool, true, false, ◌&&◌, cond}
use mathlib.Core.List.{List, [], ◌∷◌}
use mathlib.Core.Option.{Option}
use native.Mathlib.Omega.{arith}
use borrow.Author.Tests.{leb-true}
use lib.Dec.{leb}
use lib.ListN.{length, take, length-take}
use Rattle.statement.proofs.TestLaws.{both_true}
use Rattle.theory.specs.Arrangements.{MayFollow, classes}
use Rattle.theory.specs.Solutions.{Solution}
use Rattle.theory.proofs.ArrangementLaws.{classes_few as few_classes}
use Rattle.outcome.proofs.Never.{never}
use Rattle.outcome.specs.declared.verdicts.Verdict.{Verdict}
use Rattle.outcome.specs.declared.verdicts.Verdict.TheVariants.{Possible, Impossible}
use Rattle.answer.specs.declared.answers.Answer.{Answer}
use Rattle.std.proofs.Common.{Some, None, sym}
use Rattle.std.proofs.lemmas.Option.{cond_some}
use Rattle.answer.specs.Answers.{said_by, said}
use Rattle.answer.specs.Checks.{may_follow, is_arrangement, class_count, all_below, is_good, classes_in, answer_check}
use Rattle.answer.proofs.AnswerLaws.{said_none}

-- class numbers that pass the test follow the rule
pub follows : (used : ℕ) (l : List ℕ) → may_follow used l ≡ true → MayFollow used l
unfolding may_follow
follows used [] e = tt
follows used (c ∷ l) e =
    let b = both_true (leb c used) (may_follow (max used (suc c)) l) e in
    (leb-true c used b.0, follows (max used (suc c)) l b.1)

-- none, where a test fails
cond_none : (b : Bool) (n : ℕ) → cond b (Some n) None ≡ None → b ≡ false
cond_none true n e = never cc
cond_none false n e = refl

module _ (l : List ℕ) where
  pub classes_few : is_arrangement l ≡ true → classes l ≤ length l
  classes_few e = omega (arith, few_classes 0 l (follows 0 l e))

  pub counted : (n : ℕ) → class_count l ≡ Some n → (is_arrangement l ≡ true) × (n ≡ classes l)
  counted n e = let k = cond_some (is_arrangement l) (classes l) n e in (k.0, sym k.1)

  pub against : class_count l ≡ None → is_arrangement l ≡ false
  against e = cond_none (is_arrangement l) (classes l) e

-- the check of an answer, by its verdict, its class numbers and its masks
module _ (bound T : ℕ) (a : Answer) where
  pub check_none : a.verdict ≡ Impossible → answer_check bound (said T a) ≡ Some 0
  check_none e = ap (answer_check bound) (said_none T a e)

  abbrev numbers : List ℕ
  numbers = take T a.arrangement

  possible : a.verdict ≡ Possible → answer_check bound (said T a) ≡ cond (is_arrangement numbers && all_below bound (take (classes numbers) a.masks)) (Some (classes numbers)) None
  unfolding said
  possible e = ap (λ v. answer_check bound (said_by v T a)) e

  pub check_against : a.verdict ≡ Possible → class_count numbers ≡ None → answer_check bound (said T a) ≡ None
  check_against e k = possible e ∙ rw (against numbers k)

  pub check_masks : (n : ℕ) (b : Bool) → a.verdict ≡ Possible → class_count numbers ≡ Some n → all_below bound (take n a.masks) ≡ b → answer_check bound (said T a) ≡ cond b (Some n) None
  check_masks n b e k h =
      let c = counted numbers n k in
      possible e ∙ rw (c.0, ← c.1, h)

-- what the check tells
module _ (bound : ℕ) (s : Option Solution) where
  pub is_good_lem : (n : ℕ) → answer_check bound s ≡ Some n → (is_good bound s ≡ true) × (n ≡ classes_in s)
  is_good_lem n e = let k = cond_some (is_good bound s) (classes_in s) n e in (k.0, sym k.1)

  pub is_bad : answer_check bound s ≡ None → is_good bound s ≡ false
  is_bad e = cond_none (is_good bound s) (classes_in s) e

pub good_few : (bound T : ℕ) (a : Answer) → is_good bound (said T a) ≡ true → classes_in (said T a) ≤ T
unfolding said
good_few bound T a e = go a.verdict e
  where
    go : (v : Verdict) → is_good bound (said_by v T a) ≡ true → classes_in (said_by v T a) ≤ T
    go Impossible e = omega arith
    go Possible e =
        let l = take T a.arrangement in
        omega (arith, classes_few l (both_true (is_arrangement l) _ e).0, length-take T a.arrangement)
