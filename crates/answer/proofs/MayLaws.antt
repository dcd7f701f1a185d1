-- What an answer may say: the tests tell it, an answer that is good says it, and its value says it again.
use Prim.Native.Nat.{ℕ, zero, suc, ◌≤◌, ◌<◌, max}
use mathlib.Core.Path.{◌≡◌, refl, ap, ◌∙◌}
use mathlib.Core.Bool.{true}
use mathlib.Core.List.{List, [], ◌∷◌}
use mathlib.Core.Option.{Option, none, some}
use native.Mathlib.Omega.{arith}
use borrow.Author.Tests.{ltb-true, le-leb, lt-ltb}
use lib.Dec.{ltb}
use lib.ListN.{length, get_or, take}
use lib.Seq.{length-take-le}
use Rattle.statement.proofs.TestLaws.{both_true}
use Rattle.question.specs.Limits.{max_terms}
use Rattle.outcome.specs.Padded.{padded}
use Rattle.theory.specs.Arrangements.{MayFollow, classes}
use Rattle.theory.specs.Solutions.{Solution, with_masks}
use Rattle.outcome.specs.declared.verdicts.Verdict.{Verdict}
use Rattle.outcome.specs.declared.verdicts.Verdict.TheVariants.{Possible, Impossible}
use Rattle.answer.specs.declared.answers.Answer.{Answer}
use Rattle.answer.specs.Answers.{said_by, said, as_answer, HasTwelve, IsArranged, MaySay}
use Rattle.answer.specs.Checks.{may_follow, is_arrangement, all_below, is_good}
use Rattle.outcome.proofs.PaddedLaws.{padded_length, take_padded}
use Rattle.answer.proofs.GoodLaws.{follows, classes_few}

follow_tested : (used : ℕ) (l : List ℕ) → MayFollow used l → may_follow used l ≡ true
unfolding may_follow
follow_tested used [] f = refl
follow_tested used (c ∷ l) f = rw (le-leb c used f.0, follow_tested (max used (suc c)) l f.1)

below : (bound : ℕ) (ms : List ℕ) → all_below bound ms ≡ true → (k : ℕ) → k < length ms → get_or ms k 0 < bound
below bound [] e k h = absurd (omega arith)
below bound (m ∷ ms) e zero h = ltb-true m bound (both_true (ltb m bound) (all_below bound ms) e).0
below bound (m ∷ ms) e (suc k) h = below bound ms (both_true (ltb m bound) (all_below bound ms) e).1 k (omega arith)

below_tested : (bound : ℕ) (ms : List ℕ) → ((k : ℕ) → k < length ms → get_or ms k 0 < bound) → all_below bound ms ≡ true
below_tested bound [] h = refl
below_tested bound (m ∷ ms) h = rw (lt-ltb m bound (h 0 (omega arith)), below_tested bound ms (λ k less. h (suc k) (omega arith)))

module _ (T bound : ℕ) where
  -- the two tests, and the two lengths
  pub arranged : (l ms : List ℕ) → is_arrangement l ≡ true → all_below bound ms ≡ true → length l ≡ T → length ms ≡ classes l → IsArranged T bound (with_masks l ms)
  arranged l ms a b e k = record { arranged = follows 0 l a; each_term = e; each_class = k; masks_below = λ i h. below bound ms b i (omega arith) }

  pub arrangement_tested : (sol : Solution) → IsArranged T bound sol → is_arrangement sol.arrangement ≡ true
  arrangement_tested sol w = follow_tested 0 sol.arrangement w.arranged

  pub masks_tested : (sol : Solution) → IsArranged T bound sol → all_below bound sol.masks ≡ true
  masks_tested sol w = below_tested bound sol.masks (λ k h. w.masks_below k (omega (arith, w.each_class)))

  -- what may be said is good,
  pub may_good : (s : Option Solution) → MaySay T bound s → is_good bound s ≡ true
  may_good none w = refl
  may_good (some sol) w = rw (arrangement_tested sol w, masks_tested sol w)

  -- it has no more classes than terms,
  pub may_few : (sol : Solution) → IsArranged T bound sol → classes sol.arrangement ≤ T
  may_few sol w = omega (arith, classes_few sol.arrangement (arrangement_tested sol w), w.each_term)

  -- and its value says it
  pub as_said : (s : Option Solution) → MaySay T bound s → said T (as_answer s) ≡ s
  unfolding said
  as_said none w = refl
  as_said (some sol) w =
      let l : take T (padded max_terms sol.arrangement) ≡ sol.arrangement = take_padded max_terms sol.arrangement T w.each_term in
      ap (λ x. some (with_masks x (take (classes x) (padded max_terms sol.masks)))) l ∙ ap (λ ms. some (with_masks sol.arrangement ms)) (take_padded max_terms sol.masks (classes sol.arrangement) w.each_class)

  pub as_twelve : (s : Option Solution) → T ≤ max_terms → MaySay T bound s → HasTwelve (as_answer s)
  as_twelve none few w = (padded_length max_terms [] (omega arith), padded_length max_terms [] (omega arith))
  as_twelve (some sol) few w = (padded_length max_terms sol.arrangement (omega (arith, w.each_term)), padded_length max_terms sol.masks (omega (arith, w.each_class, may_few sol w)))

  -- a good answer says what may be said
  pub good_may : (a : Answer) → T ≤ max_terms → HasTwelve a → is_good bound (said T a) ≡ true → MaySay T bound (said T a)
  unfolding said
  good_may a few twelve e = go a.verdict e
    where
      go : (v : Verdict) → is_good bound (said_by v T a) ≡ true → MaySay T bound (said_by v T a)
      go Impossible e = tt
      go Possible e =
          let l = take T a.arrangement in
          let b = both_true (is_arrangement l) _ e in
          let size : length l ≡ T = length-take-le T a.arrangement (omega (arith, twelve.0)) in
          arranged l (take (classes l) a.masks) b.0 b.1 size (length-take-le (classes l) a.masks (omega (arith, twelve.1, classes_few l b.0)))
