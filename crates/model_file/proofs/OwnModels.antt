-- The model of a solution, as bytes: its number of classes, the class numbers of the element names, and its masks. It is what an answer has in fields 41 and 42, and the judge says yes to it.
use Rattle.std.proofs.Common.{Ok, None}
use Prim.Native.Nat.{ℕ, ◌^◌, ◌≤◌, ◌<◌}
use mathlib.Core.Path.{◌≡◌, refl, sym, ap, ap₂, fun_ext, ◌∙◌}
use mathlib.Core.Bool.{Bool, true, ◌&&◌}
use mathlib.Core.List.{◌∷◌, ◌++◌}
use native.Mathlib.Omega.{arith}
use borrow.Author.Tests.{le-leb, leb-true}
use lib.Dec.{T, leb, ltb, ltb→lt, lt→ltb}
use lib.ListN.{length, get_or, take}
use lib.Seq.{get_or-take, take-append-le}
use Rattle.outcome.specs.Padded.{padded}
use Rattle.outcome.proofs.PaddedLaws.{padded_entry, padded_length, take_padded}
use Rattle.question.specs.declared.questions.Question.{Question}
use Rattle.question.specs.Limits.{max_terms}
use Rattle.question.specs.Masks.{bit}
use Rattle.question.specs.Questions.{statements, terms_of}
use Rattle.question.specs.Checks.{IsAccepted}
use Rattle.question.proofs.AcceptedLaws.{accepted}
use Rattle.question.proofs.NamesLaws.{hold_same}
use Rattle.statement.specs.Meaning.{everywhere, AllHold}
use Rattle.statement.proofs.TestLaws.{true_T, T_true, both_true}
use Rattle.statement.proofs.EverywhereLaws.{everywhere_at, everywhere_of}
use Rattle.theory.specs.Arrangements.{classes}
use Rattle.theory.specs.Solutions.{Solution}
use Rattle.theory.specs.Answers.{Solves}
use Rattle.theory.proofs.ArrangementLaws.{classes_few}
use Rattle.body.specs.Bodies.{mask_bytes, masks_body}
use Rattle.judge.specs.declared.models.Model.{Model}
use Rattle.judge.specs.Models.{assigned, elements_inside, masks_inside, is_model}
use Rattle.judge.specs.Judgements.{model_judged, judged}
use Rattle.judge.specs.Shown.{model_shown}
use Rattle.judge.proofs.Verdicts.{yes_means}
use Rattle.judge.proofs.ShownLaws.{judge_yes}
use Rattle.model_file.specs.Bytes.{model_file, cleaned}
use Rattle.model_file.specs.Judges.{bytes_judged}
use Rattle.model_file.proofs.JudgeLaws.{bytes_said}
use Rattle.model_file.proofs.RoundTrips.{read_back}

module _ (q : Question) (is : IsAccepted q) (sol : Solution) (s : Solves q sol) where
  abbrev E : ℕ
  E = q.elements

  abbrev m : Model
  m = model_shown sol

  -- there are at least as many terms as names, and at most twelve
  terms_few : length sol.arrangement ≤ max_terms
  terms_few = omega (arith, s.each_term, is.few_terms)

  names_few : E ≤ length sol.arrangement
  unfolding terms_of
  names_few = omega (arith, s.each_term)

  masks_few : length sol.masks ≤ max_terms
  masks_few = omega (arith, s.each_class, classes_few 0 sol.arrangement s.arranged, terms_few)

  -- the bytes: the class numbers of 41 as far as there are names, and the body of 42 as it stands
  pub own_bytes : model_file E m ≡ classes sol.arrangement ∷ take E sol.arrangement ++ masks_body mask_bytes sol.masks
  unfolding model_file model_shown
  own_bytes =
      ap₂ (λ e k. classes sol.arrangement ∷ e ++ masks_body mask_bytes k)
      (take-append-le E sol.arrangement _ names_few)
      (take_padded max_terms sol.masks (classes sol.arrangement) s.each_class)

  -- what is read back of them has the same elements and masks
  element_back : (a : ℕ) → a < E → get_or (cleaned E m).elements a 0 ≡ get_or m.elements a 0
  unfolding cleaned
  element_back a l = padded_entry max_terms (take E m.elements) a ∙ get_or-take E m.elements a 0 l

  masks_back : (cleaned E m).masks ≡ m.masks
  unfolding cleaned model_shown
  masks_back = ap (padded max_terms) (take_padded max_terms sol.masks (classes sol.arrangement) s.each_class)

  size_back : (cleaned E m).size ≡ m.size
  unfolding cleaned
  size_back = refl

  shown_sound : judged q m ≡ Ok None
  shown_sound = judge_yes q is sol s

  shown_good : is_model E q.sets m ≡ true
  shown_good = ((yes_means q m).0 shown_sound).model

  back_good : is_model E q.sets (cleaned E m) ≡ true
  unfolding is_model elements_inside masks_inside
  back_good =
      let in_domain : ℕ → Bool = λ a. ltb (get_or m.elements a 0) m.size in
      let below_bound : ℕ → Bool = λ d. ltb (get_or m.masks d 0) (2 ^ q.sets) in
      let back_in_domain : ℕ → Bool = λ a. ltb (get_or (cleaned E m).elements a 0) (cleaned E m).size in
      let tests = both_true (leb m.size max_terms) (everywhere E in_domain && everywhere m.size below_bound) shown_good in
      let parts = both_true (everywhere E in_domain) (everywhere m.size below_bound) tests.1 in
      let element : (a : ℕ) → a < E → T (back_in_domain a) = λ a l. lt→ltb (get_or (cleaned E m).elements a 0) (cleaned E m).size (omega (arith, element_back a l, size_back, ltb→lt (get_or m.elements a 0) m.size (everywhere_at E in_domain (T_true parts.0) a l))) in
      let elements : everywhere E back_in_domain ≡ true = true_T (everywhere E back_in_domain) (everywhere_of E back_in_domain element) in
      let few : (cleaned E m).size ≤ max_terms = omega (arith, size_back, leb-true m.size max_terms tests.0) in
      rw (le-leb (cleaned E m).size max_terms few, elements) (ap₂ (λ n k. everywhere n (λ d. ltb (get_or k d 0) (2 ^ q.sets))) size_back masks_back ∙ parts.1)

  back_holds : AllHold (assigned (cleaned E m)) (statements q)
  back_holds =
      hold_same (assigned m) (assigned (cleaned E m)) (sym size_back) E q.sets
      (λ a l. sym (element_back a.0 l))
      (λ x l. fun_ext (λ d. ap (λ k. bit (get_or k d 0) x.0) (sym masks_back)))
      (statements q) is.all_declared ((yes_means q m).0 shown_sound).all_hold

  as_judged : judged q (cleaned E m) ≡ model_judged q (cleaned E m)
  unfolding judged
  as_judged = rw ((accepted q).1 is)

  twelve : (length m.elements ≡ max_terms) × (length m.masks ≡ max_terms)
  unfolding model_shown
  twelve = (padded_length max_terms sol.arrangement terms_few, padded_length max_terms sol.masks masks_few)

  -- the judge says yes to the bytes of a solution's model
  pub own_judged : bytes_judged q (model_file E m) ≡ Ok None
  own_judged =
      bytes_said q (model_file E m) (read_back E q.sets m (omega (arith, is.few_elements)) is.few_sets twelve shown_good)
      ∙ sym as_judged
      ∙ (yes_means q (cleaned E m)).1 (record { question_accepted = is; model = back_good; all_hold = back_holds })
