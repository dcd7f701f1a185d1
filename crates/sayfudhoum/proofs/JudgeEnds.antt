-- The judge for C, on the contract of `sayfudhoum_judge`: the ways in which a call ends, for all bytes of a question and of a model, and each of them exactly if question and model are so.
-- What a model means is read straight off its bytes (`assignment_in`, `IsGoodModel`); so 64 is told exactly if it is an assignment in which every statement holds.
use Rattle.std.proofs.Common.{Ok, Err}
use Prim.Native.Nat.{ℕ, ◌+◌, ◌*◌, ◌<◌}
use mathlib.Core.Path.{◌≡◌, refl, sym, ap, subst, ◌∙◌}
use mathlib.Core.List.{List, ◌∷◌, ◌++◌}
use mathlib.Core.Logic.{◌↔◌}
use native.Mathlib.Omega.{arith}
use lib.ListN.{take}
use Rattle.outcome.specs.declared.refusals.Refusal.{Refusal}
use Rattle.outcome.specs.Checks.{Check, outcome_of}
use Rattle.outcome.specs.Calls.{Call}
use Rattle.question.specs.declared.questions.Question.{Question}
use Rattle.question.specs.Questions.{statements}
use Rattle.question.specs.Checks.{IsAccepted}
use Rattle.outcome.proofs.CheckLaws.{refused_is}
use Rattle.question_file.specs.Reads.{read_question, asked}
use Rattle.question_file.proofs.RoundTrips.{read_ok}
use Rattle.question_file.proofs.RefusalLaws.{refusal_told}
use Rattle.statement.specs.Meaning.{Assignment, IsAssignment, AllHold}
use Rattle.theory.specs.Arrangements.{classes}
use Rattle.theory.specs.Solutions.{Solution}
use Rattle.theory.specs.Answers.{Solves}
use Rattle.theory.proofs.AnswerLaws.{answer_solution}
use Rattle.body.specs.Bodies.{mask_bytes, masks_body}
use Rattle.judge.specs.Judgements.{Judgement}
use Rattle.judge.proofs.Verdicts.{FirstToFail, not_all, first_one}
use Rattle.model_file.specs.Meaning.{assignment_in, IsGoodModel}
use Rattle.model_file.specs.Judges.{bytes_judged, file_judged}
use Rattle.model_file.proofs.JudgeLaws.{file_refused as judge_refused, file_accepted as judge_accepted}
use Rattle.model_file.proofs.MeaningLaws.{good_assigns}
use Rattle.model_file.proofs.OwnModels.{own_bytes, own_judged}
use Rattle.model_file.proofs.Verdicts.{Judging, model_bad as judged_bad, fails_at as judged_fails, all_hold as judged_holds, judging, index_below}
use Rattle.sayfudhoum.specs.Numbers.{judgement_number, judge_number}
use Rattle.sayfudhoum.proofs.EndToEnd.{IsPossible, IsShown, question_accepted, some_first, refused_ok}
use Rattle.sayfudhoum.proofs.Exactness.{Tells, tells_one, file_tells}
use Rattle.sayfudhoum.proofs.exports.sayfudhoum_judge.Reads as judge_call

-- a file, and the bytes of a model beside it
module _ (bytes model : List ℕ) where
  abbrev q : Question
  q = asked (read_question bytes)

  -- the assignment that the model is, for the element names of the file
  abbrev pub meant : Assignment
  meant = assignment_in q.elements model

  -- the model is a good one for the names of the file
  abbrev pub IsGood : Type 0
  IsGood = IsGoodModel q.elements q.sets model

  -- the file is accepted, the model is a good one, so an assignment, and every statement holds in it
  pub record Holds : Type 0 where
    pub file_accepted : outcome_of (read_question bytes) ≡ Ok tt
    pub good : IsGood
    pub assignment : IsAssignment q.elements meant
    pub holding : AllHold meant (statements q)

  -- the file is accepted, the model is a good one, so an assignment; the statements before the index i hold in it, and the one at i does not
  pub record FailsAt (i : ℕ) : Type 0 where
    pub file_accepted : outcome_of (read_question bytes) ≡ Ok tt
    pub good : IsGood
    pub assignment : IsAssignment q.elements meant
    pub first : FirstToFail meant (statements q) i

  -- the file is accepted, and the model is no good one
  pub record IsBad : Type 0 where
    pub file_accepted : outcome_of (read_question bytes) ≡ Ok tt
    pub not_good : IsGood → ⊥

  -- the ways in which `sayfudhoum_judge` ends: the number that it gives back
  pub data Judges (number : ℕ) : Type 0 where
    file_refused : (r : Refusal) → outcome_of (read_question bytes) ≡ Err r → number ≡ r.place * 256 + r.number → Judges number
    model_bad : IsBad → number ≡ 11 → Judges number
    fails_at : (i : ℕ) → FailsAt i → i < 64 → number ≡ i * 256 → Judges number
    all_hold : Holds → number ≡ 64 * 256 → Judges number

  judges : Judges (judge_number bytes model)
  unfolding judge_number
  judges = go (outcome_of (read_question bytes)) refl
    where
      said : (j : Judgement) → outcome_of (read_question bytes) ≡ Ok tt → IsAccepted q → Judging q model j → Judges (judgement_number j)
      said _ p is (judged_bad b) = model_bad (record { file_accepted = p; not_good = b }) refl
      said _ p is (judged_fails i g f) =
          fails_at i (record { file_accepted = p; good = g; assignment = good_assigns q.elements q.sets model (omega (arith, is.few_elements)) g; first = f })
          (index_below q is model i f) refl
      said _ p is (judged_holds g h) =
          all_hold (record { file_accepted = p; good = g; assignment = good_assigns q.elements q.sets model (omega (arith, is.few_elements)) g; holding = h }) refl

      go : (o : Check) → outcome_of (read_question bytes) ≡ o → Judges (judgement_number (file_judged bytes model))
      go (Ok tt) p =
          let is = (question_accepted bytes p).0 in
          subst (λ j. Judges (judgement_number j)) (sym (judge_accepted bytes model (read_ok bytes p))) (said (bytes_judged q model) p is (judging q is model))
      go (Err r) p = subst (λ j. Judges (judgement_number j)) (sym (judge_refused bytes model (refused_is (read_question bytes) p))) (file_refused r p refl)

-- the ways at an equal number
judged_as : (file handed : List ℕ) (n m : ℕ) → n ≡ m → Judges file handed m → Judges file handed n
judged_as file handed n m p j = rw p j

-- a call of `sayfudhoum_judge` on a file and a model
module _ (c : Call judge_call.Learnt) where
  abbrev file : List ℕ
  file = c.given.0.now

  abbrev handed : List ℕ
  handed = c.given.1.0.now

  -- it ends in one of those ways
  pub judge_ends : Judges file handed c.result
  judge_ends = judged_as file handed c.result _ c.fits (judges file handed)

  -- 64 exactly if the file is accepted, the model is an assignment for its names, and every statement holds in it
  pub judge_holds_exactly : (c.result ≡ 64 * 256) ↔ Holds file handed
  judge_holds_exactly = (λ e. said e judge_ends, λ h. gives h judge_ends)
    where
      said : c.result ≡ 64 * 256 → Judges file handed c.result → Holds file handed
      said e (file_refused r p n) = let t = (refusal_told file r p).0 in absurd (omega (arith, e, n, t.0, t.1))
      said e (model_bad b n) = absurd (omega (arith, e, n))
      said e (fails_at i f l n) = absurd (omega (arith, e, n, l))
      said e (all_hold h n) = h

      gives : Holds file handed → Judges file handed c.result → c.result ≡ 64 * 256
      gives h (file_refused r p n) = refused_ok p h.file_accepted
      gives h (model_bad b n) = absurd (b.not_good h.good)
      gives h (fails_at i f l n) = absurd (not_all _ _ i f.first h.holding)
      gives h (all_hold _ n) = n

  -- an index exactly if the file is accepted, the model is an assignment for its names, the statements before that index hold in it, and the one at it does not
  pub judge_fails_exactly : (i : ℕ) → ((i < 64) × (c.result ≡ i * 256)) ↔ FailsAt file handed i
  judge_fails_exactly i = (λ e. said e.0 e.1 judge_ends, λ f. gives f judge_ends)
    where
      said : i < 64 → c.result ≡ i * 256 → Judges file handed c.result → FailsAt file handed i
      said l e (file_refused r p n) = let t = (refusal_told file r p).0 in absurd (omega (arith, e, n, t.0, t.1))
      said l e (model_bad b n) = absurd (omega (arith, e, n))
      said l e (fails_at k f _ n) = let same : k ≡ i = omega (arith, e, n) in subst (FailsAt file handed) same f
      said l e (all_hold h n) = absurd (omega (arith, e, n, l))

      gives : FailsAt file handed i → Judges file handed c.result → (i < 64) × (c.result ≡ i * 256)
      gives f (file_refused r p n) = refused_ok p f.file_accepted
      gives f (model_bad b n) = absurd (b.not_good f.good)
      gives f (fails_at k g l n) = let same : k ≡ i = first_one _ _ k i g.first f.first in (omega (arith, l, same), omega (arith, n, same))
      gives f (all_hold h n) = absurd (not_all _ _ i f.first h.holding)

  -- 11 exactly if the file is accepted and the model is no good one
  pub judge_bad_exactly : (c.result ≡ 11) ↔ IsBad file handed
  judge_bad_exactly = (λ e. said e judge_ends, λ b. gives b judge_ends)
    where
      said : c.result ≡ 11 → Judges file handed c.result → IsBad file handed
      said e (file_refused r p n) = let t = (refusal_told file r p).0 in absurd (omega (arith, e, n, t.0, t.1))
      said e (model_bad b n) = b
      said e (fails_at i f l n) = absurd (omega (arith, e, n))
      said e (all_hold h n) = absurd (omega (arith, e, n))

      gives : IsBad file handed → Judges file handed c.result → c.result ≡ 11
      gives b (file_refused r p n) = refused_ok p b.file_accepted
      gives b (model_bad _ n) = n
      gives b (fails_at i f l n) = absurd (b.not_good f.good)
      gives b (all_hold h n) = absurd (b.not_good h.good)

  -- another number whose lowest byte is not 0 exactly if the file is refused, with this number at this place, whatever the model is
  pub judge_refused_exactly : (r : Refusal) → (Tells c.result r × (r.number < 10)) ↔ (outcome_of (read_question file) ≡ Err r)
  judge_refused_exactly r = (λ t. told t.0 t.1 judge_ends, λ p. gives p judge_ends)
    where
      told : Tells c.result r → r.number < 10 → Judges file handed c.result → outcome_of (read_question file) ≡ Err r
      told t small (file_refused s p n) = p ∙ ap Err (tells_one c.result s r (file_tells file s c.result p n).0 t)
      told t small (model_bad b n) = absurd (omega (arith, t.0, t.1, small, n))
      told t small (fails_at i f l n) = absurd (omega (arith, t.0, t.1, t.2, n))
      told t small (all_hold h n) = absurd (omega (arith, t.0, t.1, t.2, n))

      gives : outcome_of (read_question file) ≡ Err r → Judges file handed c.result → Tells c.result r × (r.number < 10)
      gives p (file_refused s x n) = let same : s ≡ r = cc in rw same at (file_tells file s c.result x n)
      gives p (model_bad b n) = refused_ok p b.file_accepted
      gives p (fails_at i f l n) = refused_ok p f.file_accepted
      gives p (all_hold h n) = refused_ok p h.file_accepted

  -- whoever made the model, a file in which it holds is possible
  pub judge_holds_possible : c.result ≡ 64 * 256 → IsPossible file
  judge_holds_possible e =
      let h = judge_holds_exactly.0 e in
      record { file_accepted = h.file_accepted; some_assignment = record { by = meant file handed; assignment = h.assignment; holding = h.holding } }

  -- the model of a solution passes, so that of every answer that says possible: the number of its classes, the class numbers of 41 as far as there are names, and the body of 42 as it stands
  pub judge_own_model : (sol : Solution) → outcome_of (read_question file) ≡ Ok tt → Solves (q file handed) sol →
      handed ≡ classes sol.arrangement ∷ take (q file handed).elements sol.arrangement ++ masks_body mask_bytes sol.masks → c.result ≡ 64 * 256
  unfolding judge_number
  judge_own_model sol p s e =
      let own = q file handed in
      let is = (question_accepted file p).0 in
      c.fits ∙ ap judgement_number
      (judge_accepted file handed (read_ok file p) ∙ ap (bytes_judged own) (e ∙ sym (own_bytes own is sol s)) ∙ own_judged own is sol s)

  -- the first model is a solution
  pub judge_first_model : (sol : Solution) → IsShown file sol →
      handed ≡ classes sol.arrangement ∷ take (q file handed).elements sol.arrangement ++ masks_body mask_bytes sol.masks → c.result ≡ 64 * 256
  judge_first_model sol s e =
      let is = (question_accepted file s.file_accepted).0 in
      judge_own_model sol s.file_accepted (answer_solution (q file handed) is sol (some_first file s.file_accepted sol s.first)) e
