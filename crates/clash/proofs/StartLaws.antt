-- Where the walk over an impossible question may begin: at its first statement; behind it, if what remains without it is impossible; or where it is known to be needed.
use Rattle.std.proofs.Common.{Some, None, Ok}
use mathlib.Core.Path.{◌≡◌, refl, ap, ◌∙◌}
use mathlib.Core.Bool.{true, false}
use mathlib.Core.Logic.{inl, inr}
use native.Mathlib.Omega.{arith}
use Rattle.question.specs.declared.questions.Question.{Question}
use Rattle.question.specs.Limits.{max_statements}
use Rattle.question.specs.Checks.{IsAccepted}
use Rattle.question.specs.Builds.{dropped}
use Rattle.question.proofs.AcceptedLaws.{accepted}
use Rattle.question.proofs.BuildLaws.{dropped_statements}
use Rattle.question.proofs.DroppedLaws.{accepted_dropped}
use Rattle.theory.specs.Answers.{answer}
use Rattle.theory.proofs.AnswerLaws.{answer_same}
use Rattle.answer.specs.Answers.{as_answer, impossible_answer}
use Rattle.decision.specs.Decisions.{decided}
use Rattle.decision.proofs.DecisionLaws.{decided_accepted}
use Rattle.clash.specs.Clashes.{is_none, without_model}
use Rattle.clash.specs.Starts.{MayStart}
use Rattle.clash.proofs.MeaningLaws.{none_is, search_none}
use Rattle.clash.proofs.WalkLaws.{none}

module _ (q : Question) (is : IsAccepted q) where
  -- without none of its statements it is the same question
  all_same : answer (dropped q 0 0) ≡ answer q
  unfolding dropped
  all_same = answer_same (dropped q 0 0) q refl refl (dropped_statements q 0 0 is.few_statements)

  module _ (e : is_none (answer q) ≡ true) where
    pub start_first : MayStart q (record { from = 0; bound = None; left = 64 })
    start_first = record {
      still = ap is_none all_same ∙ e;
      inside = omega arith;
      bounded = tt;
      known = tt;
      enough = inl (omega (arith, is.few_statements));
    }

    -- of 64 statements the first is needed
    pub start_needed : q.count ≡ max_statements → without_model (dropped q 0 1) ≡ false → MayStart q (record { from = 0; bound = Some 1; left = 63 })
    start_needed full w = record {
      still = ap is_none all_same ∙ e;
      inside = omega arith;
      bounded = (omega arith, omega (arith, full));
      known = search_none (dropped q 0 1) (accepted_dropped q 0 1 is) ∙ w;
      enough = inr (refl, omega (arith, full));
    }

  -- or it can be spared
  pub start_spared : q.count ≡ max_statements → without_model (dropped q 0 1) ≡ true → MayStart q (record { from = 1; bound = None; left = 64 })
  start_spared full w = record {
    still = search_none (dropped q 0 1) (accepted_dropped q 0 1 is) ∙ w;
    inside = omega (arith, full);
    bounded = tt;
    known = tt;
    enough = inl (omega (arith, full));
  }

  -- and then the question is decided
  pub spared_decided : q.count ≡ max_statements → without_model (dropped q 0 1) ≡ true → decided q ≡ Ok impossible_answer
  spared_decided full w = decided_accepted q ((accepted q).1 is) ∙ ap (λ o. Ok (as_answer o)) ((none_is (answer q)).0 (none q is _ (start_spared full w)))
