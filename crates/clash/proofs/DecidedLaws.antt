-- What a decision tells of the clash: a refused question has none, of a possible one nothing is kept, and else the question is impossible.
use Rattle.std.proofs.Common.{Ok, Err}
use mathlib.Core.Path.{◌≡◌, refl, sym, ap, ap₂, ◌∙◌}
use mathlib.Core.Bool.{true, false}
use mathlib.Core.Option.{Option, none, some}
use Rattle.outcome.specs.declared.refusals.Refusal.{Refusal}
use Rattle.outcome.specs.declared.verdicts.Verdict.TheVariants.{Possible, Impossible}
use Rattle.outcome.specs.Padded.{padded}
use Rattle.outcome.proofs.Never.{never}
use Rattle.question.specs.declared.questions.Question.{Question}
use Rattle.question.specs.Limits.{max_statements}
use Rattle.question.specs.Checks.{checked, IsAccepted}
use Rattle.question.proofs.AcceptedLaws.{accepted}
use Rattle.theory.specs.Solutions.{Solution}
use Rattle.theory.specs.Answers.{answer}
use Rattle.answer.specs.declared.answers.Answer.{Answer}
use Rattle.answer.specs.Answers.{as_answer}
use Rattle.decision.specs.Decisions.{decided}
use Rattle.decision.proofs.DecisionLaws.{decided_err, decided_ok}
use Rattle.clash.specs.Clashes.{is_none, clash_kept, none_kept, with_kept, clashed}
use Rattle.clash.proofs.MeaningLaws.{some_none, some_empty}

-- what an answer's verdict tells
said_possible : (o : Option Solution) → (as_answer o).verdict ≡ Possible → is_none o ≡ false
said_possible none h = never cc
said_possible (some sol) h = refl

said_impossible : (o : Option Solution) → (as_answer o).verdict ≡ Impossible → is_none o ≡ true
said_impossible none h = refl
said_impossible (some sol) h = never cc

module _ (q : Question) where
  pub clashed_accepted : checked q ≡ Ok tt → clashed q ≡ Ok (with_kept (as_answer (answer q)) (clash_kept q))
  unfolding clashed
  clashed_accepted e = rw e

  pub clashed_refused : {r : Refusal} → checked q ≡ Err r → clashed q ≡ Err r
  unfolding clashed
  clashed_refused e = rw e

  pub refused_clashed : {r : Refusal} → decided q ≡ Err r → clashed q ≡ Err r
  refused_clashed {r} e = clashed_refused (decided_err q r e)

  module _ (a : Answer) (is : decided q ≡ Ok a) where
    ok : checked q ≡ Ok tt
    ok = (decided_ok q a is).0

    answers : a ≡ as_answer (answer q)
    answers = (decided_ok q a is).1

    found : clashed q ≡ Ok (with_kept a (clash_kept q))
    found = clashed_accepted ok ∙ ap (λ x. Ok (with_kept x (clash_kept q))) (sym answers)

    -- of a question with a model nothing is kept
    none_kept_lem : is_none (answer q) ≡ false → clash_kept q ≡ none_kept q
    none_kept_lem e = ap₂ (λ p l. record { part = p; indexes = padded max_statements l }) (some_empty q e) (some_none q e)

    pub keeps_none : a.verdict ≡ Possible → clashed q ≡ Ok (with_kept a (none_kept q))
    keeps_none v = found ∙ ap (λ k. Ok (with_kept a k)) (none_kept_lem (said_possible (answer q) (sym (ap (λ x. x.verdict) answers) ∙ v)))

    -- an impossible question is accepted
    pub is_impossible : a.verdict ≡ Impossible → IsAccepted q × (is_none (answer q) ≡ true)
    is_impossible v = ((accepted q).0 ok, said_impossible (answer q) (sym (ap (λ x. x.verdict) answers) ∙ v))

    pub keeps_part : a.verdict ≡ Impossible → clashed q ≡ Ok (with_kept a (clash_kept q))
    keeps_part v = found
