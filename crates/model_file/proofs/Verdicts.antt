-- What the judge says of an accepted question and the bytes of any model, in the words of the question's meaning: 11 exactly where they are no good model,
-- yes where every statement holds in the assignment that they mean, and else the index of the first that fails.
use Rattle.std.proofs.Common.{Ok, Err, Some, None}
use Prim.Native.Nat.{ℕ, ◌≤◌, ◌<◌}
use mathlib.Core.Path.{◌≡◌, refl, sym, subst, ◌∙◌}
use mathlib.Core.Bool.{Bool, true, false}
use mathlib.Core.List.{List}
use native.Mathlib.Omega.{arith}
use borrow.Author.Tests.{eq-eqb}
use lib.ListN.{length}
use Rattle.outcome.specs.Refusals.{refusal, bad_model}
use Rattle.outcome.proofs.Never.{never}
use Rattle.question.specs.declared.questions.Question.{Question}
use Rattle.question.specs.Limits.{max_statements, max_terms}
use Rattle.question.specs.Questions.{statements}
use Rattle.question.specs.Checks.{IsAccepted}
use Rattle.question.proofs.AcceptedLaws.{accepted}
use Rattle.question.proofs.StatementsLaws.{statements_length}
use Rattle.statement.specs.Meaning.{AllHold}
use Rattle.judge.specs.declared.models.Model.{Model}
use Rattle.judge.specs.Models.{assigned, is_model}
use Rattle.judge.specs.Judgements.{Judgement, model_judged, judged}
use Rattle.judge.proofs.Verdicts.{FirstToFail, no_refusal, yes_means, no_means}
use Rattle.model_file.specs.Bytes.{model_length}
use Rattle.model_file.specs.Reads.{size_in, has_its_length, model_in}
use Rattle.model_file.specs.Meaning.{assignment_in, IsGoodModel}
use Rattle.model_file.specs.Judges.{bytes_judged}
use Rattle.model_file.proofs.ReadLaws.{its_length, read_said, read_bad}
use Rattle.model_file.proofs.JudgeLaws.{bytes_refused, bytes_said}
use Rattle.model_file.proofs.MeaningLaws.{same_assignment, good_passes, passing_good}

-- the ways in which the bytes of a model are judged
pub data Judging (q : Question) (bytes : List ℕ) : Judgement → Type 0 where
  model_bad : (IsGoodModel q.elements q.sets bytes → ⊥) → Judging q bytes (Err (refusal bad_model 0))
  fails_at : (i : ℕ) → IsGoodModel q.elements q.sets bytes → FirstToFail (assignment_in q.elements bytes) (statements q) i → Judging q bytes (Ok (Some i))
  all_hold : IsGoodModel q.elements q.sets bytes → AllHold (assignment_in q.elements bytes) (statements q) → Judging q bytes (Ok None)

module _ (q : Question) (is : IsAccepted q) (bytes : List ℕ) where
  abbrev E : ℕ
  E = q.elements

  abbrev m : Model
  m = model_in E bytes

  names : E ≤ max_terms
  names = omega (arith, is.few_elements)

  -- of an accepted table the judge judges the model
  as_judged : judged q m ≡ model_judged q m
  unfolding judged
  as_judged = rw ((accepted q).1 is)

  -- a good model has its length
  good_length : IsGoodModel E q.sets bytes → has_its_length E bytes ≡ true
  unfolding has_its_length
  good_length g = eq-eqb (length bytes) (model_length E (size_in bytes)) g.its_length

  -- the model that was read, by the judge's test of it and by what the judge says
  module _ (whole : length bytes ≡ model_length E (size_in bytes)) where
    bad : is_model E q.sets m ≡ false → Judging q bytes (model_judged q m)
    unfolding model_judged
    bad p = rw p (model_bad (λ g. let both = sym p ∙ good_passes E q.sets bytes names g in never cc))

    good : is_model E q.sets m ≡ true → Judging q bytes (model_judged q m)
    good p = go (model_judged q m) refl
      where
        is_good_lem : IsGoodModel E q.sets bytes
        is_good_lem = passing_good E q.sets bytes names whole p

        same : assigned m ≡ assignment_in E bytes
        same = same_assignment E bytes names whole is_good_lem.few_elements

        go : (j : Judgement) → model_judged q m ≡ j → Judging q bytes j
        go (Ok None) e = all_hold is_good_lem (subst (λ A. AllHold A (statements q)) same ((yes_means q m).0 (as_judged ∙ e)).all_hold)
        go (Ok (Some i)) e = fails_at i is_good_lem (subst (λ A. FirstToFail A (statements q) i) same ((no_means q m i).0 (as_judged ∙ e)).first)
        go (Err r) e = absurd (no_refusal q m p r e)

    tested : (b : Bool) → is_model E q.sets m ≡ b → Judging q bytes (model_judged q m)
    tested true p = good p
    tested false p = bad p

  -- the bytes of any model are judged in one of these ways
  pub judging : Judging q bytes (bytes_judged q bytes)
  judging = go (has_its_length E bytes) refl
    where
      go : (b : Bool) → has_its_length E bytes ≡ b → Judging q bytes (bytes_judged q bytes)
      go false h =
          subst (Judging q bytes) (sym (bytes_refused q bytes (read_bad E bytes h)))
          (model_bad (λ g. let both = sym h ∙ good_length g in never cc))
      go true h = subst (Judging q bytes) (sym (bytes_said q bytes (read_said E bytes h))) (tested (its_length E bytes h) (is_model E q.sets m) refl)

-- the first statement that fails has an index below 64
pub index_below : (q : Question) → IsAccepted q → (bytes : List ℕ) (i : ℕ) → FirstToFail (assignment_in q.elements bytes) (statements q) i → i < max_statements
index_below q is bytes i f = omega (arith, f.within, statements_length q, is.few_statements)
