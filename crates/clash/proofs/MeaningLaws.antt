-- What it means that a question is impossible, for statements that make an accepted question: none of the assignments meets them. More statements stay impossible.
use Prim.Native.Nat.{ℕ}
use mathlib.Core.Path.{◌≡◌, refl, sym, ap, subst, ◌∙◌}
use mathlib.Core.Bool.{true, false, cond}
use mathlib.Core.List.{List, [], ◌++◌}
use mathlib.Core.Logic.{◌↔◌}
use mathlib.Core.Option.{Option, none, some}
use lib.ListN.{length, drop}
use Rattle.outcome.proofs.Never.{never}
use Rattle.statement.specs.declared.statements.Statement.{Statement}
use Rattle.statement.specs.Meaning.{CantHold, CanHold}
use Rattle.statement.specs.Among.{Among}
use Rattle.statement.proofs.HoldLaws.{cant_among}
use Rattle.question.specs.declared.questions.Question.{Question}
use Rattle.question.specs.Questions.{question_of, statements}
use Rattle.question.specs.Checks.{IsAccepted}
use Rattle.question.specs.Builds.{declaring, without, dropped}
use Rattle.question.proofs.AcceptedLaws.{accepted}
use Rattle.question.proofs.BuildLaws.{declaring_of, statements_of, without_after}
use Rattle.question.proofs.DroppedLaws.{accepted_dropped}
use Rattle.theory.specs.Solutions.{Solution}
use Rattle.theory.specs.Answers.{answer, as_model}
use Rattle.theory.proofs.AnswerLaws.{answer_impossible, answer_assignment, answer_holds}
use Rattle.search.specs.Answers.{answer_of}
use Rattle.decision.proofs.DecisionLaws.{table_answer}
use Rattle.clash.specs.Clashes.{is_none, impossible, kept_from, clashing, statements_at, part_of, finds_none, without_model}

pub none_is : {A : Type 0} (o : Option A) → (is_none o ≡ true) ↔ (o ≡ none)
none_is none = (λ e. refl, λ e. refl)
none_is (some x) = (λ e. never cc, λ e. never cc)

-- a question with a model has no clashing statement
module _ (q : Question) (e : is_none (answer q) ≡ false) where
  pub some_none : clashing q ≡ []
  unfolding clashing
  some_none = ap (λ b. cond b (kept_from q.elements q.sets [] 0 (statements q)) []) e

  pub some_empty : part_of q ≡ declaring q.elements q.sets
  unfolding part_of
  some_empty = ap (λ is. question_of q.elements q.sets (statements_at q is)) some_none ∙ sym (declaring_of q.elements q.sets)

-- of an accepted question
module _ (q : Question) (is : IsAccepted q) where
  -- the search finds none exactly if there is none
  pub search_none : is_none (answer q) ≡ without_model q
  unfolding without_model
  search_none = go (answer q) ∙ ap finds_none (sym (table_answer q ((accepted q).1 is)))
    where
      go : (o : Option Solution) → is_none o ≡ finds_none (answer_of o)
      go none = refl
      go (some sol) = refl

  pub none_cant : (is_none (answer q) ≡ true) ↔ CantHold q.elements (statements q)
  none_cant = (λ e. (answer_impossible q is).0 ((none_is (answer q)).0 e), λ h. (none_is (answer q)).1 ((answer_impossible q is).1 h))

  pub some_can : is_none (answer q) ≡ false → CanHold q.elements (statements q)
  some_can e = go (answer q) refl e
    where
      go : (o : Option Solution) → answer q ≡ o → is_none o ≡ false → CanHold q.elements (statements q)
      go none p e = never cc
      go (some sol) p e = record { by = as_model sol; assignment = answer_assignment q is sol p; holding = answer_holds q is sol p }

-- of statements over E and S names
module _ (E S : ℕ) where
  abbrev pub Accepts : List Statement → Type 0
  Accepts ss = IsAccepted (question_of E S ss)

  pub stated : (ss : List Statement) → Accepts ss → statements (question_of E S ss) ≡ ss
  stated ss is = statements_of E S ss is.few_statements

  pub impossible_cant : (ss : List Statement) → Accepts ss → (impossible E S ss ≡ true) ↔ CantHold E ss
  impossible_cant ss is = let iff = none_cant (question_of E S ss) is in
      (λ e. subst (CantHold E) (stated ss is) (iff.0 e), λ h. iff.1 (subst (CantHold E) (sym (stated ss is)) h))

  pub possible_can : (ss : List Statement) → Accepts ss → impossible E S ss ≡ false → CanHold E ss
  possible_can ss is e = subst (CanHold E) (stated ss is) (some_can (question_of E S ss) is e)

  -- a run less is accepted
  pub accepts_rest : (kept after : List Statement) (n : ℕ) → Accepts (kept ++ after) → Accepts (kept ++ drop n after)
  unfolding dropped
  accepts_rest kept after n is = subst Accepts (ap (without (length kept) n) (stated (kept ++ after) is) ∙ without_after kept after n) (accepted_dropped (question_of E S (kept ++ after)) (length kept) n is)

  -- more statements stay impossible
  pub more_impossible : (ss ts : List Statement) → Accepts ss → Accepts ts → Among ss ts → impossible E S ss ≡ true → impossible E S ts ≡ true
  more_impossible ss ts is its among e = (impossible_cant ts its).1 (cant_among E ss ts among ((impossible_cant ss is).0 e))
