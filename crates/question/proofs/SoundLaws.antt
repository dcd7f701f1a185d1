-- E, S and statements that make an accepted question: what the check of a table says of them, and one statement more.
use Prim.Native.Nat.{ℕ, suc, ◌+◌, ◌≤◌, ◌<◌}
use mathlib.Core.Path.{◌≡◌, refl, sym, ap, ◌∙◌}
use mathlib.Core.List.{List, [], ◌∷◌, ◌++◌}
use native.Mathlib.Omega.{arith}
use Rattle.std.specs.Prelude.{Ok, Err}
use borrow.Author.Tests.{le-ltb}
use lib.ListN.{length, length-append}
use Rattle.outcome.specs.Checks.{accepted_then}
use Rattle.outcome.proofs.CheckLaws.{refused_ok}
use Rattle.statement.specs.declared.statements.Statement.{Statement}
use Rattle.question.specs.declared.questions.Question.{Question}
use Rattle.question.specs.Limits.{max_elements, max_sets, max_statements}
use Rattle.question.specs.Questions.{question_of, statements}
use Rattle.statement.specs.Statements.{witness, witnesses}
use Rattle.question.specs.Admissions.{Admission, admission, admitted_at}
use Rattle.question.specs.Checks.{statements_checked, checked}
use Rattle.question.proofs.StatementsLaws.{statements_length}
use Rattle.question.proofs.BuildLaws.{statements_of}
use Rattle.question.proofs.AcceptedLaws.{accepted}

pub record Sound (E S : ℕ) (ss : List Statement) : Type 0 where
  pub few_elements : E ≤ max_elements
  pub few_sets : S ≤ max_sets
  pub few_statements : length ss ≤ max_statements
  pub admitted : statements_checked E S 0 E ss ≡ Ok tt

pub checked_sound : (q : Question) → checked q ≡ Ok tt → Sound q.elements q.sets (statements q)
unfolding checked
checked_sound q e =
    let a = (accepted q).0 e in
    record {
      few_elements = a.few_elements;
      few_sets = a.few_sets;
      few_statements = omega (arith, statements_length q, a.few_statements);
      admitted = rw (le-ltb max_elements q.elements a.few_elements, le-ltb max_sets q.sets a.few_sets, le-ltb max_statements q.count a.few_statements) at e;
    }

pub sound_checked : (E S : ℕ) (ss : List Statement) → Sound E S ss → checked (question_of E S ss) ≡ Ok tt
unfolding checked
sound_checked E S ss k =
    rw (le-ltb max_elements E k.few_elements, le-ltb max_sets S k.few_sets, le-ltb max_statements (length ss) k.few_statements, statements_of E S ss k.few_statements) k.admitted

-- an accepted list of statements: its first is admitted, and the rest is accepted
pub admitted_first : (E S i t : ℕ) (s : Statement) (ss : List Statement) → statements_checked E S i t (s ∷ ss) ≡ Ok tt → (admission E S t s ≡ Ok tt) × (statements_checked E S (suc i) (t + witness s) ss ≡ Ok tt)
unfolding statements_checked
admitted_first E S i t s ss e = go (admission E S t s) refl e
  where
    go : (a : Admission) → admission E S t s ≡ a → accepted_then (admitted_at i a) Err (statements_checked E S (suc i) (t + witness s) ss) ≡ Ok tt → (admission E S t s ≡ Ok tt) × (statements_checked E S (suc i) (t + witness s) ss ≡ Ok tt)
    go (Ok _) p e = (p, e)
    go (Err why) p e = refused_ok e

-- one statement more that is admitted
checked_snoc : (E S i t : ℕ) (ss : List Statement) (s : Statement) → statements_checked E S i t ss ≡ Ok tt → admission E S (t + witnesses ss) s ≡ Ok tt → statements_checked E S i t (ss ++ (s ∷ [])) ≡ Ok tt
unfolding statements_checked witnesses
checked_snoc E S i t [] s e a = let none : t + 0 ≡ t = omega arith in rw (sym (ap (λ n. admission E S n s) none) ∙ a)
checked_snoc E S i t (r ∷ ss) s e a =
    let f = admitted_first E S i t r ss e in
    let sum : t + (witness r + witnesses ss) ≡ t + witness r + witnesses ss = omega arith in
    rw f.0 (checked_snoc E S (suc i) (t + witness r) ss s f.1 (sym (ap (λ n. admission E S n s) sum) ∙ a))

pub sound_more : (E S : ℕ) (ss : List Statement) (s : Statement) → Sound E S ss → length ss < max_statements → admission E S (E + witnesses ss) s ≡ Ok tt → Sound E S (ss ++ (s ∷ []))
sound_more E S ss s k room ok =
    record {
      few_elements = k.few_elements;
      few_sets = k.few_sets;
      few_statements = omega (arith, length-append ss (s ∷ []));
      admitted = checked_snoc E S 0 E ss s k.admitted ok;
    }

pub sound_none : (E S : ℕ) → E ≤ max_elements → S ≤ max_sets → Sound E S []
unfolding statements_checked
sound_none E S h k = record { few_elements = h; few_sets = k; few_statements = omega arith; admitted = refl }
