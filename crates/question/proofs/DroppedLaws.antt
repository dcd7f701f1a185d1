-- A question without some of its statements is accepted where the question is.
use Prim.Native.Nat.{ℕ, zero, suc, ◌+◌, ◌≤◌}
use mathlib.Core.Path.{◌≡◌, sym, ap, subst, ◌∙◌}
use mathlib.Core.List.{List, [], ◌∷◌, ◌++◌}
use native.Mathlib.Omega.{arith}
use lib.ListN.{take, drop, take-append-drop}
use lib.Seq.{drop-drop}
use Rattle.statement.specs.declared.statements.Statement.{Statement}
use Rattle.statement.specs.Statements.{witnesses}
use Rattle.question.specs.declared.questions.Question.{Question}
use Rattle.question.specs.Questions.{statements, terms_of}
use Rattle.question.specs.Checks.{AllDeclared, IsAccepted}
use Rattle.question.specs.Builds.{without, dropped}
use Rattle.question.proofs.StatementsLaws.{statements_length}
use Rattle.question.proofs.BuildLaws.{without_shorter, dropped_statements}

module _ (E S : ℕ) where
  declared_append : (k l : List Statement) → AllDeclared E S k → AllDeclared E S l → AllDeclared E S (k ++ l)
  declared_append [] l d e = e
  declared_append (s ∷ k) l d e = (d.0, declared_append k l d.1 e)

  declared_take : (i : ℕ) (l : List Statement) → AllDeclared E S l → AllDeclared E S (take i l)
  declared_take zero l d = tt
  declared_take (suc i) [] d = tt
  declared_take (suc i) (s ∷ l) d = (d.0, declared_take i l d.1)

  declared_drop : (i : ℕ) (l : List Statement) → AllDeclared E S l → AllDeclared E S (drop i l)
  declared_drop zero l d = d
  declared_drop (suc i) [] d = tt
  declared_drop (suc i) (s ∷ l) d = declared_drop i l d.1

witnesses_append : (k l : List Statement) → witnesses (k ++ l) ≡ witnesses k + witnesses l
unfolding witnesses
witnesses_append [] l = omega arith
witnesses_append (s ∷ k) l = omega (arith, witnesses_append k l)

witnesses_drop : (n : ℕ) (l : List Statement) → witnesses (drop n l) ≤ witnesses l
unfolding witnesses
witnesses_drop zero l = omega arith
witnesses_drop (suc n) [] = omega arith
witnesses_drop (suc n) (s ∷ l) = omega (arith, witnesses_drop n l)

-- they make no more witnesses
witnesses_without : (i n : ℕ) (l : List Statement) → witnesses (without i n l) ≤ witnesses l
witnesses_without i n l =
    let all : witnesses (take i l) + witnesses (drop i l) ≡ witnesses l = sym (witnesses_append (take i l) (drop i l)) ∙ ap witnesses (take-append-drop i l) in
    let rest : witnesses (drop (i + n) l) ≤ witnesses (drop i l) = subst (λ m. witnesses m ≤ witnesses (drop i l)) (drop-drop n i l) (witnesses_drop n (drop i l)) in
    omega (arith, witnesses_append (take i l) (drop (i + n) l), all, rest)

pub accepted_dropped : (q : Question) (i n : ℕ) → IsAccepted q → IsAccepted (dropped q i n)
unfolding dropped terms_of
accepted_dropped q i n is = record {
  few_elements = is.few_elements;
  few_sets = is.few_sets;
  few_statements = omega (arith, without_shorter i n (statements q), statements_length q, is.few_statements);
  all_declared = rw left (declared_append q.elements q.sets (take i (statements q)) (drop (i + n) (statements q)) (declared_take q.elements q.sets i (statements q) is.all_declared) (declared_drop q.elements q.sets (i + n) (statements q) is.all_declared));
  few_terms = rw left (omega (arith, witnesses_without i n (statements q), is.few_terms));
}
  where
    left : statements (dropped q i n) ≡ without i n (statements q)
    left = dropped_statements q i n is.few_statements
