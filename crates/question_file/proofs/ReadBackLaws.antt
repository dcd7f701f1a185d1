-- The reader at the file of an accepted question: field by field it makes the question again.
use Prim.Native.Nat.{ℕ, suc, ◌+◌, ◌-◌, ◌≤◌, ◌<◌}
use mathlib.Core.Path.{◌≡◌, refl, sym, ap, ◌∙◌}
use mathlib.Core.List.{List, [], ◌∷◌, ◌++◌, append-nil, append_assoc}
use native.Mathlib.Omega.{arith}
use borrow.Author.Tests.{le-ltb}
use lib.ListN.{length, drop, length-append, length-drop}
use Rattle.field.specs.Heads.{end_bytes}
use Rattle.statement.specs.declared.statements.Statement.{Statement}
use Rattle.std.specs.Prelude.{Ok, Result}
use Rattle.outcome.specs.declared.refusals.Refusal.{Refusal}
use Rattle.question.specs.declared.questions.Question.{Question}
use Rattle.question.specs.Limits.{max_statements}
use Rattle.question.specs.Questions.{question_of}
use Rattle.statement.specs.Statements.{witness, witnesses}
use Rattle.question.specs.Admissions.{admission}
use Rattle.question.specs.Checks.{statements_checked}
use Rattle.question.specs.Builds.{declaring}
use Rattle.question.proofs.StatementsLaws.{witnesses_snoc}
use Rattle.question.proofs.BuildLaws.{declaring_of, added_of, terms_of_lem}
use Rattle.question.proofs.SoundLaws.{Sound, admitted_first}
use Rattle.question_file.specs.Bodies.{body_of}
use Rattle.question_file.specs.Bytes.{names_bytes, statement_bytes, statements_bytes, file_bytes}
use Rattle.question_file.specs.Fields.{More, field_step}
use Rattle.question_file.specs.Reads.{read_fields, max_fields, read_question}
use Rattle.question_file.proofs.StepLaws.{names_step, statement_step, end_step}
use Rattle.question_file.proofs.ReadLaws.{past, go_on, stop_end}

-- the statements still to come, where some are done
module _ (bytes : List ℕ) (E S : ℕ) where
  abbrev whole : List Statement → Result Question Refusal
  whole ss = Ok (question_of E S ss)

  at_end : (done : List Statement) (at n m : ℕ) → n ≡ suc m → (at ≡ 0 → ⊥) → drop at bytes ≡ end_bytes → read_fields n bytes at (question_of E S done) ≡ whole done
  at_end done at n m e later rest =
      let size : length (drop at bytes) ≡ 3 = ap length rest in
      stop_end bytes at (question_of E S done) n m e (at + 3) (ap (λ l. field_step l at (question_of E S done)) rest ∙ end_step at (question_of E S done) [] later)
      ∙ rw (le-ltb (at + 3) (length bytes) (omega (arith, rw (length-drop at bytes) at size)))

  module _ (s : Statement) (after : List ℕ) (done : List Statement) (at : ℕ) (later : at ≡ 0 → ⊥) (rest : drop at bytes ≡ statement_bytes s ++ after) where
    abbrev next : ℕ
    next = at + (3 + length (body_of s))

    one_more : (n m : ℕ) → n ≡ suc m → length done < max_statements → admission E S (E + witnesses done) s ≡ Ok tt →
        read_fields n bytes at (question_of E S done) ≡ read_fields m bytes next (question_of E S (done ++ (s ∷ [])))
    one_more n m e few ok =
        go_on bytes at (question_of E S done) n m e next (question_of E S (done ++ (s ∷ [])))
        (ap (λ l. field_step l at (question_of E S done)) rest
        ∙ statement_step at (question_of E S done) after s later few (ap (λ t. admission E S t s) (terms_of_lem E S done (omega arith)) ∙ ok)
        ∙ ap (More next) (added_of E S done s few))

  read_on : (todo done : List Statement) (at n i : ℕ) → (at ≡ 0 → ⊥) → drop at bytes ≡ statements_bytes todo ++ end_bytes → length done + length todo ≤ max_statements → length todo < n →
      statements_checked E S i (E + witnesses done) todo ≡ Ok tt → read_fields n bytes at (question_of E S done) ≡ whole (done ++ todo)
  unfolding statements_bytes
  read_on [] done at n i later rest room enough ok = at_end done at n (n - 1) (omega arith) later rest ∙ ap whole (sym (append-nil done))
  read_on (s ∷ todo) done at n i later rest room enough ok =
      let a = admitted_first E S i (E + witnesses done) s todo ok in
      let r = rest ∙ append_assoc (statement_bytes s) (statements_bytes todo) end_bytes in
      let t : E + witnesses done + witness s ≡ E + witnesses (done ++ (s ∷ [])) = omega (arith, witnesses_snoc done s) in
      one_more s (statements_bytes todo ++ end_bytes) done at later r n (n - 1) (omega arith) (omega arith) a.0
      ∙ read_on todo (done ++ (s ∷ [])) (at + (3 + length (body_of s))) (n - 1) (suc i) (λ z. omega arith) (past bytes (statement_bytes s) at (at + (3 + length (body_of s))) (record { after = statements_bytes todo ++ end_bytes; as_read = r; behind = omega arith })) (omega (arith, length-append done (s ∷ []))) (omega arith) (ap (λ x. statements_checked E S (suc i) x todo) (sym t) ∙ a.1)
      ∙ ap whole (append_assoc done (s ∷ []) todo)

-- the file of an accepted question
pub file_read_back : (E S : ℕ) (ss : List Statement) → Sound E S ss → read_question (file_bytes E S ss) ≡ Ok (question_of E S ss)
unfolding file_bytes witnesses
file_read_back E S ss k =
    let bytes : List ℕ = names_bytes E S ++ (statements_bytes ss ++ end_bytes) in
    let none : E + 0 ≡ E = omega arith in
    go_on bytes 0 (declaring 0 0) max_fields 65 refl 5 (question_of E S []) (names_step E S (statements_bytes ss ++ end_bytes) (declaring 0 0) k.few_elements k.few_sets ∙ ap (More 5) (declaring_of E S))
    ∙ read_on bytes E S ss [] 5 65 0 (λ z. omega arith) refl (omega (arith, k.few_statements)) (omega (arith, k.few_statements)) (ap (λ x. statements_checked E S 0 x ss) none ∙ k.admitted)
