-- The check of a table accepts exactly the questions that keep the limits and name only what they declare.
use Prim.Native.Nat.{ℕ, suc, ◌+◌, ◌≤◌}
use mathlib.Core.Path.{◌≡◌, refl}
use mathlib.Core.Bool.{Bool, true, false, ◌&&◌, ◌||◌, cond}
use mathlib.Core.List.{List, [], ◌∷◌}
use Rattle.std.specs.Prelude.{Result, Ok, Err}
use mathlib.Core.Logic.{◌↔◌}
use native.Mathlib.Omega.{arith}
use borrow.Author.Tests.{ltb-false, le-ltb}
use lib.Dec.{ltb}
use Rattle.statement.specs.declared.statements.Statement.{Statement}
use Rattle.question.specs.declared.questions.Question.{Question}
use Rattle.outcome.specs.Checks.{Check}
use Rattle.question.specs.Limits.{max_elements, max_sets, max_statements, max_terms}
use Rattle.outcome.specs.Refusals.{refusal, too_many_names, too_many_statements}
use Rattle.outcome.proofs.CheckLaws.{refused_ok}
use Rattle.statement.specs.Statements.{makes_witness, witness, witnesses}
use Rattle.question.specs.Questions.{statements, terms_of}
use Rattle.question.specs.Admissions.{one_too_many, names_then, admission, admitted_at}
use Rattle.statement.specs.NameTests.{name_test}
use Rattle.question.specs.Checks.{statements_checked, checked, AllDeclared, IsAccepted}
use Rattle.outcome.specs.Checks.{accepted_then}

-- a statement that is not one too many keeps T within its limit, and the other way round
module _ (t : ℕ) (s : Statement) where
  fits : one_too_many t s ≡ false → t ≤ max_terms → t + witness s ≤ max_terms
  unfolding witness
  fits e h = go (makes_witness s) e
    where
      go : (b : Bool) → (b && ltb max_terms (t + 1)) ≡ false → t + cond b 1 0 ≤ max_terms
      go true p = omega (arith, ltb-false max_terms (t + 1) p)
      go false p = omega arith

  not_too_many : t + witness s ≤ max_terms → one_too_many t s ≡ false
  unfolding witness
  not_too_many h = go (makes_witness s) h
    where
      go : (b : Bool) → t + cond b 1 0 ≤ max_terms → (b && ltb max_terms (t + 1)) ≡ false
      go true p = le-ltb max_terms (t + 1) p
      go false p = refl

module _ (E S : ℕ) where
  -- what an accepted list of statements keeps
  accepted_keeps : (i t : ℕ) (ss : List Statement) → t ≤ max_terms → statements_checked E S i t ss ≡ Ok tt → AllDeclared E S ss × (t + witnesses ss ≤ max_terms)
  unfolding statements_checked witnesses admission
  accepted_keeps i t [] h e = (tt, omega arith)
  accepted_keeps i t (s ∷ ss) h e = go (name_test E S s) (one_too_many t s) refl refl e (λ k. accepted_keeps (suc i) (t + witness s) ss k)
    where
      rest : Check
      rest = statements_checked E S (suc i) (t + witness s) ss

      go : (n : Result (Unit {0}) ℕ) (b : Bool) → name_test E S s ≡ n → one_too_many t s ≡ b → accepted_then (admitted_at i (names_then n b)) Err rest ≡ Ok tt →
          (t + witness s ≤ max_terms → rest ≡ Ok tt → AllDeclared E S ss × (t + witness s + witnesses ss ≤ max_terms)) → AllDeclared E S (s ∷ ss) × (t + (witness s + witnesses ss) ≤ max_terms)
      go (Err at) b p q r k = refused_ok r
      go (Ok _) true p q r k = refused_ok r
      go (Ok _) false p q r k = let m = k (fits t s q h) r in ((p, m.0), omega arith)

  keeps_accepted : (i t : ℕ) (ss : List Statement) → AllDeclared E S ss → t + witnesses ss ≤ max_terms → statements_checked E S i t ss ≡ Ok tt
  unfolding statements_checked witnesses admission
  keeps_accepted i t [] d h = refl
  keeps_accepted i t (s ∷ ss) d h = rw (d.0, not_too_many t s (omega arith)) (keeps_accepted (suc i) (t + witness s) ss d.1 (omega arith))

module _ (q : Question) where
  keeps : checked q ≡ Ok tt → IsAccepted q
  unfolding checked terms_of
  keeps e = go (ltb max_elements q.elements) (ltb max_sets q.sets) (ltb max_statements q.count) refl refl refl e
    where
      go : (a b c : Bool) → ltb max_elements q.elements ≡ a → ltb max_sets q.sets ≡ b → ltb max_statements q.count ≡ c →
          accepted_then (cond (a || b) (Err (refusal too_many_names 0)) (Ok (tt {0}))) Err (cond c (Err (refusal too_many_statements 0)) (statements_checked q.elements q.sets 0 q.elements (statements q))) ≡ Ok tt → IsAccepted q
      go true b c p r s e = refused_ok e
      go false true c p r s e = refused_ok e
      go false false true p r s e = refused_ok e
      go false false false p r s e =
          let few : q.elements ≤ max_elements = ltb-false _ _ p in
          let k = accepted_keeps q.elements q.sets 0 q.elements (statements q) (omega arith) e in
          record { few_elements = few; few_sets = ltb-false _ _ r; few_statements = ltb-false _ _ s; all_declared = k.0; few_terms = k.1 }

  accepts : IsAccepted q → checked q ≡ Ok tt
  unfolding checked terms_of
  accepts h = rw (le-ltb max_elements _ h.few_elements, le-ltb max_sets _ h.few_sets, le-ltb max_statements _ h.few_statements) (keeps_accepted q.elements q.sets 0 q.elements (statements q) h.all_declared h.few_terms)

  pub accepted : (checked q ≡ Ok tt) ↔ IsAccepted q
  accepted = (keeps, accepts)
