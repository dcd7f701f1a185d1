-- The number of terms, kept by adding, where the question is built in place.
use Prim.Native.Nat.{ℕ, ◌+◌, ◌≤◌, ◌<◌}
use mathlib.Core.Path.{◌≡◌, sym, ap, ◌∙◌}
use mathlib.Core.List.{List, [], ◌∷◌, ◌++◌}
use native.Mathlib.Omega.{arith}
use lib.ListN.{length, length-append}
use Rattle.statement.specs.declared.statements.Statement.{Statement}
use Rattle.question.specs.declared.questions.Question.{Question}
use Rattle.question.specs.Limits.{max_elements, max_statements}
use Rattle.question.specs.Questions.{question_of, terms_of}
use Rattle.statement.specs.Statements.{witness, witnesses}
use Rattle.question.specs.Builds.{declaring, added}
use Rattle.question.proofs.StatementsLaws.{witness_small, witnesses_few, witnesses_snoc}
use Rattle.question.proofs.BuildLaws.{declaring_of, added_of, terms_of_lem}

-- the question was built so, and has so many terms
pub record Kept (q : Question) (total : ℕ) : Type 0 where
  pub E : ℕ
  pub S : ℕ
  pub ss : List Statement
  pub few_elements : E ≤ max_elements
  pub few_statements : length ss ≤ max_statements
  pub made : q ≡ question_of E S ss
  pub counted : total ≡ E + witnesses ss

pub kept_names : (E S : ℕ) → E ≤ max_elements → Kept (declaring E S) E
unfolding witnesses
kept_names E S h = record { E = E; S = S; ss = []; few_elements = h; few_statements = omega arith; made = declaring_of E S; counted = omega arith }

module _ (q : Question) (total : ℕ) (k : Kept q total) where
  pub kept_terms : total ≡ terms_of q
  kept_terms = k.counted ∙ sym (ap terms_of k.made ∙ terms_of_lem k.E k.S k.ss k.few_statements)

  pub kept_small : (s : Statement) → total + witness s ≤ 73
  kept_small s = omega (arith, k.counted, k.few_elements, k.few_statements, witnesses_few k.ss, witness_small s)

  pub kept_more : (s : Statement) → q.count < max_statements → Kept (added q s) (total + witness s)
  kept_more s h =
      let more : length k.ss < max_statements = rw k.made at h in
      record {
        E = k.E;
        S = k.S;
        ss = k.ss ++ (s ∷ []);
        few_elements = k.few_elements;
        few_statements = omega (arith, length-append k.ss (s ∷ []));
        made = ap (λ x. added x s) k.made ∙ added_of k.E k.S k.ss s more;
        counted = omega (arith, k.counted, witnesses_snoc k.ss s);
      }
