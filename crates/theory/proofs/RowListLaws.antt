-- The row list of an accepted question: it names only terms and sets that there are, and has no more than 768 rows.
use Prim.Native.Nat.{ℕ, ◌≤◌, ◌<◌}
use mathlib.Core.List.{List}
use native.Mathlib.Omega.{arith}
use lib.Dec.{T, ltb, lt→ltb}
use lib.ListN.{length, length-map}
use Rattle.question.specs.declared.questions.Question.{Question}
use Rattle.question.specs.Limits.{max_rows, max_terms}
use Rattle.question.specs.Questions.{statements, terms_of}
use Rattle.question.specs.Checks.{IsAccepted}
use Rattle.question.proofs.StatementsLaws.{statements_length}
use Rattle.theory.specs.Lists.{Every}
use Rattle.theory.specs.Rules.{Row}
use Rattle.theory.specs.Solutions.{all_rows}
use Rattle.theory.specs.Sets.{Test, places_of, places_declared, row_declared}
use Rattle.theory.specs.Reduction.{rule, row_list}
use Rattle.statement.proofs.TestLaws.{and_both}
use Rattle.theory.proofs.ListLaws.{every_map, all_every, every_all}
use Rattle.theory.proofs.RuleLaws.{TermsBelow, rules_few, RowNamed, rows_named}
use Rattle.theory.proofs.PlaceLaws.{declared_term, Named, places_more, rules_named}
use Rattle.theory.proofs.DemandThree.{rules_of, terms_are}

-- declared rows are about terms that there are
pub declared_below : (terms sets : ℕ) (rows : List (Row Test)) → T (all_rows (row_declared terms sets) rows) → TermsBelow terms rows
declared_below terms sets rows h = every_map (λ r. T (row_declared terms sets r)) (λ r. r.term < terms) (declared_term terms sets) rows (all_every (row_declared terms sets) rows h)

module _ (q : Question) (accepted : IsAccepted q) where
  -- a rule names element names only, which are the first terms
  abbrev NamedHere : Row Test → Type 0
  NamedHere = RowNamed q.elements (Named q.elements q.sets) (terms_of q)

  named_declared : (r : Row Test) → NamedHere r → T (row_declared (terms_of q) q.sets r)
  named_declared r h = and_both (ltb r.term (terms_of q)) (places_declared (terms_of q) q.sets (places_of r.test)) (lt→ltb r.term (terms_of q) h.0)
      (places_more q.elements q.sets (terms_of q) q.sets (omega (arith, terms_are q)) (omega arith) (places_of r.test) h.1)

  -- every row is about a term below T, and names only terms below T and sets below S
  pub rows_declared : T (all_rows (row_declared (terms_of q) q.sets) (row_list q))
  unfolding row_list
  rows_declared = every_all (row_declared (terms_of q) q.sets) (row_list q) (every_map NamedHere (λ r. T (row_declared (terms_of q) q.sets r)) named_declared (row_list q) all_named)
    where
      all_named : Every NamedHere (row_list q)
      all_named = rows_named q.elements (Named q.elements q.sets) (terms_of q) q.elements (rules_of q)
          (rules_named q.elements q.sets (statements q) accepted.all_declared) (omega (arith, terms_are q)) (omega (arith, terms_are q))

  pub rows_below : TermsBelow (terms_of q) (row_list q)
  rows_below = declared_below (terms_of q) q.sets (row_list q) rows_declared

  -- no question gives more than 768 rows: 64 statements, and 12 terms
  pub rows_few : length (row_list q) ≤ max_rows
  unfolding row_list
  rows_few = omega (arith, rules_few max_terms (terms_of q) q.elements (rules_of q) (omega arith) accepted.few_terms, length-map (statements q) rule, statements_length q, accepted.few_statements)
