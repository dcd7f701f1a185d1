-- Clauses of small questions, by computing: the order of triples, pairs and sets, rows in either order of their terms, a term that is itself, and a whole text.
use mathlib.Core.Path.{◌≡◌, refl}
use mathlib.Core.List.{[], ◌∷◌}
use Rattle.statement.specs.declared.statements.Statement.TheVariants.{ElementsEqual, ElementsDiffer, Single}
use Rattle.statement.specs.Statements.{witness, witnesses}
use Rattle.question.specs.Questions.{question_of, statements, terms_of}
use Rattle.text.specs.Decimals.{digits_in}
use Rattle.text.specs.Literals.{is, is_not}
use Rattle.theory.specs.Reduction.{row_list}
use Rattle.theory.specs.Cases.{e, s, case_b}
use Rattle.clauses.specs.Variables.{pair_count, pair_index}
use Rattle.clauses.specs.Clauses.{for_each, table_clauses, clauses_of}
use Rattle.clauses.specs.Texts.{clause_lines, clause_text}

-- E=3 S=1, nothing: the pairs 01, 02, 12 are 1, 2, 3, and the terms in s0 are 4, 5, 6
pub three_terms : clauses_of (question_of 3 1 []) ≡
    (is_not 1 ∷ is_not 3 ∷ is 2 ∷ []) ∷ (is_not 1 ∷ is_not 2 ∷ is 3 ∷ []) ∷ (is_not 2 ∷ is_not 3 ∷ is 1 ∷ []) ∷
    (is_not 1 ∷ is_not 4 ∷ is 5 ∷ []) ∷ (is_not 1 ∷ is_not 5 ∷ is 4 ∷ []) ∷
    (is_not 2 ∷ is_not 4 ∷ is 6 ∷ []) ∷ (is_not 2 ∷ is_not 6 ∷ is 4 ∷ []) ∷
    (is_not 3 ∷ is_not 5 ∷ is 6 ∷ []) ∷ (is_not 3 ∷ is_not 6 ∷ is 5 ∷ []) ∷ []
unfolding table_clauses for_each pair_count pair_index row_list terms_of statements witness witnesses
three_terms = refl

-- E=2 S=1, e1=e0, e0=e0, e0≠e0, s0={e0}: the pair is 1, the terms in s0 are 2 and 3, the spare is 4
pub one_name_twice : clauses_of (question_of 2 1 (ElementsEqual (e 1) (e 0) ∷ ElementsEqual (e 0) (e 0) ∷ ElementsDiffer (e 0) (e 0) ∷ Single (s 0) (e 0) ∷ [])) ≡
    (is_not 1 ∷ is_not 2 ∷ is 3 ∷ []) ∷ (is_not 1 ∷ is_not 3 ∷ is 2 ∷ []) ∷
    (is 1 ∷ []) ∷
    (is 4 ∷ []) ∷ (is_not 4 ∷ []) ∷
    (is 2 ∷ []) ∷ (is_not 3 ∷ is 1 ∷ []) ∷ (is 3 ∷ is_not 1 ∷ []) ∷ []
unfolding table_clauses for_each pair_count pair_index row_list terms_of statements witness witnesses
one_name_twice = refl

-- document 01's case B, E=2 S=0, e0≠e1: `p cnf 2 1`, `-1 0`
pub text_of_B : clause_text case_b.asks ≡ 0x70 ∷ 0x20 ∷ 0x63 ∷ 0x6e ∷ 0x66 ∷ 0x20 ∷ 0x32 ∷ 0x20 ∷ 0x31 ∷ 0x0a ∷ 0x2d ∷ 0x31 ∷ 0x20 ∷ 0x30 ∷ 0x0a ∷ []
unfolding clause_text clause_lines digits_in table_clauses for_each pair_count pair_index row_list terms_of statements witness witnesses
text_of_B = refl
