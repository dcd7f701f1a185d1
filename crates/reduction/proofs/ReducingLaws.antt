-- The row list of a question as a walk over its statements: the rows of one statement more, and how many they are.
use Prim.Native.Nat.{ℕ, ◌+◌, ◌≤◌, ◌<◌}
use mathlib.Core.Path.{◌≡◌, refl, ap, ◌∙◌}
use mathlib.Core.List.{List, [], ◌∷◌, ◌++◌, map, map-append}
use native.Mathlib.Omega.{arith}
use lib.ListN.{length, get_or, drop, length-append, length-map, drop_of_length-le}
use Rattle.statement.specs.declared.statements.Statement.{Statement}
use Rattle.question.specs.declared.questions.Record.{Record}
use Rattle.question.specs.declared.questions.Question.{Question}
use Rattle.question.specs.Limits.{max_statements, max_terms, max_rows}
use Rattle.question.specs.Questions.{statements, terms_of}
use Rattle.statement.specs.Statements.{witness}
use Rattle.question.proofs.StatementsLaws.{statements_length, statements_at_lem}
use Rattle.theory.specs.Rules.{rows_of_rules}
use Rattle.theory.specs.Reduction.{rule, row_list}
use Rattle.theory.proofs.PlaceLaws.{rule_witness}
use Rattle.theory.proofs.RuleLaws.{rules_few}
use Rattle.row.specs.Rows.{pack_row}
use Rattle.reduction.specs.Rules.{rule_rows}
use Rattle.reduction.specs.Reducing.{packed_rows}
use Rattle.reduction.proofs.WritingLaws.{count_same}

-- the rows of some statements, packed: so many terms, w the next witness
abbrev pub rows_of : ℕ → ℕ → List Statement → List ℕ
rows_of terms w ss = map pack_row (rows_of_rules terms w (map rule ss))

pub rows_more : (terms w : ℕ) (s : Statement) (ss : List Statement) → rows_of terms w (s ∷ ss) ≡ rule_rows terms w (rule s) ++ rows_of terms (w + witness s) ss
rows_more terms w s ss = rw (map-append, rule_witness s)

-- their number does not depend on the witness
pub rows_same : (terms w v : ℕ) (ss : List Statement) → length (rows_of terms w ss) ≡ length (rows_of terms v ss)
rows_same terms w v [] = refl
rows_same terms w v (s ∷ ss) =
    rw (rows_more terms w s ss, rows_more terms v s ss, length-append (rule_rows terms w (rule s)) (rows_of terms (w + witness s) ss), length-append (rule_rows terms v (rule s)) (rows_of terms (v + witness s) ss))
    (omega (arith, count_same terms w v (rule s), rows_same terms (w + witness s) (v + witness s) ss))

module _ (q : Question) (terms : ℕ) where
  -- the rows of the statements from the index i on
  abbrev pub rows_from : ℕ → ℕ → List ℕ
  rows_from i w = rows_of terms w (drop i (statements q))

  pub from_turn : (i w : ℕ) (d : Record) → i < length (statements q) →
      rows_from i w ≡ rule_rows terms w (rule (get_or q.table i d).statement) ++ rows_from (i + 1) (w + witness (get_or q.table i d).statement)
  from_turn i w d h =
      let stands = statements_at_lem q i d (omega (arith, statements_length q)) (omega (arith, statements_length q)) in
      ap (rows_of terms w) stands ∙ rows_more terms w (get_or q.table i d).statement (drop (i + 1) (statements q))

  pub from_end : (i w : ℕ) → length (statements q) ≤ i → rows_from i w ≡ []
  from_end i w h = ap (rows_of terms w) (drop_of_length-le (statements q) {i = i} h)

  -- how many rows they are
  abbrev pub count_from : ℕ → ℕ
  count_from i = length (rows_from i 0)

  pub count_turn : (i : ℕ) (d : Record) → i < length (statements q) → count_from i ≡ length (rule_rows terms 0 (rule (get_or q.table i d).statement)) + count_from (i + 1)
  count_turn i d h =
      let s = (get_or q.table i d).statement in
      ap length (from_turn i 0 d h) ∙ length-append (rule_rows terms 0 (rule s)) (rows_from (i + 1) (0 + witness s))
      ∙ ap (λ n. length (rule_rows terms 0 (rule s)) + n) (rows_same terms (0 + witness s) 0 (drop (i + 1) (statements q)))

  pub count_end : (i : ℕ) → length (statements q) ≤ i → count_from i ≡ 0
  count_end i h = ap length (from_end i 0 h)

module _ (q : Question) where
  pub packed_from : packed_rows q ≡ rows_from q (terms_of q) 0 q.elements
  unfolding packed_rows row_list
  packed_from = refl

  pub packed_count : length (packed_rows q) ≡ count_from q (terms_of q) 0
  packed_count = ap length packed_from ∙ rows_same (terms_of q) q.elements 0 (statements q)

  -- a table of 64 records has 64 statements at most
  pub stated_few : length q.table ≡ max_statements → length (statements q) ≤ max_statements
  stated_few long = omega (arith, statements_length q)

  -- no table gives more than 768 rows: 64 statements, and 12 terms
  pub packed_few : length (statements q) ≤ max_statements → terms_of q ≤ max_terms → length (packed_rows q) ≤ max_rows
  unfolding packed_rows row_list
  packed_few stated few =
      omega (arith, length-map (row_list q) pack_row, length-map (statements q) rule, rules_few max_terms (terms_of q) q.elements (map rule (statements q)) (omega arith) few)
