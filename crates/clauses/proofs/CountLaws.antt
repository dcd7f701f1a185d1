-- How many clauses, variables and bytes an accepted question can have: 5,076, 259 and 86,307.
use Prim.Native.Nat.{ℕ, zero, suc, ◌+◌, ◌-◌, ◌*◌, ◌≤◌}
use mathlib.Core.Path.{◌≡◌, refl, sym, ap, ◌∙◌}
use mathlib.Core.Bool.{Bool, true, false, cond}
use mathlib.Core.List.{List, [], ◌∷◌, ◌++◌, append_assoc}
use native.Mathlib.Omega.{arith}
use native.Mathlib.Nat.{mul-le-mul_left, mul-le-mul_right}
use lib.Dec.{eqb}
use lib.ListN.{length, length-append}
use Rattle.text.specs.Pieces.{space, line_end}
use Rattle.text.specs.declared.literals.Literal.{Literal}
use Rattle.text.specs.Decimals.{decimal}
use Rattle.text.specs.Literals.{is, is_not, minus, literal_text}
use Rattle.text.proofs.DigitLaws.{digits_below}
use Rattle.question.specs.declared.questions.Question.{Question}
use Rattle.question.specs.Questions.{terms_of}
use Rattle.question.specs.Checks.{IsAccepted}
use Rattle.theory.specs.Lists.{Every}
use Rattle.theory.specs.Rules.{Row, upward}
use Rattle.theory.specs.Sets.{Test, IsSame, IsNotSame, IsIn, IsNotIn, ExactlyIfIn, ExactlyIfNotIn, ExactlyIfSame, ExactlyIfOr, ExactlyIfAnd, ExactlyIfAndNot}
use Rattle.theory.specs.Reduction.{row_list}
use Rattle.theory.proofs.ListLaws.{every_map}
use Rattle.theory.proofs.RuleLaws.{upward_length}
use Rattle.theory.proofs.RowListLaws.{rows_few}
use Rattle.clauses.specs.Variables.{pair_count, same_variable, in_variable, spare_variable}
use Rattle.clauses.specs.Clauses.{Clause, for_each, one, exactly_if, triple_clauses, triples_of, triples_from, triples, pair_clauses, pairs_of, pairs_from, pairs, test_clauses, row_clauses, table_clauses, clauses_of}
use Rattle.clauses.specs.Texts.{clause_line, clause_lines, first_line, longest_clauses, clause_text}
use Rattle.clauses.proofs.DeclaredLaws.{Short, every_short}

-- the sum of g 0, .. , g (n - 1)
abbrev sum : (ℕ → ℕ) → ℕ → ℕ
sum g zero = 0
sum g (suc n) = g n + sum g n

sum_grows : (g : ℕ → ℕ) (n k : ℕ) → sum g n ≤ sum g (k + n)
sum_grows g n zero = let e : 0 + n ≡ n = omega arith in rw e (omega arith)
sum_grows g n (suc k) = let e : suc k + n ≡ suc (k + n) = omega arith in rw e (omega (arith, sum_grows g n k))

sum_up_to : (g : ℕ → ℕ) (n m : ℕ) → n ≤ m → sum g n ≤ sum g m
sum_up_to g n m le = let e : m - n + n ≡ m = omega arith in rw e at (sum_grows g n (m - n))

-- at most so many clauses for each entry
pub entries_few : {A : Type 0} (f : A → List Clause) (most : ℕ) → ((x : A) → length (f x) ≤ most) → (xs : List A) → length (for_each xs f) ≤ length xs * most
unfolding for_each
entries_few f most h [] = omega arith
entries_few f most h (x ∷ xs) = omega (arith, length-append (f x) (for_each xs f), h x, entries_few f most h xs)

-- the numbers from c on below `end`, where d has at most as many clauses as g says of the numbers above it
numbers_few : (f : ℕ → List Clause) (g : ℕ → ℕ) (end n c : ℕ) → n ≡ end - c → ((d : ℕ) → length (f d) ≤ g (end - suc d)) → length (for_each (upward n c) f) ≤ sum g n
unfolding for_each
numbers_few f g end zero c e h = omega arith
numbers_few f g end (suc n) c e h =
    let k : end - suc c ≡ n = omega arith in
    omega (arith, length-append (f c) (for_each (upward n (suc c)) f), rw k at (h c), numbers_few f g end n (suc c) (omega arith) h)

module _ (terms sets : ℕ) where
  -- the triples that start with one of so many terms
  abbrev tripled : ℕ → ℕ
  tripled k = sum (λ j. j * 3) k

  triples_two : (b c : ℕ) → length (triples_of terms sets b c) ≤ (terms - suc c) * 3
  triples_two b c = let n : length (upward (terms - suc c) (suc c)) ≡ terms - suc c = upward_length (terms - suc c) (suc c) in
      rw n at (entries_few (triple_clauses terms sets b c) 3 (λ d. omega arith) (upward (terms - suc c) (suc c)))

  triples_one : (b : ℕ) → length (triples_from terms sets b) ≤ tripled (terms - suc b)
  triples_one b = numbers_few (triples_of terms sets b) (λ j. j * 3) terms (terms - suc b) (suc b) refl (triples_two b)

  pub triples_few : terms ≤ 12 → length (triples terms sets) ≤ 660
  triples_few h = omega (arith, numbers_few (triples_from terms sets) tripled terms terms 0 (omega arith) triples_one, sum_up_to tripled terms 12 h)

  -- the pairs of one term with so many others
  abbrev paired : ℕ → ℕ
  paired k = k * 32

  module _ (few_sets : sets ≤ 16) where
    pairs_two : (c d : ℕ) → length (pairs_of terms sets c d) ≤ 32
    pairs_two c d = omega (arith, entries_few (pair_clauses terms sets c d) 2 (λ x. omega arith) (upward sets 0), upward_length sets 0)

    pairs_one : (c : ℕ) → length (pairs_from terms sets c) ≤ paired (terms - suc c)
    pairs_one c = let n : length (upward (terms - suc c) (suc c)) ≡ terms - suc c = upward_length (terms - suc c) (suc c) in
        rw n at (entries_few (pairs_of terms sets c) 32 (pairs_two c) (upward (terms - suc c) (suc c)))

    pub pairs_few : terms ≤ 12 → length (pairs terms sets) ≤ 2112
    pairs_few h = omega (arith, numbers_few (pairs_from terms sets) paired terms terms 0 (omega arith) pairs_one, sum_up_to paired terms 12 h)

  test_few : (c : ℕ) (t : Test) → length (test_clauses terms sets c t) ≤ 3
  test_few c (IsSame d) = go (eqb c d)
    where
      go : (b : Bool) → length (cond b [] (one (is (same_variable terms sets c d)) ∷ [])) ≤ 3
      go true = omega arith
      go false = omega arith
  test_few c (IsNotSame d) = go (eqb c d)
    where
      go : (b : Bool) → length (cond b (one (is (spare_variable terms sets)) ∷ one (is_not (spare_variable terms sets)) ∷ []) (one (is_not (same_variable terms sets c d)) ∷ [])) ≤ 3
      go true = omega arith
      go false = omega arith
  test_few c (IsIn x) = omega arith
  test_few c (IsNotIn x) = omega arith
  test_few c (ExactlyIfIn x y) = omega arith
  test_few c (ExactlyIfNotIn x y) = omega arith
  test_few c (ExactlyIfSame x a) = go (eqb c a)
    where
      go : (b : Bool) → length (cond b (one (is (in_variable terms sets c x)) ∷ []) (exactly_if (in_variable terms sets c x) (same_variable terms sets c a))) ≤ 3
      go true = omega arith
      go false = omega arith
  test_few c (ExactlyIfOr x y z) = omega arith
  test_few c (ExactlyIfAnd x y z) = omega arith
  test_few c (ExactlyIfAndNot x y z) = omega arith

  pub table_few : (rows : List (Row Test)) → terms ≤ 12 → sets ≤ 16 → length rows ≤ 768 → length (table_clauses terms sets rows) ≤ 5076
  unfolding table_clauses
  table_few rows t s r =
      omega (
        arith,
        length-append (triples terms sets) (pairs terms sets ++ for_each rows (row_clauses terms sets)),
        length-append (pairs terms sets) (for_each rows (row_clauses terms sets)),
        triples_few t,
        pairs_few s t,
        entries_few (row_clauses terms sets) 3 (λ r. test_few r.term r.test) rows,
      )

  pair_count_grows : (n k : ℕ) → pair_count n ≤ pair_count (k + n)
  unfolding pair_count
  pair_count_grows n zero = let e : 0 + n ≡ n = omega arith in rw e (omega arith)
  pair_count_grows n (suc k) = let e : suc k + n ≡ suc (k + n) = omega arith in rw e (omega (arith, pair_count_grows n k))

  pub pair_count_few : terms ≤ 12 → pair_count terms ≤ 66
  unfolding pair_count
  pair_count_few h = let e : 12 - terms + terms ≡ 12 = omega arith in rw e at (pair_count_grows terms (12 - terms))

  pub variables_few : terms ≤ 12 → sets ≤ 16 → spare_variable terms sets ≤ 259
  variables_few t s = omega (arith, pair_count_few t, mul-le-mul_right sets t, mul-le-mul_left 12 s)

literal_short : (l : Literal) → l.variable ≤ 259 → length (literal_text l) ≤ 4
literal_short l h = go l.denied
  where
    go : (b : Bool) → length (cond b (minus ∷ []) [] ++ decimal l.variable) ≤ 4
    go true = omega (arith, digits_below 3 (suc l.variable) l.variable (omega arith) (omega arith))
    go false = omega (arith, digits_below 3 (suc l.variable) l.variable (omega arith) (omega arith))

line_short : (c : Clause) → Every (λ l. l.variable ≤ 259) c → length (clause_line c) ≤ length c * 5 + 2
line_short [] h = omega arith
line_short (l ∷ ls) h = omega (arith, length-append (literal_text l) (space ∷ clause_line ls), literal_short l h.0, line_short ls h.1)

pub lines_append : (cs ds : List Clause) → clause_lines (cs ++ ds) ≡ clause_lines cs ++ clause_lines ds
unfolding clause_lines
lines_append [] ds = refl
lines_append (c ∷ cs) ds = ap (λ t. clause_line c ++ t) (lines_append cs ds) ∙ sym (append_assoc (clause_line c) (clause_lines cs) (clause_lines ds))

pub lines_length : (cs ds : List Clause) → length (clause_lines (cs ++ ds)) ≡ length (clause_lines cs) + length (clause_lines ds)
lines_length cs ds = ap (λ t. length t) (lines_append cs ds) ∙ length-append (clause_lines cs) (clause_lines ds)

-- lines of at most `most` bytes
lines_few : (most : ℕ) (cs : List Clause) → Every (λ c. length (clause_line c) ≤ most) cs → length (clause_lines cs) ≤ length cs * most
unfolding clause_lines
lines_few most [] h = omega arith
lines_few most (c ∷ cs) h = omega (arith, length-append (clause_line c) (clause_lines cs), h.0, lines_few most cs h.1)

first_short : (variables clauses : ℕ) → variables ≤ 259 → clauses ≤ 5076 → length (first_line variables clauses) ≤ 15
first_short variables clauses v c =
    omega (
      arith,
      length-append (decimal variables) (space ∷ (decimal clauses ++ (line_end ∷ []))),
      length-append (decimal clauses) (line_end ∷ []),
      digits_below 3 (suc variables) variables (omega arith) (omega arith),
      digits_below 4 (suc clauses) clauses (omega arith) (omega arith),
    )

module _ (q : Question) (accepted : IsAccepted q) where
  pub few_clauses : length (clauses_of q) ≤ 5076
  few_clauses = table_few (terms_of q) q.sets (row_list q) accepted.few_terms accepted.few_sets (rows_few q accepted)

  pub few_variables : spare_variable (terms_of q) q.sets ≤ 259
  few_variables = variables_few (terms_of q) q.sets accepted.few_terms accepted.few_sets

  lines_short : Every (λ c. length (clause_line c) ≤ 17) (clauses_of q)
  lines_short = every_map (Short (terms_of q) q.sets) (λ c. length (clause_line c) ≤ 17) short (clauses_of q) (every_short q accepted)
    where
      short : (c : Clause) → Short (terms_of q) q.sets c → length (clause_line c) ≤ 17
      short c h = omega (arith, h.0, line_short c (every_map (λ l. (1 ≤ l.variable) × (l.variable ≤ spare_variable (terms_of q) q.sets)) (λ l. l.variable ≤ 259) (λ l p. omega (arith, p.1, few_variables)) c h.1))

  pub text_short : length (clause_text q) ≤ longest_clauses
  unfolding clause_text
  text_short =
      omega (
        arith,
        length-append (first_line (spare_variable (terms_of q) q.sets) (length (clauses_of q))) (clause_lines (clauses_of q)),
        first_short (spare_variable (terms_of q) q.sets) (length (clauses_of q)) few_variables few_clauses,
        few_clauses,
        lines_few 17 (clauses_of q) lines_short,
      )
