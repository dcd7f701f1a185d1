-- A walk over a question's statements, index by index: what stands at an index, where the walk ends, and how the witnesses add up.
use Prim.Native.Nat.{ℕ, suc, ◌+◌, ◌≤◌, ◌<◌, min}
use mathlib.Core.Path.{◌≡◌, refl, sym, ap, ◌∙◌}
use mathlib.Core.Bool.{Bool, true, false, cond}
use mathlib.Core.List.{List, [], ◌∷◌, ◌++◌, map}
use native.Mathlib.Omega.{arith}
use native.Mathlib.Numerals.{add-one}
use lib.ListN.{length, get_or, take, drop, length-take, length-map, get_or-map, drop_of_length-le}
use lib.Seq.{drop-cons, take-suc, get_or-take}
use Rattle.statement.specs.declared.statements.Statement.{Statement}
use Rattle.question.specs.declared.questions.Record.{Record}
use Rattle.question.specs.declared.questions.Question.{Question}
use Rattle.question.specs.Limits.{max_statements}
use Rattle.statement.specs.Statements.{makes_witness, witness, witnesses}
use Rattle.question.specs.Questions.{statements, terms_of}

-- a statement makes at most one witness
pub witness_small : (s : Statement) → witness s ≤ 1
unfolding witness
witness_small s = go (makes_witness s)
  where
    go : (b : Bool) → cond b 1 0 ≤ 1
    go true = omega arith
    go false = omega arith

pub witnesses_few : (ss : List Statement) → witnesses ss ≤ length ss
unfolding witnesses
witnesses_few [] = omega arith
witnesses_few (s ∷ ss) = omega (arith, witness_small s, witnesses_few ss)

pub witnesses_snoc : (ss : List Statement) (s : Statement) → witnesses (ss ++ (s ∷ [])) ≡ witnesses ss + witness s
unfolding witnesses
witnesses_snoc [] s = omega arith
witnesses_snoc (t ∷ ss) s = ap (λ n. witness t + n) (witnesses_snoc ss s) ∙ omega arith

-- what owning a question tells of its table: the logic has the records under a map of its own
pub table_long : {X : Type 0} (f : Record → X) (t : List Record) → length (map f t) ≡ max_statements → length t ≡ max_statements
table_long f t h = sym (length-map t f) ∙ h

module _ (q : Question) where
  pub statements_length : length (statements q) ≡ min q.count (length q.table)
  unfolding statements
  statements_length = length-map (take q.count q.table) (λ r. r.statement) ∙ length-take q.count q.table

  pub statement_at : (i : ℕ) (d : Record) → i < q.count → get_or (statements q) i d.statement ≡ (get_or q.table i d).statement
  unfolding statements
  statement_at i d below = get_or-map (λ r. r.statement) (take q.count q.table) i d ∙ ap (λ r. r.statement) (get_or-take q.count q.table i d below)

  -- one statement more of those in front
  pub statements_more : (i : ℕ) (d : Record) → i < q.count → i < length q.table → take (i + 1) (statements q) ≡ take i (statements q) ++ ((get_or q.table i d).statement ∷ [])
  statements_more i d below inside = rw add-one (take-suc (statements q) i d.statement (omega (arith, statements_length)) ∙ ap (λ s. take i (statements q) ++ (s ∷ [])) (statement_at i d below))

  -- the statement at an index below the count, and those after it
  pub statements_at_lem : (i : ℕ) (d : Record) → i < q.count → i < length q.table → drop i (statements q) ≡ (get_or q.table i d).statement ∷ drop (i + 1) (statements q)
  unfolding statements
  statements_at_lem i d below inside = rw add-one (drop-cons (statements q) i d.statement (omega (arith, statements_length)) ∙ ap (λ s. s ∷ drop (suc i) (statements q)) (statement_at i d below))

  -- a walk over the first n records: the statement of a turn and those after it, and what is left at the end
  pub statements_turn : (n i : ℕ) (d : Record) → n ≤ q.count → i < length (take n q.table) → drop i (statements q) ≡ (get_or (take n q.table) i d).statement ∷ drop (i + 1) (statements q)
  statements_turn n i d few below =
      let size = length-take n q.table in
      rw (get_or-take n q.table i d (omega arith)) (statements_at_lem i d (omega arith) (omega arith))

  -- and one statement more of those in front
  pub statements_front : (n i : ℕ) (d : Record) → n ≤ q.count → i < length (take n q.table) → take (i + 1) (statements q) ≡ take i (statements q) ++ ((get_or (take n q.table) i d).statement ∷ [])
  statements_front n i d few below =
      let size = length-take n q.table in
      rw (get_or-take n q.table i d (omega arith)) (statements_more i d (omega arith) (omega arith))

  pub statements_left : (n i : ℕ) → length (statements q) ≤ n → length (take n q.table) ≤ i → drop i (statements q) ≡ []
  statements_left n i all past = drop_of_length-le (statements q) {i = i} (omega (arith, statements_length, length-take n q.table))

  -- the terms of the statements from the index i on, where t terms stand
  abbrev pub terms_from : ℕ → ℕ → ℕ
  terms_from i t = t + witnesses (drop i (statements q))

  pub terms_start : terms_of q ≡ terms_from 0 q.elements
  unfolding terms_of
  terms_start = refl

  pub terms_turn : (i t : ℕ) (s : Statement) → drop i (statements q) ≡ s ∷ drop (i + 1) (statements q) → terms_from i t ≡ terms_from (i + 1) (t + witness s)
  unfolding witnesses
  terms_turn i t s next = rw next (omega arith)

  pub terms_end : (i t : ℕ) → drop i (statements q) ≡ [] → terms_from i t ≡ t
  unfolding witnesses
  terms_end i t e = rw e (omega arith)
