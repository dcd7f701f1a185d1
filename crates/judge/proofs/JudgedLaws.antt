-- The walk over the statements for the first that fails: what one turn does, and how it ends.
use Rattle.std.proofs.Common.{ℕ, suc, ◌+◌, ◌≤◌, ◌<◌, ◌≡◌, Bool, true, false, not, cond, ltb, List, ◌∷◌, length, get_or, drop, Option, Some, None, option_map, tests, refl, ap, ◌∙◌, arith}
use borrow.Author.Tests.{lt-ltb}
use lib.ListN.{drop_of_length-le}
use Rattle.std.specs.List.{position_or_len}
use Rattle.statement.specs.declared.statements.Statement.{Statement}
use Rattle.question.specs.declared.questions.Record.{Record}
use Rattle.question.specs.declared.questions.Question.{Question}
use Rattle.question.specs.Questions.{statements}
use Rattle.question.proofs.StatementsLaws.{statements_length, statements_at_lem}
use Rattle.judge.specs.Judgements.{first_failing}

module _ (f : Statement → Bool) where
  -- the first that fails, where the list starts at the index i
  abbrev shifted : ℕ → List Statement → Option ℕ
  shifted i ss = option_map (λ k. i + k) (first_failing f ss)

  -- the first statement of a list fails, or the walk goes on behind it
  first_turn : (i : ℕ) (s : Statement) (ss : List Statement) → shifted i (s ∷ ss) ≡ cond (f s) (shifted (i + 1) ss) (Some i)
  unfolding first_failing
  first_turn i s ss = by (f s) (position_or_len (λ t. not (f t)) ss) (length ss)
    where
      suc_suc : (n l : ℕ) → ltb (1 + n) (suc l) ≡ ltb n l
      suc_suc n l = grind (arith, tests)

      next : (b : Bool) (n : ℕ) → option_map (λ k. i + k) (cond b (Some (1 + n)) None) ≡ option_map (λ k. i + 1 + k) (cond b (Some n) None)
      next true n = ap Some (omega arith)
      next false n = refl

      by : (b : Bool) (n l : ℕ) → option_map (λ k. i + k) (cond (ltb (cond (not (not b)) (1 + n) 0) (suc l)) (Some (cond (not (not b)) (1 + n) 0)) None) ≡ cond b (option_map (λ k. i + 1 + k) (cond (ltb n l) (Some n) None)) (Some i)
      by true n l = rw (suc_suc n l) (next (ltb n l) n)
      by false n l = rw (lt-ltb 0 (suc l) (omega arith)) (ap Some (omega arith))

  module _ (q : Question) where
    -- the first from the index i on
    abbrev pub failing_from : ℕ → Option ℕ
    failing_from i = option_map (λ k. i + k) (first_failing f (drop i (statements q)))

    pub failing_turn : (i : ℕ) (d : Record) → i < length (statements q) → failing_from i ≡ cond (f (get_or q.table i d).statement) (failing_from (i + 1)) (Some i)
    failing_turn i d below =
        let few = statements_length q in
        ap (shifted i) (statements_at_lem q i d (omega arith) (omega arith)) ∙ first_turn i (get_or q.table i d).statement (drop (i + 1) (statements q))

    pub failing_end : (i : ℕ) → length (statements q) ≤ i → failing_from i ≡ None
    unfolding first_failing
    failing_end i h = ap (shifted i) (drop_of_length-le (statements q) {i = i} h)
