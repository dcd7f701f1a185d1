-- A turn of the walk: how far it has come, and that the decisions left are enough. Where a statement is known to be needed, the decision that told so is spent already.
use Rattle.std.proofs.Common.{Option, Some, None, IfSome}
use Prim.Native.Nat.{ℕ, ◌+◌, ◌-◌, ◌≤◌, ◌<◌}
use mathlib.Core.Path.{◌≡◌, refl, sym, ap, ◌∙◌}
use mathlib.Core.Bool.{true, false}
use mathlib.Core.List.{List, []}
use mathlib.Core.Logic.{◌⊎◌, inl, inr, ⊎_elim, ◌≢◌}
use native.Mathlib.Omega.{arith}
use native.Mathlib.Decide.{dec_le}
use lib.ListN.{length, set}
use borrow.Author.Tests.{eqb-true, eq-eqb}
use lib.Dec.{eqb}
use Rattle.std.specs.Option.{option_eq}
use Rattle.outcome.specs.Padded.{padded}
use Rattle.outcome.proofs.Never.{never}
use Rattle.question.specs.declared.questions.Question.{Question}
use Rattle.question.specs.Limits.{max_statements}
use Rattle.question.specs.Questions.{statements}
use Rattle.question.specs.Checks.{IsAccepted}
use Rattle.question.specs.Builds.{dropped}
use Rattle.question.proofs.StatementsLaws.{statements_length}
use Rattle.theory.specs.Answers.{answer}
use Rattle.clash.specs.declared.walks.Start.{Start}
use Rattle.clash.specs.Clashes.{is_none, clashing, part_of}
use Rattle.clash.specs.Starts.{MayStart}
use Rattle.clash.proofs.WalkLaws.{Walked, walk_starts, rest_accepted, walk_drops, walk_bounds, walk_keeps, walk_ends}

-- the test of the code, whether the next statement is the first of those that are known to be possible
pub is_next : (bound : Option ℕ) (k : ℕ) → option_eq eqb bound (Some k) ≡ true → bound ≡ Some k
is_next None k e = never cc
is_next (Some b) k e = ap Some (eqb-true b k e)

pub isnt_next : (bound : Option ℕ) (k : ℕ) → option_eq eqb bound (Some k) ≡ false → bound ≢ Some k
isnt_next bound k e p = let same = sym e ∙ ap (λ o. option_eq eqb o (Some k)) p ∙ eq-eqb k k refl in never cc

pub record Turn (q part : Question) (indexes : List ℕ) (kept i : ℕ) (bound : Option ℕ) (left : ℕ) : Type 0 where
  pub walked : Walked q part indexes kept i bound
  pub full : length (statements q) ≡ q.count
  pub few_stated : q.count ≤ max_statements
  pub bounded : IfSome bound (λ b. (i < b) × (b ≤ q.count))
  pub enough : (q.count ≤ i + left) ⊎ ((bound ≡ Some (i + 1)) × (q.count ≤ i + 1 + left))

pub turn_starts : (q : Question) (start : Start) → IsAccepted q → MayStart q start → length q.table ≡ max_statements → Turn q (dropped q 0 start.from) (padded max_statements []) 0 start.from start.bound start.left
turn_starts q start is may long =
    let full : length (statements q) ≡ q.count = omega (arith, statements_length q, long, is.few_statements) in
    record {
      walked = walk_starts q is start may full;
      full = full;
      few_stated = is.few_statements;
      bounded = may.bounded;
      enough = may.enough;
    }

module _ {q part : Question} {indexes : List ℕ} {kept i : ℕ} {bound : Option ℕ} {left : ℕ} (t : Turn q part indexes kept i bound left) where
  pub turn_keeps : i < q.count → bound ≡ Some (i + 1) → Turn q part (set indexes kept i) (kept + 1) (i + 1) None left
  turn_keeps lt b = record {
    walked = walk_keeps q t.walked (omega (arith, t.full, t.few_stated)) (omega (arith, t.full)) b;
    full = t.full;
    few_stated = t.few_stated;
    bounded = tt;
    enough = inl (⊎_elim (λ h. omega arith) (λ h. omega (arith, h.1)) t.enough);
  }

  -- a decision
  module _ (lt : i < q.count) (later : bound ≢ Some (i + 1)) where
    spare : q.count ≤ i + left
    spare = ⊎_elim (λ h. h) (λ h. absurd (later h.0)) t.enough

    pub turn_has : 1 ≤ left
    turn_has = omega (arith, spare)

    pub turn_asks : IfSome bound (λ b. (i + 1 < b) × (b ≤ q.count))
    turn_asks = go bound t.bounded later
      where
        go : (o : Option ℕ) → IfSome o (λ b. (i < b) × (b ≤ q.count)) → o ≢ Some (i + 1) → IfSome o (λ b. (i + 1 < b) × (b ≤ q.count))
        go None h l = tt
        go (Some b) h l = let other : b ≢ i + 1 = λ e. l (ap Some e) in (omega (arith, h.0, other), h.1)

    module _ (n : ℕ) (one : 1 ≤ n) (h : IfSome bound (λ b. i + n < b)) (k : i + n ≤ q.count) where
      pub turn_accepted : IsAccepted (dropped part kept n)
      turn_accepted = rest_accepted q t.walked n

      pub turn_drops : is_none (answer (dropped part kept n)) ≡ true → Turn q (dropped part kept n) indexes kept (i + n) bound (left - 1)
      turn_drops e = record {
        walked = walk_drops q t.walked n (omega (arith, t.full)) e;
        full = t.full;
        few_stated = t.few_stated;
        bounded = go bound h t.bounded;
        enough = inl (omega (arith, spare));
      }
        where
          go : (o : Option ℕ) → IfSome o (λ b. i + n < b) → IfSome o (λ b. (i < b) × (b ≤ q.count)) → IfSome o (λ b. (i + n < b) × (b ≤ q.count))
          go None h l = tt
          go (Some b) h l = (h, l.1)

      pub turn_bounds : (left ≤ q.count - i → n ≡ 1) → is_none (answer (dropped part kept n)) ≡ false → Turn q part indexes kept i (Some (i + n)) (left - 1)
      turn_bounds single e = record {
        walked = walk_bounds q t.walked n e;
        full = t.full;
        few_stated = t.few_stated;
        bounded = (omega arith, k);
        enough = go (dec_le left (q.count - i));
      }
        where
          go : Dec (left ≤ q.count - i) → (q.count ≤ i + (left - 1)) ⊎ ((Some (i + n) ≡ Some (i + 1)) × (q.count ≤ i + 1 + (left - 1)))
          go (yes p) = inr (ap (λ k. Some (i + k)) (single p), omega (arith, spare))
          go (no p) = inl (omega (arith, p))

  pub turn_ends : q.count ≤ i → (part ≡ part_of q) × (indexes ≡ padded max_statements (clashing q))
  turn_ends over = walk_ends q t.walked (omega (arith, t.full))
