-- The lines that truth values write say a model: every variable stands once, and the truth values that they say are those that wrote them.
use Prim.Native.Nat.{ℕ, zero, suc, ◌+◌, ◌≤◌, ◌<◌}
use mathlib.Core.Path.{◌≡◌, refl, ap, ◌∙◌}
use mathlib.Core.Bool.{Bool, true, false, not, ◌&&◌, ◌||◌, cond}
use mathlib.Core.List.{List, [], ◌∷◌, ◌++◌, map, append-nil}
use native.Mathlib.Omega.{arith}
use borrow.Author.Tests.{eqb-true, eqb-false, ne_eqb}
use lib.Dec.{eqb}
use Rattle.outcome.proofs.Never.{never}
use Rattle.text.specs.declared.literals.Literal.{Literal}
use Rattle.text.specs.Decimals.{digits_in}
use Rattle.text.specs.Literals.{is, literal_text}
use Rattle.text.specs.Pieces.{space, line_end, until, Free}
use Rattle.text.proofs.PieceLaws.{free_both, free_byte}
use Rattle.text.proofs.LiteralLaws.{literal_free}
use Rattle.theory.specs.Lists.{Every}
use Rattle.theory.specs.Rules.{upward}
use Rattle.lines.specs.Steps.{satisfiable, values}
use Rattle.lines.specs.Sentences.{text_of, uncommented, numbers_text, values_line, together, times_said, EachOnce, truth_in, HasOne, SaysModel, own_literal, own_literals, own_lines}

-- no 0A stands in a `v` line
numbers_free : (ls : List Literal) → Free line_end (numbers_text ls)
unfolding numbers_text until
numbers_free [] = refl
numbers_free (l ∷ ls) = free_both line_end (space ∷ []) (literal_text l ++ numbers_text ls) refl (free_both line_end (literal_text l) (numbers_text ls) (literal_free line_end (omega arith) l) (numbers_free ls))

values_free : (ls : List Literal) → Free line_end (values_line ls)
values_free ls = free_both line_end values (numbers_text ls) (free_byte line_end 0x76 (λ e. omega arith)) (numbers_free ls)

satisfiable_free : Free line_end satisfiable
unfolding until
satisfiable_free = refl

-- with the 0 behind them there is one number at least
some_literal : (ls : List Literal) → HasOne (ls ++ (is 0 ∷ []))
some_literal [] e = never cc
some_literal (l ∷ ls) e = never cc

module _ (truth : ℕ → Bool) where
  -- n variables from c on
  abbrev from : ℕ → ℕ → List Literal
  from n c = map (own_literal truth) (upward n c)

  from_declared : (most n c : ℕ) → 1 ≤ c → c + n ≤ suc most → Every (λ l. (1 ≤ l.variable) × (l.variable ≤ most)) (from n c)
  from_declared most zero c h k = tt
  from_declared most (suc n) c h k = ((h, omega arith), from_declared most n (suc c) (omega arith) (omega arith))

  -- those below c don't stand there
  times_below : (n c v : ℕ) → v < c → times_said v (from n c) ≡ 0
  unfolding times_said
  times_below zero c v h = refl
  times_below (suc n) c v h = rw (ne_eqb c v (λ e. omega arith)) (times_below n (suc c) v (omega arith))

  truth_below : (n c v : ℕ) → v < c → truth_in (from n c) v ≡ false
  unfolding truth_in
  truth_below zero c v h = refl
  truth_below (suc n) c v h = rw (ne_eqb c v (λ e. omega arith)) (truth_below n (suc c) v (omega arith))

  -- the others stand once, with their truth values
  times_once : (n c v : ℕ) → c ≤ v → v < c + n → times_said v (from n c) ≡ 1
  unfolding times_said
  times_once zero c v h k = absurd (omega arith)
  times_once (suc n) c v h k = go (eqb c v) refl (times_once n (suc c) v)
    where
      go : (t : Bool) → eqb c v ≡ t → (suc c ≤ v → v < suc c + n → times_said v (from n (suc c)) ≡ 1) → cond t (suc (times_said v (from n (suc c)))) (times_said v (from n (suc c))) ≡ 1
      go true e later = ap suc (times_below n (suc c) v (omega (arith, eqb-true c v e)))
      go false e later = let other = eqb-false c v e in later (omega arith) (omega arith)

  truth_own : (n c v : ℕ) → c ≤ v → v < c + n → truth_in (from n c) v ≡ truth v
  unfolding truth_in
  truth_own zero c v h k = absurd (omega arith)
  truth_own (suc n) c v h k = go (eqb c v) refl (truth_own n (suc c) v)
    where
      twice : (b : Bool) → (not (not b) || false) ≡ b
      twice true = refl
      twice false = refl

      go : (t : Bool) → eqb c v ≡ t → (suc c ≤ v → v < suc c + n → truth_in (from n (suc c)) v ≡ truth v) → (t && not (not (truth c)) || truth_in (from n (suc c)) v) ≡ truth v
      go true e later =
          let same = eqb-true c v e in
          ap (λ b. not (not (truth c)) || b) (truth_below n (suc c) v (omega arith)) ∙ twice (truth c) ∙ ap truth same
      go false e later = let other = eqb-false c v e in later (omega arith) (omega arith)

  module _ (most : ℕ) where
    -- the truth values that they say
    pub own_truth : (v : ℕ) → 1 ≤ v → v ≤ most → truth_in (own_literals most truth) v ≡ truth v
    own_truth v h k = truth_own most 1 v h (omega arith)

    own_once : EachOnce most (own_literals most truth)
    own_once = record { declared = from_declared most most 1 (omega arith) (omega arith); once = λ v h k. times_once most 1 v h (omega arith) }

    -- they say a model
    pub own_says : SaysModel most (own_lines most truth) (own_literals most truth)
    unfolding own_lines uncommented together
    own_says =
        let all_literals = own_literals most truth ++ (is 0 ∷ []) in
        record {
          lines = satisfiable ∷ values_line all_literals ∷ [];
          numbers = all_literals ∷ [];
          ended = (satisfiable_free, (values_free all_literals, tt));
          whole = refl;
          form = refl;
          has_one = (some_literal (own_literals most truth), tt);
          all = append-nil all_literals;
          each_once = own_once;
        }

-- of three variables, of which the second is false: `s SATISFIABLE`, `v 1 -2 3 0`
own_example : own_lines 3 (λ v. not (eqb v 2)) ≡ satisfiable ++ (0x0a ∷ 0x76 ∷ 0x20 ∷ 0x31 ∷ 0x20 ∷ 0x2d ∷ 0x32 ∷ 0x20 ∷ 0x33 ∷ 0x20 ∷ 0x30 ∷ 0x0a ∷ [])
unfolding own_lines text_of numbers_text digits_in
own_example = refl
