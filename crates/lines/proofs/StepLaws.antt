-- What a word and a line do, by what the tests of them came to.
use Prim.Native.Nat.{ℕ, suc, ◌-◌, ◌≤◌}
use mathlib.Core.Path.{◌≡◌, refl}
use mathlib.Core.Bool.{Bool, true, false, cond, and-false}
use mathlib.Core.List.{List, [], ◌∷◌}
use native.Mathlib.Omega.{arith}
use borrow.Author.Tests.{ne_eqb, eqb-true}
use lib.Dec.{eqb}
use lib.ListN.{length, get_or, take, drop}
use lib.Seq.{take_all}
use Rattle.std.specs.Prelude.{bytes_eq}
use Rattle.std.specs.List.{fold}
use Rattle.text.specs.declared.literals.Literal.{Literal}
use Rattle.text.specs.Pieces.{space, in_front, pieces}
use Rattle.text.proofs.PieceLaws.{any_piece}
use Rattle.lines.specs.declared.readings.Stage.TheVariants.{Values, Valued, Fault}
use Rattle.lines.specs.declared.readings.Reading.{Reading}
use Rattle.lines.specs.Values.{value_of, is_said, all_said, with_value}
use Rattle.lines.specs.Steps.{values, is_comment, at_stage, value_step, last_step, word_step, word_steps, value_line, said_step, line_step}

module _ (most : ℕ) (r : Reading) where
  -- a number
  pub said_first : (l : Literal) → is_said (value_of r.values l.variable) ≡ false → value_step r l ≡ record { stage = Values; values = with_value r.values l }
  said_first l e = rw e

  pub last_due : all_said most r.values ≡ true → last_step most r ≡ at_stage Valued r
  last_due e = rw e

  pub word_at_fault : (w : List ℕ) → r.stage ≡ Fault → word_step most r w ≡ at_stage Fault r
  word_at_fault w e = rw e

  -- a `v` line, by its first two bytes
  line_of_first : (first : List ℕ) (ws : List (List ℕ)) → bytes_eq first values ≡ false → value_line most r (first ∷ ws) ≡ at_stage Fault r
  line_of_first first [] e = refl
  line_of_first first (w ∷ ws) e = rw e

  pub line_of_words : (line : List ℕ) → 2 ≤ length line → get_or line 0 0 ≡ 0x76 → get_or line 1 0 ≡ space → value_line most r (pieces space line) ≡ word_steps most r (pieces space (take (length line - 2) (drop 2 line)))
  unfolding pieces
  line_of_words [] h v s = absurd (omega arith)
  line_of_words (b ∷ []) h v s = absurd (omega arith)
  line_of_words (b ∷ c ∷ line) h v s =
      let rest : take (suc (suc (length line)) - 2) line ≡ line = take_all (suc (suc (length line)) - 2) line (omega arith) in
      rw (v, s, rest) (go (pieces space line) (any_piece space line))
    where
      go : (ws : List (List ℕ)) → ((ws ≡ []) → ⊥) → value_line most r ((0x76 ∷ []) ∷ ws) ≡ word_steps most r ws
      go [] some = absurd (some refl)
      go (w ∷ ws) some = refl

  pub line_of_others : (line : List ℕ) → (2 ≤ length line → get_or line 0 0 ≡ 0x76 → get_or line 1 0 ≡ space → ⊥) → value_line most r (pieces space line) ≡ at_stage Fault r
  unfolding pieces
  line_of_others [] h = refl
  line_of_others (b ∷ []) h = go (eqb b space)
    where
      go : (t : Bool) → value_line most r (cond t ([] ∷ [] ∷ []) ((b ∷ []) ∷ [])) ≡ at_stage Fault r
      go true = refl
      go false = refl
  line_of_others (b ∷ c ∷ line) h = go (eqb b space) (eqb c space) refl (pieces space line)
    where
      go : (s t : Bool) → eqb c space ≡ t → (ps : List (List ℕ)) → value_line most r (cond s ([] ∷ cond t ([] ∷ ps) (in_front c ps)) (in_front b (cond t ([] ∷ ps) (in_front c ps)))) ≡ at_stage Fault r
      go true t q ps = line_of_first [] (cond t ([] ∷ ps) (in_front c ps)) refl
      go false true q ps = line_of_first (b ∷ []) ps (rw (ne_eqb b 0x76 (λ v. h (omega arith) v (eqb-true c space q))))
      go false false q [] = refl
      go false false q (p ∷ ps) = line_of_first (b ∷ c ∷ p) ps (and-false (eqb b 0x76))

  -- a line
  module _ (line : List ℕ) where
    pub line_at_values : r.stage ≡ Values → said_step most r line ≡ value_line most r (pieces space line)
    line_at_values e = rw e

    pub line_at_valued : r.stage ≡ Valued → said_step most r line ≡ at_stage Fault r
    line_at_valued e = rw e

    pub line_at_fault : r.stage ≡ Fault → said_step most r line ≡ at_stage Fault r
    line_at_fault e = rw e

    pub comment_step : is_comment line ≡ true → line_step most r line ≡ r
    unfolding line_step
    comment_step e = rw e

    pub said_line_step : is_comment line ≡ false → line_step most r line ≡ said_step most r line
    unfolding line_step
    said_line_step e = rw e

-- words, as a fold
pub words_fold : (most : ℕ) (r : Reading) (ws : List (List ℕ)) → fold (word_step most) r ws ≡ word_steps most r ws
unfolding word_steps
words_fold most r [] = refl
words_fold most r (w ∷ ws) = words_fold most (word_step most r w) ws
