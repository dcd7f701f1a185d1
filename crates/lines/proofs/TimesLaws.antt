-- How often each variable stands among literals that are new in their turn, and what the table then holds: every declared variable once exactly if all have values, and the truth values that the literals say.
use Prim.Native.Nat.{ℕ, zero, suc, ◌+◌, ◌≤◌, ◌<◌}
use mathlib.Core.Path.{◌≡◌, refl, sym, ap, ◌∙◌}
use mathlib.Core.Bool.{Bool, true, false, not, ◌&&◌, ◌||◌, cond, or-false}
use mathlib.Core.List.{List, [], ◌∷◌}
use native.Mathlib.Omega.{arith}
use borrow.Author.Tests.{eq-eqb, eqb-true, eqb-false, ltb-true, ltb-false, leb-true, leb-false}
use lib.Dec.{eqb, leb, ltb}
use lib.ListN.{length, get_or, replicate, length-set, length-replicate, get_or-replicate, get_or-eq_default}
use lib.Seq.{get_or-set_same, get_or-set_other}
use Rattle.std.specs.Prelude.{Option, Some, None}
use Rattle.outcome.proofs.Never.{never}
use Rattle.text.specs.declared.literals.Literal.{Literal}
use Rattle.statement.proofs.EverywhereLaws.{everywhere_at, everywhere_of}
use Rattle.statement.proofs.TestLaws.{T_true, true_T}
use Rattle.theory.specs.Lists.{Every}
use Rattle.lines.specs.Values.{most_variables, unsaid, told, no_values, value_of, is_said, is_true, truth_of, all_said, with_value}
use Rattle.lines.specs.Sentences.{times_said, truth_in, EachOnce}
use Rattle.lines.proofs.SaidLaws.{table_after, Fresh}

-- the value of a variable after one literal more
module _ (t : List (Option Bool)) (l : Literal) where
  value_same : l.variable < length t → value_of (with_value t l) l.variable ≡ told (not l.denied)
  value_same h = get_or-set_same t l.variable (told (not l.denied)) unsaid h

  value_other : (v : ℕ) → (l.variable ≡ v → ⊥) → value_of (with_value t l) v ≡ value_of t v
  value_other v h = get_or-set_other t l.variable v (told (not l.denied)) unsaid (λ e. h (sym e))

  with_long : length (with_value t l) ≡ length t
  with_long = length-set t l.variable (told (not l.denied))

-- 1 if the variable has a value
abbrev pub counted : List (Option Bool) → ℕ → ℕ
counted t v = cond (is_said (value_of t v)) 1 0

-- a literal that is new moves one from what is to come to what the table holds
count_step : (t : List (Option Bool)) (l : Literal) (ls : List Literal) (v : ℕ) → l.variable < length t → is_said (value_of t l.variable) ≡ false → counted t v + times_said v (l ∷ ls) ≡ counted (with_value t l) v + times_said v ls
unfolding times_said
count_step t l ls v h new = go (eqb l.variable v) refl
  where
    go : (s : Bool) → eqb l.variable v ≡ s → counted t v + cond s (suc (times_said v ls)) (times_said v ls) ≡ counted (with_value t l) v + times_said v ls
    go true p =
        let same = eqb-true l.variable v p in
        let before : counted t v ≡ 0 = ap (λ k. counted t k) (sym same) ∙ ap (λ b. cond b 1 0) new in
        let after : counted (with_value t l) v ≡ 1 = ap (λ k. counted (with_value t l) k) (sym same) ∙ ap (λ x. cond (is_said x) 1 0) (value_same t l h) in
        omega arith
    go false p =
        let kept : counted (with_value t l) v ≡ counted t v = ap (λ x. cond (is_said x) 1 0) (value_other t l v (eqb-false l.variable v p)) in
        omega arith

-- what is not said is not true
unsaid_false : (x : Option Bool) → is_said x ≡ false → is_true x ≡ false
unsaid_false None e = refl
unsaid_false (Some b) e = never cc

module _ (t : List (Option Bool)) (l : Literal) where
  truth_step : (v : ℕ) (later : Bool) → l.variable < length t → truth_of t l.variable ≡ false → (truth_of (with_value t l) v || later) ≡ (truth_of t v || (eqb l.variable v && not l.denied || later))
  truth_step v later h new = go (eqb l.variable v) refl
    where
      go : (s : Bool) → eqb l.variable v ≡ s → (truth_of (with_value t l) v || later) ≡ (truth_of t v || (s && not l.denied || later))
      go true p =
          let same = eqb-true l.variable v p in
          let before : truth_of t v ≡ false = ap (λ k. truth_of t k) (sym same) ∙ new in
          let after : truth_of (with_value t l) v ≡ not l.denied = ap (λ k. truth_of (with_value t l) k) (sym same) ∙ ap (λ x. is_true x) (value_same t l h) in
          ap (λ b. b || later) after ∙ ap (λ b. b || (not l.denied || later)) (sym before)
      go false p = ap (λ x. is_true x || later) (value_other t l v (eqb-false l.variable v p))

abbrev Declared : ℕ → List Literal → Type 0
Declared most said = Every (λ l. (1 ≤ l.variable) × (l.variable ≤ most)) said

module _ (most : ℕ) where
  fresh_declared : (t : List (Option Bool)) (said : List Literal) → Fresh most t said → Declared most said
  fresh_declared t [] h = tt
  fresh_declared t (l ∷ ls) h = ((h.0, h.1), fresh_declared (with_value t l) ls h.3)

  -- what the table holds is what it held and what stood
  count_after : (t : List (Option Bool)) (said : List Literal) → most < length t → Fresh most t said → (v : ℕ) → counted t v + times_said v said ≡ counted (table_after t said) v
  unfolding table_after times_said
  count_after t [] h fresh v = omega arith
  count_after t (l ∷ ls) h fresh v =
      count_step t l ls v (omega (arith, fresh.1)) fresh.2
      ∙ count_after (with_value t l) ls (omega (arith, with_long t l)) fresh.3 v

  -- literals of which none stands twice are new in their turn
  fresh_of : (t : List (Option Bool)) (said : List Literal) → most < length t → Declared most said → ((v : ℕ) → counted t v + times_said v said ≤ 1) → Fresh most t said
  unfolding times_said
  fresh_of t [] h declared few = tt
  fresh_of t (l ∷ ls) h declared few =
      (declared.0.0, declared.0.1, new, fresh_of (with_value t l) ls (omega (arith, with_long t l)) declared.1 (λ v. omega (arith, few v, count_step t l ls v (omega (arith, declared.0.1)) new)))
    where
      go : (s : Bool) → is_said (value_of t l.variable) ≡ s → is_said (value_of t l.variable) ≡ false
      go true p =
          let here : cond (eqb l.variable l.variable) (suc (times_said l.variable ls)) (times_said l.variable ls) ≡ suc (times_said l.variable ls) = rw (eq-eqb l.variable l.variable refl) in
          let one : counted t l.variable ≡ 1 = ap (λ b. cond b 1 0) p in
          absurd (omega (arith, few l.variable))
      go false p = p

      new : is_said (value_of t l.variable) ≡ false
      new = go (is_said (value_of t l.variable)) refl

  -- the truth values that the literals say
  truth_after : (t : List (Option Bool)) (said : List Literal) → most < length t → Fresh most t said → (v : ℕ) → truth_of (table_after t said) v ≡ (truth_of t v || truth_in said v)
  unfolding table_after truth_in
  truth_after t [] h fresh v = sym (or-false (truth_of t v))
  truth_after t (l ∷ ls) h fresh v =
      truth_after (with_value t l) ls (omega (arith, with_long t l)) fresh.3 v
      ∙ truth_step t l v (truth_in ls v) (omega (arith, fresh.1)) (unsaid_false (value_of t l.variable) fresh.2)

-- the table of no line: nothing is said, and nothing is true
none_said : (n v : ℕ) → get_or (replicate n unsaid) v unsaid ≡ unsaid
none_said n v = go (ltb v n) refl
  where
    go : (s : Bool) → ltb v n ≡ s → get_or (replicate n unsaid) v unsaid ≡ unsaid
    go true p = get_or-replicate n v unsaid unsaid (ltb-true v n p)
    go false p = get_or-eq_default (replicate n unsaid) unsaid (omega (arith, length-replicate n unsaid, ltb-false v n p))

-- the literals that lead from no line to all values are those that hold each declared variable once
module _ (most : ℕ) (few : most ≤ most_variables) (said : List Literal) where
  start_long : most < length no_values
  start_long = omega (arith, length-replicate (suc most_variables) unsaid)

  start_count : (v : ℕ) → counted no_values v ≡ 0
  start_count v = ap (λ x. cond (is_said x) 1 0) (none_said (suc most_variables) v)

  pub once_said : Fresh most no_values said → all_said most (table_after no_values said) ≡ true → EachOnce most said
  once_said fresh full = record { declared = fresh_declared most no_values said fresh; once = once }
    where
      once : (v : ℕ) → 1 ≤ v → v ≤ most → times_said v said ≡ 1
      once zero h k = absurd (omega arith)
      once (suc d) h k =
          let has : is_said (value_of (table_after no_values said) (suc d)) ≡ true = true_T (is_said (value_of (table_after no_values said) (suc d))) (everywhere_at most (λ i. is_said (value_of (table_after no_values said) (suc i))) (T_true full) d (omega arith)) in
          let one : counted (table_after no_values said) (suc d) ≡ 1 = ap (λ b. cond b 1 0) has in
          omega (arith, start_count (suc d), count_after most no_values said start_long fresh (suc d))

  -- a variable that is not declared doesn't stand
  strange : (ls : List Literal) → Declared most ls → (v : ℕ) → ((1 ≤ v) → (v ≤ most) → ⊥) → times_said v ls ≡ 0
  unfolding times_said
  strange [] declared v out = refl
  strange (l ∷ ls) declared v out = go (eqb l.variable v) refl (strange ls declared.1 v out)
    where
      go : (s : Bool) → eqb l.variable v ≡ s → times_said v ls ≡ 0 → cond s (suc (times_said v ls)) (times_said v ls) ≡ 0
      go true p rest = let same = eqb-true l.variable v p in absurd (out (omega (arith, declared.0.0)) (omega (arith, declared.0.1)))
      go false p rest = rest

  pub said_once : EachOnce most said → Fresh most no_values said × (all_said most (table_after no_values said) ≡ true)
  said_once each =
      (fresh, true_T _ (everywhere_of most (λ i. is_said (value_of (table_after no_values said) (suc i))) (λ d less. T_true (has d less))))
    where
      at_most_once : (v : ℕ) (s t : Bool) → leb 1 v ≡ s → leb v most ≡ t → times_said v said ≤ 1
      at_most_once v true true p q = omega (arith, each.once v (leb-true 1 v p) (leb-true v most q))
      at_most_once v true false p q = omega (arith, strange said each.declared v (λ h k. omega (arith, leb-false v most q)))
      at_most_once v false t p q = omega (arith, strange said each.declared v (λ h k. omega (arith, leb-false 1 v p)))

      fresh : Fresh most no_values said
      fresh = fresh_of most no_values said start_long each.declared (λ v. omega (arith, start_count v, at_most_once v (leb 1 v) (leb v most) refl refl))

      has : (d : ℕ) → d < most → is_said (value_of (table_after no_values said) (suc d)) ≡ true
      has d less = go (is_said (value_of (table_after no_values said) (suc d))) refl
        where
          go : (s : Bool) → is_said (value_of (table_after no_values said) (suc d)) ≡ s → s ≡ true
          go true p = refl
          go false p =
              let none : counted (table_after no_values said) (suc d) ≡ 0 = ap (λ b. cond b 1 0) p in
              absurd (omega (arith, each.once (suc d) (omega arith) (omega arith), start_count (suc d), count_after most no_values said start_long fresh (suc d)))

  pub truth_said_lem : Fresh most no_values said → (v : ℕ) → truth_of (table_after no_values said) v ≡ truth_in said v
  truth_said_lem fresh v =
      truth_after most no_values said start_long fresh v
      ∙ ap (λ x. is_true x || truth_in said v) (none_said (suc most_variables) v)
