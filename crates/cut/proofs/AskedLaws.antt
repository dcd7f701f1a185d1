-- The terms that rows ask for: what is known of them is known where more is, and all of them are among the terms that there are.
use Prim.Native.Nat.{ℕ, ◌+◌, ◌<◌}
use mathlib.Core.Path.{◌≡◌, refl, sym, ap, subst, ◌∙◌}
use mathlib.Core.Bool.{Bool, true, false, ◌||◌}
use mathlib.Core.List.{List, [], ◌∷◌}
use mathlib.Core.Logic.{◌⊎◌, inl, inr, ⊎_elim}
use native.Mathlib.Omega.{arith}
use native.Mathlib.Decide.{dec_lt}
use borrow.Author.Tests.{eqb-true}
use lib.Dec.{T, eqb, ltb, ltb→lt, lt→ltb}
use Rattle.question.specs.Masks.{bit}
use Rattle.statement.proofs.TestLaws.{true_T, and_left, and_right, and_both}
use Rattle.theory.specs.Lists.{all_of, Every}
use Rattle.theory.specs.Rules.{Row}
use Rattle.theory.proofs.ListLaws.{every_map, every_both, all_every, every_all, all_map}
use Rattle.cut.specs.Asked.{asked_known, all_asked_known, before}
use Rattle.cut.specs.Families.{Family, Within}

-- `few` has fewer terms than `all`, and of those known as many; c is one of them
module _ (known few all : ℕ → Bool) (sub : (d : ℕ) → T (few d) → T (all d)) (e : (d : ℕ) → T (known d) → few d ≡ all d) (c : ℕ) (own : T (few c)) where
  same_at : (d : ℕ) → T (eqb d c || known d) → few d ≡ all d
  same_at d h = go (eqb d c) refl h
    where
      go : (b : Bool) → eqb d c ≡ b → T (b || known d) → few d ≡ all d
      go true q k = ap few (eqb-true d c q) ∙ true_T (few c) own ∙ sym (true_T (all c) (sub c own)) ∙ ap all (sym (eqb-true d c q))
      go false q k = e d k

  -- so fewer pass what all pass, where the terms asked for are known
  pub fewer_pass : {Test : Type 0} (F : Family Test) (m : ℕ) (t : Test) → T (asked_known F.asks known c t) → T (F.fits m all t) → T (F.fits m few t)
  fewer_pass F m t h = F.fewer m few all t sub (every_map (λ d. T (eqb d c || known d)) (λ d. few d ≡ all d) same_at (F.asks t) (all_every (λ d. eqb d c || known d) (F.asks t) h))

-- what is known is known where more is
or_more : (own a b : Bool) → (T a → T b) → T (own || a) → T (own || b)
or_more true a b f h = tt
or_more false a b f h = f h

pub known_more : {Test : Type 0} (asks : Test → List ℕ) (known more : ℕ → Bool) → ((d : ℕ) → T (known d) → T (more d)) → (c : ℕ) (t : Test) → T (asked_known asks known c t) → T (asked_known asks more c t)
known_more asks known more sub c t = all_map (λ d. eqb d c || known d) (λ d. eqb d c || more d) (λ d. or_more (eqb d c) (known d) (more d) (sub d)) (asks t)

-- where one term is asked for, it is enough that this is known
pub one_known : (known : ℕ → Bool) (c d : ℕ) → T (eqb d c || known d) → T (all_of (λ e. eqb e c || known e) (d ∷ []))
one_known known c d h = and_both (eqb d c || known d) true h tt

-- rows within so many terms ask for none but these
module _ {Test : Type 0} (F : Family Test) (terms asked : ℕ) where
  row_before : (r : Row Test) → Within F terms r → T (asked_known F.asks (bit asked) r.term r.test) → T (asked_known F.asks (before asked terms) r.term r.test)
  row_before r w o =
      every_all (λ d. eqb d r.term || before asked terms d) (F.asks r.test)
      (every_both (λ d. d < terms) (λ d. T (eqb d r.term || bit asked d)) (λ d. T (eqb d r.term || before asked terms d)) one (F.asks r.test) (F.named terms r.test w.1)
      (all_every (λ d. eqb d r.term || bit asked d) (F.asks r.test) o))
    where
      one : (d : ℕ) → d < terms → T (eqb d r.term || bit asked d) → T (eqb d r.term || before asked terms d)
      one d lt = or_more (eqb d r.term) (bit asked d) (before asked terms d) (λ b. and_both (bit asked d) (ltb d terms) b (lt→ltb d terms lt))

  pub asked_before : (rows : List (Row Test)) → Every (Within F terms) rows → T (all_asked_known F.asks (bit asked) rows) → T (all_asked_known F.asks (before asked terms) rows)
  asked_before rows w o =
      let f : Row Test → Bool = λ r. asked_known F.asks (bit asked) r.term r.test in
      let g : Row Test → Bool = λ r. asked_known F.asks (before asked terms) r.term r.test in
      every_all g rows (every_both (Within F terms) (λ r. T (f r)) (λ r. T (g r)) row_before rows w (all_every f rows o))

-- one term further
pub before_next : (asked t d : ℕ) → T (before asked (t + 1) d) → T (before asked t d) ⊎ (d ≡ t)
before_next asked t d h = go (dec_lt d t)
  where
    go : Dec (d < t) → T (before asked t d) ⊎ (d ≡ t)
    go (yes lt) = inl (and_both (bit asked d) (ltb d t) (and_left (bit asked d) (ltb d (t + 1)) h) (lt→ltb d t lt))
    go (no ge) = let lt = ltb→lt d (t + 1) (and_right (bit asked d) (ltb d (t + 1)) h) in inr (omega arith)

-- past a term that is not asked for
pub before_past : (asked t d : ℕ) → bit asked t ≡ false → T (before asked (t + 1) d) → T (before asked t d)
before_past asked t d lacks h = ⊎_elim (λ b. b) (λ e. absurd (subst T lacks (subst (λ c. T (bit asked c)) e (and_left (bit asked d) (ltb d (t + 1)) h)))) (before_next asked t d h)
