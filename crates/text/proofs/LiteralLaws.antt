-- Literals both ways: the text of a literal says it, and a word that says a literal is its text. Beside the digits there is a minus, so no separator stands in it.
use Prim.Native.Nat.{ℕ, zero, suc, ◌/◌, ◌%◌, ◌≤◌, ◌<◌}
use mathlib.Core.Path.{◌≡◌, refl, sym, ap, ap₂, subst, ◌∙◌}
use mathlib.Core.Bool.{Bool, true, false, cond}
use mathlib.Core.List.{List, [], ◌∷◌, ◌++◌}
use native.Mathlib.Omega.{arith}
use borrow.Author.Tests.{le-leb, leb-true, ne_eqb, eqb-true, eqb-false}
use lib.Dec.{eqb, leb, ltb}
use Rattle.std.specs.Prelude.{Option, Some, None}
use Rattle.outcome.proofs.Never.{never}
use Rattle.text.specs.declared.literals.Literal.{Literal}
use Rattle.text.specs.Decimals.{digit, digits_in, decimal, number_said, up_to, number_up_to}
use Rattle.text.specs.Literals.{is, is_not, minus, literal_text, plain, denial, word_read, Sayable}
use Rattle.text.specs.Pieces.{until, Free}
use Rattle.text.proofs.DecimalLaws.{begins, decimal_said, said_decimal}
use Rattle.text.proofs.PieceLaws.{free_both, free_byte}
use Rattle.text.proofs.WordLaws.{word_plain}

-- a number up to `most`, both ways
pub decimal_read : (most n : ℕ) → n ≤ most → number_up_to most (decimal n) ≡ Some n
unfolding number_up_to
decimal_read most n h = ap (up_to most) (decimal_said n) ∙ rw (le-leb n most h)

pub read_decimal : (most n : ℕ) (bytes : List ℕ) → number_up_to most bytes ≡ Some n → (bytes ≡ decimal n) × (n ≤ most)
unfolding number_up_to
read_decimal most n bytes e = go (number_said bytes) refl e
  where
    small : (k : ℕ) (t : Bool) → leb k most ≡ t → number_said bytes ≡ Some k → cond t (Some k) None ≡ Some n → (bytes ≡ decimal n) × (n ≤ most)
    small k true p q e = let same : k ≡ n = cc in (said_decimal bytes n (q ∙ ap Some same), rw same at (leb-true k most p))
    small k false p q e = never cc

    go : (o : Option ℕ) → number_said bytes ≡ o → up_to most o ≡ Some n → (bytes ≡ decimal n) × (n ≤ most)
    go None q e = never cc
    go (Some k) q e = small k (leb k most) refl q e

-- the text of a literal says it
denied_read : (most v : ℕ) → v ≤ most → (v ≡ 0 → ⊥) → word_read most (literal_text (is_not v)) ≡ Some (is_not v)
unfolding word_read
denied_read most v h not_zero = ap denial (decimal_read most v h) ∙ rw (ne_eqb v 0 not_zero)

plain_read : (most v : ℕ) → v ≤ most → word_read most (literal_text (is v)) ≡ Some (is v)
plain_read most v h =
    let first = begins (suc v) v (omega arith) in
    word_plain most (decimal v) first.some_byte (λ m. omega (arith, first.a_digit)) ∙ ap plain (decimal_read most v h)

pub literal_read : (most : ℕ) (l : Literal) → Sayable most l → word_read most (literal_text l) ≡ Some l
literal_read most l h = go l.denied refl
  where
    go : (d : Bool) → l.denied ≡ d → word_read most (literal_text l) ≡ Some l
    go true e =
        let same : is_not l.variable ≡ l = ap (λ d. record { denied = d; variable = l.variable }) (sym e) in
        subst (λ k. word_read most (literal_text k) ≡ Some k) same (denied_read most l.variable h.within (λ z. let no_minus = h.no_minus_zero z in never cc))
    go false e =
        let same : is l.variable ≡ l = ap (λ d. record { denied = d; variable = l.variable }) (sym e) in
        subst (λ k. word_read most (literal_text k) ≡ Some k) same (plain_read most l.variable h.within)

-- a word that says a literal is its text
pub word_literal : (most : ℕ) (w : List ℕ) (l : Literal) → word_read most w ≡ Some l → (w ≡ literal_text l) × Sayable most l
unfolding word_read
word_literal most [] l e = never cc
word_literal most (b ∷ bytes) l e = go (eqb b minus) refl e
  where
    minus_said : (n : ℕ) (t : Bool) → eqb n 0 ≡ t → b ≡ minus → number_up_to most bytes ≡ Some n → cond t None (Some (is_not n)) ≡ Some l → (b ∷ bytes ≡ literal_text l) × Sayable most l
    minus_said n true p m q e = never cc
    minus_said n false p m q e =
        let same : is_not n ≡ l = cc in
        let is_read = read_decimal most n bytes q in
        subst (λ k. (b ∷ bytes ≡ literal_text k) × Sayable most k) same
        (ap₂ (λ c r. c ∷ r) m is_read.0, record { within = is_read.1; no_minus_zero = λ z. absurd (eqb-false n 0 p z) })

    by_minus : (x : Option ℕ) → number_up_to most bytes ≡ x → b ≡ minus → denial x ≡ Some l → (b ∷ bytes ≡ literal_text l) × Sayable most l
    by_minus None q m e = never cc
    by_minus (Some n) q m e = minus_said n (eqb n 0) refl m q e

    by_digits : (x : Option ℕ) → number_up_to most (b ∷ bytes) ≡ x → plain x ≡ Some l → (b ∷ bytes ≡ literal_text l) × Sayable most l
    by_digits None q e = never cc
    by_digits (Some n) q e =
        let same : is n ≡ l = cc in
        let is_read = read_decimal most n (b ∷ bytes) q in
        subst (λ k. (b ∷ bytes ≡ literal_text k) × Sayable most k) same (is_read.0, record { within = is_read.1; no_minus_zero = λ z. refl })

    go : (t : Bool) → eqb b minus ≡ t → cond t (denial (number_up_to most bytes)) (plain (number_up_to most (b ∷ bytes))) ≡ Some l → (b ∷ bytes ≡ literal_text l) × Sayable most l
    go true p e = by_minus (number_up_to most bytes) refl (eqb-true b minus p) e
    go false p e = by_digits (number_up_to most (b ∷ bytes)) refl e

-- no separator below the minus stands in a number or a literal
module _ (sep : ℕ) (low : sep < minus) where
  pub digits_free : (w n : ℕ) → Free sep (digits_in w n)
  unfolding until digits_in
  digits_free zero n = refl
  digits_free (suc w) n = go (ltb n 10) (digits_free w (n / 10))
    where
      go : (t : Bool) → Free sep (digits_in w (n / 10)) → Free sep (cond t (digit n ∷ []) (digits_in w (n / 10) ++ (digit (n % 10) ∷ [])))
      go true free = free_byte sep (digit n) (λ e. omega arith)
      go false free = free_both sep (digits_in w (n / 10)) (digit (n % 10) ∷ []) free (free_byte sep (digit (n % 10)) (λ e. omega arith))

  pub literal_free : (l : Literal) → Free sep (literal_text l)
  unfolding until
  literal_free l = free_both sep (cond l.denied (minus ∷ []) []) (decimal l.variable) (sign l.denied) (digits_free (suc l.variable) l.variable)
    where
      sign : (d : Bool) → Free sep (cond d (minus ∷ []) [])
      sign true = free_byte sep minus (λ e. omega arith)
      sign false = refl
