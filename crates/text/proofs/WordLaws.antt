-- What a word says, by its first byte.
use Rattle.std.proofs.Common.{◌≡◌, ℕ, suc, ◌-◌, ◌<◌, List, [], ◌∷◌, length, get_or, take, drop, refl, sym, ap, arith}
use borrow.Author.Tests.{eq-eqb, ne_eqb}
use lib.Seq.{take_all}
use Rattle.text.specs.Decimals.{number_said, number_up_to}
use Rattle.text.specs.Literals.{minus, plain, denial, word_read}

pub word_none : (most : ℕ) (w : List ℕ) → length w ≡ 0 → word_read most w ≡ plain (number_up_to most w)
unfolding word_read number_up_to number_said
word_none most [] h = refl
word_none most (b ∷ w) h = absurd (omega arith)

pub word_minus : (most : ℕ) (w : List ℕ) → 0 < length w → get_or w 0 0 ≡ minus → word_read most w ≡ denial (number_up_to most (take (length w - 1) (drop 1 w)))
unfolding word_read
word_minus most [] h e = absurd (omega arith)
word_minus most (b ∷ w) h e = rw (eq-eqb b minus e) (ap (λ l. denial (number_up_to most l)) (sym (take_all (suc (length w) - 1) w (omega arith))))

pub word_plain : (most : ℕ) (w : List ℕ) → 0 < length w → (get_or w 0 0 ≡ minus → ⊥) → word_read most w ≡ plain (number_up_to most w)
unfolding word_read
word_plain most [] h e = absurd (omega arith)
word_plain most (b ∷ w) h e = rw (ne_eqb b minus e)
