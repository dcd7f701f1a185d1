-- `asked_besides` leaves d out only where no other term asks for it.
use Rattle.std.proofs.Common.{ℕ, ◌≡◌, ◌^◌, Bool, true, false, ◌||◌, eqb, T, refl, ap, subst, ◌∙◌}
use native.Mathlib.Decide.{ℕ_discrete}
use borrow.Author.Tests.{eq-eqb}
use Rattle.question.specs.Masks.{bit}
use Rattle.statement.proofs.TestLaws.{T_true}
use Rattle.question.proofs.BitLaws.{bit_alone, only_bit}
use Rattle.search.proofs.asked.asked_besides.Goals as goal

or_right : (a b : Bool) → T b → T (a || b)
or_right true b h = tt
or_right false b h = h

-- the group has d alone, and so c is d
itself : (terms d : ℕ) → terms ≡ 2 ^ d → (b : Bool) (c : ℕ) → T (bit terms c) → T (eqb d c || b)
itself terms d is b c h = go (ℕ_discrete c d)
  where
    go : Dec (c ≡ d) → T (eqb d c || b)
    go (yes e) = rw (e, eq-eqb d d refl) tt
    go (no ne) = absurd (subst T (ap (λ n. bit n c) is ∙ bit_alone d c ne) h)

pub returns-then-terms-own : goal.returns-then-terms-own
returns-then-terms-own c = itself c.args.terms c.args.d (c.if-terms-own.true ∙ c.term_alone-own.ensures) (bit 0 c.args.d)

pub returns-else-terms-own : goal.returns-else-terms-own
returns-else-terms-own c = let d = c.args.d in λ e h. or_right (eqb d e) (bit c.term_alone-own.result d) (T_true (ap (λ n. bit n d) c.term_alone-own.ensures ∙ only_bit d))
