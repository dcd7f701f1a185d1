-- `written_number` goes by what the writer answered.
use mathlib.Core.Path.{sym, ap, ◌∙◌}
use native.Mathlib.Omega.{arith}
use borrow.Author.Rules.{rules}
use Rattle.sayfudhoum.specs.Numbers.{written_number}
use Rattle.sayfudhoum.proofs.NumberLaws.{written_count, written_place}
use Rattle.sayfudhoum.proofs.numbers.written_number.Statement.{statement}
use Rattle.sayfudhoum.proofs.numbers.written_number.Tie as tie

pub written_number_spec : {M : Type 1} → statement M
written_number_spec =
    tie.close
    (tie.spec
    (λ c. search rules)
    (λ c. omega (arith, written_count _ _ c.in-Ok.is c.requires))
    (λ c. search rules)
    (λ c κs. written_place _ _ c.in-Err.is c.requires)
    (λ c. sym (ap written_number c.in-Ok.is))
    (λ c. c.refusal_number.ensures ∙ sym (ap written_number c.in-Err.is)))
