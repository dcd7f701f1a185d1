-- `main` writes so many bytes of its buffer as the library put there.
use mathlib.Core.Path.{sym, ◌∙◌}
use native.Mathlib.Omega.{arith}
use borrow.Author.Rules.{rules}
use Rattle.sayfudhoum.proofs.FileLaws.{response_within}
use Rattle.decide.proofs.main.Statement.{statement}
use Rattle.decide.proofs.main.Tie as tie

part_write_all_end : tie.Need-slice_bounds-write_all-end
part_write_all_end c =
    let r = c.respond in
    omega (arith, response_within _ _ _ _ (sym r.ensures.0 ∙ c.in-Ok.is) r.ensures.1)

pub main_spec : {M : Type 1} → statement M
main_spec =
    tie.close
    (tie.spec
    (λ c κs. search rules)
    (λ c. search rules)
    (λ c κs. search rules)
    (λ c. search rules)
    (λ c. search rules)
    (λ c. search rules)
    (λ c. search rules)
    (λ c κs. search rules)
    (λ c. search rules)
    (λ c. search rules)
    (λ c. search rules)
    part_write_all_end
    (λ c κs. search rules)
    (λ c. search rules)
    (λ c. search rules)
    (λ c. search rules))
