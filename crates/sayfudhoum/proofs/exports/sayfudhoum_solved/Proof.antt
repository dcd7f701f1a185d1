-- `sayfudhoum_solved` is `solve_file`, with what it answers as a number.
use mathlib.Core.Path.{sym, ap, subst, ◌∙◌}
use borrow.Author.Rules.{rules}
use Rattle.sayfudhoum.specs.Numbers.{as_number, solved_number, IsBrief}
use Rattle.sayfudhoum.proofs.FileLaws.{solved_brief}
use Rattle.sayfudhoum.proofs.exports.sayfudhoum_solved.Statement.{statement}
use Rattle.sayfudhoum.proofs.exports.sayfudhoum_solved.Tie as tie

returns : tie.Need-returns
unfolding solved_number
returns c =
    let w = c.solve_file-solved.ensures in
    (c.solved_number.ensures ∙ ap as_number w.0, w.1)

pub sayfudhoum_solved_spec : {M : Type 1} → statement M
sayfudhoum_solved_spec =
    tie.close
    (tie.spec
    (λ c κs. search rules)
    (λ c κs. subst IsBrief (sym c.solve_file-solved.ensures.0) (solved_brief _ _ _))
    (λ c. search rules)
    returns)
