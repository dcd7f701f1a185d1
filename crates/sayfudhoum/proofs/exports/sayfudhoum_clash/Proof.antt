-- `sayfudhoum_clash` is `clash_file`, with what it answers as a number.
use mathlib.Core.Path.{sym, ap, subst, ◌∙◌}
use borrow.Author.Rules.{rules}
use Rattle.sayfudhoum.specs.Numbers.{clashed_number, clash_number, IsFew}
use Rattle.sayfudhoum.proofs.FileLaws.{clash_few}
use Rattle.sayfudhoum.proofs.exports.sayfudhoum_clash.Statement.{statement}
use Rattle.sayfudhoum.proofs.exports.sayfudhoum_clash.Tie as tie

returns : tie.Need-returns
unfolding clash_number
returns c =
    let w = c.clash_file-written.ensures in
    (c.clash_number.ensures ∙ ap clashed_number w.0, w.1)

pub sayfudhoum_clash_spec : {M : Type 1} → statement M
sayfudhoum_clash_spec =
    tie.close
    (tie.spec
    (λ c κs. search rules)
    (λ c κs. subst IsFew (sym c.clash_file-written.ensures.0) (clash_few _ _))
    (λ c. search rules)
    (λ c. search rules)
    (λ c. search rules)
    returns)
