-- `sayfudhoum_clauses` is `clauses_file`, with what it answers as a number.
use mathlib.Core.Path.{sym, ap, subst, ◌∙◌}
use borrow.Author.Rules.{rules}
use Rattle.sayfudhoum.specs.Numbers.{written_number, clauses_number, IsShort}
use Rattle.sayfudhoum.proofs.FileLaws.{clauses_short}
use Rattle.sayfudhoum.proofs.exports.sayfudhoum_clauses.Statement.{statement}
use Rattle.sayfudhoum.proofs.exports.sayfudhoum_clauses.Tie as tie

returns : tie.Need-returns
unfolding clauses_number
returns c =
    let w = c.clauses_file-written.ensures in
    (c.written_number.ensures ∙ ap written_number w.0, w.1)

pub sayfudhoum_clauses_spec : {M : Type 1} → statement M
sayfudhoum_clauses_spec =
    tie.close
    (tie.spec
    (λ c κs. search rules)
    (λ c κs. subst IsShort (sym c.clauses_file-written.ensures.0) (clauses_short _ _))
    (λ c. search rules)
    returns)
