-- `sayfudhoum_judge` is `judge_file`, with what it says as a number.
use mathlib.Core.Path.{sym, ap, subst, ◌∙◌}
use borrow.Author.Rules.{rules}
use Rattle.sayfudhoum.specs.Numbers.{judgement_number, judge_number, IsIndexed}
use Rattle.sayfudhoum.proofs.FileLaws.{judged_indexed}
use Rattle.sayfudhoum.proofs.exports.sayfudhoum_judge.Statement.{statement}
use Rattle.sayfudhoum.proofs.exports.sayfudhoum_judge.Tie as tie

returns : tie.Need-returns
unfolding judge_number
returns c = c.judgement_number.ensures ∙ ap judgement_number c.judge_file-judgement.ensures

pub sayfudhoum_judge_spec : {M : Type 1} → statement M
sayfudhoum_judge_spec =
    tie.close
    (tie.spec
    (λ c κs. search rules)
    (λ c κs. subst IsIndexed (sym c.judge_file-judgement.ensures) (judged_indexed _ _))
    returns)
