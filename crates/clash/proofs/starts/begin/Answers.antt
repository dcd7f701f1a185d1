-- `begin` hands an accepted full table on, and else decides the question.
use Rattle.std.proofs.Common.{sym, ◌∙◌}
use Rattle.std.proofs.lemmas.Result.{err_from_is_err_and}
use Rattle.decision.proofs.DecisionLaws.{decided_refused}
use Rattle.clash.proofs.DecidedLaws.{is_impossible}
use Rattle.clash.proofs.StartLaws.{start_first}
use Rattle.clash.proofs.starts.begin.Goals as goal

pub returns-in_err-check : goal.returns-in_err-check
returns-in_err-check c =
    let p = err_from_is_err_and c.from_residual.result c.from_residual.ensures.1 in
    rw (p.1, p.2) (decided_refused _ _ (sym c.check.ensures ∙ c.in_err-check.was))

pub returns : goal.returns
returns c =
    let q = c.args.q in
    let d = sym c.decide.ensures ∙ c.in_ok-decide.was in
    (d, λ v. let i = is_impossible q _ d v in start_first q i.0 i.1)
