-- `clash` keeps the clashing part where the verdict is impossible, and else nothing; what is refused was not decided.
use Rattle.std.proofs.Common.{Ok, sym, ap, subst, ◌∙◌}
use Rattle.std.proofs.lemmas.Result.{err_from_is_err_and}
use Rattle.clash.specs.Clashes.{with_kept}
use Rattle.clash.specs.Starts.{Begins}
use Rattle.clash.proofs.DecidedLaws.{keeps_none, is_impossible, keeps_part, refused_clashed}
use Rattle.clash.proofs.clashes.clash.Goals as goal
use Rattle.clash.proofs.clashes.clash.Goals.{in-Possible, in-Impossible}

pub walk-kept-requires : goal.walk-kept-requires
walk-kept-requires c =
    let told = c.in_ok-answer.ensures in
    ((is_impossible c.args.q _ told.0 c.in-Impossible.is).0, told.1 c.in-Impossible.is)

pub returns-in_err-answer : goal.returns-in_err-answer
returns-in_err-answer c =
    let p = err_from_is_err_and c.from_residual.result c.from_residual.ensures.1 in
    rw (p.1, p.2) (sym (refused_clashed c.args.q (subst (Begins c.args.q) c.in_err-answer.was c.begin.ensures)))

pub returns : goal.returns
returns c =
    let q = c.args.q in
    let a = c.in_ok-answer.field-0.answer in
    let is = c.in_ok-answer.ensures.0 in
    elim c.match-answer.branch [
      | in-Possible w ↦ ap (λ k. Ok (with_kept a k)) (w.kept-is ∙ w.keep_none-kept.ensures) ∙ sym (keeps_none q a is w.in-Possible.is)
      | in-Impossible w ↦ ap (λ k. Ok (with_kept a k)) (w.kept-is ∙ w.walk-kept.ensures) ∙ sym (keeps_part q a is w.in-Impossible.is)
    ]
