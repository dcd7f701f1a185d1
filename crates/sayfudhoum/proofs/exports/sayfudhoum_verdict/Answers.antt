-- `sayfudhoum_verdict` is `decide_file`, with what it decides as a number.
use Rattle.std.proofs.Common.{◌≡◌, sym, ap, subst, ◌∙◌}
use Rattle.sayfudhoum.specs.Numbers.{decision_number, verdict_number, IsSmall}
use Rattle.sayfudhoum.proofs.FileLaws.{decided_small}
use Rattle.sayfudhoum.proofs.exports.sayfudhoum_verdict.Goals as goal

pub decision_number-requires : goal.decision_number-requires
decision_number-requires c = subst IsSmall (sym c.decide_file.ensures) (decided_small c.args.question.now)

pub returns : goal.returns
unfolding verdict_number
returns c = c.decision_number.ensures ∙ ap decision_number c.decide_file.ensures
