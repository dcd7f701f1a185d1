-- `sayfudhoum_answer` is `answer_file`, with what it answers as a number.
use mathlib.Core.Path.{◌≡◌, sym, subst}
use borrow.Author.Rules.{rules}
use lib.ListN.{length}
use Rattle.outcome.specs.Writes.{Written}
use Rattle.sayfudhoum.specs.Files.{answered}
use Rattle.sayfudhoum.specs.Numbers.{answer_number, IsShort}
use Rattle.sayfudhoum.proofs.FileLaws.{answered_short}
use Rattle.sayfudhoum.proofs.exports.sayfudhoum_answer.Statement.{statement}
use Rattle.sayfudhoum.proofs.exports.sayfudhoum_answer.Tie as tie

short_as : (w v : Written) → w ≡ v → IsShort v → IsShort w
short_as w v e s = subst IsShort (sym e) s

pub sayfudhoum_answer_spec : {M : Type 1} → statement M
unfolding answer_number
sayfudhoum_answer_spec =
    tie.close
    (tie.spec
    (λ c κs. search rules)
    (λ c κs. let a = c.args in short_as _ (answered a.question.now (length a.answer.now)) (search rules) (answered_short a.question.now (length a.answer.now)))
    (λ c. search rules)
    (λ c. (cc, search rules)))
