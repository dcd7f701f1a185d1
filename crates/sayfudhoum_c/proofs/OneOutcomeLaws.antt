-- Each export leaves one outcome: one result, and of those that write one buffer, or one for each that is lent.
use Rattle.outcome.specs.OneResult.{OneResult}
use Rattle.outcome.specs.OneOutcome.{OneOutcome}
use Rattle.outcome.proofs.OneLaw.{both}
use Rattle.sayfudhoum_c.proofs.exports.sayfudhoum_answer.Reads as sayfudhoum_answer
use Rattle.sayfudhoum_c.proofs.exports.sayfudhoum_verdict.Reads as sayfudhoum_verdict
use Rattle.sayfudhoum_c.proofs.exports.sayfudhoum_clash.Reads as sayfudhoum_clash
use Rattle.sayfudhoum_c.proofs.exports.sayfudhoum_clauses.Reads as sayfudhoum_clauses
use Rattle.sayfudhoum_c.proofs.exports.sayfudhoum_solved.Reads as sayfudhoum_solved
use Rattle.sayfudhoum_c.proofs.exports.sayfudhoum_judge.Reads as sayfudhoum_judge
use Rattle.clash.specs.Files.{three}

sayfudhoum_answer_one : OneOutcome sayfudhoum_answer.Learnt (λ κs s. s.1.0.now)
sayfudhoum_answer_one κs given x y s t p q = (both p.0 q.0, both p.1 q.1)

sayfudhoum_verdict_one : OneResult sayfudhoum_verdict.Learnt
sayfudhoum_verdict_one κs given x y s t = both

sayfudhoum_clash_one : OneOutcome sayfudhoum_clash.Learnt (λ κs s. three s.1.0.now s.1.1.0.now s.1.1.1.0.now)
sayfudhoum_clash_one κs given x y s t p q = (both p.0 q.0, both p.1 q.1)

sayfudhoum_clauses_one : OneOutcome sayfudhoum_clauses.Learnt (λ κs s. s.1.0.now)
sayfudhoum_clauses_one κs given x y s t p q = (both p.0 q.0, both p.1 q.1)

sayfudhoum_solved_one : OneOutcome sayfudhoum_solved.Learnt (λ κs s. s.1.1.0.now)
sayfudhoum_solved_one κs given x y s t p q = (both p.0 q.0, both p.1 q.1)

sayfudhoum_judge_one : OneResult sayfudhoum_judge.Learnt
sayfudhoum_judge_one κs given x y s t = both
