-- Each public contract of this crate leaves one outcome: one result, and of those that write one buffer, or one for each that is lent.
use Rattle.outcome.specs.OneResult.{OneResult}
use Rattle.outcome.specs.OneOutcome.{OneOutcome}
use Rattle.outcome.proofs.OneLaw.{both}
use Rattle.sayfudhoum.proofs.files.decide_file.Reads as decide_file
use Rattle.sayfudhoum.proofs.files.answer_file.Reads as answer_file
use Rattle.sayfudhoum.proofs.files.respond.Reads as respond
use Rattle.sayfudhoum.proofs.exports.sayfudhoum_answer.Reads as sayfudhoum_answer
use Rattle.sayfudhoum.proofs.exports.sayfudhoum_verdict.Reads as sayfudhoum_verdict
use Rattle.sayfudhoum.proofs.exports.sayfudhoum_clash.Reads as sayfudhoum_clash
use Rattle.sayfudhoum.proofs.exports.sayfudhoum_clauses.Reads as sayfudhoum_clauses
use Rattle.sayfudhoum.proofs.exports.sayfudhoum_solved.Reads as sayfudhoum_solved
use Rattle.sayfudhoum.proofs.exports.sayfudhoum_judge.Reads as sayfudhoum_judge
use Rattle.clash.specs.Files.{three}

decide_file_one : OneResult decide_file.Learnt
decide_file_one κs given x y s t = both

answer_file_one : OneOutcome answer_file.Learnt (λ κs s. s.1.0.now)
answer_file_one κs given x y s t p q = (both p.0 q.0, both p.1 q.1)

respond_one : OneOutcome respond.Learnt (λ κs s. s.1.0.now)
respond_one κs given x y s t p q = (both p.0 q.0, both p.1 q.1)

sayfudhoum_answer_one : OneOutcome sayfudhoum_answer.Learnt (λ κs s. s.1.0.now)
sayfudhoum_answer_one κs given x y s t p q = (both p.0 q.0, both p.1 q.1)

sayfudhoum_verdict_one : OneResult sayfudhoum_verdict.Learnt
sayfudhoum_verdict_one κs given x y s t = both

sayfudhoum_clash_one : OneOutcome sayfudhoum_clash.Learnt (λ κs s. three s.1.0.now s.1.1.0.now s.1.1.1.0.now)
sayfudhoum_clash_one κs given x y s t p q = (both p.0 q.0, both p.1 q.1)

sayfudhoum_clauses_one : OneOutcome sayfudhoum_clauses.Learnt (λ κs s. s.1.0.now)
sayfudhoum_clauses_one κs given x y s t p q = (both p.0 q.0, both p.1 q.1)

sayfudhoum_solved_one : OneOutcome sayfudhoum_solved.Learnt (λ κs s. s.1.1.0.now)
sayfudhoum_solved_one κs given x y s t p q = (both p.0 q.0, both p.1 q.1)

sayfudhoum_judge_one : OneResult sayfudhoum_judge.Learnt
sayfudhoum_judge_one κs given x y s t = both
